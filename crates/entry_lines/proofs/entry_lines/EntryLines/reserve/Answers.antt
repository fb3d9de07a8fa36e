use Rattle.std.proofs.Common.{rules, arith}
use Rattle.entry_lines.proofs.entry_lines.EntryLines.reserve.Goals as goal

pub invariant_of-self-in_err-reserve-2 : goal.invariant_of-self-in_err-reserve-2
invariant_of-self-in_err-reserve-2 c =
    let was = c.self.invariant.1 in (
      rw (c.reserve.ensures.items, c.reserve-2.ensures.items) c.self.invariant.0,
      record {
        entries = omega (arith, was.entries, c.reserve.ensures.len, c.reserve.ensures.capacity);
        few = omega (arith, was.few, c.reserve.ensures.len);
        policy = λ some. let p = was.policy some in omega (arith, p, c.reserve-2.ensures.len, c.reserve-2.ensures.capacity);
        few_policies = λ some. let p = was.few_policies some in omega (arith, p, c.reserve-2.ensures.len);
        attempt = was.attempt;
        few_attempts = was.few_attempts;
      },
    )

pub invariant_of-self-2 : goal.invariant_of-self-2
invariant_of-self-2 c =
    let was = c.self.invariant.1 in (
      rw (c.reserve.ensures.items, c.reserve-2.ensures.items) c.self.invariant.0,
      record {
        entries = omega (arith, was.entries, c.reserve.ensures.len, c.reserve.ensures.capacity, c.in_ok-reserve.ensures.ok, c.max-self-inside.ensures);
        few = omega (arith, was.few, c.reserve.ensures.len, c.if-len-count.false, c.len.ensures, c.max-self-inside.ensures, c.requires);
        policy = λ some. omega (arith, c.in_ok-reserve-2.ensures.ok, c.reserve-2.ensures.len);
        few_policies = λ some. omega (arith, c.if-len-ge-MOST_ENTRIES.false, c.reserve-2.ensures.len, c.len-else-len-count.ensures);
        attempt = was.attempt;
        few_attempts = was.few_attempts;
      },
    )
