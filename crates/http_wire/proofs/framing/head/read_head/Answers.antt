use Rattle.std.proofs.Common.{rules, arith, ℕ, ◌++◌, ◌∷◌, [], length-append}
use Rattle.http_wire.proofs.DeviceLemmas.{Gives-append, Gives-nil}
use Rattle.http_wire.proofs.HeadLemmas.{HasNoHead-nil, unframed_for_ever, unframed_at_limit, never_none, most_completed}
use Rattle.http_wire.proofs.framing.head.read_head.Goals as goal

pub bytes-init : goal.bytes-init
bytes-init g c = rw c.new-head.ensures.items (record {
  none = HasNoHead-nil;
  taken = Gives-nil _;
  count = search rules;
  supply = search rules;
  small = search rules;
  quiet = search rules;
})

pub returns-in-Ok-Bad-clause-unframed : goal.returns-in-Ok-Bad-clause-unframed
returns-in-Ok-Bad-clause-unframed g c = λ _.
    let given = rw c.in-Ok-Some.field-0-is at c.in-Ok-Some.ensures.given in
    let never = rw c.in-Ok-Bad.ensures.added at (c.in-Ok-Bad.ensures.bad c.in-Ok-Bad.field-0-is) in
    unframed_for_ever _ _ _ (Gives-append _ _ _ _ _ c.bytes.invariant.taken given) never (omega (arith, length-append {A = ℕ}))

pub returns-in-Ok-Bad-clause-part : goal.returns-in-Ok-Bad-clause-part
returns-in-Ok-Bad-clause-part g c = λ _.
    let given = rw c.in-Ok-Some.field-0-is at c.in-Ok-Some.ensures.given in
    let never = rw c.in-Ok-Bad.ensures.added at (c.in-Ok-Bad.ensures.bad c.in-Ok-Bad.field-0-is) in
    record {
      taken = c.bytes.head.items ++ c.in-Ok-Some.byte ∷ [];
      none = never_none _ never;
      gives = Gives-append _ _ _ _ _ c.bytes.invariant.taken given;
    }

pub returns-in-Err-add-clause-wanting : goal.returns-in-Err-add-clause-wanting
returns-in-Err-add-clause-wanting g c = λ _.
    let given = rw c.in-Ok-Some.field-0-is at c.in-Ok-Some.ensures.given in
    record {
      taken = c.bytes.head.items ++ c.in-Ok-Some.byte ∷ [];
      within = most_completed _ _ c.bytes.invariant.none;
      gives = Gives-append _ _ _ _ _ c.bytes.invariant.taken given;
    }

pub returns-clause-unframed : goal.returns-clause-unframed
returns-clause-unframed g c = λ _.
    unframed_at_limit _ _ _ c.bytes.invariant.taken c.bytes.invariant.none (omega (arith, c.bytes.invariant.count, c.bytes.auto.counter-end))
