use Rattle.std.proofs.Common.{◌≡◌, ℕ, ◌≤◌, List, [], length, ap, sym, ◌∙◌, arith}
use Rattle.book_parts.specs.Stands.{calendar}
use Rattle.plain_words.specs.declared.limits.TheConstants.{MOST_PAIRS}
use Rattle.sched_calls.specs.Serves.{wanted}
use Rattle.durable_writes.proofs.EnterLemmas.{enters_none, enters_many, few_wanted, none_of}
use Rattle.durable_writes.proofs.entering.enter_found.Goals as goal

pub returns-then-is_empty-clause-entered : goal.returns-then-is_empty-clause-entered
returns-then-is_empty-clause-entered g c = λ since h st.
    let is = c.in-Ok.ensures h (c.book.ensures.stands since h (g.met.K.Keeper.holds _ since h st)) in
    let none : [] ≡ c.in-Ok.instants = sym (none_of c.in-Ok.instants (sym c.is_empty.ensures ∙ c.if-is_empty.true)) in
    (h, st, enters_none h c.args.at.0 c.args.inc _ (none ∙ is))

pub overflow_cast-result : goal.overflow_cast-result
overflow_cast-result g c =
    let lives = c.requires.lives in
    let is = c.in-Ok.ensures lives.1 (c.book.ensures.stands lives.0 lives.1 (g.met.K.Keeper.holds _ lives.0 lives.1 lives.2)) in
    let long = c.len.ensures ∙ ap (λ (xs : List ℕ). length xs) is in
    let few : length (wanted calendar lives.1 c.args.inc c.args.at.0) ≤ MOST_PAIRS = few_wanted lives.1 c.args.inc c.args.at.0 in
    omega (arith, long, few)

pub returns-clause-entered : goal.returns-clause-entered
returns-clause-entered g c = λ since h st.
    let went = c.in_default-enter_these.ensures.entered since h st in
    (went.0, went.1, enters_many h went.0 c.args.at.0 c.args.inc _ c.len.result _ _ (ap (λ (xs : List ℕ). length xs) c.as_slice.ensures ∙ sym c.len.ensures) went.2)
