-- A step from its cells: no two valid steps have the same ones.
use Rattle.std.proofs.Common.{◌≡◌, ℕ, zero, suc, ◌+◌, ◌-◌, ◌==◌, ◌≤◌, Bool, true, false, nat_le, ◌&&◌, List, [], ◌∷◌, length, Option, Some, None, option_map, refl, sym, ap, subst, ◌∙◌, arith}
use Rattle.std.specs.Prelude.{if◌then◌else◌}
use Rattle.std.specs.List.{AllByRecursion}
use Rattle.std.proofs.lemmas.List.Elements.{recursion_from_All}
use Rattle.plain_words.specs.declared.verdict.Verdict.{Verdict}
use Rattle.plain_words.specs.declared.verdict.Verdict.TheVariants as verdicts
use Rattle.plain_words.specs.Moments.{moment_of}
use Rattle.plain_words.specs.declared.limits.TheConstants.{LONGEST_TOKEN}
use Rattle.std.specs.Prelude.{position, not}
use Rattle.plain_words.specs.Words.{is_token_byte}
use Rattle.expressions.specs.declared.expression.Expr.{Expr}
use Rattle.expressions.specs.declared.expression.Expr.TheVariants as exprs
use Rattle.expressions.specs.declared.expression.Unit.TheVariants as units
use Rattle.expressions.specs.Spelling.{Spells}
use Rattle.expr_grammar.proofs.Laws.{spelled_once}
use Rattle.sched_plain.specs.declared.outcome.Reason.{Reason}
use Rattle.sched_plain.specs.declared.outcome.Reason.TheVariants as reasons
use Rattle.sched_plain.specs.declared.schedule.Schedule.{Schedule}
use Rattle.sched_plain.specs.declared.write.Write.{Write}
use Rattle.sched_plain.specs.declared.write.Write.TheVariants as writes
use Rattle.sched_plain.specs.declared.step.Pair.{Pair}
use Rattle.sched_plain.specs.declared.step.Step.{Step}
use Rattle.sched_plain.specs.declared.step.Step.TheVariants as steps
use Rattle.sched_plain.specs.Validity.{IsContent, IsPair, IsValid, IsText, IsInput, IsToken, IfThere, character_count}
use Rattle.step_codec.specs.Cells.{Cell, Number, Words, Date}
use Rattle.step_codec.specs.Payload.{IsFilled, cells, content_cells, flag, or_empty, pair_cells, verdict_code, reason_code}
use Rattle.step_codec.proofs.Lengths.{word_filled}

-- the number, the text, the moment at a place of a row, from 0
abbrev number_in : ℕ → List Cell → ℕ
number_in zero (Number size n ∷ more) = n
number_in zero cells = 0
number_in (suc k) (cell ∷ more) = number_in k more
number_in (suc k) [] = 0

abbrev text_in : ℕ → List Cell → List ℕ
text_in zero (Words size text ∷ more) = text
text_in zero cells = []
text_in (suc k) (cell ∷ more) = text_in k more
text_in (suc k) [] = []

abbrev date_in : ℕ → List Cell → Option ℕ
date_in zero (Date o ∷ more) = o
date_in zero cells = None
date_in (suc k) (cell ∷ more) = date_in k more
date_in (suc k) [] = None

abbrev behind : ℕ → List Cell → List Cell
behind zero cells = cells
behind (suc k) (cell ∷ more) = behind k more
behind (suc k) [] = []

abbrev or_none : List ℕ → Option (List ℕ)
or_none [] = None
or_none (b ∷ more) = Some (b ∷ more)

or_none_back : (o : Option (List ℕ)) → IsFilled o → or_none (or_empty o) ≡ o
or_none_back None filled = refl
or_none_back (Some []) filled = absurd (omega arith)
or_none_back (Some (b ∷ more)) filled = refl

flag_back : (b : Bool) → (flag b == 1) ≡ b
flag_back true = refl
flag_back false = refl

abbrev verdict_in : ℕ → Verdict
verdict_in n = if n == 1 then verdicts.Done else (if n == 2 then verdicts.Retry else verdicts.Final)

verdict_back : (v : Verdict) → verdict_in (verdict_code v) ≡ v
verdict_back verdicts.Done = refl
verdict_back verdicts.Retry = refl
verdict_back verdicts.Final = refl

abbrev reason_in : ℕ → Reason
reason_in n = if n == 1 then reasons.Attempts else reasons.Age

reason_back : (r : Reason) → reason_in (reason_code r) ≡ r
reason_back reasons.Attempts = refl
reason_back reasons.Age = refl

abbrev pairs_in : List Cell → List Pair
pairs_in (Number size instant ∷ Number other offset ∷ more) = record { instant = instant; chosen = instant + offset } ∷ pairs_in more
pairs_in cells = []

pairs_back : (pairs : List Pair) → AllByRecursion IsPair pairs → pairs_in (pair_cells pairs) ≡ pairs
pairs_back [] valid = refl
pairs_back (p ∷ more) valid =
    let early = valid.0.early in
    let chosen : p.instant + (p.chosen - p.instant) ≡ p.chosen = omega arith in
    let rest = pairs_back more valid.1 in
    λ i. record { instant = p.instant; chosen = chosen i } ∷ rest i

abbrev content_in : Expr → List Cell → Schedule
content_in e cs = record {
  description = text_in 0 cs;
  text = text_in 1 cs;
  expr = e;
  zone = text_in 2 cs;
  start = date_in 3 cs;
  finish = date_in 4 cs;
  enabled = number_in 5 cs == 1;
  delete_after = number_in 6 cs == 1;
  window = number_in 7 cs;
  policy = record { retries = number_in 8 cs; age = number_in 9 cs };
  target = text_in 10 cs;
  role = text_in 11 cs;
  queue = or_none (text_in 12 cs);
  input = or_none (text_in 13 cs);
}

-- ---- what may be left out is filled where it is there

character_there : (text : List ℕ) → 1 ≤ character_count text → 1 ≤ length text
character_there [] some = absurd (omega arith)
character_there (b ∷ more) some = omega arith

token_filled : (token : Option (List ℕ)) → IsToken token → IsFilled token
token_filled None valid = tt
token_filled (Some text) valid = word_filled LONGEST_TOKEN (position (λ b. not (is_token_byte b)) text) text valid

queue_filled : (queue : Option (List ℕ)) → IfThere (IsText 1 1600) queue → IsFilled queue
queue_filled None valid = tt
queue_filled (Some text) valid = character_there text valid.long

input_filled : (input : Option (List ℕ)) → IfThere IsInput input → IsFilled input
input_filled None valid = tt
input_filled (Some text) valid = valid.long

content_back : (c : Schedule) → IsContent c → content_in c.expr (content_cells c) ≡ c
content_back c v =
    let enabled = flag_back c.enabled in
    let deleted = flag_back c.delete_after in
    let queue = or_none_back c.queue (queue_filled c.queue v.queue) in
    let input = or_none_back c.input (input_filled c.input v.input) in
    λ i. record c { enabled = enabled i; delete_after = deleted i; queue = queue i; input = input i }

-- ---- writes and steps

abbrev write_in : ℕ → Expr → List Cell → Write
write_in kind e cs =
    if kind == 1 then writes.CreateSchedule (text_in 2 cs) (text_in 3 cs) (or_none (text_in 1 cs)) (content_in e (behind 4 cs))
    else (if kind == 2 then writes.UpdateSchedule (text_in 2 cs) (text_in 3 cs) (or_none (text_in 1 cs)) (content_in e (behind 4 cs))
    else (if kind == 3 then writes.DeleteSchedule (text_in 2 cs) (text_in 3 cs) (or_none (text_in 1 cs))
    else (if kind == 4 then writes.CreateGroup (text_in 2 cs) (or_none (text_in 1 cs))
    else writes.DeleteGroup (text_in 2 cs) (or_none (text_in 1 cs)))))

-- the step of these cells, by its tag; its expression is given
abbrev step_in : ℕ → Expr → List Cell → Step
step_in tag e cs =
    let at = moment_of (number_in 1 cs) in
    if tag == 1 then steps.Boot at
    else (if tag == 2 then steps.Zone at (text_in 2 cs) (text_in 3 cs)
    else (if tag == 3 then steps.Change at (write_in (number_in 2 cs) e (behind 2 cs))
    else (if tag == 4 then steps.Enter at (number_in 2 cs) (pairs_in (behind 4 cs))
    else (if tag == 5 then steps.Lease at (number_in 2 cs) (number_in 3 cs) (number_in 4 cs) (number_in 5 cs)
    else (if tag == 6 then steps.Release at (number_in 2 cs) (number_in 3 cs) (number_in 4 cs)
    else (if tag == 7 then steps.Begin at (number_in 2 cs) (number_in 3 cs) (number_in 4 cs) (number_in 5 cs)
    else (if tag == 8 then steps.End at (number_in 2 cs) (number_in 3 cs) (number_in 4 cs) (verdict_in (number_in 5 cs)) (number_in 6 cs)
    else (if tag == 9 then steps.Close at (number_in 2 cs) (number_in 3 cs) (reason_in (number_in 4 cs))
    else (if tag == 10 then steps.Complete at (number_in 2 cs)
    else steps.Swept at (number_in 2 cs))))))))))

-- the content of a step, where it has one
abbrev content_of : Step → Option Schedule
content_of (steps.Change at (writes.CreateSchedule group name token content)) = Some content
content_of (steps.Change at (writes.UpdateSchedule group name token content)) = Some content
content_of step = None

abbrev expr_in : Option Schedule → Expr
expr_in None = exprs.Rate 1 units.Minute
expr_in (Some c) = c.expr

rebuilt : (s : Step) → IsValid s → step_in (number_in 0 (cells s)) (expr_in (content_of s)) (cells s) ≡ s
rebuilt (steps.Boot at) v = refl
rebuilt (steps.Zone at name bytes) v = refl
rebuilt (steps.Change at (writes.CreateSchedule group name token content)) v =
    let t = or_none_back token (token_filled token v.1.2) in
    let c = content_back content v.1.3 in
    λ i. steps.Change at (writes.CreateSchedule group name (t i) (c i))
rebuilt (steps.Change at (writes.UpdateSchedule group name token content)) v =
    let t = or_none_back token (token_filled token v.1.2) in
    let c = content_back content v.1.3 in
    λ i. steps.Change at (writes.UpdateSchedule group name (t i) (c i))
rebuilt (steps.Change at (writes.DeleteSchedule group name token)) v =
    ap (λ (t : Option (List ℕ)). steps.Change at (writes.DeleteSchedule group name t)) (or_none_back token (token_filled token v.1.2))
rebuilt (steps.Change at (writes.CreateGroup name token)) v =
    ap (λ (t : Option (List ℕ)). steps.Change at (writes.CreateGroup name t)) (or_none_back token (token_filled token v.1.1))
rebuilt (steps.Change at (writes.DeleteGroup name token)) v =
    ap (λ (t : Option (List ℕ)). steps.Change at (writes.DeleteGroup name t)) (or_none_back token (token_filled token v.1.1))
rebuilt (steps.Enter at inc pairs) v = ap (steps.Enter at inc) (pairs_back pairs (recursion_from_All IsPair pairs v.4))
rebuilt (steps.Lease at shard worker epoch until) v = refl
rebuilt (steps.Release at shard worker epoch) v = refl
rebuilt (steps.Begin at inc instant number epoch) v = refl
rebuilt (steps.End at inc instant number verdict status) v = ap (λ (w : Verdict). steps.End at inc instant number w status) (verdict_back verdict)
rebuilt (steps.Close at inc instant reason) v = ap (steps.Close at inc instant) (reason_back reason)
rebuilt (steps.Complete at inc) v = refl
rebuilt (steps.Swept at shard) v = refl

-- the text of the expression among the cells, where there is one
abbrev text_told : List Cell → Option (List ℕ)
text_told cs = if number_in 0 cs == 3 && nat_le (number_in 2 cs) 2 then Some (text_in 7 cs) else None

told : (s : Step) → text_told (cells s) ≡ option_map (λ (c : Schedule). c.text) (content_of s)
told (steps.Boot at) = refl
told (steps.Zone at name bytes) = refl
told (steps.Change at (writes.CreateSchedule group name token content)) = refl
told (steps.Change at (writes.UpdateSchedule group name token content)) = refl
told (steps.Change at (writes.DeleteSchedule group name token)) = refl
told (steps.Change at (writes.CreateGroup name token)) = refl
told (steps.Change at (writes.DeleteGroup name token)) = refl
told (steps.Enter at inc pairs) = refl
told (steps.Lease at shard worker epoch until) = refl
told (steps.Release at shard worker epoch) = refl
told (steps.Begin at inc instant number epoch) = refl
told (steps.End at inc instant number verdict status) = refl
told (steps.Close at inc instant reason) = refl
told (steps.Complete at inc) = refl
told (steps.Swept at shard) = refl

spells_it : (s : Step) → IsValid s → IfThere (λ (c : Schedule). Spells c.text c.expr) (content_of s)
spells_it (steps.Boot at) v = tt
spells_it (steps.Zone at name bytes) v = tt
spells_it (steps.Change at (writes.CreateSchedule group name token content)) v = v.1.3.expression
spells_it (steps.Change at (writes.UpdateSchedule group name token content)) v = v.1.3.expression
spells_it (steps.Change at (writes.DeleteSchedule group name token)) v = tt
spells_it (steps.Change at (writes.CreateGroup name token)) v = tt
spells_it (steps.Change at (writes.DeleteGroup name token)) v = tt
spells_it (steps.Enter at inc pairs) v = tt
spells_it (steps.Lease at shard worker epoch until) v = tt
spells_it (steps.Release at shard worker epoch) v = tt
spells_it (steps.Begin at inc instant number epoch) v = tt
spells_it (steps.End at inc instant number verdict status) v = tt
spells_it (steps.Close at inc instant reason) v = tt
spells_it (steps.Complete at inc) v = tt
spells_it (steps.Swept at shard) v = tt

-- one text, one expression
same_expr : (a b : Option Schedule) → IfThere (λ (c : Schedule). Spells c.text c.expr) a → IfThere (λ (c : Schedule). Spells c.text c.expr) b
    → option_map (λ (c : Schedule). c.text) a ≡ option_map (λ (c : Schedule). c.text) b → expr_in a ≡ expr_in b
same_expr None None one two e = refl
same_expr None (Some d) one two e = absurd cc
same_expr (Some c) None one two e = absurd cc
same_expr (Some c) (Some d) one two e =
    let text : d.text ≡ c.text = cc in
    spelled_once c.text c.expr d.expr one (subst (λ (t : List ℕ). Spells t d.expr) text two)

pub cells_once : (a b : Step) → IsValid a → IsValid b → cells a ≡ cells b → a ≡ b
cells_once a b one two e =
    let exprs_same = same_expr (content_of a) (content_of b) (spells_it a one) (spells_it b two) (sym (told a) ∙ ap text_told e ∙ told b) in
    sym (rebuilt a one)
    ∙ ap (λ (x : Expr). step_in (number_in 0 (cells a)) x (cells a)) exprs_same
    ∙ ap (λ (cs : List Cell). step_in (number_in 0 cs) (expr_in (content_of b)) cs) e
    ∙ rebuilt b two
