use Rattle.std.proofs.Common.{◌≡◌, ◌+◌, ◌≤◌, ◌++◌, [], ◌∷◌, Option, IfSome, IsSome, true, refl, sym, subst, arith}
use Rattle.plain_words.specs.Lists.{some_pass}
use Rattle.sched_plain.specs.Attempts.{begun_attempt}
use Rattle.sched_plain.specs.Entries.{with_begin}
use Rattle.sched_plain.specs.Report.{is_due}
use Rattle.sched_plain.specs.Standing.{standing_of}
use Rattle.entry_lines.specs.Rows.{Row, changed, no_row, row_there}
use Rattle.ledger_rows.specs.Rows.{filed_in_row}
use Rattle.ledger_rows.proofs.StandingLemmas.{due_few}
use Rattle.ledger_rows.proofs.Lookups.{mild_done, begin_mild, there_is}
use Rattle.ledger_rows.proofs.BlockLemmas.{blocks_but}
use Rattle.ledger_rows.proofs.Wholes.{whole_set}
use Rattle.ledger_rows.proofs.lane.begin_in.Goals as goal

pub begin-number-requires-clause-room : goal.begin-number-requires-clause-room
begin-number-requires-clause-room c =
    let found = there_is c.args.rows.now.rows c.args.instant c.in-Some.place c.in-Some.ensures.some in
    (subst (λ (o : Option Row). IsSome (filed_in_row o) → 1 ≤ c.args.rows.now.begins) found c.requires.room) refl

pub begin-number-requires-clause-few : goal.begin-number-requires-clause-few
begin-number-requires-clause-few c =
    let old = row_there c.args.rows.now.rows c.in-Some.place in
    let found = there_is c.args.rows.now.rows c.args.instant c.in-Some.place c.in-Some.ensures.some in
    let due : is_due (standing_of old.filed c.args.at.0) ≡ true = subst (λ (o : Option Row). some_pass (λ f. is_due (standing_of f c.args.at.0)) (filed_in_row o) ≡ true) found c.requires.due in
    let few = due_few old.filed c.args.at.0 due in
    let small = c.requires.whole.order.small c.in-Some.place no_row c.in-Some.ensures.some.in_range in
    let retries = small.retries in
    omega (arith, few, retries)

pub renumber-requires-clause-lane : goal.renumber-requires-clause-lane
renumber-requires-clause-lane c =
    (mild_done c.args.rows.now.rows c.begin-number.new.self.rows c.args.instant c.in-Some.place (with_begin c.args.at.0) (λ before. before ++ begun_attempt c.begin-number.result c.args.at.0 c.args.epoch ∷ [])
    c.in-Some.ensures.some c.requires.whole.order (begin_mild c.args.at.0 c.requires.at) c.begin-number.ensures.rows).lane

pub renumber-requires-clause-but : goal.renumber-requires-clause-but
renumber-requires-clause-but c =
    blocks_but c.args.rows.now.rows c.begin-number.new.self.rows c.args.wants.now.values c.in-Some.place
    (changed (with_begin c.args.at.0) (λ before. before ++ begun_attempt c.begin-number.result c.args.at.0 c.args.epoch ∷ []) (row_there c.args.rows.now.rows c.in-Some.place)) c.requires.whole.blocks c.begin-number.ensures.rows

pub returns-clause-whole : goal.returns-clause-whole
returns-clause-whole c =
    whole_set c.args.rows.now c.begin-number.new.self c.args.wants.now c.renumber.new.wants c.in-Some.place
    (changed (with_begin c.args.at.0) (λ before. before ++ begun_attempt c.begin-number.result c.args.at.0 c.args.epoch ∷ []) (row_there c.args.rows.now.rows c.in-Some.place)) c.requires.whole c.begin-number.ensures.rows c.begin-number.ensures.room
    (mild_done c.args.rows.now.rows c.begin-number.new.self.rows c.args.instant c.in-Some.place (with_begin c.args.at.0) (λ before. before ++ begun_attempt c.begin-number.result c.args.at.0 c.args.epoch ∷ [])
    c.in-Some.ensures.some c.requires.whole.order (begin_mild c.args.at.0 c.requires.at) c.begin-number.ensures.rows).lane
    c.renumber.ensures.blocks c.renumber.ensures.length c.renumber.ensures.room

pub returns-clause-number : goal.returns-clause-number
returns-clause-number c =
    let found = there_is c.args.rows.now.rows c.args.instant c.in-Some.place c.in-Some.ensures.some in
    subst (λ (o : Option Row). IfSome (filed_in_row o) (λ f. c.begin-number.result ≡ f.entry.used + 1)) (sym found) c.begin-number.ensures.number

pub returns-clause-changes : goal.returns-clause-changes
returns-clause-changes c =
    (mild_done c.args.rows.now.rows c.begin-number.new.self.rows c.args.instant c.in-Some.place (with_begin c.args.at.0) (λ before. before ++ begun_attempt c.begin-number.result c.args.at.0 c.args.epoch ∷ [])
    c.in-Some.ensures.some c.requires.whole.order (begin_mild c.args.at.0 c.requires.at) c.begin-number.ensures.rows).changes
