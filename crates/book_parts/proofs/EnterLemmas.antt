-- The instants without an entry, as the parts of a book list them.
use Rattle.std.proofs.Common.{◌≡◌, ℕ, zero, suc, ◌+◌, ◌≤◌, Bool, true, false, List, [], ◌∷◌, Option, Some, None, Result, Ok, Err, refl, ap, sym, ◌∙◌, subst, take, arith, length}
use Rattle.std.specs.Prelude.{◌==◌, ◌&&◌, ◌||◌, nat_le, is_some, if◌then◌else◌, IfOk}
use Rattle.std.specs.Option.{option_and_then}
use Rattle.std.proofs.lemmas.Bool.Decides.{nat_tests}
use Rattle.plain_words.specs.Lists.{nth, passing, last}
use Rattle.plain_words.proofs.Booleans.{and_first}
use Rattle.sched_plain.specs.declared.row.Row.{Row}
use Rattle.sched_plain.specs.declared.schedule.Schedule.{Schedule}
use Rattle.sched_plain.specs.declared.step.Pair.{Pair}
use Rattle.sched_plain.specs.History.{History}
use Rattle.sched_plain.specs.Legal.{IsLegal}
use Rattle.sched_plain.specs.Changes.{changes_of}
use Rattle.sched_plain.specs.Rows.{rows_of, current, current_of}
use Rattle.sched_plain.specs.Zones.{is_utc, bytes_of, read_under}
use Rattle.sched_plain.specs.Items.{items, opened}
use Rattle.sched_plain.specs.Occurrences.{occurs, occurs_in}
use Rattle.sched_plain.specs.Marks.{unentered, cover}
use Rattle.plain_words.specs.declared.moment.Moment.{Moment}
use Rattle.plain_words.specs.Lists.{first_some}
use Rattle.sched_plain.specs.declared.step.Step.TheVariants as steps
use Rattle.sched_plain.specs.Rows.{content_at}
use Rattle.sched_plain.specs.Seen.{seen}
use Rattle.sched_plain.specs.Rules.{first_astray, first_outside, enter_table, kind_table}
use Rattle.next_dates.specs.Dates.{from_on, IsLeast}
use Rattle.next_dates.specs.NextInstants.{next_instant}
use Rattle.next_dates.specs.NextLaws.{IsOfContent}
use Rattle.next_dates.proofs.NextComing.{next_least, unentered_from_next, nothing_to_come}
use Rattle.next_dates.proofs.Contents.{current_is_last}
use Rattle.zone_shelf.specs.Places.{Places, bytes_in}
use Rattle.book_parts.specs.Told.{Told}
use Rattle.book_parts.specs.Stands.{Stands, calendar}
use Rattle.book_parts.specs.Entering.{read_in, IsKnown, AreInstants, AreOfRow}

-- what the laws of living schedules say of the calendar in use
abbrev pub OnlyLiving : Type 0
OnlyLiving = (h : History) → IsLegal calendar h → (inc : ℕ) → current (rows_of (changes_of h)) inc ≡ None → next_instant calendar h inc ≡ None

abbrev pub ZonesKnown : Type 0
ZonesKnown = (h : History) → IsLegal calendar h → (inc : ℕ) (content : Schedule) → current (rows_of (changes_of h)) inc ≡ Some content
    → (is_utc content.zone || is_some (bytes_of h content.zone)) ≡ true

-- what holds of a result for each argument holds for each argument of the result
pub if_ok_each : {A T E : Type 0} (P : A → T → Type 0) (r : Result T E) → ((a : A) → IfOk r (P a)) → IfOk r (λ t. (a : A) → P a t)
if_ok_each P (Ok t) each = each
if_ok_each P (Err e) each = tt

pub if_ok_more : {T E : Type 0} (P Q : T → Type 0) (r : Result T E) → ((t : T) → P t → Q t) → IfOk r P → IfOk r Q
if_ok_more P Q (Ok t) more holds = more t holds
if_ok_more P Q (Err e) more holds = tt

-- the instants of one content are those of the same one
pub carried : {E : Type 0} (r : Result (List ℕ) E) (places : Places) (one other : Schedule) (a b from t most : ℕ) → one ≡ other → a ≡ b
    → (IsKnown places one.zone → IfOk r (AreInstants places one a from t most)) → IsKnown places other.zone → IfOk r (AreInstants places other b from t most)
carried r places one other a b from t most same at given =
    subst (λ (s : Schedule). IsKnown places s.zone → IfOk r (AreInstants places s b from t most)) same
    (subst (λ (n : ℕ). IsKnown places one.zone → IfOk r (AreInstants places one n from t most)) at given)

-- the next instant is none before the cover
covered : (h : History) (inc n : ℕ) → IsLegal calendar h → next_instant calendar h inc ≡ Some n → cover h inc ≤ n
covered h inc n legal e =
    let least = subst (IsLeast (from_on (cover h inc) (occurs_in calendar (items h inc)))) e (next_least calendar h legal inc) in
    let after = and_first (nat_le (cover h inc) n) (occurs_in calendar (items h inc) n) least.0 in
    grind (arith, nat_tests, after)

-- an incarnation with a next instant has a row
pub has_row : OnlyLiving → (b : Told) (h : History) (inc n : ℕ) → Stands b h → nth b.rows.rows inc ≡ None → next_instant calendar h inc ≡ Some n → ⊥
has_row living b h inc n st none e =
    let gone : current (rows_of (changes_of h)) inc ≡ None = ap (option_and_then current_of) (ap (λ rows. nth rows inc) (sym st.rows.rows) ∙ none) in
    let never = sym e ∙ living h st.legal inc gone in
    cc never

of_content : ZonesKnown → (b : Told) (h : History) (inc n t most : ℕ) (row : Row) (content : Schedule) (all : List ℕ) → Stands b h
    → nth (rows_of (changes_of h)) inc ≡ Some row → current_of row ≡ Some content → next_instant calendar h inc ≡ Some n → AreOfRow b.zones row n t most all
    → all ≡ take most (unentered calendar h inc t)
of_content known b h inc n t most row content all st there now e listed =
    let of : IsOfContent h inc row content = current_is_last calendar h st.legal inc row content there now in
    let is : current (rows_of (changes_of h)) inc ≡ Some content = ap (option_and_then current_of) there ∙ now in
    let knows : IsKnown b.zones content.zone = ap (λ bytes. is_utc content.zone || is_some bytes) (st.zones content.zone) ∙ known h st.legal inc content is in
    let reached : cover h inc ≤ n = covered h inc n st.legal e in
    let first : of.first ≤ n = omega (arith, of.reached, reached) in
    let read : read_in b.zones content.zone ≡ read_under h content.zone = λ i. if is_utc content.zone then None else st.zones content.zone i in
    listed content now knows of.first first
    ∙ ap (λ bytes. take most (passing (from_on n (occurs calendar (opened bytes row.created.0 of.first content))) (t + 1))) read
    ∙ ap (take most) (sym (unentered_from_next calendar h st.legal inc t n (opened (read_under h content.zone) row.created.0 of.first content) of.item e))

by_current : (P : Type 0) (o : Option Schedule) → (o ≡ None → P) → ((content : Schedule) → o ≡ Some content → P) → P
by_current P None none some = none refl
by_current P (Some content) none some = some content refl

-- what is listed of its row is what has no entry
pub row_lists : OnlyLiving → ZonesKnown → (b : Told) (h : History) (inc n t most : ℕ) (row : Row) (all : List ℕ) → Stands b h
    → nth b.rows.rows inc ≡ Some row → next_instant calendar h inc ≡ Some n → AreOfRow b.zones row n t most all
    → all ≡ take most (unentered calendar h inc t)
row_lists living known b h inc n t most row all st row_there e listed =
    let there : nth (rows_of (changes_of h)) inc ≡ Some row = ap (λ rows. nth rows inc) (sym st.rows.rows) ∙ row_there in
    by_current (all ≡ take most (unentered calendar h inc t)) (current_of row)
    (λ gone. let never = sym e ∙ living h st.legal inc (ap (option_and_then current_of) there ∙ gone) in cc never)
    (λ content now. of_content known b h inc n t most row content all st there now e listed)

-- where nothing is to come nothing is without an entry
pub none_listed : (b : Told) (h : History) (inc t most : ℕ) → Stands b h → next_instant calendar h inc ≡ None → [] ≡ take most (unentered calendar h inc t)
none_listed b h inc t most st e = sym (ap (take most) (nothing_to_come calendar h st.legal inc t e) ∙ take_nil most)
  where
    take_nil : (n : ℕ) → take {A = ℕ} n [] ≡ []
    take_nil zero = refl
    take_nil (suc n) = refl

-- pairs astray of the first so many instants are astray of all
pub astray_of_first : (pairs : List Pair) (instants : List ℕ) → first_astray pairs (take (length pairs) instants) ≡ first_astray pairs instants
astray_of_first [] instants = refl
astray_of_first (pair ∷ pairs) [] = refl
astray_of_first (pair ∷ pairs) (instant ∷ more) = ap (λ rest. if pair.instant == instant then rest else Some pair.instant) (astray_of_first pairs more)

-- an Enter over the parts breaks the rules that it breaks over their history
pub enter_is : (b : Told) (h : History) (at : Moment) (inc : ℕ) (pairs : List Pair) (wanted : List ℕ) (astray outside : Option ℕ) → Stands b h
    → wanted ≡ take (length pairs) (unentered calendar h inc at.0) → astray ≡ first_astray pairs wanted
    → outside ≡ first_outside (content_at b.rows.rows inc) pairs
    → first_some (enter_table astray outside) ≡ first_some (kind_table (seen calendar h) (steps.Enter at inc pairs))
enter_is b h at inc pairs wanted astray outside st lists strays leaves =
    let one = strays ∙ ap (first_astray pairs) lists ∙ astray_of_first pairs (unentered calendar h inc at.0) in
    let other = leaves ∙ ap (λ rows. first_outside (content_at rows inc) pairs) st.rows.rows in
    λ i. first_some (enter_table (one i) (other i))
