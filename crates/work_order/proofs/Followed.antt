-- Each entry follows the revision that covers its instant.
use Rattle.std.proofs.Common.{◌≡◌, ℕ, zero, suc, ◌+◌, ◌<◌, ◌≤◌, ◌==◌, nat_le, nat_lt, Bool, true, false, cond, ◌&&◌, ◌||◌, Option, Some, None, is_some, List, [], ◌∷◌, ◌++◌, map, length, find, option_map, refl, sym, ap, ◌∙◌, subst, inl, inr, arith}
use Rattle.std.proofs.lemmas.Bool.{cases_eq, or_cases, eq-eqb, ne_eqb, eqb-true, leb-true, ltb-false, and_parts, false≢true}
use Rattle.std.proofs.lemmas.List.Folds.{list_any-append}
use Rattle.sched_plain.specs.declared.entry.Entry.{Entry}
use Rattle.sched_plain.specs.declared.entry.Filed.{Filed}
use Rattle.sched_plain.specs.declared.outcome.Outcome.TheVariants as outcomes
use Rattle.sched_plain.specs.declared.row.Revision.{Revision}
use Rattle.sched_plain.specs.declared.schedule.Policy.{Policy}
use Rattle.sched_plain.specs.declared.schedule.Schedule.{Schedule}
use Rattle.sched_plain.specs.declared.step.Pair.{Pair}
use Rattle.sched_plain.specs.declared.step.Step.TheVariants as steps
use Rattle.sched_plain.specs.declared.write.Write.{Write}
use Rattle.plain_words.specs.declared.moment.Moment.{Moment}
use Rattle.plain_words.specs.declared.verdict.Verdict.{Verdict}
use Rattle.plain_words.specs.declared.verdict.Verdict.TheVariants as verdicts
use Rattle.sched_plain.specs.History.{History, beginning, based, ◌upon◌}
use Rattle.sched_plain.specs.Moments.{moment}
use Rattle.plain_words.specs.Lists.{nth, or_else, only_if, passing, put_if, last}
use Rattle.sched_plain.specs.Changes.{changes_of, Written, Removed}
use Rattle.sched_plain.specs.Rows.{rows_of, rows_after, content_at}
use Rattle.sched_plain.specs.Items.{items}
use Rattle.expressions.specs.Calendar.{Calendar}
use Rattle.sched_plain.specs.Occurrences.{occurs_in}
use Rattle.sched_plain.specs.Marks.{unentered, cover}
use Rattle.sched_plain.specs.Leases.{holder, is_taking}
use Rattle.sched_plain.specs.Ledger.{LedgerCall, Cancelled, Lost, policy_or_none, policy_of, ended_by, ledger_of}
use Rattle.sched_plain.specs.Entries.{entries, instants_of, is_paired, new_entry, decided_as, with_begin, with_end, outcome_of, with_loss, changed_if, is_lost_in, filed_by, filed}
use Rattle.sched_plain.specs.Seen.{seen}
use Rattle.sched_plain.specs.Rules.{moment_rule, kind_table, first_astray, is_in_window, window_of, first_outside}
use Rattle.sched_plain.specs.Legal.{IsLegal, MayFollow}
use Rattle.plain_words.proofs.Options.{map_none, some_same}
use Rattle.plain_words.proofs.ListLemmas.{all_none, when_none}
use Rattle.plain_words.proofs.Booleans.{by_bool, or_false, or_second}
use Rattle.sched_plain.proofs.LedgerLemmas.{filed_paired, entries_cancelled}
use Rattle.book_laws.specs.EntryLaws.{is_among}
use Rattle.book_laws.proofs.EntriesExact.{caught}
use Rattle.work_order.specs.RevisionLaws.{Follows, EntriesFollow}
use Rattle.next_dates.proofs.Tables.{kind_holds, change_moment}
use Rattle.next_dates.proofs.NextComing.{is_rest, unentered_is}
use Rattle.work_order.proofs.Completed.{instants_reached}
use Rattle.work_order.proofs.FirstEntries.{paired_within}
use Rattle.work_order.proofs.RevisionEdits.{revisions_of, content_is, written_stays, removed_stays}
use Rattle.work_order.proofs.Spans.{covered_by_last}

-- what is filed follows a content, where anything is filed
abbrev FollowsIn : Option Schedule → ℕ → Option Filed → Type 0
FollowsIn content instant None = Unit {0}
FollowsIn None instant (Some f) = ⊥
FollowsIn (Some content) instant (Some f) = Follows content instant f

-- an edit that leaves the chosen moment
edited_follows : (content : Option Schedule) (i : ℕ) (b : Bool) (change : Entry → Entry) → ((e : Entry) → (change e).chosen ≡ e.chosen)
    → (f : Option Filed) → FollowsIn content i f → FollowsIn content i (changed_if b change f)
edited_follows content i true change keeps None is = tt
edited_follows None i true change keeps (Some f) is = absurd is
edited_follows (Some content) i true change keeps (Some f) is =
    record {
      policy = is.policy;
      window = ap (λ n. is_in_window content.window (record { instant = i; chosen = n })) (keeps f.entry) ∙ is.window;
    }
edited_follows content i false change keeps f is = is

end_keeps : (verdict : Verdict) (at : ℕ) (e : Entry) → (with_end verdict at e).chosen ≡ e.chosen
end_keeps verdicts.Done at e = refl
end_keeps verdicts.Retry at e = refl
end_keeps verdicts.Final at e = refl

cancelled_follows : (content : Option Schedule) (incs : List ℕ) (before : List LedgerCall) (inc i : ℕ) → FollowsIn content i (filed before inc i)
    → FollowsIn content i (filed (map Cancelled incs ++ before) inc i)
cancelled_follows content [] before inc i is = is
cancelled_follows content (of ∷ incs) before inc i is =
    edited_follows content i (inc == of) (decided_as outcomes.Cancelled) (λ e. refl) (filed (map Cancelled incs ++ before) inc i)
    (cancelled_follows content incs before inc i is)

lost_follows : (content : Option Schedule) (b : Bool) (shard : Option ℕ) (at : ℕ) (before : List LedgerCall) (inc i : ℕ)
    → FollowsIn content i (filed before inc i) → FollowsIn content i (filed (only_if b (Lost shard at) ++ before) inc i)
lost_follows content true shard at before inc i is =
    edited_follows content i (is_lost_in shard inc) (with_loss at) (λ e. refl) (filed before inc i) is
lost_follows content false shard at before inc i is = is

-- the same content where something is filed
moved_follows : (old new : Option Schedule) (i : ℕ) (f : Option Filed) → (is_some f ≡ true → new ≡ old) → FollowsIn old i f → FollowsIn new i f
moved_follows old new i None same is = tt
moved_follows old new i (Some f) same is = subst (λ content. FollowsIn content i (Some f)) (sym (same refl)) is

among_put : (b : Bool) (n : ℕ) (xs : List ℕ) (k : ℕ) → is_among k (put_if b n xs) ≡ true → (is_among k xs || (b && (k == n))) ≡ true
among_put true n xs k is = sym (list_any-append (λ x. k == x) xs (n ∷ []) ∙ ap (λ b. is_among k xs || b) (or_false (k == n))) ∙ is
among_put false n xs k is = ap (λ b. b || false) is

-- a number among those that pass below a bound
record IsPassing (p : ℕ → Bool) (n k : ℕ) : Type 0 where
  pub under : k < n
  pub passes : p k ≡ true

top_passes : (b : Bool) (k n : ℕ) → (b && (k == n)) ≡ true → (b ≡ true) × (k ≡ n)
top_passes true k n is = (refl, eqb-true k n is)
top_passes false k n is = let clash : ⊥ = cc in absurd clash

among_passing : (p : ℕ → Bool) (n k : ℕ) → is_among k (passing p n) ≡ true → IsPassing p n k
among_passing p zero k is = let clash : ⊥ = cc in absurd clash
among_passing p (suc n) k is =
    elim (or_cases (is_among k (passing p n)) (p n && (k == n)) (among_put (p n) n (passing p n) k is)) [
      | inl below ↦
          let old = among_passing p n k below in
          let under : k < n = old.under in
          record { under = omega arith; passes = old.passes }
      | inr top ↦
          let here = top_passes (p n) k n top in
          let same : k ≡ n = here.1 in
          record { under = omega arith; passes = ap p same ∙ here.0 }
    ]

-- an unentered instant is an occurrence that the entries do not reach
unentered_occurs : (c : Calendar) (h : History) → IsLegal c h → (inc t k : ℕ) → is_among k (unentered c h inc t) ≡ true
    → (cover h inc ≤ k) × (occurs_in c (items h inc) k ≡ true)
unentered_occurs c h legal inc t k is =
    let rest = among_passing (is_rest c h inc) (t + 1) k (sym (ap (is_among k) (unentered_is c h legal inc t)) ∙ is) in
    let parts = and_parts (nat_le (cover h inc) k) (occurs_in c (items h inc) k) rest.passes in
    (leb-true (cover h inc) k parts.0, parts.1)

-- the instants of pairs that are not astray are among those wanted
astray_among : (pairs : List Pair) (wanted : List ℕ) (k : ℕ) → first_astray pairs wanted ≡ None → is_paired pairs k ≡ true → is_among k wanted ≡ true
astray_among [] wanted k e there = let clash : ⊥ = cc in absurd clash
astray_among (pair ∷ pairs) [] k e there = let clash : ⊥ = cc in absurd clash
astray_among (pair ∷ pairs) (i ∷ wanted) k e there =
    elim (cases_eq pair.instant i) [
      | inl same ↦
          let rest : first_astray pairs wanted ≡ None =
          sym (ap (λ b. cond b (first_astray pairs wanted) (Some pair.instant)) (eq-eqb pair.instant i same)) ∙ e in
          elim (or_cases (k == pair.instant) (is_paired pairs k) there) [
            | inl here ↦ ap (λ b. b || is_among k wanted) (eq-eqb k i (eqb-true k pair.instant here ∙ same))
            | inr later ↦ or_second (k == i) (is_among k wanted) (astray_among pairs wanted k rest later)
          ]
      | inr apart ↦
          let astray : Some pair.instant ≡ None =
          sym (ap (λ b. cond b (first_astray pairs wanted) (Some pair.instant)) (ne_eqb pair.instant i apart)) ∙ e in
          let clash : ⊥ = cc in
          absurd clash
    ]

-- the rule of windows for the first of these pairs, and for the others
inside_first : (b : Bool) (i : ℕ) (rest : Option ℕ) → cond b rest (Some i) ≡ None → (b ≡ true) × (rest ≡ None)
inside_first true i rest e = (refl, e)
inside_first false i rest e = let clash : ⊥ = cc in absurd clash

new_follows : (content : Option Schedule) (known : Schedule) (policy : Policy) (pair : Pair) (i : ℕ) → content ≡ Some known → policy ≡ known.policy
    → i ≡ pair.instant → is_in_window known.window pair ≡ true
    → FollowsIn content i (Some (record { entry = new_entry pair.chosen; policy = policy }))
new_follows content known policy pair i is same here inside =
    subst (λ o. FollowsIn o i (Some (record { entry = new_entry pair.chosen; policy = policy }))) (sym is)
    (record { policy = same; window = ap (λ k. is_in_window known.window (record { instant = k; chosen = pair.chosen })) here ∙ inside })

-- what pairs file that have one content and lie in its window
pairs_follow : (content : ℕ → Option Schedule) (known : Schedule) (policy : Policy) (i : ℕ) → policy ≡ known.policy → (pairs : List Pair)
    → first_outside content pairs ≡ None → ((k : ℕ) → is_paired pairs k ≡ true → content k ≡ Some known)
    → FollowsIn (content i) i (filed_by policy pairs i)
pairs_follow content known policy i same [] inside alike = tt
pairs_follow content known policy i same (pair ∷ pairs) inside alike =
    let whole = inside_first (is_in_window (window_of (content pair.instant)) pair) pair.instant (first_outside content pairs) inside in
    let mine : content pair.instant ≡ Some known = alike pair.instant (ap (λ b. b || is_paired pairs pair.instant) (eq-eqb pair.instant pair.instant refl)) in
    let window : is_in_window known.window pair ≡ true = sym (ap (λ o. is_in_window (window_of o) pair) mine) ∙ whole.0 in
    by_bool
    (λ b. FollowsIn (content i) i (option_map {T = Pair} (λ p. record { entry = new_entry p.chosen; policy = policy }) (cond b (Some pair) (find (λ p. i == p.instant) pairs))))
    (i == pair.instant)
    (λ here.
    let there : i ≡ pair.instant = eqb-true i pair.instant here in
    new_follows (content i) known policy pair i (ap content there ∙ mine) same there window)
    (λ apart. pairs_follow content known policy i same pairs whole.1 (λ k later. alike k (or_second (k == pair.instant) (is_paired pairs k) later)))

-- all pairs of an Enter have the content of the last revision
one_content : (c : Calendar) (h : History) → IsLegal c h → (at : Moment) (inc : ℕ) (pairs : List Pair) → MayFollow c h (steps.Enter at inc pairs)
    → (k : ℕ) → is_paired pairs k ≡ true
    → (content_at (rows_of (changes_of h)) inc k ≡ option_map (λ r. r.content) (last (revisions_of h inc)))
    × (is_some (option_map {T = Revision} (λ r. r.content) (last (revisions_of h inc))) ≡ true)
one_content c h legal at inc pairs may k there =
    let found : first_astray pairs (unentered c h inc at.0) ≡ None =
    map_none _ (first_astray pairs (unentered c h inc at.0)) (kind_holds c h (steps.Enter at inc pairs) may).0 in
    let occurs = unentered_occurs c h legal inc at.0 k (astray_among pairs (unentered c h inc at.0) k found there) in
    let covered = covered_by_last c h legal inc k occurs.0 occurs.1 in
    (content_is (rows_of (changes_of h)) inc k ∙ ap (option_map (λ r. r.content)) covered.0, some_content (last (revisions_of h inc)) covered.1)
  where
    some_content : (o : Option Revision) → is_some o ≡ true → is_some (option_map {T = Revision} (λ r. r.content) o) ≡ true
    some_content None is = is
    some_content (Some r) is = refl

-- what an Enter files
entered_new : (c : Calendar) (h : History) → IsLegal c h → (at : Moment) (inc : ℕ) (pairs : List Pair) → MayFollow c h (steps.Enter at inc pairs)
    → (content : Option Schedule) → option_map (λ r. r.content) (last (revisions_of h inc)) ≡ content → (i : ℕ)
    → FollowsIn (content_at (rows_of (changes_of h)) inc i) i (filed_by (policy_of (rows_of (changes_of h)) inc pairs) pairs i)
entered_new c h legal at inc [] may content is i = tt
entered_new c h legal at inc (pair ∷ pairs) may None is i =
    let first = one_content c h legal at inc (pair ∷ pairs) may pair.instant (ap (λ b. b || is_paired pairs pair.instant) (eq-eqb pair.instant pair.instant refl)) in
    absurd (false≢true (sym (ap is_some is) ∙ first.1))
entered_new c h legal at inc (pair ∷ pairs) may (Some known) is i =
    let rows = rows_of (changes_of h) in
    let all = pair ∷ pairs in
    let alike : (k : ℕ) → is_paired all k ≡ true → content_at rows inc k ≡ Some known = λ k there. (one_content c h legal at inc all may k there).0 ∙ is in
    let first : content_at rows inc pair.instant ≡ Some known =
    alike pair.instant (ap (λ b. b || is_paired pairs pair.instant) (eq-eqb pair.instant pair.instant refl)) in
    let inside : first_outside (content_at rows inc) all ≡ None =
    map_none _ (first_outside (content_at rows inc) all) (kind_holds c h (steps.Enter at inc all) may).1.0 in
    pairs_follow (content_at rows inc) known (policy_of rows inc all) i
    (ap (λ o. policy_or_none (option_map {T = Schedule} (λ content. content.policy) o)) first) all inside alike

entered_follows : (content : Option Schedule) (i : ℕ) (b : Bool) (old new : Option Filed) → FollowsIn content i old → (b ≡ true → FollowsIn content i new)
    → FollowsIn content i (cond b (or_else old new) old)
entered_follows content i true None new is also = also refl
entered_follows content i true (Some f) new is also = is
entered_follows content i false old new is also = is

-- an occurrence with an entry has come, in an incarnation that is there
record IsThere (h : History) (inc i : ℕ) : Type 0 where
  pub within : inc ≤ length (rows_of (changes_of h))
  pub come : i ≤ moment h

paired_there : (c : Calendar) (h : History) → IsLegal c h → (inc i : ℕ) → is_paired (entries (ledger_of h) inc) i ≡ true → IsThere h inc i
paired_there c h legal inc i paired =
    let within = paired_within c h legal inc i paired (nth (rows_of (changes_of h)) inc) refl in
    let reached = among_passing (occurs_in c (items h inc)) (cover h inc) i
    (sym (ap (is_among i) (instants_reached c h legal inc)) ∙ sym (paired_in (entries (ledger_of h) inc) i) ∙ paired) in
    let under : i < cover h inc = reached.under in
    let up : cover h inc ≤ moment h + 1 = (caught c h legal inc).bound in
    record { within = within.up; come = omega arith }
  where
    paired_in : (pairs : List Pair) (k : ℕ) → is_paired pairs k ≡ is_among k (instants_of pairs)
    paired_in [] k = refl
    paired_in (pair ∷ pairs) k = ap (λ b. (k == pair.instant) || b) (paired_in pairs k)

change_follows : (c : Calendar) (h : History) (at : Moment) (write : Write) → IsLegal c h → MayFollow c h (steps.Change at write) → (inc i : ℕ)
    → FollowsIn (content_at (rows_of (changes_of h)) inc i) i (filed (ledger_of h) inc i)
    → FollowsIn (content_at (rows_of (changes_of (steps.Change at write upon h))) inc i) i (filed (ledger_of (steps.Change at write upon h)) inc i)
change_follows c h at write legal may inc i old =
    let rows = rows_of (changes_of h) in
    let incs = ended_by rows write in
    let calls = ledger_of h in
    moved_follows (content_at rows inc i) (content_at (rows_after (Written at.0 write) rows) inc i) i (filed (map Cancelled incs ++ calls) inc i)
    (λ there.
    let paired : is_paired (entries calls inc) i ≡ true =
    ap (λ pairs. is_paired pairs i) (sym (entries_cancelled incs calls inc)) ∙ sym (filed_paired (map Cancelled incs ++ calls) inc i) ∙ there in
    let is = paired_there c h legal inc i paired in
    let come : i ≤ moment h = is.come in
    let later : moment h ≤ at.0 = change_moment c h at write may in
    written_stays at.0 write rows inc i (omega arith) is.within)
    (cancelled_follows (content_at rows inc i) incs calls inc i old)

complete_moment : (c : Calendar) (h : History) (at : Moment) (inc : ℕ) → MayFollow c h (steps.Complete at inc) → moment h ≤ at.0
complete_moment c h at inc may =
    ltb-false at.0 (moment h) (when_none (nat_lt at.0 (moment h)) _ (all_none (moment_rule (moment h) (steps.Complete at inc) ∷ kind_table (seen c h) (steps.Complete at inc)) may).0)

complete_follows : (c : Calendar) (h : History) (at : Moment) (removed : ℕ) → IsLegal c h → MayFollow c h (steps.Complete at removed) → (inc i : ℕ)
    → FollowsIn (content_at (rows_of (changes_of h)) inc i) i (filed (ledger_of h) inc i)
    → FollowsIn (content_at (rows_of (changes_of (steps.Complete at removed upon h))) inc i) i (filed (ledger_of h) inc i)
complete_follows c h at removed legal may inc i old =
    let rows = rows_of (changes_of h) in
    let calls = ledger_of h in
    moved_follows (content_at rows inc i) (content_at (rows_after (Removed at.0 removed) rows) inc i) i (filed calls inc i)
    (λ there.
    let come : i ≤ moment h = (paired_there c h legal inc i (sym (filed_paired calls inc i) ∙ there)).come in
    let later : moment h ≤ at.0 = complete_moment c h at removed may in
    removed_stays at.0 removed rows inc i (omega arith))
    old

enter_follows : (c : Calendar) (h : History) (at : Moment) (of : ℕ) (pairs : List Pair) → IsLegal c h → MayFollow c h (steps.Enter at of pairs) → (inc i : ℕ)
    → FollowsIn (content_at (rows_of (changes_of h)) inc i) i (filed (ledger_of h) inc i)
    → FollowsIn (content_at (rows_of (changes_of h)) inc i) i (filed (ledger_of (steps.Enter at of pairs upon h)) inc i)
enter_follows c h at of pairs legal may inc i old =
    let rows = rows_of (changes_of h) in
    entered_follows (content_at rows inc i) i (inc == of) (filed (ledger_of h) inc i) (filed_by (policy_of rows of pairs) pairs i) old
    (λ same.
    subst (λ k. FollowsIn (content_at rows k i) i (filed_by (policy_of rows of pairs) pairs i)) (sym (eqb-true inc of same))
    (entered_new c h legal at of pairs may (option_map (λ r. r.content) (last (revisions_of h of))) refl i))

-- each entry of a legal history follows the content at its instant
follows : (c : Calendar) (h : History) → IsLegal c h → (inc i : ℕ) → FollowsIn (content_at (rows_of (changes_of h)) inc i) i (filed (ledger_of h) inc i)
follows c beginning legal inc i = tt
follows c (based b kept) legal inc i = absurd legal
follows c (steps.Boot at upon h) legal inc i =
    edited_follows (content_at (rows_of (changes_of h)) inc i) i true (with_loss at.0) (λ e. refl) (filed (ledger_of h) inc i) (follows c h legal.0 inc i)
follows c (steps.Zone at name bytes upon h) legal inc i = follows c h legal.0 inc i
follows c (steps.Change at write upon h) legal inc i = change_follows c h at write legal.0 legal.1 inc i (follows c h legal.0 inc i)
follows c (steps.Enter at of pairs upon h) legal inc i = enter_follows c h at of pairs legal.0 legal.1 inc i (follows c h legal.0 inc i)
follows c (steps.Lease at shard worker epoch until upon h) legal inc i =
    lost_follows (content_at (rows_of (changes_of h)) inc i) (is_taking (holder h shard) epoch) (Some shard) at.0 (ledger_of h) inc i (follows c h legal.0 inc i)
follows c (steps.Release at shard worker epoch upon h) legal inc i = follows c h legal.0 inc i
follows c (steps.Begin at of instant number epoch upon h) legal inc i =
    edited_follows (content_at (rows_of (changes_of h)) inc i) i (inc == of && i == instant) (with_begin at.0) (λ e. refl) (filed (ledger_of h) inc i) (follows c h legal.0 inc i)
follows c (steps.End at of instant number verdict status upon h) legal inc i =
    edited_follows (content_at (rows_of (changes_of h)) inc i) i (inc == of && i == instant) (with_end verdict at.0) (end_keeps verdict at.0) (filed (ledger_of h) inc i)
    (follows c h legal.0 inc i)
follows c (steps.Close at of instant reason upon h) legal inc i =
    edited_follows (content_at (rows_of (changes_of h)) inc i) i (inc == of && i == instant) (decided_as (outcome_of reason)) (λ e. refl) (filed (ledger_of h) inc i)
    (follows c h legal.0 inc i)
follows c (steps.Complete at removed upon h) legal inc i = complete_follows c h at removed legal.0 legal.1 inc i (follows c h legal.0 inc i)
follows c (steps.Swept at shard upon h) legal inc i = follows c h legal.0 inc i

follows_there : (content : Option Schedule) (i : ℕ) (f : Filed) (filed : Option Filed) → FollowsIn content i filed → filed ≡ Some f
    → (known : Schedule) × (content ≡ Some known) × Follows known i f
follows_there None i f None is there = let clash : ⊥ = cc in absurd clash
follows_there (Some known) i f None is there = let clash : ⊥ = cc in absurd clash
follows_there None i f (Some g) is there = absurd is
follows_there (Some known) i f (Some g) is there = (known, refl, subst (λ x. Follows known i x) (some_same g f there) is)

pub entries_follow : EntriesFollow
entries_follow c h legal inc i f there =
    follows_there (content_at (rows_of (changes_of h)) inc i) i f (filed (ledger_of h) inc i) (follows c h legal inc i) there
