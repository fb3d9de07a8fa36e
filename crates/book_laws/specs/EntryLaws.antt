-- The entries of a legal history against its occurrences.
use Rattle.std.specs.Prelude.{◌≡◌, ℕ, ◌<◌, ◌≤◌, ◌==◌, nat_le, Bool, true, Option, Some, None, List, []}
use Rattle.std.specs.List.{AllPairs, filter, list_any}
use Rattle.sched_plain.specs.History.{History}
use Rattle.expressions.specs.Calendar.{Calendar}
use Rattle.sched_plain.specs.Occurrences.{occ}
use Rattle.sched_plain.specs.Ledger.{ledger_of}
use Rattle.sched_plain.specs.Entries.{entries, instants_of}
use Rattle.sched_plain.specs.Marks.{above_floor, unentered, cover, mark}
use Rattle.sched_plain.specs.Legal.{IsLegal}

-- the occurrences of an incarnation up to its mark: none where it has no mark
abbrev pub occ_upto : Calendar → History → ℕ → Option ℕ → List ℕ
occ_upto c h inc None = []
occ_upto c h inc (Some t) = occ c h inc t

-- the instant is one of these
abbrev pub is_among : ℕ → List ℕ → Bool
is_among i instants = list_any (λ x. i == x) instants

-- each entry is of an occurrence up to the mark
abbrev pub EntriesOccur : Type 0
EntriesOccur =
    (c : Calendar) (h : History) → IsLegal c h → (inc i : ℕ)
    → is_among i (instants_of (entries (ledger_of h) inc)) ≡ true → is_among i (occ_upto c h inc (mark h inc)) ≡ true

-- each occurrence above the floor and up to the mark has its entry
abbrev pub OccurrencesAreEntered : Type 0
OccurrencesAreEntered =
    (c : Calendar) (h : History) → IsLegal c h → (inc i : ℕ) → above_floor h inc ≤ i
    → is_among i (occ_upto c h inc (mark h inc)) ≡ true → is_among i (instants_of (entries (ledger_of h) inc)) ≡ true

-- where there is no floor, the instants of the entries of an incarnation are its occurrences up to its mark
abbrev pub EntriesAreOccurrences : Type 0
EntriesAreOccurrences =
    (c : Calendar) (h : History) → IsLegal c h → (inc : ℕ) → above_floor h inc ≡ 0
    → instants_of (entries (ledger_of h) inc) ≡ occ_upto c h inc (mark h inc)

-- each of them is below each later one, so that each stands once
abbrev pub EntriesRise : Type 0
EntriesRise =
    (c : Calendar) (h : History) → IsLegal c h → (inc : ℕ)
    → AllPairs (λ earlier later. earlier < later) (instants_of (entries (ledger_of h) inc))

-- what is unentered up to a moment are the occurrences up to it from the cover on
abbrev pub UnenteredAreTheRest : Type 0
UnenteredAreTheRest =
    (c : Calendar) (h : History) → IsLegal c h → (inc t : ℕ)
    → unentered c h inc t ≡ filter (λ i. nat_le (cover h inc) i) (occ c h inc t)
