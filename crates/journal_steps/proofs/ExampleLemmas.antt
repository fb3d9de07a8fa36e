-- The examples.
use Rattle.std.proofs.Common.{◌≡◌, ◌≢◌, ℕ, List, [], ◌∷◌, ◌++◌, length, refl, sym, ◌∙◌, ap, subst, lit≤, lit<, Ok}
use Rattle.std.specs.List.{All}
use Rattle.std.proofs.lemmas.List.Elements.{All-nil, All-cons}
use Rattle.expressions.specs.Calendar.{Calendar}
use Rattle.plain_words.specs.Moments.{moment_of}
use Rattle.sched_plain.specs.declared.step.Step.{Step}
use Rattle.sched_plain.specs.declared.step.Step.TheVariants as steps
use Rattle.sched_plain.specs.History.{History, beginning}
use Rattle.sched_plain.specs.Legal.{MayFollow}
use Rattle.sched_plain.specs.Validity.{IsValid, AllValid}
use Rattle.step_codec.specs.Payload.{payload_of, cells}
use Rattle.step_codec.specs.Faults.{reading}
use Rattle.step_codec.proofs.ReadingLaws.{reading_valid, payload_once}
use Rattle.journal_file.specs.declared.format.TheConstants.{HEADER}
use Rattle.journal_file.specs.Format.{IsPayload, gated, front}
use Rattle.journal_steps.specs.Journals.{payloads_of, IsDamage, DamagedAt}
use Rattle.journal_steps.specs.Examples.{begun, JournalsOnExamples}
use Rattle.journal_steps.proofs.RecordLemmas.{one_record}
use Rattle.journal_steps.proofs.ChainLemmas.{step_sized}

begun_valid : AllValid begun
begun_valid = (tt, lit≤ tt)

one_payload : (payload : List ℕ) → IsPayload payload → All IsPayload (payload ∷ [])
one_payload payload sized = All-cons IsPayload payload [] sized (All-nil IsPayload)

no_payload : All IsPayload []
no_payload = All-nil IsPayload

begun_sized : All IsPayload (payloads_of begun)
begun_sized = one_payload (payload_of (steps.Boot (moment_of 0))) (step_sized (steps.Boot (moment_of 0)) (lit≤ tt))

begun_front : front (payloads_of begun) ≡ HEADER ++ 1 ∷ 0 ∷ 0 ∷ 0 ∷ 9 ∷ 1 ∷ 0 ∷ 0 ∷ 0 ∷ 0 ∷ 0 ∷ 0 ∷ 0 ∷ 0 ∷ []
unfolding payload_of
begun_front = refl

-- the file of the record of the Boot, and then this
abbrev begun_then : List ℕ → List ℕ
begun_then rest = (HEADER ++ 1 ∷ 0 ∷ 0 ∷ 0 ∷ 9 ∷ 1 ∷ 0 ∷ 0 ∷ 0 ∷ 0 ∷ 0 ∷ 0 ∷ 0 ∷ 0 ∷ []) ++ rest

begun_is : (rest : List ℕ) → begun_then rest ≡ front (payloads_of begun) ++ rest
begun_is rest = ap (λ (x : List ℕ). x ++ rest) (sym begun_front)

-- a record of a payload that no step has that may follow is damage
broken : (c : Calendar) (h : History) (payload rest : List ℕ) → IsPayload payload → ((s : Step) → IsValid s → MayFollow c h s → payload ≢ payload_of s) → IsDamage c h (gated payload ++ rest)
broken c h payload rest sized none = record {
  no_end = λ closed. closed refl;
  no_step = λ s more valid may is. none s valid may (one_record payload (payload_of s) rest more sized (step_sized s valid) is).0;
}

-- no step has a payload of one byte 99
unread_payload : (s : Step) → IsValid s → 99 ∷ [] ≢ payload_of s
unfolding reading
unread_payload s valid is =
    let read : reading (99 ∷ []) ≡ Ok (cells s) = ap reading is ∙ reading_valid s valid in
    cc read

late_payload : payload_of (steps.Boot (moment_of 3)) ≡ 1 ∷ 0 ∷ 0 ∷ 0 ∷ 0 ∷ 0 ∷ 0 ∷ 0 ∷ 3 ∷ []
unfolding payload_of
late_payload = refl

illegal_payload : (c : Calendar) (s : Step) → IsValid s → MayFollow c begun s → 1 ∷ 0 ∷ 0 ∷ 0 ∷ 0 ∷ 0 ∷ 0 ∷ 0 ∷ 3 ∷ [] ≢ payload_of s
illegal_payload c s valid may is =
    let same : steps.Boot (moment_of 3) ≡ s = payload_once (steps.Boot (moment_of 3)) s (lit≤ tt) valid (late_payload ∙ is) in
    let late : MayFollow c begun (steps.Boot (moment_of 3)) = subst (λ (x : Step). MayFollow c begun x) (sym same) may in
    cc late

-- nothing is no record
nothing_is_damage : (c : Calendar) (h : History) → IsDamage c h []
nothing_is_damage c h = record { no_end = λ closed. closed; no_step = λ s more valid may is. cc is }

damaged_begun : (c : Calendar) (rest : List ℕ) → IsDamage c begun rest → DamagedAt c 30 (begun_then rest)
damaged_begun c rest damage = record {
  before = begun;
  begins = record { legal = (tt, refl); valid = begun_valid; begins = record { sized = begun_sized; rest = rest; is = begun_is rest } };
  at = sym (ap length begun_front);
  damage = damage;
}

pub on_examples : (c : Calendar) → JournalsOnExamples c
on_examples c = record {
  nothing = record { within = lit< tt; same = refl; differs = λ e. cc e };
  empty = record { legal = tt; valid = tt; holds = record { sized = no_payload; gate = 0; rest = []; closed = λ e. cc e; is = refl } };
  one = record { legal = (tt, refl); valid = begun_valid; holds = record { sized = begun_sized; gate = 0; rest = []; closed = λ e. cc e; is = begun_is (0 ∷ []) } };
  more = record { legal = tt; valid = tt; holds = record { sized = no_payload; gate = 0; rest = 1 ∷ 0 ∷ 0 ∷ 0 ∷ 9 ∷ 1 ∷ []; closed = λ e. cc e; is = refl } };
  no_gate = record {
    before = beginning;
    begins = record { legal = tt; valid = tt; begins = record { sized = no_payload; rest = []; is = refl } };
    at = refl;
    damage = nothing_is_damage c beginning;
  };
  unread = damaged_begun c _ (broken c begun (99 ∷ []) (0 ∷ []) (record { some = lit≤ tt; fits = lit≤ tt }) (λ s valid may. unread_payload s valid));
  illegal = damaged_begun c _ (broken c begun (1 ∷ 0 ∷ 0 ∷ 0 ∷ 0 ∷ 0 ∷ 0 ∷ 0 ∷ 3 ∷ []) (0 ∷ []) (record { some = lit≤ tt; fits = lit≤ tt }) (illegal_payload c));
}
