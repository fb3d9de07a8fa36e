-- The histories with whose journals a file begins are one chain.
use Rattle.std.proofs.Common.{◌≡◌, ◌⊎◌, inl, inr, ℕ, ◌<◌, ◌≤◌, List, [], ◌∷◌, ◌++◌, refl, sym, ◌∙◌, ap, subst, arith, append_assoc}
use Rattle.std.specs.List.{All}
use Rattle.std.proofs.lemmas.Bool.{cases_lt}
use Rattle.std.proofs.lemmas.List.{append_cancel_left, length-append, get_or_append_left}
use Rattle.expressions.specs.Calendar.{Calendar}
use Rattle.sched_plain.specs.declared.step.Step.{Step}
use Rattle.sched_plain.specs.History.{History, beginning, based, ◌upon◌, count}
use Rattle.sched_plain.specs.Legal.{MayFollow}
use Rattle.sched_plain.specs.Validity.{IsValid}
use Rattle.step_codec.specs.Payload.{payload_of}
use Rattle.step_codec.proofs.ReadingLaws.{payload_once}
use Rattle.step_codec.proofs.PayloadLengths.{payload_some, payload_short}
use Rattle.journal_file.specs.Format.{IsPayload, gated, front}
use Rattle.journal_file.proofs.FormatLemmas.{front_more}
use Rattle.journal_steps.specs.Journals.{payloads_of, BeginsLike}
use Rattle.journal_steps.proofs.RecordLemmas.{one_record}

-- the payload of a valid step is that of a record
pub step_sized : (s : Step) → IsValid s → IsPayload (payload_of s)
step_sized s valid = record { some = payload_some s; fits = payload_short s valid }

all_before : (ps : List (List ℕ)) (p : List ℕ) → All IsPayload (ps ++ p ∷ []) → All IsPayload ps
all_before ps p all = λ k d within. subst IsPayload (get_or_append_left ps (p ∷ []) d k within) (all k d (omega (arith, within, length-append ps (p ∷ []))))

-- behind the records of a history there is that of a step
pub record Next (c : Calendar) (h : History) (s : Step) (file : List ℕ) : Type 0 where
  pub before : BeginsLike c h file
  pub valid : IsValid s
  pub follows : MayFollow c h s
  pub more : List ℕ
  pub is : file ≡ front (payloads_of h) ++ (gated (payload_of s) ++ more)

pub next_of : (c : Calendar) (h : History) (s : Step) (file : List ℕ) → BeginsLike c (s upon h) file → Next c h s file
next_of c h s file like =
    let is : file ≡ front (payloads_of h) ++ (gated (payload_of s) ++ like.begins.rest) =
    like.begins.is
    ∙ ap (λ x. x ++ like.begins.rest) (front_more (payloads_of h) (payload_of s))
    ∙ append_assoc (front (payloads_of h)) (gated (payload_of s)) like.begins.rest in
    record {
      before = record {
        legal = like.legal.0;
        valid = like.valid.0;
        begins = record { sized = all_before (payloads_of h) (payload_of s) like.begins.sized; rest = gated (payload_of s) ++ like.begins.rest; is = is };
      };
      valid = like.valid.1;
      follows = like.legal.1;
      more = like.begins.rest;
      is = is;
    }

-- two steps behind the same history are one
one_next : (c : Calendar) (h : History) (s t : Step) (file : List ℕ) → Next c h s file → Next c h t file → s ≡ t
one_next c h s t file one other =
    let bytes = append_cancel_left (front (payloads_of h)) (gated (payload_of s) ++ one.more) (gated (payload_of t) ++ other.more) (sym one.is ∙ other.is) in
    payload_once s t one.valid other.valid
    (one_record (payload_of s) (payload_of t) one.more other.more (step_sized s one.valid) (step_sized t other.valid) bytes).0

-- of as many steps there is one history
pub one_history : (c : Calendar) (file : List ℕ) (h k : History) → BeginsLike c h file → BeginsLike c k file → count h ≡ count k → h ≡ k
one_history c file beginning beginning one other same = refl
one_history c file beginning (t upon k) one other same = absurd (omega (arith, same))
one_history c file (s upon h) beginning one other same = absurd (omega (arith, same))
one_history c file (s upon h) (t upon k) one other same =
    let first = next_of c h s file one in
    let second = next_of c k t file other in
    let histories : h ≡ k = one_history c file h k first.before second.before (omega (arith, same)) in
    let again : Next c h t file = subst (λ (x : History). Next c x t file) (sym histories) second in
    let steps : s ≡ t = one_next c h s t file first again in
    ap (λ (x : Step). x upon h) steps ∙ ap (λ (x : History). t upon x) histories
one_history c file (based b kept) k one other same = absurd one.legal
one_history c file h (based b kept) one other same = absurd other.legal

-- a shorter history of the chain, with the step that is next
record Shorter (c : Calendar) (n : ℕ) (file : List ℕ) : Type 0 where
  history : History
  step : Step
  counted : count history ≡ n
  next : Next c history step file

cut_back : (c : Calendar) (file : List ℕ) (h : History) (n : ℕ) → BeginsLike c h file → n < count h → Shorter c n file
cut_back c file beginning n like less = absurd (omega (arith, less))
cut_back c file (based b kept) n like less = absurd like.legal
cut_back c file (s upon h) n like less = cut (cases_lt n (count h)) (λ below. cut_back c file h n (next_of c h s file like).before below)
  where
    cut : (n < count h) ⊎ (count h ≤ n) → (n < count h → Shorter c n file) → Shorter c n file
    cut (inl below) shorter = shorter below
    cut (inr here) shorter = record { history = h; step = s; counted = omega (arith, less, here); next = next_of c h s file like }

-- a history behind which no step is that may follow
pub record Stops (c : Calendar) (h : History) (file : List ℕ) : Type 0 where
  pub like : BeginsLike c h file
  pub last : (s : Step) → Next c h s file → ⊥

not_beyond : (c : Calendar) (file : List ℕ) (h k : History) → Stops c h file → BeginsLike c k file → count h < count k → ⊥
not_beyond c file h k stops like less =
    let shorter = cut_back c file k (count h) like less in
    let same : shorter.history ≡ h = one_history c file shorter.history h shorter.next.before stops.like shorter.counted in
    stops.last shorter.step (subst (λ (x : History). Next c x shorter.step file) same shorter.next)

pub one_stop : (c : Calendar) (file : List ℕ) (h k : History) → Stops c h file → Stops c k file → h ≡ k
one_stop c file h k one other = decide (cases_lt (count h) (count k)) (cases_lt (count k) (count h))
  where
    decide : (count h < count k) ⊎ (count k ≤ count h) → (count k < count h) ⊎ (count h ≤ count k) → h ≡ k
    decide (inl less) _ = absurd (not_beyond c file h k one other.like less)
    decide (inr le) (inl less) = absurd (not_beyond c file k h other one.like less)
    decide (inr le) (inr ge) = one_history c file h k one.like other.like (omega (arith, le, ge))
