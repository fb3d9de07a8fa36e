-- Serving has one result: by what stands behind the work that is found, the incarnation that is next, or what a write meets.
use Rattle.std.proofs.Common.{◌≡◌, ◌≢◌, ℕ, Bool, true, false, Option, Some, None, Result, Ok, Err, List, [], ◌∷◌, refl, ap, sym, subst, ◌∙◌, inl, inr, ◌⊎◌}
use Rattle.sched_calls.specs.declared.call.Call.TheVariants as calls
use Rattle.sched_calls.specs.declared.reply.Refusal.{Refusal}
use Rattle.sched_calls.specs.declared.reply.Reply.{Reply}
use Rattle.sched_plain.specs.declared.step.Step.TheVariants as steps
use Rattle.sched_plain.specs.declared.why.RowFault.{RowFault}
use Rattle.sched_plain.specs.declared.work.Work.{Work}
use Rattle.sched_plain.specs.declared.work.Work.TheVariants as works
use Rattle.sched_plain.specs.declared.write.Write.{Write}
use Rattle.expressions.specs.Calendar.{Calendar}
use Rattle.plain_words.specs.Lists.{head}
use Rattle.sched_plain.specs.History.{History, ◌upon◌}
use Rattle.sched_plain.specs.Moments.{moment_of}
use Rattle.sched_plain.specs.Marks.{unentered}
use Rattle.sched_plain.specs.Tokens.{Kept}
use Rattle.sched_plain.specs.Seen.{seen}
use Rattle.sched_plain.specs.Work.{work}
use Rattle.sched_calls.specs.Replies.{reply_to, token_refusal, row_refusal, zone_refusal}
use Rattle.sched_calls.specs.Serves.{End, ZoneSource, CatchUp, caught_up, next_incarnation, enters_first, Works, settled, enters, closes, begins, completes, Sweeps, swept, next_shard, ServesWrite, Accepts, wanted_enter, words_left, begin_of, end_of, taking_of, release_of, kept_for, fault_of, needed_zone, lacks_zone}
use Rattle.sweep_laws.specs.OneLaws.{AreSame, WorksOneWay, CatchUpsOneWay, SweepsOneWay, ServesOneWay}

-- ---- the work of a shard

-- an attempt, and what is worked behind it
record Attempted (c : Calendar) (t shard : ℕ) (h : History) (words : List ℕ) (ends : List End) (after : History) (left : List ℕ) (ends_left : List End) (inc instant : ℕ) : Type 0 where
  pub end : End
  pub rest : List End
  pub taken : ends ≡ end ∷ rest
  pub behind : Works c t shard (end_of h t inc instant end upon begin_of h t inc instant upon h) words rest after left ends_left

-- what stands behind the work that is found
abbrev Behind : (c : Calendar) (t shard : ℕ) → History → List ℕ → List End → History → List ℕ → List End → Work → Type 0
Behind c t shard h words ends after left ends_left (works.Enter inc) = Works c t shard (wanted_enter c h inc t words upon h) (words_left c h inc t words) ends after left ends_left
Behind c t shard h words ends after left ends_left (works.Close inc instant reason) = Works c t shard (steps.Close (moment_of t) inc instant reason upon h) words ends after left ends_left
Behind c t shard h words ends after left ends_left (works.Begin inc instant) = Attempted c t shard h words ends after left ends_left inc instant
Behind c t shard h words ends after left ends_left (works.Complete inc) = Works c t shard (steps.Complete (moment_of t) inc upon h) words ends after left ends_left
Behind c t shard h words ends after left ends_left (works.Live inc instant) = ⊥
Behind c t shard h words ends after left ends_left works.Settled = AreSame after h left words ends_left ends

behind : {c : Calendar} {t shard : ℕ} {h after : History} {words left : List ℕ} {ends ends_left : List End} → Works c t shard h words ends after left ends_left
    → Behind c t shard h words ends after left ends_left (work (seen c h) shard t)
behind {c = c} {t = t} {shard = shard} {h = h} {after = after} {words = words} {left = left} {ends = ends} {ends_left = ends_left} (settled e) =
    subst (Behind c t shard h words ends after left ends_left) (sym e) (record { histories = refl; words_left = refl; ends_left = refl })
behind {c = c} {t = t} {shard = shard} {h = h} {after = after} {words = words} {left = left} {ends = ends} {ends_left = ends_left} (enters e more) =
    subst (Behind c t shard h words ends after left ends_left) (sym e) more
behind {c = c} {t = t} {shard = shard} {h = h} {after = after} {words = words} {left = left} {ends = ends} {ends_left = ends_left} (closes e more) =
    subst (Behind c t shard h words ends after left ends_left) (sym e) more
behind {c = c} {t = t} {shard = shard} {h = h} {after = after} {words = words} {left = left} {ends = ends} {ends_left = ends_left} (begins {end = end} {ends = rest} e more) =
    subst (Behind c t shard h words ends after left ends_left) (sym e) (record { end = end; rest = rest; taken = refl; behind = more })
behind {c = c} {t = t} {shard = shard} {h = h} {after = after} {words = words} {left = left} {ends = ends} {ends_left = ends_left} (completes e more) =
    subst (Behind c t shard h words ends after left ends_left) (sym e) more

-- the attempt took the ends that are there
same_attempt : (c : Calendar) (t shard : ℕ) (h : History) (words : List ℕ) (end : End) (rest : List End) (after : History) (left : List ℕ) (ends_left : List End) (inc instant : ℕ)
    → Attempted c t shard h words (end ∷ rest) after left ends_left inc instant
    → Works c t shard (end_of h t inc instant end upon begin_of h t inc instant upon h) words rest after left ends_left
same_attempt c t shard h words end rest after left ends_left inc instant was =
    let taken : end ∷ rest ≡ was.end ∷ was.rest = was.taken in
    let ends_same : was.end ≡ end = cc taken in
    let rest_same : was.rest ≡ rest = cc taken in
    subst (λ (e : End). Works c t shard (end_of h t inc instant e upon begin_of h t inc instant upon h) words rest after left ends_left) ends_same
    (subst (λ (r : List End). Works c t shard (end_of h t inc instant was.end upon begin_of h t inc instant upon h) words r after left ends_left) rest_same was.behind)

turned : {one other : History} {left other_left : List ℕ} {ends other_ends : List End} → AreSame other one other_left left other_ends ends → AreSame one other left other_left ends other_ends
turned same = record { histories = sym same.histories; words_left = sym same.words_left; ends_left = sym same.ends_left }

works_one : {c : Calendar} {t shard : ℕ} {h one : History} {words left : List ℕ} {ends ends_left : List End} → Works c t shard h words ends one left ends_left
    → (other : History) (other_left : List ℕ) (other_ends : List End) → Works c t shard h words ends other other_left other_ends
    → AreSame one other left other_left ends_left other_ends
works_one {c = c} {t = t} {shard = shard} {h = h} {words = words} {ends = ends} (settled e) other other_left other_ends second =
    turned (subst (Behind c t shard h words ends other other_left other_ends) e (behind second))
works_one {c = c} {t = t} {shard = shard} {h = h} {words = words} {ends = ends} (enters e more) other other_left other_ends second =
    works_one more other other_left other_ends (subst (Behind c t shard h words ends other other_left other_ends) e (behind second))
works_one {c = c} {t = t} {shard = shard} {h = h} {words = words} {ends = ends} (closes e more) other other_left other_ends second =
    works_one more other other_left other_ends (subst (Behind c t shard h words ends other other_left other_ends) e (behind second))
works_one {c = c} {t = t} {shard = shard} {h = h} {words = words} {ends = ends} (begins {inc = inc} {instant = instant} {end = end} {ends = rest} e more) other other_left other_ends second =
    works_one more other other_left other_ends
    (same_attempt c t shard h words end rest other other_left other_ends inc instant
    (subst (Behind c t shard h words ends other other_left other_ends) e (behind second)))
works_one {c = c} {t = t} {shard = shard} {h = h} {words = words} {ends = ends} (completes e more) other other_left other_ends second =
    works_one more other other_left other_ends (subst (Behind c t shard h words ends other other_left other_ends) e (behind second))

pub worked_one_way : WorksOneWay
worked_one_way c t shard h one other words left other_left ends ends_left other_ends first second = works_one first other other_left other_ends second

-- ---- catching up

-- what stands behind the next incarnation, by its first occurrence without an entry
abbrev ByHead : (c : Calendar) (t inc : ℕ) → List ℕ → History → List ℕ → History → List ℕ → Option ℕ → Type 0
ByHead c t inc incs h words after left None = CatchUp c t incs h words after left
ByHead c t inc incs h words after left (Some instant) = CatchUp c t (inc ∷ incs) (wanted_enter c h inc t words upon h) (words_left c h inc t words) after left

abbrev Onward : (c : Calendar) (t : ℕ) → List ℕ → History → List ℕ → History → List ℕ → Type 0
Onward c t [] h words after left = (h ≡ after) × (words ≡ left)
Onward c t (inc ∷ incs) h words after left = ByHead c t inc incs h words after left (head (unentered c h inc t))

onward : {c : Calendar} {t : ℕ} {incs : List ℕ} {h after : History} {words left : List ℕ} → CatchUp c t incs h words after left → Onward c t incs h words after left
onward caught_up = (refl, refl)
onward {c = c} {t = t} {h = h} {after = after} {words = words} {left = left} (next_incarnation {inc = inc} {incs = incs} e more) =
    subst (ByHead c t inc incs h words after left) (sym (ap (λ (xs : List ℕ). head xs) e)) more
onward {c = c} {t = t} {h = h} {after = after} {words = words} {left = left} (enters_first {inc = inc} {incs = incs} e more) =
    subst (ByHead c t inc incs h words after left) (sym e) more

catch_one : {c : Calendar} {t : ℕ} {incs : List ℕ} {h one : History} {words left : List ℕ} → CatchUp c t incs h words one left
    → (other : History) (other_left : List ℕ) → CatchUp c t incs h words other other_left → (one ≡ other) × (left ≡ other_left)
catch_one caught_up other other_left second = onward second
catch_one {c = c} {t = t} {h = h} {words = words} (next_incarnation {inc = inc} {incs = incs} e more) other other_left second =
    catch_one more other other_left (subst (ByHead c t inc incs h words other other_left) (ap (λ (xs : List ℕ). head xs) e) (onward second))
catch_one {c = c} {t = t} {h = h} {words = words} (enters_first {inc = inc} {incs = incs} e more) other other_left second =
    catch_one more other other_left (subst (ByHead c t inc incs h words other other_left) e (onward second))

pub caught_one_way : CatchUpsOneWay
caught_one_way c t incs h one other words left other_left first second = catch_one first other other_left second

-- ---- a sweep

-- the first shard worked, and the others behind it
record SweptOn (c : Calendar) (t shard : ℕ) (shards : List ℕ) (h : History) (words : List ℕ) (ends : List End) (after : History) (left : List ℕ) (ends_left : List End) : Type 0 where
  pub mid : History
  pub some_left : List ℕ
  pub some_ends : List End
  pub works_ : Works c t shard (taking_of h t shard upon h) words ends mid some_left some_ends
  pub sweeps : Sweeps c t shards (release_of mid t shard upon steps.Swept (moment_of t) shard upon mid) some_left some_ends after left ends_left

abbrev Sweeping : (c : Calendar) (t : ℕ) → List ℕ → History → List ℕ → List End → History → List ℕ → List End → Type 0
Sweeping c t [] h words ends after left ends_left = AreSame h after words left ends ends_left
Sweeping c t (shard ∷ shards) h words ends after left ends_left = SweptOn c t shard shards h words ends after left ends_left

sweeping : {c : Calendar} {t : ℕ} {shards : List ℕ} {h after : History} {words left : List ℕ} {ends ends_left : List End}
    → Sweeps c t shards h words ends after left ends_left → Sweeping c t shards h words ends after left ends_left
sweeping swept = record { histories = refl; words_left = refl; ends_left = refl }
sweeping (next_shard {mid = mid} {some_left = some_left} {some_ends = some_ends} works_ more) =
    record { mid = mid; some_left = some_left; some_ends = some_ends; works_ = works_; sweeps = more }

-- the rest of a sweep from the same history, words and ends
same_rest : (c : Calendar) (t shard : ℕ) (shards : List ℕ) (mid other_mid : History) (some_left other_some : List ℕ) (some_ends other_some_ends : List End) (after : History) (left : List ℕ) (ends_left : List End)
    → AreSame mid other_mid some_left other_some some_ends other_some_ends
    → Sweeps c t shards (release_of other_mid t shard upon steps.Swept (moment_of t) shard upon other_mid) other_some other_some_ends after left ends_left
    → Sweeps c t shards (release_of mid t shard upon steps.Swept (moment_of t) shard upon mid) some_left some_ends after left ends_left
same_rest c t shard shards mid other_mid some_left other_some some_ends other_some_ends after left ends_left same rest =
    subst (λ (m : History). Sweeps c t shards (release_of m t shard upon steps.Swept (moment_of t) shard upon m) some_left some_ends after left ends_left) (sym same.histories)
    (subst (λ (w : List ℕ). Sweeps c t shards (release_of other_mid t shard upon steps.Swept (moment_of t) shard upon other_mid) w some_ends after left ends_left) (sym same.words_left)
    (subst (λ (e : List End). Sweeps c t shards (release_of other_mid t shard upon steps.Swept (moment_of t) shard upon other_mid) other_some e after left ends_left) (sym same.ends_left) rest))

sweeps_one : {c : Calendar} {t : ℕ} {shards : List ℕ} {h one : History} {words left : List ℕ} {ends ends_left : List End} → Sweeps c t shards h words ends one left ends_left
    → (other : History) (other_left : List ℕ) (other_ends : List End) → Sweeps c t shards h words ends other other_left other_ends
    → AreSame one other left other_left ends_left other_ends
sweeps_one swept other other_left other_ends second = sweeping second
sweeps_one {c = c} {t = t} (next_shard {shard = shard} {shards = shards} {mid = mid} {some_left = some_left} {some_ends = some_ends} works_ more) other other_left other_ends second =
    let also = sweeping second in
    let same = works_one works_ also.mid also.some_left also.some_ends also.works_ in
    sweeps_one more other other_left other_ends
    (same_rest c t shard shards mid also.mid some_left also.some_left some_ends also.some_ends other other_left other_ends same also.sweeps)

pub swept_one_way : SweepsOneWay
swept_one_way c t shards h one other words left other_left ends ends_left other_ends first second = sweeps_one first other other_left other_ends second

-- ---- a write

-- nothing was added, and the answer is this one
record Answered (before after : History) (words left : List ℕ) (answer expected : Result Reply Refusal) : Type 0 where
  pub unchanged : after ≡ before
  pub drawn : left ≡ words
  pub answered : answer ≡ expected

-- what a write meets: the write that kept its token, a fault, a zone that cannot be had, or nothing
abbrev Met : (c : Calendar) (source : ZoneSource) (t : ℕ) → History → Write → List ℕ → History → List ℕ → Result Reply Refusal
    → Option Kept → Option RowFault → Bool → Type 0
Met c source t before write words after left answer (Some kept) fault lacks =
    ((kept.write ≡ write) × Answered before after words left answer (Ok (reply_to write)))
    ⊎ ((kept.write ≢ write) × Answered before after words left answer (Err (token_refusal kept.place)))
Met c source t before write words after left answer None (Some fault) lacks = Answered before after words left answer (Err (row_refusal write fault))
Met c source t before write words after left answer None None true = Answered before after words left answer (Err zone_refusal)
Met c source t before write words after left answer None None false = Accepts c source t before write words after left answer

module _ (c : Calendar) (source : ZoneSource) (t : ℕ) (before : History) (write : Write) (words : List ℕ) where
  abbrev Meets : History → List ℕ → Result Reply Refusal → Type 0
  Meets after left answer =
      Met c source t before write words after left answer (kept_for before write) (fault_of before write) (lacks_zone c source (needed_zone before write))

  met : (after : History) (left : List ℕ) (answer : Result Reply Refusal) → ServesWrite c source t before write words after left answer → Meets after left answer
  met after left answer (inl (same, inl r)) =
      subst (λ (k : Option Kept). Met c source t before write words after left answer k (fault_of before write) (lacks_zone c source (needed_zone before write))) (sym r.found)
      (inl (r.repeated, record { unchanged = r.unchanged; drawn = same; answered = r.answered }))
  met after left answer (inl (same, inr (inl r))) =
      subst (λ (k : Option Kept). Met c source t before write words after left answer k (fault_of before write) (lacks_zone c source (needed_zone before write))) (sym r.found)
      (inr (r.other, record { unchanged = r.unchanged; drawn = same; answered = r.answered }))
  met after left answer (inl (same, inr (inr (inl r)))) =
      subst (λ (k : Option Kept). Met c source t before write words after left answer k (fault_of before write) (lacks_zone c source (needed_zone before write))) (sym r.new)
      (subst (λ (f : Option RowFault). Met c source t before write words after left answer None f (lacks_zone c source (needed_zone before write))) (sym r.found)
      (record { unchanged = r.unchanged; drawn = same; answered = r.answered }))
  met after left answer (inl (same, inr (inr (inr r)))) =
      subst (λ (k : Option Kept). Met c source t before write words after left answer k (fault_of before write) (lacks_zone c source (needed_zone before write))) (sym r.new)
      (subst (λ (f : Option RowFault). Met c source t before write words after left answer None f (lacks_zone c source (needed_zone before write))) (sym r.allowed)
      (subst (λ (b : Bool). Met c source t before write words after left answer None None b) (sym r.lacking)
      (record { unchanged = r.unchanged; drawn = same; answered = r.answered })))
  met after left answer (inr r) =
      subst (λ (k : Option Kept). Met c source t before write words after left answer k (fault_of before write) (lacks_zone c source (needed_zone before write))) (sym r.new)
      (subst (λ (f : Option RowFault). Met c source t before write words after left answer None f (lacks_zone c source (needed_zone before write))) (sym r.allowed)
      (subst (λ (b : Bool). Met c source t before write words after left answer None None b) (sym r.zone) r))

  -- two results are the same
  record IsOne (one other : History) (left other_left : List ℕ) (answer other_answer : Result Reply Refusal) : Type 0 where
    pub histories : one ≡ other
    pub words_left : left ≡ other_left
    pub answers : answer ≡ other_answer

  answered_one : (one other : History) (left other_left : List ℕ) (answer other_answer expected : Result Reply Refusal)
      → Answered before one words left answer expected → Answered before other words other_left other_answer expected
      → IsOne one other left other_left answer other_answer
  answered_one one other left other_left answer other_answer expected a b =
      record { histories = a.unchanged ∙ sym b.unchanged; words_left = a.drawn ∙ sym b.drawn; answers = a.answered ∙ sym b.answered }

  accepted_one : (one other : History) (left other_left : List ℕ) (answer other_answer : Result Reply Refusal)
      → Accepts c source t before write words one left answer → Accepts c source t before write words other other_left other_answer
      → IsOne one other left other_left answer other_answer
  accepted_one one other left other_left answer other_answer a b =
      let same = catch_one a.caught_up b.entered other_left b.caught_up in
      record {
        histories = a.added ∙ ap (λ (h : History). steps.Change (moment_of t) write upon h) same.0 ∙ sym b.added;
        words_left = same.1;
        answers = a.answered ∙ sym b.answered;
      }

  met_one : (one other : History) (left other_left : List ℕ) (answer other_answer : Result Reply Refusal) (kept : Option Kept) (fault : Option RowFault) (lacks : Bool)
      → Met c source t before write words one left answer kept fault lacks → Met c source t before write words other other_left other_answer kept fault lacks
      → IsOne one other left other_left answer other_answer
  met_one one other left other_left answer other_answer (Some kept) fault lacks (inl a) (inl b) = answered_one one other left other_left answer other_answer _ a.1 b.1
  met_one one other left other_left answer other_answer (Some kept) fault lacks (inl a) (inr b) = absurd (b.0 a.0)
  met_one one other left other_left answer other_answer (Some kept) fault lacks (inr a) (inl b) = absurd (a.0 b.0)
  met_one one other left other_left answer other_answer (Some kept) fault lacks (inr a) (inr b) = answered_one one other left other_left answer other_answer _ a.1 b.1
  met_one one other left other_left answer other_answer None (Some fault) lacks a b = answered_one one other left other_left answer other_answer _ a b
  met_one one other left other_left answer other_answer None None true a b = answered_one one other left other_left answer other_answer _ a b
  met_one one other left other_left answer other_answer None None false a b = accepted_one one other left other_left answer other_answer a b

  write_one : (one other : History) (left other_left : List ℕ) (answer other_answer : Result Reply Refusal)
      → ServesWrite c source t before write words one left answer → ServesWrite c source t before write words other other_left other_answer
      → IsOne one other left other_left answer other_answer
  write_one one other left other_left answer other_answer first second =
      met_one one other left other_left answer other_answer (kept_for before write) (fault_of before write) (lacks_zone c source (needed_zone before write))
      (met one left answer first) (met other other_left other_answer second)

-- ---- a request

pub served_one_way : ServesOneWay
served_one_way c source t h one other words left other_left ends ends_left other_ends (Err refusal) answer other_answer a b =
    (record { histories = a.0 ∙ sym b.0; words_left = a.1 ∙ sym b.1; ends_left = a.2 ∙ sym b.2 }, a.3 ∙ sym b.3)
served_one_way c source t h one other words left other_left ends ends_left other_ends (Ok (calls.Read read)) answer other_answer a b =
    (record { histories = a.0 ∙ sym b.0; words_left = a.1 ∙ sym b.1; ends_left = a.2 ∙ sym b.2 }, a.3 ∙ sym b.3)
served_one_way c source t h one other words left other_left ends ends_left other_ends (Ok calls.Sweep) answer other_answer a b =
    (sweeps_one a.0 other other_left other_ends b.0, a.1 ∙ sym b.1)
served_one_way c source t h one other words left other_left ends ends_left other_ends (Ok (calls.Write write)) answer other_answer a b =
    let same = write_one c source t h write words one other left other_left answer other_answer a.0 b.0 in
    (record { histories = same.histories; words_left = same.words_left; ends_left = a.1 ∙ sym b.1 }, same.answers)
