-- How a run ends behind its last answer.
use Rattle.std.proofs.Common.{◌≡◌, ℕ, ◌+◌, List, Option, refl, sym, ap, subst, inl, inr}
use Rattle.std.specs.Prelude.{IfSome, []}
use Rattle.zone_occ.specs.declared.zone_files.NamedZone.{NamedZone}
use Rattle.sched_plain.specs.History.{History, count}
use Rattle.sched_plain.specs.Legal.{IsLegal}
use Rattle.sched_plain.specs.Validity.{AllValid}
use Rattle.sched_plain.proofs.HistoryLemmas.{extends_through}
use Rattle.book_parts.specs.Stands.{calendar}
use Rattle.step_keeper.specs.Carrying.{Start, Shows}
use Rattle.http_wire.specs.declared.request.HttpRequest.{HttpRequest}
use Rattle.http_wire.specs.Devices.{Gets, GetsPart}
use Rattle.http_wire.specs.Framing.{IsNoMessage, TakesRequest, TakesPart, TakesAtMostOne}
use Rattle.sched_top.specs.Serving.{Answers}
use Rattle.sched_top.specs.Keeping.{HoldsOfEach, Keeps}
use Rattle.sched_top.specs.Batch.{booted, nothing_full, Told, RunFinished, RunLeft, RunCutOff, RunEnds, RefusalEnds, unframed_text}
use Rattle.sched_top.specs.Running.{heard, Responds, Underway}
use Rattle.sched_top.specs.declared.batch.BatchEnd.{BatchEnd}
use Rattle.sched_top.specs.declared.batch.BatchEnd.TheVariants as ends
use Rattle.sched_top.proofs.KeepLemmas.{keeps_of}
use Rattle.sched_top.proofs.RunLemmas.{handed_more}

-- what the history of a run keeps
keeps : {K : Type 0} (held : Start K → History → Type 0) (zones : Option (List NamedZone)) (number : ℕ) (before : History) (now : ℕ) (old mid : Told)
    → HoldsOfEach → Shows held (IsLegal calendar) → Shows held AllValid
    → (u : Underway held zones number before now old mid) → Keeps (booted before) u.after old.handed mid.handed
keeps held zones number before now old mid holds legal valid u =
    keeps_of (booted before) u.after old.handed mid.handed holds (legal u.since u.after u.stands) (valid u.since u.after u.stands) u.grows u.handed

-- the input came to its end
ended : {K : Type 0} (held : Start K → History → Type 0) (zones : Option (List NamedZone)) (number : ℕ) (before : History) (now : ℕ) (old mid : Told)
    → HoldsOfEach → Shows held (IsLegal calendar) → Shows held AllValid → Underway held zones number before now old mid
    → IfSome mid.left (λ bytes. bytes ≡ []) → RunFinished zones before old mid
ended held zones number before now old mid holds legal valid u done = record {
  number = number;
  after = u.after;
  at = now;
  ran = u.ran;
  keeps = keeps held zones number before now old mid holds legal valid u;
  ends = done;
}

pub finished : {K : Type 0} (held : Start K → History → Type 0) (zones : Option (List NamedZone)) (number : ℕ) (before : History) (now : ℕ) (old mid : Told) (left : Option (List ℕ))
    → HoldsOfEach → Shows held (IsLegal calendar) → Shows held AllValid → Underway held zones number before now old mid
    → IfSome mid.left (λ bytes. bytes ≡ []) → left ≡ mid.left → RunFinished zones before old (record mid { left = left })
finished held zones number before now old mid left holds legal valid u done same =
    subst (λ (l : Option (List ℕ)). RunFinished zones before old (record mid { left = l })) (sym same)
    (ended held zones number before now old mid holds legal valid u done)

-- the run stopped behind its last answer
pub stopped : {K : Type 0} (Takes : Option (List ℕ) → Option (List ℕ) → Type 0) (held : Start K → History → Type 0) (zones : Option (List NamedZone)) (number : ℕ) (before : History) (now : ℕ) (old mid : Told) (left : Option (List ℕ))
    → HoldsOfEach → Shows held (IsLegal calendar) → Shows held AllValid → Underway held zones number before now old mid
    → Takes mid.left left → RunLeft Takes zones before old (record mid { left = left })
stopped Takes held zones number before now old mid left holds legal valid u took = record {
  number = number;
  after = u.after;
  at = now;
  last = mid;
  ran = u.ran;
  keeps = keeps held zones number before now old mid holds legal valid u;
  took = took;
  rest = refl;
}

-- a source that took what is no message took no more than one
at_most_one : (before after : Option (List ℕ)) → TakesPart before after → TakesAtMostOne before after
at_most_one before after part = record { taken = part.taken; within = λ m rest framed e. absurd (part.none m rest framed e); gives = part.gives }

-- so the run ends as the answer to what is no request does: it was given, or a front of it was, or memory was wanted for it
pub refusal_ends : {K : Type 0} (held : Start K → History → Type 0) (zones : Option (List NamedZone)) (number : ℕ) (before : History) (now : ℕ) (old mid : Told) (left got : Option (List ℕ)) (many : ℕ) (end : BatchEnd)
    → HoldsOfEach → Shows held (IsLegal calendar) → Shows held AllValid → Underway held zones number before now old mid
    → Shows held (λ h. many ≡ count h) → IfSome mid.left IsNoMessage → TakesPart mid.left left → RefusalEnds end mid.got (unframed_text (number + 1) many) got
    → RunEnds end zones before old (record mid { left = left; got = got })
refusal_ends held zones number before now old mid left got many ends.Finished holds legal valid u counts none took given = absurd given
refusal_ends held zones number before now old mid left got many ends.SourceFailed holds legal valid u counts none took given = absurd given
refusal_ends held zones number before now old mid left got many ends.SinkFailed holds legal valid u counts none took given = record {
  number = number;
  after = u.after;
  at = now;
  last = mid;
  ran = u.ran;
  response = unframed_text (number + 1) many;
  at_end = u.after;
  due = inr (record {
    none = none;
    took = took;
    text = ap (λ (n : ℕ). unframed_text (number + 1) n) (counts u.since u.after u.stands);
    same = refl;
    rest = refl;
  });
  keeps = keeps held zones number before now old mid holds legal valid u;
  part = given;
}
refusal_ends held zones number before now old mid left got many ends.OutOfMemory holds legal valid u counts none took given =
    inr (subst (λ (g : Option (List ℕ)). RunLeft TakesAtMostOne zones before old (record mid { left = left; got = g })) (sym given)
    (stopped TakesAtMostOne held zones number before now old mid left holds legal valid u (at_most_one mid.left left took)))
refusal_ends held zones number before now old mid left got many ends.Unframed holds legal valid u counts none took given = record {
  number = number;
  after = u.after;
  at = now;
  last = mid;
  ran = u.ran;
  keeps = keeps held zones number before now old mid holds legal valid u;
  none = none;
  took = took;
  answered = subst (λ (n : ℕ). Gets mid.got (unframed_text (number + 1) n) got) (counts u.since u.after u.stands) given;
  rest = refl;
}

-- the source does not fail at an answer
pub refused_not_read : (end : BatchEnd) (got got' : Option (List ℕ)) (answer : List ℕ) → RefusalEnds end got answer got' → end ≡ ends.SourceFailed → ⊥
refused_not_read end got got' answer given is = rw is at given

-- the sink failed while the next request was answered
pub cut_answer : {K : Type 0} (held held' : Start K → History → Type 0) (zones : Option (List NamedZone)) (number : ℕ) (before : History) (now at : ℕ) (old mid new : Told) (request : HttpRequest)
    → HoldsOfEach → Shows held' (IsLegal calendar) → Shows held' AllValid
    → (u : Underway held zones number before now old mid) → TakesRequest mid.left request new.left
    → (after : History) × held' u.since after × Responds GetsPart zones now request at (heard mid) (heard new) u.after after
    → RunCutOff zones before old new
cut_answer held held' zones number before now at old mid new request holds legal valid u takes (after, stands, r) =
    let P : HttpRequest → Type 0 = λ q. Answers nothing_full ⊥ zones r.kind u.after now q r.taken after at r.response in
    record {
      number = number;
      after = u.after;
      at = now;
      last = mid;
      ran = u.ran;
      response = r.response;
      at_end = after;
      due = inl (record {
        message = takes.message;
        framed = takes.framed;
        read = takes.taken;
        kind = r.kind;
        taken = r.taken;
        told = at;
        served = subst P takes.asked r.answers;
        drew = r.drew;
        failed = r.failed;
      });
      keeps = keeps_of (booted before) after old.handed new.handed holds (legal u.since after stands) (valid u.since after stands)
          (extends_through u.grows r.answers.grows) (handed_more u.after after old.handed mid.handed new.handed u.handed r.sends);
      part = r.given;
    }
