-- From what a request asks for, answered at a moment, to the request answered.
use Rattle.std.proofs.Common.{◌≡◌, ℕ, ◌≤◌, Option, Some, None, Result, Ok, Err, List, [], refl, inl, inr, ap, sym, subst, ◌∙◌, arith}
use Rattle.std.specs.Prelude.{true}
use Rattle.zone_occ.specs.declared.zone_files.NamedZone.{NamedZone}
use Rattle.sched_plain.specs.declared.step.Step.{Step}
use Rattle.sched_plain.specs.History.{History, Extends, as_it_was, count}
use Rattle.sched_calls.specs.declared.call.Call.{Call}
use Rattle.sched_calls.specs.declared.reply.Refusal.{Refusal}
use Rattle.sched_calls.specs.Serves.{Asked, ZoneSource, Serves, IsCut}
use Rattle.sweep_laws.proofs.Additions.{serves_add}
use Rattle.sweep_laws.proofs.Holders.{later_free}
use Rattle.book_parts.specs.Stands.{calendar}
use Rattle.step_keeper.specs.Carrying.{Start, CarriesWhere, LivesWhere, Shows}
use Rattle.durable_writes.specs.Writing.{IsPart}
use Rattle.timer_work.specs.Swept.{IsFree}
use Rattle.request_fields.specs.declared.fault.DecodeFault.{DecodeFault}
use Rattle.request_fields.specs.declared.fault.DecodeFault.TheVariants as unread
use Rattle.request_fields.specs.Refusals.{Reads, ◌giving◌}
use Rattle.request_calls.specs.Calls.{call_of}
use Rattle.request_calls.specs.Moments.{moment_of as moment_by}
use Rattle.http_wire.specs.declared.request.HttpRequest.{HttpRequest}
use Rattle.http_wire.specs.Response.{memory_text}
use Rattle.sched_top.specs.declared.service.response.Response.{Response}
use Rattle.sched_top.specs.Serving.{Kind, Served, ShortOfMemory, ZonesFailed, JournalFull, DiskFailed, Taken, nothing_taken, Answered, IsCutShort, IsCutAnywhere, asked_of, told_in, later_of, moment_told, answer_text}
use Rattle.sched_top.specs.Turns.{Turn, Outside, kind_of, bytes_of}
use Rattle.sched_top.specs.Asking.{TellsUnread, AskedCutShort, AskedCutAnywhere, AskedAnswered, AskedTurn}
use Rattle.sched_top.proofs.ServingStill.{found_same, some_source, draws_nothing, sends_nothing, extends_count}
use Rattle.sched_top.proofs.ServingLemmas.{as_told}

-- what is asked for is the same
pub asked_is : {K : Type 0} (H N : Start K → History → Type 0) (full : Step → ℕ → ℕ → Type 0) (failed : Type 0) (zones : Option (List NamedZone)) (doubt : Option Step) (t : ℕ) (old new : Outside) (response : Response) (asked other : Asked)
    → asked ≡ other → CarriesWhere (IsFree doubt t) H N (AskedTurn full failed zones doubt other t old new response) → CarriesWhere (IsFree doubt t) H N (AskedTurn full failed zones doubt asked t old new response)
asked_is H N full failed zones doubt t old new response asked other same turn =
    subst (λ (a : Asked). CarriesWhere (IsFree doubt t) H N (AskedTurn full failed zones doubt a t old new response)) (sym same) turn

-- ---- a request that has no call

refused_turn : (full : Step → ℕ → ℕ → Type 0) (failed : Type 0) (zones : Option (List NamedZone)) (doubt : Option Step) (t : ℕ) (told : Outside) (asked : Asked) (fault : DecodeFault) (steps : ℕ) (response : Response) (h : History)
    → Reads {A = Call} (Err fault) asked → IsFree doubt t h → steps ≡ count h → TellsUnread fault steps response → AskedTurn full failed zones doubt asked t told told response h h
refused_turn full failed zones doubt t told asked (unread.Refused refusal) steps response h reads free counts tells =
    let source = some_source zones in
    let finds = found_same doubt h in
    let refused : Asked = Err refusal in
    record {
      found = h;
      finds = finds;
      taken = nothing_taken;
      answered = as_told (λ kind text. AskedAnswered full failed zones kind t asked h nothing_taken h text) Served (answer_text (Err refusal) steps) response tells
          (record {
            source = source.0;
            telling = source.1;
            answer = Err refusal;
            serves = subst (λ (a : Asked). Serves calendar source.0 t h [] [] a h [] [] (Err refusal)) (sym reads) (refl, refl, refl, refl);
            whole = refl;
            text = ap (answer_text (Err refusal)) counts;
          })
          (inl refl, refl);
      draws = draws_nothing h told.words;
      sends = sends_nothing h h told.sent (λ before r. r);
      free = free h finds;
    }
refused_turn full failed zones doubt t told asked unread.OutOfMemory steps response h reads free counts tells =
    let finds = found_same doubt h in
    record {
      found = h;
      finds = finds;
      taken = nothing_taken;
      answered = as_told (λ kind text. AskedAnswered full failed zones kind t asked h nothing_taken h text) ShortOfMemory memory_text response (inl tells) (inl refl, refl) (inl refl, refl);
      draws = draws_nothing h told.words;
      sends = sends_nothing h h told.sent (λ before r. r);
      free = free h finds;
    }

-- a request whose moment was read
pub unread_turn : {K : Type 0} (H : Start K → History → Type 0) (full : Step → ℕ → ℕ → Type 0) (failed : Type 0) (zones : Option (List NamedZone)) (doubt : Option Step) (t : ℕ) (told : Outside) (asked : Asked) (fault : DecodeFault) (steps : ℕ) (response : Response)
    → Reads {A = Call} (Err fault) asked → Shows H (λ h. steps ≡ count h) → TellsUnread fault steps response
    → CarriesWhere (IsFree doubt t) H H (AskedTurn full failed zones doubt asked t told told response)
unread_turn H full failed zones doubt t told asked fault steps response reads counts tells = λ since h held free.
    (h, held, refused_turn full failed zones doubt t told asked fault steps response h reads free (counts since h held) tells)

-- ---- from what is asked for to the request

short_of : (zones : Option (List NamedZone)) (now : ℕ) (request : HttpRequest) (asked : Asked) (at : ℕ) (found : History) (taken : Taken) (after : History) → asked_of request ≡ asked → at ≡ moment_told now request
    → AskedCutShort zones at asked found taken after → IsCutShort zones found now request taken after at
short_of zones now request asked at found taken after asks told cut =
    record { call = cut.call; asks = asks ∙ cut.asks; source = cut.source; telling = cut.telling; part = subst (λ (t : ℕ). IsPart cut.source t found taken.words taken.ends cut.call after) told cut.part; told = told }

anywhere_of : (zones : Option (List NamedZone)) (now : ℕ) (request : HttpRequest) (asked : Asked) (at : ℕ) (found : History) (taken : Taken) (after : History) → asked_of request ≡ asked → at ≡ moment_told now request
    → AskedCutAnywhere zones at asked found taken after → IsCutAnywhere zones found now request taken after at
anywhere_of zones now request asked at found taken after asks told cut =
    record { call = cut.call; asks = asks ∙ cut.asks; source = cut.source; telling = cut.telling; cut = subst (λ (t : ℕ). IsCut calendar cut.source t found taken.words taken.ends cut.call after) told cut.cut; told = told }

answered_of : (full : Step → ℕ → ℕ → Type 0) (failed : Type 0) (zones : Option (List NamedZone)) (kind : Kind) (now : ℕ) (request : HttpRequest) (asked : Asked) (at : ℕ) (found : History) (taken : Taken) (after : History) (text : List ℕ)
    → asked_of request ≡ asked → at ≡ moment_told now request → AskedAnswered full failed zones kind at asked found taken after text → Answered full failed zones kind found now request taken after at text
answered_of full failed zones Served now request asked at found taken after text asks told served = record {
  source = served.source;
  telling = served.telling;
  answer = served.answer;
  serves = subst (λ (t : ℕ). Serves calendar served.source t found taken.words taken.ends (asked_of request) after [] [] served.answer) told
      (subst (λ (a : Asked). Serves calendar served.source at found taken.words taken.ends a after [] [] served.answer) (sym asks) served.serves);
  whole = served.whole;
  told = told;
  text = served.text;
}
answered_of full failed zones ShortOfMemory now request asked at found taken after text asks told (inl none, is) = record { part = inl (record { same = none; told = inr told }); text = is }
answered_of full failed zones ShortOfMemory now request asked at found taken after text asks told (inr cut, is) = record { part = inr (anywhere_of zones now request asked at found taken after asks told cut); text = is }
answered_of full failed zones ZonesFailed now request asked at found taken after text asks told (without, is) =
    record { write = without.write; asks = asks ∙ without.asks; zone = without.zone; wants = without.wants; same = without.same; told = told; text = is }
answered_of full failed zones JournalFull now request asked at found taken after text asks told (cut, end, need, no_room, is) =
    record { cut = short_of zones now request asked at found taken after asks told cut; end = end; need = need; has_no_room = no_room; text = is }
answered_of full failed zones DiskFailed now request asked at found taken after text asks told (cut, has_failed, is) =
    record { has_failed = has_failed; cut = short_of zones now request asked at found taken after asks told cut; text = is }

part_grows : (source : ZoneSource) (t : ℕ) (found : History) (taken : Taken) (call : Call) (after : History) → IsPart source t found taken.words taken.ends call after → Extends found after
part_grows source t found taken call after (inl none) = subst (Extends found) (sym none) as_it_was
part_grows source t found taken call after (inr short) = short.cut.from

-- however it was answered, the history only grew
grows_of : (full : Step → ℕ → ℕ → Type 0) (failed : Type 0) (zones : Option (List NamedZone)) (kind : Kind) (asked : Asked) (at : ℕ) (found : History) (taken : Taken) (after : History) (text : List ℕ)
    → AskedAnswered full failed zones kind at asked found taken after text → Extends found after
grows_of full failed zones Served asked at found taken after text served =
    let added = serves_add calendar served.source at found after taken.words [] taken.ends [] asked served.answer served.serves in added.from
grows_of full failed zones ShortOfMemory asked at found taken after text (inl none, is) = subst (Extends found) (sym none) as_it_was
grows_of full failed zones ShortOfMemory asked at found taken after text (inr cut, is) = cut.cut.from
grows_of full failed zones ZonesFailed asked at found taken after text (without, is) = subst (Extends found) (sym without.same) as_it_was
grows_of full failed zones JournalFull asked at found taken after text (cut, end, need, no_room, is) = part_grows cut.source at found taken cut.call after cut.part
grows_of full failed zones DiskFailed asked at found taken after text (cut, has_failed, is) = part_grows cut.source at found taken cut.call after cut.part

later_after : (now : ℕ) (stated : Option ℕ) → now ≤ later_of now stated
later_after now None = omega arith
later_after now (Some stated) = omega arith

asked_turn : (full : Step → ℕ → ℕ → Type 0) (failed : Type 0) (zones : Option (List NamedZone)) (doubt : Option Step) (now : ℕ) (request : HttpRequest) (asked : Asked) (at : ℕ) (old new : Outside) (response : Response) (h after : History)
    → asked_of request ≡ asked → at ≡ moment_told now request → AskedTurn full failed zones doubt asked at old new response h after → Turn full failed zones doubt now request at old new response h after
asked_turn full failed zones doubt now request asked at old new response h after asks told turn =
    let grows = grows_of full failed zones (kind_of response) asked at turn.found turn.taken after (bytes_of response) turn.answered in
    record {
      found = turn.found;
      finds = turn.finds;
      taken = turn.taken;
      answers = record {
        outcome = answered_of full failed zones (kind_of response) now request asked at turn.found turn.taken after (bytes_of response) asks told turn.answered;
        drew = turn.draws.drew;
        few = turn.draws.few;
        grows = grows;
        counts = extends_count grows;
        later = subst (λ (t : ℕ). now ≤ t) (sym told) (later_after now (told_in (moment_by request.moments)));
      };
      gives = turn.draws.gives;
      sends = turn.sends;
      free = turn.free;
    }

-- no other worker holds a shard at a later moment
free_later : (doubt : Option Step) (now at : ℕ) (h : History) → now ≤ at → IsFree doubt now h → IsFree doubt at h
free_later doubt now at h le free = λ found finds. later_free found now at le (free found finds)

stated_later : (now : ℕ) (stated : Option ℕ) (at : ℕ) → at ≡ later_of now stated → now ≤ at
stated_later now stated at is = subst (λ (t : ℕ). now ≤ t) (sym is) (later_after now stated)

pub lives_later : {K : Type 0} (H : Start K → History → Type 0) (doubt : Option Step) (now : ℕ) (stated : Option ℕ) (at : ℕ) → at ≡ later_of now stated → LivesWhere (IsFree doubt now) H → LivesWhere (IsFree doubt at) H
lives_later H doubt now stated at is (since, h, held, free) = (since, h, held, free_later doubt now at h (stated_later now stated at is) free)

-- a request whose moment was read, answered at that
pub stated_turn : {K : Type 0} (H N : Start K → History → Type 0) (full : Step → ℕ → ℕ → Type 0) (failed : Type 0) (zones : Option (List NamedZone)) (doubt : Option Step) (now : ℕ) (request : HttpRequest) (stated : Option ℕ) (at : ℕ) (old new : Outside) (response : Response)
    → moment_by request.moments ≡ Ok stated → at ≡ later_of now stated → CarriesWhere (IsFree doubt at) H N (AskedTurn full failed zones doubt (call_of request true) at old new response)
    → CarriesWhere (IsFree doubt now) H N (Turn full failed zones doubt now request at old new response)
stated_turn H N full failed zones doubt now request stated at old new response reads is turn = λ since h held free.
    let went = turn since h held (free_later doubt now at h (stated_later now stated at is) free) in
    let asks : asked_of request ≡ call_of request true = ap (λ (m : Result (Option ℕ) Refusal). m giving λ stated. call_of request true) reads in
    let told : at ≡ moment_told now request = is ∙ sym (ap (λ (m : Result (Option ℕ) Refusal). later_of now (told_in m)) reads) in
    (went.0, went.1, asked_turn full failed zones doubt now request (call_of request true) at old new response h went.0 asks told went.2)

unstated : (full : Step → ℕ → ℕ → Type 0) (failed : Type 0) (zones : Option (List NamedZone)) (doubt : Option Step) (now : ℕ) (request : HttpRequest) (told : Outside) (fault : DecodeFault) (steps : ℕ) (response : Response) (h : History)
    → Reads {A = Option ℕ} (Err fault) (moment_by request.moments) → IsFree doubt now h → steps ≡ count h → TellsUnread fault steps response → Turn full failed zones doubt now request now told told response h h
unstated full failed zones doubt now request told (unread.Refused refusal) steps response h reads free counts tells =
    let refused : Asked = Err refusal in
    let asks : asked_of request ≡ refused = ap (λ (m : Result (Option ℕ) Refusal). m giving λ stated. call_of request true) reads in
    let stays : now ≡ moment_told now request = sym (ap (λ (m : Result (Option ℕ) Refusal). later_of now (told_in m)) reads) in
    asked_turn full failed zones doubt now request refused now told told response h h asks stays (refused_turn full failed zones doubt now told refused (unread.Refused refusal) steps response h refl free counts tells)
unstated full failed zones doubt now request told unread.OutOfMemory steps response h reads free counts tells =
    let draws = draws_nothing h told.words in
    record {
      found = h;
      finds = found_same doubt h;
      taken = nothing_taken;
      answers = record {
        outcome = as_told (λ kind text. Answered full failed zones kind h now request nothing_taken h now text) ShortOfMemory memory_text response (inl tells)
            (record { part = inl (record { same = refl; told = inl refl }); text = refl }) (record { part = inl (record { same = refl; told = inl refl }); text = refl });
        drew = draws.drew;
        few = draws.few;
        grows = as_it_was;
        counts = omega arith;
        later = omega arith;
      };
      gives = draws.gives;
      sends = sends_nothing h h told.sent (λ before r. r);
      free = free h (found_same doubt h);
    }

-- a request whose moment was not read
pub unstated_turn : {K : Type 0} (H : Start K → History → Type 0) (full : Step → ℕ → ℕ → Type 0) (failed : Type 0) (zones : Option (List NamedZone)) (doubt : Option Step) (now : ℕ) (request : HttpRequest) (told : Outside) (fault : DecodeFault) (steps : ℕ) (response : Response)
    → Reads {A = Option ℕ} (Err fault) (moment_by request.moments) → Shows H (λ h. steps ≡ count h) → TellsUnread fault steps response
    → CarriesWhere (IsFree doubt now) H H (Turn full failed zones doubt now request now told told response)
unstated_turn H full failed zones doubt now request told fault steps response reads counts tells = λ since h held free.
    (h, held, unstated full failed zones doubt now request told fault steps response h reads free (counts since h held) tells)
