-- From the parts of the service to one request answered.
use Rattle.std.proofs.Common.{◌≡◌, ℕ, ◌+◌, Option, Some, Result, Ok, Err, List, [], ◌++◌, length, refl, inl, inr, ap, sym, subst, ◌∙◌, append-nil, arith}
use Rattle.std.specs.Prelude.{◌⊎◌, IfOk, IfErr}
use Rattle.outside.specs.Faults.{Rose}
use Rattle.zone_occ.specs.declared.zone_files.NamedZone.{NamedZone}
use Rattle.target_link.specs.declared.link.Sent.{Sent}
use Rattle.sched_plain.specs.declared.step.Step.{Step}
use Rattle.sched_plain.specs.declared.write.Write.{Write}
use Rattle.sched_plain.specs.History.{History, as_it_was, count}
use Rattle.sched_plain.specs.Moments.{moment_of}
use Rattle.sched_calls.specs.declared.call.Call.{Call}
use Rattle.sched_calls.specs.declared.call.Call.TheVariants as calls
use Rattle.sched_calls.specs.declared.read.Read.{Read}
use Rattle.sched_calls.specs.declared.reply.Refusal.{Refusal}
use Rattle.sched_calls.specs.declared.reply.Reply.{Reply}
use Rattle.sched_calls.specs.declared.reply.Reply.TheVariants as replies
use Rattle.sched_calls.specs.Replies.{answer_to}
use Rattle.sched_calls.specs.Serves.{End, Asked, Finds, ZoneSource, Serves, IsCut, needed_zone, words_in}
use Rattle.sweep_laws.proofs.Additions.{serves_add}
use Rattle.book_parts.specs.Stands.{calendar}
use Rattle.step_keeper.specs.Carrying.{Start, Carries, CarriesTo, CarriesWhere, Shows, same}
use Rattle.durable_book.specs.declared.grow_fault.GrowFault.{GrowFault}
use Rattle.durable_book.specs.declared.grow_fault.GrowFault.TheVariants as grows
use Rattle.durable_book.specs.Acts.{DiskRose}
use Rattle.durable_book.specs.Faults.{grow_denial}
use Rattle.durable_writes.specs.declared.write_fault.WriteFault.{WriteFault}
use Rattle.durable_writes.specs.declared.write_fault.WriteFault.TheVariants as faults
use Rattle.durable_writes.specs.Writing.{IsPart, Writes, CutsWrite, EndsWrite, HasRisen}
use Rattle.timer_work.specs.Swept.{IsFree, SweepsAll, CutsSweep, no_zones}
use Rattle.http_wire.specs.Response.{memory_text}
use Rattle.sched_top.specs.declared.service.response.Response.{Response}
use Rattle.sched_top.specs.Serving.{Kind, Served, ShortOfMemory, ZonesFailed, JournalFull, DiskFailed, Taken, nothing_taken, answer_text, zones_text, disk_text, full_text}
use Rattle.sched_top.specs.Turns.{Outside, kind_of, bytes_of}
use Rattle.sched_top.specs.Asking.{IsTold, TellsWrite, TellsStop, AskedCutShort, AskedCutAnywhere, AskedAnswered, AskedTurn}
use Rattle.sched_top.proofs.ServingStill.{found_same, some_source, draws_nothing, sends_nothing}
use Rattle.sched_top.proofs.ServingQuiet.{Quietly, same_quiet, write_quiet, quiet_front, free_quietly, reported_quietly}
use Rattle.sched_top.proofs.ServingZones.{front_wanting_zone}

-- ---- what a response tells

-- what is so of a kind and its text, and where memory was wanted, is so of a response that tells it
pub as_told : (P : Kind → List ℕ → Type 0) (kind : Kind) (text : List ℕ) (response : Response) → IsTold kind text response → P kind text → P ShortOfMemory memory_text
    → P (kind_of response) (bytes_of response)
as_told P kind text response (inl short) p q = subst (λ (r : Response). P (kind_of r) (bytes_of r)) (sym short) q
as_told P kind text response (inr same) p q = subst (λ (k : Kind). P k (bytes_of response)) (sym same.0) (subst (P kind) (sym same.1) p)

-- ---- a whole serving is cut behind its last step

cut_behind : (source : ZoneSource) (t : ℕ) (found after : History) (words : List ℕ) (ends : List End) (call : Call) (answer : Result Reply Refusal)
    → Serves calendar source t found words ends (Ok call) after [] [] answer → words_in after ≡ words_in found + length words → IsCut calendar source t found words ends call after
cut_behind source t found after words ends call answer serves drew =
    let added = serves_add calendar source t found after words [] ends [] (Ok call) answer serves in
    let all = added.as_many in
    let long = ap (λ (l : List End). length l) (added.in_order ∙ append-nil added.taken) in
    record {
      whole = after;
      more_words = [];
      more_ends = [];
      answer = answer;
      served = subst (λ (w : List ℕ). Serves calendar source t found w (ends ++ []) (Ok call) after [] [] answer) (sym (append-nil words))
          (subst (λ (e : List End). Serves calendar source t found words e (Ok call) after [] [] answer) (sym (append-nil ends)) serves);
      from = added.from;
      part = as_it_was;
      words_drawn = drew;
      ends_taken = omega (arith, all, long);
    }

-- a part that is none or short is a cut anywhere, or none
part_anywhere : (zones : Option (List NamedZone)) (t : ℕ) (asked : Asked) (found : History) (taken : Taken) (after : History) → AskedCutShort zones t asked found taken after
    → (after ≡ found) ⊎ AskedCutAnywhere zones t asked found taken after
part_anywhere zones t asked found taken after cut =
    elim cut.part [
      | inl none ↦ inl none
      | inr short ↦ inr (record { call = cut.call; asks = cut.asks; source = cut.source; telling = cut.telling; cut = short.cut })
    ]

-- ---- a write

abbrev taken_by : List ℕ → List ℕ → List End → Taken
taken_by words dropped ends = record { words = words; dropped = dropped; ends = ends }

-- a write that was served
pub write_served : (full : Step → ℕ → ℕ → Type 0) (failed : Type 0) (zones : Option (List NamedZone)) (doubt : Option Step) (t : ℕ) (write : Write) (told told' : Option (List ℕ)) (sent : Option (List Sent))
    (answer : Result Reply Refusal) (steps : ℕ) (response : Response) (h after : History)
    → Writes doubt t write zones told told' answer h after → IsFree doubt t h → steps ≡ count after → IsTold Served (answer_text answer steps) response
    → AskedTurn full failed zones doubt (Ok (calls.Write write)) t (record { words = told; sent = sent }) (record { words = told'; sent = sent }) response h after
write_served full failed zones doubt t write told told' sent answer steps response h after w free counts tells =
    let taken = taken_by w.words [] [] in
    let quiet = write_quiet calendar w.source t w.found after write w.words [] answer w.served in
    record {
      found = w.found;
      finds = w.finds;
      taken = taken;
      answered = as_told (λ kind text. AskedAnswered full failed zones kind t (Ok (calls.Write write)) w.found taken after text) Served (answer_text answer steps) response tells
          (record { source = w.source; telling = w.telling; answer = answer; serves = (w.served, refl); whole = refl; text = ap (answer_text answer) counts })
          (inr (record { call = calls.Write write; asks = refl; source = w.source; telling = w.telling; cut = cut_behind w.source t w.found after w.words [] (calls.Write write) answer (w.served, refl) w.draws.drew }), refl);
      draws = w.draws;
      sends = sends_nothing w.found after sent (λ before r. reported_quietly quiet before r);
      free = free_quietly t quiet (free w.found w.finds);
    }

part_quiet : (source : ZoneSource) (t : ℕ) (found after : History) (words : List ℕ) (write : Write) → IsPart source t found words [] (calls.Write write) after → Quietly found after
part_quiet source t found after words write (inl none) = same_quiet none
part_quiet source t found after words write (inr short) =
    quiet_front (write_quiet calendar source t found short.cut.whole write (words ++ short.cut.more_words) [] short.cut.answer short.cut.served.0) short.cut.from short.cut.part

-- a write that was cut, and what is answered for it
cut_turn : (full : Step → ℕ → ℕ → Type 0) (failed : Type 0) (zones : Option (List NamedZone)) (doubt : Option Step) (t : ℕ) (write : Write) (told told' : Option (List ℕ)) (sent : Option (List Sent))
    (fault : WriteFault) (kind : Kind) (text : List ℕ) (response : Response) (h after : History)
    → (w : CutsWrite full doubt t write zones told told' fault h after) → IsFree doubt t h → IsTold kind text response
    → (AskedCutShort zones t (Ok (calls.Write write)) w.found (taken_by w.words w.dropped []) after → AskedAnswered full failed zones kind t (Ok (calls.Write write)) w.found (taken_by w.words w.dropped []) after text)
    → AskedTurn full failed zones doubt (Ok (calls.Write write)) t (record { words = told; sent = sent }) (record { words = told'; sent = sent }) response h after
cut_turn full failed zones doubt t write told told' sent fault kind text response h after w free tells says =
    let taken = taken_by w.words w.dropped [] in
    let short : AskedCutShort zones t (Ok (calls.Write write)) w.found taken after = record { call = calls.Write write; asks = refl; source = w.source; telling = w.telling; part = w.part } in
    let quiet = part_quiet w.source t w.found after w.words write w.part in
    record {
      found = w.found;
      finds = w.finds;
      taken = taken;
      answered = as_told (λ kind text. AskedAnswered full failed zones kind t (Ok (calls.Write write)) w.found taken after text) kind text response tells
          (says short) (part_anywhere zones t (Ok (calls.Write write)) w.found taken after short, refl);
      draws = w.draws;
      sends = sends_nothing w.found after sent (λ before r. reported_quietly quiet before r);
      free = free_quietly t quiet (free w.found w.finds);
    }

part_wanting_zone : (source : ZoneSource) (t : ℕ) (found after : History) (words zone : List ℕ) (write : Write) → IsPart source t found words [] (calls.Write write) after
    → needed_zone after write ≡ Some zone → after ≡ found
part_wanting_zone source t found after words zone write (inl none) wants = none
part_wanting_zone source t found after words zone write (inr short) wants =
    front_wanting_zone calendar source t found after short.cut.whole write (words ++ short.cut.more_words) [] zone short.cut.answer short.cut.served.0 short.cut.from short.cut.part wants

-- a write that was not accepted
write_ended : (full : Step → ℕ → ℕ → Type 0) (disk disk' zone zone' : ℕ) (zones : Option (List NamedZone)) (doubt : Option Step) (t : ℕ) (write : Write) (told told' : Option (List ℕ)) (sent : Option (List Sent))
    (fault : WriteFault) (steps : ℕ) (response : Response) (h after : History)
    → EndsWrite full doubt t write zones told told' fault h after → HasRisen disk disk' zone zone' fault → IsFree doubt t h → steps ≡ count after → TellsWrite (Err fault) steps response
    → AskedTurn full (Rose disk disk') zones doubt (Ok (calls.Write write)) t (record { words = told; sent = sent }) (record { words = told'; sent = sent }) response h after
write_ended full disk disk' zone zone' zones doubt t write told told' sent (faults.Refused refusal) steps response h after w risen free counts tells =
    write_served full (Rose disk disk') zones doubt t write told told' sent (Err refusal) steps response h after w free counts tells
write_ended full disk disk' zone zone' zones doubt t write told told' sent (faults.Full end need) steps response h after w risen free counts tells =
    cut_turn full (Rose disk disk') zones doubt t write told told' sent (faults.Full end need) JournalFull (full_text end need steps) response h after w free tells
    (λ short. (short, end, need, w.cause, ap (full_text end need) counts))
write_ended full disk disk' zone zone' zones doubt t write told told' sent faults.DiskFault steps response h after w risen free counts tells =
    cut_turn full (Rose disk disk') zones doubt t write told told' sent faults.DiskFault DiskFailed disk_text response h after w free tells (λ short. (short, risen, refl))
write_ended full disk disk' zone zone' zones doubt t write told told' sent faults.ZoneFailed steps response h after w risen free counts tells =
    let none = part_wanting_zone w.source t w.found after w.words w.cause.0 write w.part w.cause.1 in
    cut_turn full (Rose disk disk') zones doubt t write told told' sent faults.ZoneFailed ZonesFailed zones_text response h after w free tells
    (λ short. (record { write = write; asks = refl; zone = w.cause.0; wants = subst (λ (x : History). needed_zone x write ≡ Some w.cause.0) none w.cause.1; same = none }, refl))
write_ended full disk disk' zone zone' zones doubt t write told told' sent faults.OutOfMemory steps response h after w risen free counts tells =
    cut_turn full (Rose disk disk') zones doubt t write told told' sent faults.OutOfMemory ShortOfMemory memory_text response h after w free (inl tells)
    (λ short. (part_anywhere zones t (Ok (calls.Write write)) w.found (taken_by w.words w.dropped []) after short, refl))

-- however a write ended
pub write_turn : {K : Type 0} (H S N : Start K → History → Type 0) (full : Step → ℕ → ℕ → Type 0) (disk disk' zone zone' : ℕ) (zones : Option (List NamedZone)) (doubt : Option Step) (t : ℕ) (write : Write)
    (told told' : Option (List ℕ)) (sent : Option (List Sent)) (done : Result Reply WriteFault) (steps : ℕ) (response : Response)
    → ((since : Start K) (h : History) → S since h → N since h)
    → IfOk done (λ reply. Carries H S (Writes doubt t write zones told told' (Ok reply)))
    → IfErr done (λ fault. Carries H N (EndsWrite full doubt t write zones told told' fault))
    → IfErr done (HasRisen disk disk' zone zone')
    → Shows N (λ h. steps ≡ count h) → TellsWrite done steps response
    → CarriesWhere (IsFree doubt t) H N (AskedTurn full (Rose disk disk') zones doubt (Ok (calls.Write write)) t (record { words = told; sent = sent }) (record { words = told'; sent = sent }) response)
write_turn H S N full disk disk' zone zone' zones doubt t write told told' sent (Ok reply) steps response holds served ended risen counts tells = λ since h held free.
    let went = served since h held in
    let now = holds since went.0 went.1 in
    (went.0, now, write_served full (Rose disk disk') zones doubt t write told told' sent (Ok reply) steps response h went.0 went.2 free (counts since went.0 now) tells)
write_turn H S N full disk disk' zone zone' zones doubt t write told told' sent (Err fault) steps response holds served ended risen counts tells = λ since h held free.
    let went = ended since h held in
    (went.0, went.1, write_ended full disk disk' zone zone' zones doubt t write told told' sent fault steps response h went.0 went.2 risen free (counts since went.0 went.1) tells)

-- ---- a read

read_shown : (full : Step → ℕ → ℕ → Type 0) (failed : Type 0) (zones : Option (List NamedZone)) (doubt : Option Step) (t : ℕ) (read : Read) (told : Outside) (response : Response) (h found : History)
    → Finds h doubt found → IsFree doubt t h → IsTold Served (answer_text (answer_to found read) (count found)) response
    → AskedTurn full failed zones doubt (Ok (calls.Read read)) t told told response h found
read_shown full failed zones doubt t read told response h found finds free tells =
    let source = some_source zones in
    record {
      found = found;
      finds = finds;
      taken = nothing_taken;
      answered = as_told (λ kind text. AskedAnswered full failed zones kind t (Ok (calls.Read read)) found nothing_taken found text) Served (answer_text (answer_to found read) (count found)) response tells
          (record { source = source.0; telling = source.1; answer = answer_to found read; serves = (refl, refl, refl, refl); whole = refl; text = refl })
          (inl refl, refl);
      draws = draws_nothing found told.words;
      sends = sends_nothing found found told.sent (λ before r. r);
      free = free found finds;
    }

-- a read that was shown
pub read_turn : {K : Type 0} (H S N : Start K → History → Type 0) (full : Step → ℕ → ℕ → Type 0) (failed : Type 0) (zones : Option (List NamedZone)) (doubt : Option Step) (t : ℕ) (read : Read) (told : Outside) (response : Response)
    → ((since : Start K) (h : History) → S since h → N since h) → Carries H S (λ h. Finds h doubt) → Shows N (λ h. IsTold Served (answer_text (answer_to h read) (count h)) response)
    → CarriesWhere (IsFree doubt t) H N (AskedTurn full failed zones doubt (Ok (calls.Read read)) t told told response)
read_turn H S N full failed zones doubt t read told response holds settled tells = λ since h held free.
    let found = settled since h held in
    let now = holds since found.0 found.1 in
    (found.0, now, read_shown full failed zones doubt t read told response h found.0 found.2 free (tells since found.0 now))

-- a read for which the disk failed
pub read_torn : {K : Type 0} (H N : Start K → History → Type 0) (full : Step → ℕ → ℕ → Type 0) (failed : Type 0) (zones : Option (List NamedZone)) (doubt : Option Step) (t : ℕ) (read : Read) (told : Outside) (response : Response)
    → CarriesTo H N same → failed → IsTold DiskFailed disk_text response
    → CarriesWhere (IsFree doubt t) H N (AskedTurn full failed zones doubt (Ok (calls.Read read)) t told told response)
read_torn H N full failed zones doubt t read told response torn risen tells = λ since h held free.
    let source = some_source zones in
    let finds = found_same doubt h in (
      h,
      torn since h held,
      record {
        found = h;
        finds = finds;
        taken = nothing_taken;
        answered = as_told (λ kind text. AskedAnswered full failed zones kind t (Ok (calls.Read read)) h nothing_taken h text) DiskFailed disk_text response tells
            (record { call = calls.Read read; asks = refl; source = source.0; telling = source.1; part = inl refl }, risen, refl)
            (inl refl, refl);
        draws = draws_nothing h told.words;
        sends = sends_nothing h h told.sent (λ before r. r);
        free = free h finds;
      },
    )

-- ---- a sweep

sweep_served : (full : Step → ℕ → ℕ → Type 0) (failed : Type 0) (zones : Option (List NamedZone)) (doubt : Option Step) (t : ℕ) (old new : Outside) (steps : ℕ) (response : Response) (h after : History)
    → SweepsAll doubt t old.words new.words old.sent new.sent h after → steps ≡ count after → IsTold Served (answer_text (Ok (replies.Settled (moment_of t))) steps) response
    → AskedTurn full failed zones doubt (Ok calls.Sweep) t old new response h after
sweep_served full failed zones doubt t old new steps response h after w counts tells =
    let source = some_source zones in
    let taken = taken_by w.words [] w.ends in
    let settled : Result Reply Refusal = Ok (replies.Settled (moment_of t)) in
    record {
      found = w.found;
      finds = w.finds;
      taken = taken;
      answered = as_told (λ kind text. AskedAnswered full failed zones kind t (Ok calls.Sweep) w.found taken after text) Served (answer_text settled steps) response tells
          (record { source = source.0; telling = source.1; answer = settled; serves = (w.swept, refl); whole = refl; text = ap (answer_text settled) counts })
          (inr (record { call = calls.Sweep; asks = refl; source = source.0; telling = source.1; cut = cut_behind source.0 t w.found after w.words w.ends calls.Sweep settled (w.swept, refl) w.draws.drew }), refl);
      draws = w.draws;
      sends = w.sends;
      free = w.free;
    }

-- a sweep that was settled
pub sweep_turn : {K : Type 0} (H S N : Start K → History → Type 0) (full : Step → ℕ → ℕ → Type 0) (failed : Type 0) (zones : Option (List NamedZone)) (doubt : Option Step) (t : ℕ) (old new : Outside) (steps : ℕ) (response : Response)
    → ((since : Start K) (h : History) → S since h → N since h) → CarriesWhere (IsFree doubt t) H S (SweepsAll doubt t old.words new.words old.sent new.sent)
    → Shows N (λ h. steps ≡ count h) → IsTold Served (answer_text (Ok (replies.Settled (moment_of t))) steps) response
    → CarriesWhere (IsFree doubt t) H N (AskedTurn full failed zones doubt (Ok calls.Sweep) t old new response)
sweep_turn H S N full failed zones doubt t old new steps response holds swept counts tells = λ since h held free.
    let went = swept since h held free in
    let now = holds since went.0 went.1 in
    (went.0, now, sweep_served full failed zones doubt t old new steps response h went.0 went.2 (counts since went.0 now) tells)

-- a sweep reads no zones, so that any source will do
any_source : (source other : ZoneSource) (t : ℕ) (found after : History) (words : List ℕ) (ends : List End) → IsPart source t found words ends calls.Sweep after → IsPart other t found words ends calls.Sweep after
any_source source other t found after words ends (inl none) = inl none
any_source source other t found after words ends (inr short) = inr (record {
  cut = record {
    whole = short.cut.whole;
    more_words = short.cut.more_words;
    more_ends = short.cut.more_ends;
    answer = short.cut.answer;
    served = short.cut.served;
    from = short.cut.from;
    part = short.cut.part;
    words_drawn = short.cut.words_drawn;
    ends_taken = short.cut.ends_taken;
  };
  short = short.short;
})

stop_turn : (full : Step → ℕ → ℕ → Type 0) (failed : Type 0) (zones : Option (List NamedZone)) (doubt : Option Step) (t : ℕ) (old new : Outside) (fault : GrowFault) (kind : Kind) (text : List ℕ) (response : Response) (h after : History)
    → (w : CutsSweep full doubt t old.words new.words old.sent new.sent fault h after) → IsTold kind text response
    → (AskedCutShort zones t (Ok calls.Sweep) w.found (taken_by w.words w.dropped w.ends) after → AskedAnswered full failed zones kind t (Ok calls.Sweep) w.found (taken_by w.words w.dropped w.ends) after text)
    → AskedTurn full failed zones doubt (Ok calls.Sweep) t old new response h after
stop_turn full failed zones doubt t old new fault kind text response h after w tells says =
    let source = some_source zones in
    let taken = taken_by w.words w.dropped w.ends in
    let short : AskedCutShort zones t (Ok calls.Sweep) w.found taken after =
    record { call = calls.Sweep; asks = refl; source = source.0; telling = source.1; part = any_source no_zones source.0 t w.found after w.words w.ends w.part } in
    record {
      found = w.found;
      finds = w.finds;
      taken = taken;
      answered = as_told (λ kind text. AskedAnswered full failed zones kind t (Ok calls.Sweep) w.found taken after text) kind text response tells
          (says short) (part_anywhere zones t (Ok calls.Sweep) w.found taken after short, refl);
      draws = w.draws;
      sends = w.sends;
      free = w.free;
    }

sweep_cut : (full : Step → ℕ → ℕ → Type 0) (disk disk' : ℕ) (zones : Option (List NamedZone)) (doubt : Option Step) (t : ℕ) (old new : Outside) (fault : GrowFault) (steps : ℕ) (response : Response) (h after : History)
    → CutsSweep full doubt t old.words new.words old.sent new.sent fault h after → DiskRose disk disk' (grow_denial fault) → steps ≡ count after → TellsStop fault steps response
    → AskedTurn full (Rose disk disk') zones doubt (Ok calls.Sweep) t old new response h after
sweep_cut full disk disk' zones doubt t old new (grows.Full end need) steps response h after w risen counts tells =
    stop_turn full (Rose disk disk') zones doubt t old new (grows.Full end need) JournalFull (full_text end need steps) response h after w tells (λ short. (short, end, need, w.cause, ap (full_text end need) counts))
sweep_cut full disk disk' zones doubt t old new grows.DiskFault steps response h after w risen counts tells =
    stop_turn full (Rose disk disk') zones doubt t old new grows.DiskFault DiskFailed disk_text response h after w tells (λ short. (short, risen, refl))
sweep_cut full disk disk' zones doubt t old new grows.OutOfMemory steps response h after w risen counts tells =
    stop_turn full (Rose disk disk') zones doubt t old new grows.OutOfMemory ShortOfMemory memory_text response h after w (inl tells)
    (λ short. (part_anywhere zones t (Ok calls.Sweep) w.found (taken_by w.words w.dropped w.ends) after short, refl))

-- a sweep that was cut
pub sweep_stopped : {K : Type 0} (H N : Start K → History → Type 0) (full : Step → ℕ → ℕ → Type 0) (disk disk' : ℕ) (zones : Option (List NamedZone)) (doubt : Option Step) (t : ℕ) (old new : Outside) (fault : GrowFault) (steps : ℕ) (response : Response)
    → CarriesWhere (IsFree doubt t) H N (CutsSweep full doubt t old.words new.words old.sent new.sent fault) → DiskRose disk disk' (grow_denial fault)
    → Shows N (λ h. steps ≡ count h) → TellsStop fault steps response
    → CarriesWhere (IsFree doubt t) H N (AskedTurn full (Rose disk disk') zones doubt (Ok calls.Sweep) t old new response)
sweep_stopped H N full disk disk' zones doubt t old new fault steps response stopped risen counts tells = λ since h held free.
    let went = stopped since h held free in
    (went.0, went.1, sweep_cut full disk disk' zones doubt t old new fault steps response h went.0 went.2 risen (counts since went.0 went.1) tells)
