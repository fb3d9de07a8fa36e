-- One request served over a history: what it asks for, the history at its answer, and the response.
use Rattle.std.specs.Prelude.{◌≡◌, ◌⊎◌, ℕ, ◌+◌, ◌≤◌, true, max, Option, Some, None, Result, Ok, Err, List, [], ◌++◌, length, codes, decimal}
use Rattle.plain_words.specs.declared.limits.TheConstants.{MOST_PAIRS}
use Rattle.zone_occ.specs.declared.zone_files.NamedZone.{NamedZone}
use Rattle.sched_plain.specs.declared.step.Step.{Step}
use Rattle.sched_plain.specs.History.{History, Extends, count}
use Rattle.sched_calls.specs.declared.call.Call.{Call}
use Rattle.sched_calls.specs.declared.call.Call.TheVariants as calls
use Rattle.sched_calls.specs.declared.reply.Refusal.{Refusal}
use Rattle.sched_calls.specs.declared.reply.Reply.{Reply}
use Rattle.sched_calls.specs.Replies.{refusal}
use Rattle.sched_calls.specs.Serves.{End, Asked, ZoneSource, Serves, IsCut, words_in, needed_zone}
use Rattle.sched_plain.specs.declared.write.Write.{Write}
use Rattle.book_parts.specs.Stands.{calendar}
use Rattle.http_wire.specs.declared.request.HttpRequest.{HttpRequest}
use Rattle.http_wire.specs.Response.{response_text, error_text, memory_text}
use Rattle.request_fields.specs.Refusals.{◌giving◌}
use Rattle.request_calls.specs.Calls.{call_of}
use Rattle.request_calls.specs.Moments.{moment_of}
use Rattle.reply_bodies.specs.Bodies.{body_of}
use Rattle.reply_bodies.specs.Messages.{message_body, refusal_message}
use Rattle.durable_writes.specs.Writing.{IsSource, IsFull, IsPart}

-- what a request asks for: its call, or the first rule that it breaks; the moment that it tells is looked at first
abbrev pub asked_of : HttpRequest → Asked
asked_of request = moment_of request.moments giving λ stated. call_of request true

-- the moment that a request tells, if it tells one that may stand so
abbrev pub told_in : Result (Option ℕ) Refusal → Option ℕ
told_in (Ok stated) = stated
told_in (Err refusal) = None

-- the moment of the service once a request has told its own: the larger of the two
abbrev pub later_of : ℕ → Option ℕ → ℕ
later_of now None = now
later_of now (Some stated) = max now stated

-- the moment at which a request is served: also where it is refused by what it asks for
abbrev pub moment_told : ℕ → HttpRequest → ℕ
moment_told now request = later_of now (told_in (moment_of request.moments))

-- what came from outside while a request was answered: the words of the picker that stand in its steps, the words that were
-- dropped with an Enter that was not added, and how its attempts ended
pub record Taken : Type 0 where
  pub words : List ℕ
  pub dropped : List ℕ
  pub ends : List End

abbrev pub nothing_taken : Taken
nothing_taken = record { words = []; dropped = []; ends = [] }

-- how a request is answered: it is served; it is cut, since memory was wanted, its zone could not be read, a journal was full or
-- a disk failed
pub data Kind : Type 0 where
  Served : Kind
  ShortOfMemory : Kind
  ZonesFailed : Kind
  JournalFull : Kind
  DiskFailed : Kind

-- the response that gives an answer over a history with so many steps
abbrev pub answer_text : Result Reply Refusal → ℕ → List ℕ
answer_text (Ok reply) steps = response_text 200 None (body_of reply) (Some steps)
answer_text (Err refusal) steps = error_text refusal.status (message_body (refusal_message refusal)) (Some steps)

-- the responses of requests that were cut; they tell nothing of the history, but where the journal is full
abbrev pub zones_text : List ℕ
zones_text = error_text 500 (message_body (codes "zones")) None

abbrev pub disk_text : List ℕ
disk_text = error_text 500 (message_body (codes "disk")) None

abbrev pub full_text : ℕ → ℕ → ℕ → List ℕ
full_text end need steps = answer_text (Err (refusal 13 402 (codes "end " ++ decimal end ++ codes " need " ++ decimal need))) steps

-- a request that was served, and its response gives its answer and the number of steps of the history
pub record IsServed (zones : Option (List NamedZone)) (before : History) (now : ℕ) (request : HttpRequest) (taken : Taken) (after : History) (at : ℕ) (response : List ℕ) : Type 0 where
  pub source : ZoneSource
  pub telling : IsSource zones source
  pub answer : Result Reply Refusal
  pub serves : Serves calendar source (moment_told now request) before taken.words taken.ends (asked_of request) after [] [] answer
  pub whole : taken.dropped ≡ []
  pub told : at ≡ moment_told now request
  pub text : response ≡ answer_text answer (count after)

-- a front of the steps was added that serving the call of a request adds, perhaps none, and never all of them
pub record IsCutShort (zones : Option (List NamedZone)) (before : History) (now : ℕ) (request : HttpRequest) (taken : Taken) (after : History) (at : ℕ) : Type 0 where
  pub call : Call
  pub asks : asked_of request ≡ Ok call
  pub source : ZoneSource
  pub telling : IsSource zones source
  pub part : IsPart source (moment_told now request) before taken.words taken.ends call after
  pub told : at ≡ moment_told now request

-- a front of them, or all of them: memory may be wanted for the response
pub record IsCutAnywhere (zones : Option (List NamedZone)) (before : History) (now : ℕ) (request : HttpRequest) (taken : Taken) (after : History) (at : ℕ) : Type 0 where
  pub call : Call
  pub asks : asked_of request ≡ Ok call
  pub source : ZoneSource
  pub telling : IsSource zones source
  pub cut : IsCut calendar source (moment_told now request) before taken.words taken.ends call after
  pub told : at ≡ moment_told now request

-- nothing was added; the moment that the request tells may not have been read
pub record IsUntouched (before : History) (now : ℕ) (request : HttpRequest) (after : History) (at : ℕ) : Type 0 where
  pub same : after ≡ before
  pub told : (at ≡ now) ⊎ (at ≡ moment_told now request)

-- a request for which memory was wanted
pub record IsShortOfMemory (zones : Option (List NamedZone)) (before : History) (now : ℕ) (request : HttpRequest) (taken : Taken) (after : History) (at : ℕ) (response : List ℕ) : Type 0 where
  pub part : IsUntouched before now request after at ⊎ IsCutAnywhere zones before now request taken after at
  pub text : response ≡ memory_text

-- a write whose zone is wanted, and could not be read: nothing was added
pub record IsWithoutZones (before : History) (now : ℕ) (request : HttpRequest) (after : History) (at : ℕ) (response : List ℕ) : Type 0 where
  pub write : Write
  pub asks : asked_of request ≡ Ok (calls.Write write)
  pub zone : List ℕ
  pub wants : needed_zone before write ≡ Some zone
  pub same : after ≡ before
  pub told : at ≡ moment_told now request
  pub text : response ≡ zones_text

-- a request whose next step had no room in the journal
pub record IsOverFull (full : Step → ℕ → ℕ → Type 0) (zones : Option (List NamedZone)) (before : History) (now : ℕ) (request : HttpRequest) (taken : Taken) (after : History) (at : ℕ) (response : List ℕ) : Type 0 where
  pub cut : IsCutShort zones before now request taken after at
  pub end : ℕ
  pub need : ℕ
  pub has_no_room : IsFull full end need after
  pub text : response ≡ full_text end need (count after)

-- a request in which a call of the disk failed
pub record IsOnFailedDisk (failed : Type 0) (zones : Option (List NamedZone)) (before : History) (now : ℕ) (request : HttpRequest) (taken : Taken) (after : History) (at : ℕ) (response : List ℕ) : Type 0 where
  pub has_failed : failed
  pub cut : IsCutShort zones before now request taken after at
  pub text : response ≡ disk_text

-- a request answered in one of these ways: `full` says of a step that the journal has no room for it, `failed` that the disk
-- failed meanwhile
abbrev pub Answered : (Step → ℕ → ℕ → Type 0) → Type 0 → Option (List NamedZone) → Kind → History → ℕ → HttpRequest → Taken → History → ℕ → List ℕ → Type 0
Answered full failed zones Served before now request taken after at response = IsServed zones before now request taken after at response
Answered full failed zones ShortOfMemory before now request taken after at response = IsShortOfMemory zones before now request taken after at response
Answered full failed zones ZonesFailed before now request taken after at response = IsWithoutZones before now request after at response
Answered full failed zones JournalFull before now request taken after at response = IsOverFull full zones before now request taken after at response
Answered full failed zones DiskFailed before now request taken after at response = IsOnFailedDisk failed zones before now request taken after at response

-- one request answered: from a history and the moment told last to those at its answer. The words that were drawn for it are
-- those that stand in the steps between, and at most 256 more. Nothing is taken from the history, so that its count never falls
pub record Answers (full : Step → ℕ → ℕ → Type 0) (failed : Type 0) (zones : Option (List NamedZone)) (kind : Kind) (before : History) (now : ℕ) (request : HttpRequest) (taken : Taken) (after : History) (at : ℕ) (response : List ℕ) : Type 0 where
  pub outcome : Answered full failed zones kind before now request taken after at response
  pub drew : words_in after ≡ words_in before + length taken.words
  pub few : length taken.dropped ≤ MOST_PAIRS
  pub grows : Extends before after
  pub counts : count before ≤ count after
  pub later : now ≤ at
