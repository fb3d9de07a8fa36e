-- One batch run: a history before it, a Boot upon that, and then each request of the input, served over the
-- history that the one before it left.
use Rattle.std.specs.Prelude.{◌≡◌, ℕ, ◌+◌, ◌-◌, ◌^◌, ◌⊎◌, ◌≤◌, min, List, [], ◌∷◌, ◌++◌, length, Option, IfSome, Err, codes, decimal}
use Rattle.std.specs.List.{flat_map}
use Rattle.zone_occ.specs.declared.zone_files.NamedZone.{NamedZone}
use Rattle.plain_words.specs.Moments.{moment_of}
use Rattle.policy_rules.specs.Given.{Gives as GivesWords}
use Rattle.sched_plain.specs.declared.step.Step.{Step}
use Rattle.sched_plain.specs.declared.step.Step.TheVariants.{Boot}
use Rattle.sched_plain.specs.History.{History, ◌upon◌, count}
use Rattle.sched_plain.specs.Moments.{moment}
use Rattle.sched_calls.specs.declared.reply.Refusal.{Refusal}
use Rattle.sched_calls.specs.Replies.{refusal}
use Rattle.target_link.specs.declared.link.Sent.{Sent}
use Rattle.http_wire.specs.Devices.{Gives, Gets, GetsPart}
use Rattle.http_wire.specs.Framing.{Message, message_bytes, IsFramed, request_of, IsNoMessage, TakesPart, TakesAtMostOne}
use Rattle.sched_top.specs.declared.batch.BatchEnd.{BatchEnd}
use Rattle.sched_top.specs.declared.batch.BatchEnd.TheVariants as ends
use Rattle.sched_top.specs.Serving.{Taken, Kind, Served as IsServedWhole, ShortOfMemory, ZonesFailed, JournalFull, DiskFailed, Answers, answer_text}
use Rattle.sched_top.specs.Keeping.{Keeps}

-- the history once the service is started upon it: a Boot at its last moment, 0 for the first
abbrev pub booted : History → History
booted h = Boot (moment_of (moment h)) upon h

-- a message and the response to it, of which kind that is, and what came from outside while it was answered
pub record Exchange : Type 0 where
  pub message : Message
  pub response : List ℕ
  pub kind : Kind
  pub taken : Taken

-- the messages, one behind the other
abbrev pub bytes_read : List Exchange → List ℕ
bytes_read exchanges = flat_map (λ x. message_bytes x.message) exchanges

-- the responses, one behind the other
abbrev pub bytes_sent : List Exchange → List ℕ
bytes_sent exchanges = flat_map (λ x. x.response) exchanges

-- the words that the picker gave, one behind the other: those that stand in the steps of a request, then those that were
-- dropped with an Enter that was not added
abbrev pub words_of : Taken → List ℕ
words_of taken = taken.words ++ taken.dropped

-- the same of these requests
abbrev pub words_given : List Exchange → List ℕ
words_given exchanges = flat_map (λ x. words_of x.taken) exchanges

-- in memory no step is refused a place
abbrev pub nothing_full : Step → ℕ → ℕ → Type 0
nothing_full step end need = ⊥

-- framed messages in their order, each answered over the history and the moment that the one before it left, in memory,
-- where no journal is full and no disk fails
abbrev pub Served : Option (List NamedZone) → History → ℕ → List Exchange → History → ℕ → Type 0
Served zones before now [] after at = (after ≡ before) × (at ≡ now)
Served zones before now (x ∷ more) after at =
    (middle : History) × (told : ℕ) × IsFramed x.message
    × Answers nothing_full ⊥ zones x.kind before now (request_of x.message) x.taken middle told x.response × Served zones middle told more after at

-- the history after a batch run is the one before it, then a Boot, then what the requests added
abbrev pub Batch : Option (List NamedZone) → History → List Exchange → History → ℕ → Type 0
Batch zones before exchanges after at = Served zones (booted before) (moment before) exchanges after at

-- one for a request that was answered that its zone could not be read
abbrev pub zone_failure : Kind → ℕ
zone_failure IsServedWhole = 0
zone_failure ShortOfMemory = 0
zone_failure ZonesFailed = 1
zone_failure JournalFull = 0
zone_failure DiskFailed = 0

-- how many of these requests were answered so
abbrev pub zone_failures : List Exchange → ℕ
zone_failures [] = 0
zone_failures (x ∷ more) = zone_failure x.kind + zone_failures more

-- a count of faults has risen by so many, or stands at the greatest u64
abbrev pub RoseBy : ℕ → ℕ → ℕ → Type 0
RoseBy many before now = min (before + many) (2 ^ 64 - 1) ≤ now

-- what the devices of a run tell: what is left in its source, what its sink got, which words its picker gave, what its link
-- was handed, and how many calls for a zone failed
pub record Told : Type 0 where
  pub left : Option (List ℕ)
  pub got : Option (List ℕ)
  pub words : Option (List ℕ)
  pub handed : Option (List Sent)
  pub zone_faults : ℕ

-- the same, each in its turn
abbrev pub tells : Option (List ℕ) → Option (List ℕ) → Option (List ℕ) → Option (List Sent) → ℕ → Told
tells left got words handed zone_faults = record { left = left; got = got; words = words; handed = handed; zone_faults = zone_faults }

-- what a batch run did up to an answer: so many requests were read, served and answered, nothing else was taken from the
-- source or given to the sink, no other word was drawn, and the count of failed calls for zones rose with each request that
-- was answered so
pub record Ran (zones : Option (List NamedZone)) (number : ℕ) (before after : History) (at : ℕ) (old new : Told) : Type 0 where
  pub exchanges : List Exchange
  pub many : length exchanges ≡ number
  pub batch : Batch zones before exchanges after at
  pub read : Gives old.left (bytes_read exchanges) new.left
  pub sent : Gets old.got (bytes_sent exchanges) new.got
  pub drew : GivesWords old.words (words_given exchanges) new.words
  pub failed : RoseBy (zone_failures exchanges) old.zone_faults new.zone_faults

-- the run came to the end of its input, and every request was answered
pub record RunFinished (zones : Option (List NamedZone)) (before : History) (old new : Told) : Type 0 where
  pub number : ℕ
  pub after : History
  pub at : ℕ
  pub ran : Ran zones number before after at old new
  pub keeps : Keeps (booted before) after old.handed new.handed
  pub ends : IfSome new.left (λ bytes. bytes ≡ [])

-- the run stopped behind its last answer: what was taken since is so, and nothing more was given, drawn or handed
pub record RunLeft (Takes : Option (List ℕ) → Option (List ℕ) → Type 0) (zones : Option (List NamedZone)) (before : History) (old new : Told) : Type 0 where
  pub number : ℕ
  pub after : History
  pub at : ℕ
  pub last : Told
  pub ran : Ran zones number before after at old last
  pub keeps : Keeps (booted before) after old.handed last.handed
  pub took : Takes last.left new.left
  pub rest : new ≡ record last { left = new.left }

-- the source failed: what was taken since the last answer is no whole request
abbrev pub RunStopped : Option (List NamedZone) → History → Told → Told → Type 0
RunStopped zones before old new = RunLeft TakesPart zones before old new

-- memory was wanted: before the Boot, and nothing was done; or behind the last answer, and nothing past the next request was
-- taken
abbrev pub RunShort : Option (List NamedZone) → History → Told → Told → Type 0
RunShort zones before old new = (new ≡ old) ⊎ RunLeft TakesAtMostOne zones before old new

-- rule 1: what stands there is no request; which one it would be, counted from 1
abbrev pub unframed : ℕ → Refusal
unframed number = refusal 1 400 (codes "request " ++ decimal number)

-- the answer to it, over a history with so many steps
abbrev pub unframed_text : ℕ → ℕ → List ℕ
unframed_text number steps = answer_text (Err (unframed number)) steps

-- something stands behind the last request, and it is none; it was answered so, and nothing else was done
pub record RunUnframed (zones : Option (List NamedZone)) (before : History) (old new : Told) : Type 0 where
  pub number : ℕ
  pub after : History
  pub at : ℕ
  pub last : Told
  pub ran : Ran zones number before after at old last
  pub keeps : Keeps (booted before) after old.handed last.handed
  pub none : IfSome last.left IsNoMessage
  pub took : TakesPart last.left new.left
  pub answered : Gets last.got (unframed_text (number + 1) (count after)) new.got
  pub rest : new ≡ record last { left = new.left; got = new.got }

-- the next request was read, not one byte more, and this is its response; the history is the one at that answer
pub record AnswersNext (zones : Option (List NamedZone)) (after : History) (at : ℕ) (old new : Told) (response : List ℕ) (last : History) : Type 0 where
  pub message : Message
  pub framed : IsFramed message
  pub read : Gives old.left (message_bytes message) new.left
  pub kind : Kind
  pub taken : Taken
  pub told : ℕ
  pub served : Answers nothing_full ⊥ zones kind after at (request_of message) taken last told response
  pub drew : GivesWords old.words (words_of taken) new.words
  pub failed : RoseBy (zone_failure kind) old.zone_faults new.zone_faults

-- or something stands there that is none, and this is the answer; nothing else was done
pub record AnswersNone (number : ℕ) (after : History) (old new : Told) (response : List ℕ) (last : History) : Type 0 where
  pub none : IfSome old.left IsNoMessage
  pub took : TakesPart old.left new.left
  pub text : response ≡ unframed_text (number + 1) (count after)
  pub same : last ≡ after
  pub rest : new ≡ record old { left = new.left; got = new.got }

-- the sink failed while an answer was given: a front of it was taken
pub record RunCutOff (zones : Option (List NamedZone)) (before : History) (old new : Told) : Type 0 where
  pub number : ℕ
  pub after : History
  pub at : ℕ
  pub last : Told
  pub ran : Ran zones number before after at old last
  pub response : List ℕ
  pub at_end : History
  pub due : AnswersNext zones after at last new response at_end ⊎ AnswersNone number after last new response at_end
  pub keeps : Keeps (booted before) at_end old.handed new.handed
  pub part : GetsPart last.got response new.got

-- how a run ends, by what its devices told before and tell now
abbrev pub RunEnds : BatchEnd → Option (List NamedZone) → History → Told → Told → Type 0
RunEnds ends.Finished zones before old new = RunFinished zones before old new
RunEnds ends.SourceFailed zones before old new = RunStopped zones before old new
RunEnds ends.SinkFailed zones before old new = RunCutOff zones before old new
RunEnds ends.OutOfMemory zones before old new = RunShort zones before old new
RunEnds ends.Unframed zones before old new = RunUnframed zones before old new

-- how a run ends with the answer to what is no request: it was given, or a front of it was, or memory was wanted for it
-- and nothing was given
abbrev pub RefusalEnds : BatchEnd → Option (List ℕ) → List ℕ → Option (List ℕ) → Type 0
RefusalEnds ends.Unframed got answer got' = Gets got answer got'
RefusalEnds ends.SinkFailed got answer got' = GetsPart got answer got'
RefusalEnds ends.OutOfMemory got answer got' = got' ≡ got
RefusalEnds end got answer got' = ⊥

-- the words of a batch run: `batch` alone
abbrev pub IsBatch : List (List ℕ) → Type 0
IsBatch words = words ≡ codes "batch" ∷ []

-- the exit status of a batch run
abbrev pub status_of : BatchEnd → ℕ
status_of ends.Finished = 0
status_of ends.SourceFailed = 3
status_of ends.SinkFailed = 4
status_of ends.OutOfMemory = 7
status_of ends.Unframed = 8

-- a batch run ends in one of five ways, and its exit status says in which
pub record EndsWith (status : ℕ) (zones : Option (List NamedZone)) (before : History) (old new : Told) : Type 0 where
  pub end : BatchEnd
  pub says : status ≡ status_of end
  pub run : RunEnds end zones before old new
