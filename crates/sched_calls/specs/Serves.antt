-- One request served: what it adds to the history before it, and what it is answered. All steps that it adds have
-- one moment. The picker's words and the ends of its attempts come from outside, each taken in order.
use Rattle.std.specs.Prelude.{◌≡◌, ◌≢◌, ◌⊎◌, ℕ, ◌+◌, ◌*◌, ◌%◌, ◌==◌, nat_le, Bool, true, false, not, ◌&&◌, if◌then◌else◌, Option, Some, None, is_some, Result, Ok, Err, List, [], ◌∷◌, ◌++◌, length, take, drop}
use Rattle.std.specs.Option.{option_and_then}
use Rattle.sched_calls.specs.declared.call.Call.{Call}
use Rattle.sched_calls.specs.declared.call.Call.TheVariants as calls
use Rattle.sched_plain.specs.declared.entry.Filed.{Filed}
use Rattle.sched_calls.specs.declared.reply.Refusal.{Refusal}
use Rattle.sched_calls.specs.declared.reply.Reply.{Reply}
use Rattle.sched_calls.specs.declared.reply.Reply.TheVariants as replies
use Rattle.sched_plain.specs.declared.step.Pair.{Pair}
use Rattle.sched_plain.specs.declared.step.Step.{Step}
use Rattle.sched_plain.specs.declared.step.Step.TheVariants as steps
use Rattle.sched_plain.specs.declared.outcome.Reason.{Reason}
use Rattle.plain_words.specs.declared.verdict.Verdict.{Verdict}
use Rattle.sched_plain.specs.declared.why.RowFault.{RowFault}
use Rattle.sched_plain.specs.declared.work.Work.TheVariants as works
use Rattle.sched_plain.specs.declared.write.Write.{Write}
use Rattle.sched_plain.specs.History.{History, beginning, based, ◌upon◌, Extends}
use Rattle.plain_words.specs.Ids.{shard_of}
use Rattle.plain_words.specs.Moments.{moment_of}
use Rattle.plain_words.specs.Lists.{head, some_pass}
use Rattle.sched_plain.specs.Changes.{changes_of}
use Rattle.sched_plain.specs.Rows.{rows_of, touched_by, content_at}
use Rattle.sched_plain.specs.Groups.{groups_of, row_fault}
use Rattle.sched_plain.specs.Zones.{bytes_of, is_utc}
use Rattle.expressions.specs.Calendar.{Calendar}
use Rattle.sched_plain.specs.Leases.{holder}
use Rattle.sched_plain.specs.Ledger.{ledger_of}
use Rattle.sched_plain.specs.Entries.{filed}
use Rattle.sched_plain.specs.Marks.{unentered}
use Rattle.sched_plain.specs.Tokens.{Kept, kept_of, kept_under, token_of}
use Rattle.sched_plain.specs.Seen.{seen}
use Rattle.sched_plain.specs.Work.{work}
use Rattle.sched_plain.specs.Rules.{window_of, zone_of}
use Rattle.sched_calls.specs.Replies.{reply_to, token_refusal, row_refusal, zone_refusal, answer_to}
use Rattle.plain_words.specs.declared.limits.TheConstants.{MOST_PAIRS, LEASE_SECONDS, LONGEST_ZONE}

-- the moment chosen in a window of so many minutes: the instant itself where it has none
abbrev pub chosen_in : ℕ → ℕ → ℕ → ℕ
chosen_in window instant word = if window == 0 then instant else instant + word % (60 * window)

-- the next word of the picker, and the words behind it; an instant without a window draws none
abbrev pub next_word : List ℕ → ℕ
next_word [] = 0
next_word (word ∷ words) = word

abbrev pub words_behind : ℕ → List ℕ → List ℕ
words_behind window words = if window == 0 then words else drop 1 words

-- the pairs of these instants, each chosen in its own window
abbrev pub drawn : (ℕ → ℕ) → List ℕ → List ℕ → List Pair
drawn window [] words = []
drawn window (instant ∷ more) words =
    record { instant = instant; chosen = chosen_in (window instant) instant (next_word words) }
    ∷ drawn window more (words_behind (window instant) words)

-- the words that are left when these instants were chosen
abbrev pub words_after : (ℕ → ℕ) → List ℕ → List ℕ → List ℕ
words_after window [] words = words
words_after window (instant ∷ more) words = words_after window more (words_behind (window instant) words)

-- the window of an incarnation at an instant
abbrev pub windows_of : History → ℕ → ℕ → ℕ
windows_of h inc instant = window_of (content_at (rows_of (changes_of h)) inc instant)

-- the instants of the Enter that is wanted for an incarnation: the first unentered ones, at most 256
abbrev pub wanted : Calendar → History → ℕ → ℕ → List ℕ
wanted c h inc t = take MOST_PAIRS (unentered c h inc t)

-- the Enter that is wanted, with the picker's words
abbrev pub wanted_enter : Calendar → History → ℕ → ℕ → List ℕ → Step
wanted_enter c h inc t words = steps.Enter (moment_of t) inc (drawn (windows_of h inc) (wanted c h inc t) words)

-- the words left after it
abbrev pub words_left : Calendar → History → ℕ → ℕ → List ℕ → List ℕ
words_left c h inc t words = words_after (windows_of h inc) (wanted c h inc t) words

-- the number of the next attempt of an occurrence
abbrev pub number_after : Option Filed → ℕ
number_after None = 1
number_after (Some filed) = filed.entry.used + 1

abbrev pub next_number : History → ℕ → ℕ → ℕ
next_number h inc instant = number_after (filed (ledger_of h) inc instant)

-- the wanted Enters of these incarnations, one incarnation after another, until none of them has an unentered
-- occurrence: from a history and words to a history and the words left
pub data CatchUp (c : Calendar) (t : ℕ) : List ℕ → History → List ℕ → History → List ℕ → Type 0 where
  caught_up : {h : History} {words : List ℕ} → CatchUp c t [] h words h words
  next_incarnation : {inc : ℕ} {incs : List ℕ} {h h' : History} {words words' : List ℕ}
      → unentered c h inc t ≡ [] → CatchUp c t incs h words h' words' → CatchUp c t (inc ∷ incs) h words h' words'
  enters_first : {inc instant : ℕ} {incs : List ℕ} {h h' : History} {words words' : List ℕ}
      → head (unentered c h inc t) ≡ Some instant
      → CatchUp c t (inc ∷ incs) (wanted_enter c h inc t words upon h) (words_left c h inc t words) h' words'
      → CatchUp c t (inc ∷ incs) h words h' words'

-- the verdict and the status of an attempt
abbrev pub End : Type 0
End = Verdict × ℕ

-- an attempt begun and ended: its two steps
abbrev pub begin_of : History → ℕ → ℕ → ℕ → Step
begin_of h t inc instant = steps.Begin (moment_of t) inc instant (next_number h inc instant) (holder h (shard_of inc)).epoch

abbrev pub end_of : History → ℕ → ℕ → ℕ → End → Step
end_of h t inc instant end = steps.End (moment_of t) inc instant (next_number h inc instant) end.0 end.1

-- the next work of a shard, step after step, each Begin followed by its End, until it is settled: from a history,
-- words and ends to a history and those left
pub data Works (c : Calendar) (t shard : ℕ) : History → List ℕ → List End → History → List ℕ → List End → Type 0 where
  settled : {h : History} {words : List ℕ} {ends : List End}
      → work (seen c h) shard t ≡ works.Settled → Works c t shard h words ends h words ends
  enters : {inc : ℕ} {h h' : History} {words words' : List ℕ} {ends ends' : List End}
      → work (seen c h) shard t ≡ works.Enter inc
      → Works c t shard (wanted_enter c h inc t words upon h) (words_left c h inc t words) ends h' words' ends'
      → Works c t shard h words ends h' words' ends'
  closes : {inc instant : ℕ} {reason : Reason} {h h' : History} {words words' : List ℕ} {ends ends' : List End}
      → work (seen c h) shard t ≡ works.Close inc instant reason
      → Works c t shard (steps.Close (moment_of t) inc instant reason upon h) words ends h' words' ends'
      → Works c t shard h words ends h' words' ends'
  begins : {inc instant : ℕ} {end : End} {h h' : History} {words words' : List ℕ} {ends ends' : List End}
      → work (seen c h) shard t ≡ works.Begin inc instant
      → Works c t shard (end_of h t inc instant end upon begin_of h t inc instant upon h) words ends h' words' ends'
      → Works c t shard h words (end ∷ ends) h' words' ends'
  completes : {inc : ℕ} {h h' : History} {words words' : List ℕ} {ends ends' : List End}
      → work (seen c h) shard t ≡ works.Complete inc
      → Works c t shard (steps.Complete (moment_of t) inc upon h) words ends h' words' ends'
      → Works c t shard h words ends h' words' ends'

-- worker 0 takes a shard
abbrev pub taking_of : History → ℕ → ℕ → Step
taking_of h t shard = steps.Lease (moment_of t) shard 0 ((holder h shard).epoch + 1) (t + LEASE_SECONDS)

-- worker 0 gives the shard back
abbrev pub release_of : History → ℕ → ℕ → Step
release_of h t shard = steps.Release (moment_of t) shard 0 (holder h shard).epoch

-- these shards, one after another: each taken, worked until it is settled, swept and given back
pub data Sweeps (c : Calendar) (t : ℕ) : List ℕ → History → List ℕ → List End → History → List ℕ → List End → Type 0 where
  swept : {h : History} {words : List ℕ} {ends : List End} → Sweeps c t [] h words ends h words ends
  next_shard : {shard : ℕ} {shards : List ℕ} {h mid h' : History} {words some_left words' : List ℕ} {ends some_ends ends' : List End}
      → Works c t shard (taking_of h t shard upon h) words ends mid some_left some_ends
      → Sweeps c t shards (release_of mid t shard upon steps.Swept (moment_of t) shard upon mid) some_left some_ends h' words' ends'
      → Sweeps c t (shard ∷ shards) h words ends h' words' ends'

-- all shards, in order
abbrev pub all_shards : List ℕ
all_shards = 0 ∷ 1 ∷ 2 ∷ 3 ∷ 4 ∷ 5 ∷ 6 ∷ 7 ∷ []

-- the write that kept the token of this one
abbrev pub kept_for : History → Write → Option Kept
kept_for h write = option_and_then (kept_under (kept_of h)) (token_of write)

-- the first fault of a write over the schedules and groups of a history
abbrev pub fault_of : History → Write → Option RowFault
fault_of h write = row_fault (rows_of (changes_of h)) (groups_of (changes_of h)) write

-- the zone that a write needs a Zone step for: the one of its content, unless it is built in or has a Zone step
abbrev pub needed_zone : History → Write → Option (List ℕ)
needed_zone h write = option_and_then (λ zone. if is_utc zone then None else (if is_some (bytes_of h zone) then None else Some zone)) (zone_of write)

-- where zones are read from: the bytes of a name, if there are any
abbrev pub ZoneSource : Type 0
ZoneSource = List ℕ → Option (List ℕ)

-- the bytes are a zone
abbrev pub is_zone : Calendar → List ℕ → Bool
is_zone c bytes = c.readable bytes && nat_le (length bytes) LONGEST_ZONE

-- a zone that is needed cannot be had: there are no bytes of it, or they are not a zone
abbrev pub lacks_zone : Calendar → ZoneSource → Option (List ℕ) → Bool
lacks_zone c source None = false
lacks_zone c source (Some zone) = not (some_pass (is_zone c) (source zone))

-- the history with the Zone step that a write needs
abbrev pub zone_step : ℕ → List ℕ → Option (List ℕ) → History → History
zone_step t name None h = h
zone_step t name (Some bytes) h = steps.Zone (moment_of t) name bytes upon h

abbrev pub with_zone : ZoneSource → ℕ → Option (List ℕ) → History → History
with_zone source t None h = h
with_zone source t (Some zone) h = zone_step t zone (source zone) h

-- the token was kept by the same write: it gets the first reply, and nothing changes
pub record Repeats (before : History) (write : Write) (after : History) (answer : Result Reply Refusal) : Type 0 where
  pub kept : Kept
  pub found : kept_for before write ≡ Some kept
  pub repeated : kept.write ≡ write
  pub unchanged : after ≡ before
  pub answered : answer ≡ Ok (reply_to write)

-- the token was kept by another write: rule 8
pub record Clashes (before : History) (write : Write) (after : History) (answer : Result Reply Refusal) : Type 0 where
  pub kept : Kept
  pub found : kept_for before write ≡ Some kept
  pub other : kept.write ≢ write
  pub unchanged : after ≡ before
  pub answered : answer ≡ Err (token_refusal kept.place)

-- the schedules and groups do not allow the write: rules 9 to 11
pub record Faults (before : History) (write : Write) (after : History) (answer : Result Reply Refusal) : Type 0 where
  pub new : kept_for before write ≡ None
  pub fault : RowFault
  pub found : fault_of before write ≡ Some fault
  pub unchanged : after ≡ before
  pub answered : answer ≡ Err (row_refusal write fault)

-- the zone of its content cannot be had: rule 12
pub record LacksZone (c : Calendar) (source : ZoneSource) (before : History) (write : Write) (after : History) (answer : Result Reply Refusal) : Type 0 where
  pub new : kept_for before write ≡ None
  pub allowed : fault_of before write ≡ None
  pub lacking : lacks_zone c source (needed_zone before write) ≡ true
  pub unchanged : after ≡ before
  pub answered : answer ≡ Err zone_refusal

-- the write is accepted: a Zone step where its content needs one, the wanted Enters of what it touches, the Change
pub record Accepts (c : Calendar) (source : ZoneSource) (t : ℕ) (before : History) (write : Write) (words : List ℕ) (after : History) (left : List ℕ) (answer : Result Reply Refusal) : Type 0 where
  pub new : kept_for before write ≡ None
  pub allowed : fault_of before write ≡ None
  pub zone : lacks_zone c source (needed_zone before write) ≡ false
  pub entered : History
  pub caught_up : CatchUp c t (touched_by (rows_of (changes_of before)) write) (with_zone source t (needed_zone before write) before) words entered left
  pub added : after ≡ steps.Change (moment_of t) write upon entered
  pub answered : answer ≡ Ok (reply_to write)

-- a write served; where nothing is added no word is drawn
abbrev pub ServesWrite : Calendar → ZoneSource → ℕ → History → Write → List ℕ → History → List ℕ → Result Reply Refusal → Type 0
ServesWrite c source t before write words after left answer =
    ((left ≡ words)
    × (Repeats before write after answer ⊎ (Clashes before write after answer ⊎ (Faults before write after answer ⊎ LacksZone c source before write after answer))))
    ⊎ Accepts c source t before write words after left answer

-- what is asked: a call, or a request that broke a rule before it was one
abbrev pub Asked : Type 0
Asked = Result Call Refusal

-- one request served: from the history before it, the words and ends at hand, to the history at its answer and the
-- words and ends left. A request that is no call is answered by its refusal; a read by what it shows or the rule that
-- it breaks; a sweep when every shard is settled.
abbrev pub Serves : Calendar → ZoneSource → ℕ → History → List ℕ → List End → Asked → History → List ℕ → List End → Result Reply Refusal → Type 0
Serves c source t before words ends (Err refusal) after left ends_left answer =
    (after ≡ before) × (left ≡ words) × (ends_left ≡ ends) × (answer ≡ Err refusal)
Serves c source t before words ends (Ok (calls.Write write)) after left ends_left answer =
    ServesWrite c source t before write words after left answer × (ends_left ≡ ends)
Serves c source t before words ends (Ok (calls.Read read)) after left ends_left answer =
    (after ≡ before) × (left ≡ words) × (ends_left ≡ ends) × (answer ≡ answer_to before read)
Serves c source t before words ends (Ok calls.Sweep) after left ends_left answer =
    Sweeps c t all_shards before words ends after left ends_left × (answer ≡ Ok (replies.Settled (moment_of t)))

-- how many words the pairs of an Enter drew: one for each instant with a window
abbrev pub words_of : (ℕ → ℕ) → List Pair → ℕ
words_of window [] = 0
words_of window (pair ∷ pairs) = if window pair.instant == 0 then words_of window pairs else words_of window pairs + 1

-- how many words the Enters of a history drew: those that stand in it
abbrev pub words_in : History → ℕ
words_in beginning = 0
words_in (based b kept) = words_in kept
words_in (steps.Enter at inc pairs upon h) = words_in h + words_of (windows_of h inc) pairs
words_in (s upon h) = words_in h

-- how many attempts of a history have their End: those that stand in it
abbrev pub ends_in : History → ℕ
ends_in beginning = 0
ends_in (based b kept) = ends_in kept
ends_in (steps.End at inc instant number verdict status upon h) = ends_in h + 1
ends_in (s upon h) = ends_in h

-- a request that was cut off: the history at its answer is the one before it with a prefix of the steps that serving
-- it whole adds. The words and the ends are those of the steps that stand; what serving it whole would have taken
-- besides is not known
pub record IsCut (c : Calendar) (source : ZoneSource) (t : ℕ) (before : History) (words : List ℕ) (ends : List End) (call : Call) (after : History) : Type 0 where
  pub whole : History
  pub more_words : List ℕ
  pub more_ends : List End
  pub answer : Result Reply Refusal
  pub served : Serves c source t before (words ++ more_words) (ends ++ more_ends) (Ok call) whole [] [] answer
  pub from : Extends before after
  pub part : Extends after whole
  pub words_drawn : words_in after ≡ words_in before + length words
  pub ends_taken : ends_in after ≡ ends_in before + length ends

-- cut off before its last step, as each is that met a full journal or a failed disk; a request that was cut before its
-- first step added nothing
pub record IsCutShort (c : Calendar) (source : ZoneSource) (t : ℕ) (before : History) (words : List ℕ) (ends : List End) (call : Call) (after : History) : Type 0 where
  pub cut : IsCut c source t before words ends call after
  pub short : (after ≡ before) ⊎ (after ≢ cut.whole)

-- the history that a request finds: the one that was answered last, or that with the step on it that a failed disk
-- had left in doubt
abbrev pub Finds : History → Option Step → History → Type 0
Finds before None found = found ≡ before
Finds before (Some doubted) found = (found ≡ before) ⊎ (found ≡ doubted upon before)
