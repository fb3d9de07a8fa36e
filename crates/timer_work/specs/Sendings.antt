-- What is sent for the attempts of a history, and what comes back for them.
use Rattle.std.specs.Prelude.{◌≡◌, ℕ, ◌+◌, ◌==◌, ◌&&◌, if◌then◌else◌, Option, Some, None, List, [], ◌++◌, map, length}
use Rattle.std.specs.Option.{option_map, option_and_then, option_to_list}
use Rattle.sched_plain.specs.declared.row.Row.{Row}
use Rattle.sched_plain.specs.declared.schedule.Schedule.{Schedule}
use Rattle.sched_plain.specs.declared.step.Step.TheVariants as steps
use Rattle.plain_words.specs.declared.verdict.Verdict.{Verdict}
use Rattle.plain_words.specs.declared.verdict.Verdict.TheVariants as verdicts
use Rattle.sched_plain.specs.History.{History, beginning, based, ◌upon◌}
use Rattle.plain_words.specs.Lists.{nth}
use Rattle.sched_plain.specs.Changes.{changes_of}
use Rattle.sched_plain.specs.Rows.{rows_of, content_at}
use Rattle.sched_calls.specs.Replies.{schedule_arn}
use Rattle.target_link.specs.declared.address.Address.{Address}
use Rattle.target_link.specs.declared.link.Heard.{Heard}
use Rattle.target_link.specs.declared.link.Heard.TheVariants as came
use Rattle.target_link.specs.declared.link.Sent.{Sent}
use Rattle.target_link.specs.declared.link.TheConstants.{LONGEST_REPLY}
use Rattle.target_link.specs.declared.request.BeginFacts.{BeginFacts}
use Rattle.target_link.specs.Address.{target_spot}
use Rattle.target_link.specs.Attempt.{request_text}
use Rattle.target_link.specs.Told.{with_sent}
use Rattle.target_link.specs.Verdict.{SaysVerdict}

-- a request: where it goes, its bytes, and for how many bytes of a reply there is room
pub record Request : Type 0 where
  pub to : Address
  pub text : List ℕ
  pub room : ℕ

-- what the request of an attempt says, by the content of its schedule: nothing where the target is no address
abbrev pub facts_by : ℕ → ℕ → ℕ → List ℕ → Schedule → Option BeginFacts
facts_by inc instant number arn content =
    option_map (λ spot. record { arn = arn; inc = inc; instant = instant; number = number; spot = spot; input = content.input })
    (target_spot content.target)

-- the same by the names of its schedule
abbrev pub facts_named : History → ℕ → ℕ → ℕ → Row → Option BeginFacts
facts_named h inc instant number row =
    option_and_then (facts_by inc instant number (schedule_arn row.group row.name)) (content_at (rows_of (changes_of h)) inc instant)

-- what the request of an attempt says, by the names of its schedule and the content that covers the instant
abbrev pub facts_of : History → ℕ → ℕ → ℕ → Option BeginFacts
facts_of h inc instant number = option_and_then (facts_named h inc instant number) (nth (rows_of (changes_of h)) inc)

-- the request that says so, with room for the longest reply
abbrev pub request_by : BeginFacts → Request
request_by facts = record { to = facts.spot.address; text = request_text facts; room = LONGEST_REPLY }

-- the request of an attempt
abbrev pub request_for : History → ℕ → ℕ → ℕ → Option Request
request_for h inc instant number = option_map request_by (facts_of h inc instant number)

-- the requests of the attempts that were begun and stand in the history, in order
abbrev pub requests_of : History → List Request
requests_of beginning = []
requests_of (based b kept) = requests_of kept
requests_of (steps.Begin at inc instant number epoch upon h) = requests_of h ++ option_to_list (request_for h inc instant number)
requests_of (s upon h) = requests_of h

-- the request that was sent
abbrev pub request_sent : Sent → Request
request_sent one = record { to = one.to; text = one.request; room = one.room }

-- what was sent for an attempt that has a request: it stands at the place of that request
abbrev pub sent_for : History → List Sent → ℕ → ℕ → ℕ → Option Sent
sent_for beginning sent inc instant number = None
sent_for (based b kept) sent inc instant number = sent_for kept sent inc instant number
sent_for (steps.Begin at of i n epoch upon h) sent inc instant number =
    if inc == of && instant == i && number == n then nth sent (length (requests_of h) + 1) else sent_for h sent inc instant number
sent_for (s upon h) sent inc instant number = sent_for h sent inc instant number

-- what came back says this verdict and status: Retry and 0 where nothing did
abbrev pub HeardSays : Heard → Verdict → ℕ → Type 0
HeardSays (came.Reply bytes) verdict status = SaysVerdict bytes verdict status
HeardSays came.Loss verdict status = (verdict ≡ verdicts.Retry) × (status ≡ 0)

-- an attempt with this request ends as what came back for it says, and with Retry and 0 where nothing is sent
abbrev pub EndsAs : Option Request → Option Sent → Verdict → ℕ → Type 0
EndsAs None sent verdict status = (verdict ≡ verdicts.Retry) × (status ≡ 0)
EndsAs (Some request) None verdict status = ⊥
EndsAs (Some request) (Some one) verdict status = (request_sent one ≡ request) × HeardSays one.heard verdict status

-- each attempt of a history that ended did so as what came back for it says
abbrev pub EndsHeard : History → List Sent → Type 0
EndsHeard beginning sent = Unit {0}
EndsHeard (based b kept) sent = EndsHeard kept sent
EndsHeard (steps.End at inc instant number verdict status upon h) sent =
    EndsHeard h sent × EndsAs (request_for h inc instant number) (sent_for h sent inc instant number) verdict status
EndsHeard (s upon h) sent = EndsHeard h sent

-- what a link was handed is the requests of the attempts, in order, each once and with room for the longest reply,
-- and the attempts ended as what came back for them says
pub record Reported (h : History) (sent : List Sent) : Type 0 where
  pub requests : map request_sent sent ≡ requests_of h
  pub heard : EndsHeard h sent

-- what sending the request of an attempt did, of what the link told before and tells now, and how the attempt ends:
-- where there is no request nothing is sent, and it is to be tried again
abbrev pub AttemptSent : Option Request → Option (List Sent) → Option (List Sent) → Verdict → ℕ → Type 0
AttemptSent None told told' verdict status = (told' ≡ told) × (verdict ≡ verdicts.Retry) × (status ≡ 0)
AttemptSent (Some request) told told' verdict status =
    (answer : Heard) × (told' ≡ with_sent request.to request.text request.room answer told) × HeardSays answer verdict status
