-- Schedules as bodies show them: one whole, and a page of many in short.
use Rattle.std.specs.Prelude.{ℕ, ◌-◌, ◌==◌, if◌then◌else◌, Option, Some, None, List, [], ◌∷◌, length, codes, slice_get, option_map}
use Rattle.std.specs.List.{flat_map}
use Rattle.json.specs.Token.{Token}
use Rattle.plain_words.specs.declared.moment.Moment.{Moment}
use Rattle.sched_plain.specs.declared.schedule.Policy.{Policy}
use Rattle.sched_plain.specs.declared.schedule.Schedule.{Schedule}
use Rattle.sched_calls.specs.declared.page.ListRow.{ListRow}
use Rattle.sched_calls.specs.declared.page.Page.{Page}
use Rattle.sched_calls.specs.Replies.{schedule_arn, full_name}
use Rattle.reply_bodies.specs.Members.{object_of, list_of, member_of, text_member, number_member, text_if_any, number_if_any}
use Rattle.reply_bodies.specs.Words.{state_word, action_word}

-- an empty description is none
abbrev pub described : List ℕ → Option (List ℕ)
described text = if length text == 0 then None else Some text

-- no flexible window
abbrev pub off_members : List (List Token)
off_members = text_member (codes "Mode") (codes "OFF") ∷ []

-- a flexible window of so many minutes
abbrev pub flexible_members : ℕ → List (List Token)
flexible_members minutes =
    number_member (codes "MaximumWindowInMinutes") minutes
    ∷ text_member (codes "Mode") (codes "FLEXIBLE")
    ∷ []

-- the flexible window, member by member; one of 0 minutes is OFF
abbrev pub window_members : ℕ → List (List Token)
window_members minutes = if minutes == 0 then off_members else flexible_members minutes

-- the dead-letter queue, left out where none is named
abbrev pub queue_if_any : Option (List ℕ) → List Token
queue_if_any None = []
queue_if_any (Some queue) = member_of (codes "DeadLetterConfig") (object_of (text_member (codes "Arn") queue ∷ []))

-- how often and for how long an occurrence is tried again
abbrev pub policy_shown : Policy → List Token
policy_shown policy =
    object_of (
    number_member (codes "MaximumEventAgeInSeconds") policy.age
    ∷ number_member (codes "MaximumRetryAttempts") policy.retries
    ∷ [])

-- where and what a schedule sends, member by member
abbrev pub target_members : Schedule → List (List Token)
target_members content =
    text_member (codes "Arn") content.target
    ∷ queue_if_any content.queue
    ∷ text_if_any (codes "Input") content.input
    ∷ member_of (codes "RetryPolicy") (policy_shown content.policy)
    ∷ text_member (codes "RoleArn") content.role
    ∷ []

-- a schedule with its whole content, member by member
abbrev pub schedule_members : List ℕ → List ℕ → Moment → Moment → Schedule → List (List Token)
schedule_members group name created changed content =
    text_member (codes "ActionAfterCompletion") (action_word content.delete_after)
    ∷ text_member (codes "Arn") (schedule_arn group name)
    ∷ number_member (codes "CreationDate") created.0
    ∷ text_if_any (codes "Description") (described content.description)
    ∷ number_if_any (codes "EndDate") content.finish
    ∷ member_of (codes "FlexibleTimeWindow") (object_of (window_members content.window))
    ∷ text_member (codes "GroupName") group
    ∷ number_member (codes "LastModificationDate") changed.0
    ∷ text_member (codes "Name") name
    ∷ text_member (codes "ScheduleExpression") content.text
    ∷ text_member (codes "ScheduleExpressionTimezone") content.zone
    ∷ number_if_any (codes "StartDate") content.start
    ∷ text_member (codes "State") (state_word content.enabled)
    ∷ member_of (codes "Target") (object_of (target_members content))
    ∷ []

-- a schedule as a list shows it
abbrev pub list_row_shown : ListRow → List Token
list_row_shown row =
    object_of (
    text_member (codes "Arn") (schedule_arn row.group row.name)
    ∷ number_member (codes "CreationDate") row.created.0
    ∷ text_member (codes "GroupName") row.group
    ∷ number_member (codes "LastModificationDate") row.changed.0
    ∷ text_member (codes "Name") row.name
    ∷ text_member (codes "State") (state_word row.enabled)
    ∷ member_of (codes "Target") (object_of (text_member (codes "Arn") row.target ∷ []))
    ∷ [])

-- by what name the next page begins behind a row: GROUP/NAME
abbrev pub token_of_row : ListRow → List ℕ
token_of_row row = full_name row.group row.name

-- the name of a page's last schedule, where more follow
abbrev pub next_schedule : Page → Option (List ℕ)
next_schedule page = if page.more then option_map token_of_row (slice_get page.rows (length page.rows - 1)) else None

-- a page of schedules, member by member
abbrev pub page_members : Page → List (List Token)
page_members page =
    text_if_any (codes "NextToken") (next_schedule page)
    ∷ member_of (codes "Schedules") (list_of (flat_map list_row_shown page.rows))
    ∷ []
