-- What the definitions say of replies that are written out.
use Rattle.std.specs.Prelude.{◌≡◌, true, false, Some, List, [], ◌∷◌, codes}
use Rattle.plain_words.specs.Moments.{moment_of}
use Rattle.plain_words.specs.declared.verdict.Verdict.TheVariants as verdicts
use Rattle.sched_plain.specs.declared.entry.Attempt.{Attempt}
use Rattle.sched_plain.specs.declared.entry.Entry.{Entry}
use Rattle.sched_plain.specs.declared.entry.Fate.TheVariants as fates
use Rattle.sched_plain.specs.declared.entry.Last.TheVariants as lasts
use Rattle.sched_plain.specs.declared.outcome.Outcome.TheVariants as outcomes
use Rattle.sched_plain.specs.declared.schedule.Schedule.{Schedule}
use Rattle.sched_plain.specs.Examples.{once}
use Rattle.sched_calls.specs.declared.page.GroupPage.{GroupPage}
use Rattle.sched_calls.specs.declared.page.ListRow.{ListRow}
use Rattle.sched_calls.specs.declared.page.Page.{Page}
use Rattle.sched_calls.specs.declared.reply.ReadReply.TheVariants as reads
use Rattle.sched_calls.specs.declared.reply.Reply.{Reply}
use Rattle.sched_calls.specs.declared.reply.Reply.TheVariants as replies
use Rattle.sched_calls.specs.Replies.{schedule_arn, group_arn}
use Rattle.reply_bodies.specs.Bodies.{body_of}

-- a schedule that runs once, as it is
abbrev pub plain : Reply
plain = replies.Read (reads.Schedule (codes "default") (codes "a") (moment_of 60) (moment_of 120) once)

-- the same with a description that is escaped, a window and an end
abbrev pub described : Schedule
described = record once { description = codes "say \"no\\yes\""; window = 15; finish = Some 999 }

abbrev pub spoken : Reply
spoken = replies.Read (reads.Schedule (codes "default") (codes "a") (moment_of 60) (moment_of 120) described)

-- a row of a list
abbrev pub row : ListRow
row =
    record { group = codes "default"; name = codes "a"; created = moment_of 1; changed = moment_of 2; enabled = true; target = codes "http://localhost/" }

-- a page of that row alone
abbrev pub page : Page
page = record { rows = row ∷ []; more = true }

abbrev pub last_page : Page
last_page = record page { more = false }

-- a page of one group
abbrev pub groups : GroupPage
groups = record { groups = record { name = codes "team"; created = moment_of 7 } ∷ []; more = true }

-- an occurrence with an attempt that was lost and one that ended
abbrev pub entry : Entry
entry = record { chosen = 1000; used = 2; last = lasts.Ended 1003; outcome = Some outcomes.Done }

abbrev pub attempts : List Attempt
attempts =
    record { number = 1; begun = moment_of 1000; epoch = 1; fate = fates.Lost }
    ∷ record { number = 2; begun = moment_of 1002; epoch = 1; fate = fates.Ended verdicts.Done 200 }
    ∷ []

-- the bodies of these replies
pub record BodyRows : Type 0 where
  pub schedule_created :
      body_of (replies.Created (schedule_arn (codes "team") (codes "a"))) ≡ codes "{\"ScheduleArn\":\"arn:aws:scheduler:local:000000000000:schedule/team/a\"}"
  pub group_created :
      body_of (replies.Created (group_arn (codes "team"))) ≡ codes "{\"ScheduleGroupArn\":\"arn:aws:scheduler:local:000000000000:schedule-group/team\"}"
  pub deleted : body_of replies.Empty ≡ []
  pub settled : body_of (replies.Settled (moment_of 60)) ≡ codes "{\"Moment\":60}"
  pub plainly :
      body_of plain
      ≡ codes "{\"ActionAfterCompletion\":\"NONE\",\"Arn\":\"arn:aws:scheduler:local:000000000000:schedule/default/a\",\"CreationDate\":60,\"FlexibleTimeWindow\":{\"Mode\":\"OFF\"},\"GroupName\":\"default\",\"LastModificationDate\":120,\"Name\":\"a\",\"ScheduleExpression\":\"at(1970-01-01T00:16:40)\",\"ScheduleExpressionTimezone\":\"UTC\",\"State\":\"ENABLED\",\"Target\":{\"Arn\":\"http://127.0.0.1:9000/hook\",\"RetryPolicy\":{\"MaximumEventAgeInSeconds\":86400,\"MaximumRetryAttempts\":0},\"RoleArn\":\"r\"}}"
  pub spoken_of :
      body_of spoken
      ≡ codes "{\"ActionAfterCompletion\":\"NONE\",\"Arn\":\"arn:aws:scheduler:local:000000000000:schedule/default/a\",\"CreationDate\":60,\"Description\":\"say \\\"no\\\\yes\\\"\",\"EndDate\":999,\"FlexibleTimeWindow\":{\"MaximumWindowInMinutes\":15,\"Mode\":\"FLEXIBLE\"},\"GroupName\":\"default\",\"LastModificationDate\":120,\"Name\":\"a\",\"ScheduleExpression\":\"at(1970-01-01T00:16:40)\",\"ScheduleExpressionTimezone\":\"UTC\",\"State\":\"ENABLED\",\"Target\":{\"Arn\":\"http://127.0.0.1:9000/hook\",\"RetryPolicy\":{\"MaximumEventAgeInSeconds\":86400,\"MaximumRetryAttempts\":0},\"RoleArn\":\"r\"}}"
  pub page_with_more :
      body_of (replies.Read (reads.Schedules page))
      ≡ codes "{\"NextToken\":\"default/a\",\"Schedules\":[{\"Arn\":\"arn:aws:scheduler:local:000000000000:schedule/default/a\",\"CreationDate\":1,\"GroupName\":\"default\",\"LastModificationDate\":2,\"Name\":\"a\",\"State\":\"ENABLED\",\"Target\":{\"Arn\":\"http://localhost/\"}}]}"
  pub page_at_the_end :
      body_of (replies.Read (reads.Schedules last_page))
      ≡ codes "{\"Schedules\":[{\"Arn\":\"arn:aws:scheduler:local:000000000000:schedule/default/a\",\"CreationDate\":1,\"GroupName\":\"default\",\"LastModificationDate\":2,\"Name\":\"a\",\"State\":\"ENABLED\",\"Target\":{\"Arn\":\"http://localhost/\"}}]}"
  pub groups_with_more :
      body_of (replies.Read (reads.Groups groups))
      ≡ codes "{\"NextToken\":\"team\",\"ScheduleGroups\":[{\"Arn\":\"arn:aws:scheduler:local:000000000000:schedule-group/team\",\"CreationDate\":7,\"LastModificationDate\":7,\"Name\":\"team\",\"State\":\"ACTIVE\"}]}"
  pub occurrence :
      body_of (replies.Read (reads.Execution (codes "default") (codes "a") 10 1000 entry attempts))
      ≡ codes "{\"Attempts\":[{\"Begun\":1000,\"Number\":1,\"Verdict\":\"Lost\"},{\"Begun\":1002,\"Number\":2,\"Verdict\":\"Done\"}],\"Chosen\":1000,\"ExecutionId\":\"0000000a00000000000003e8\",\"Instant\":1000,\"Outcome\":\"Done\",\"ScheduleArn\":\"arn:aws:scheduler:local:000000000000:schedule/default/a\"}"
