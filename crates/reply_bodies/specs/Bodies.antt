-- The bodies of answers: JSON (RFC 8259) without spaces, the members of each object in the order of their bytes.
use Rattle.std.specs.Prelude.{ℕ, List, [], ◌∷◌, codes}
use Rattle.json.specs.Token.{Token}
use Rattle.json.specs.Print.{print}
use Rattle.sched_plain.specs.declared.write.Write.{Write}
use Rattle.sched_plain.specs.declared.write.Write.TheVariants as writes
use Rattle.sched_calls.specs.declared.reply.ReadReply.{ReadReply}
use Rattle.sched_calls.specs.declared.reply.ReadReply.TheVariants as reads
use Rattle.sched_calls.specs.declared.reply.Reply.{Reply}
use Rattle.sched_calls.specs.declared.reply.Reply.TheVariants as replies
use Rattle.sched_calls.specs.Replies.{schedule_arn, group_arn}
use Rattle.reply_bodies.specs.Members.{object_of, text_member, number_member}
use Rattle.reply_bodies.specs.Words.{created_member}
use Rattle.reply_bodies.specs.Schedules.{schedule_members, page_members}
use Rattle.reply_bodies.specs.Groups.{group_shown, group_page_members}
use Rattle.reply_bodies.specs.Executions.{execution_members, letters_shown}

-- what a read is shown
abbrev pub read_shown : ReadReply → List Token
read_shown (reads.Schedule group name created changed content) = object_of (schedule_members group name created changed content)
read_shown (reads.Group row) = group_shown row
read_shown (reads.Schedules page) = object_of (page_members page)
read_shown (reads.Groups page) = object_of (group_page_members page)
read_shown (reads.Execution group name inc instant entry attempts) = object_of (execution_members group name inc instant entry attempts)
read_shown (reads.Letters rows) = letters_shown rows

-- what a call is shown; a deletion is shown nothing
abbrev pub reply_shown : Reply → List Token
reply_shown (replies.Created arn) = object_of (text_member (created_member arn) arn ∷ [])
reply_shown replies.Empty = []
reply_shown (replies.Read reply) = read_shown reply
reply_shown (replies.Settled at) = object_of (number_member (codes "Moment") at.0 ∷ [])

-- the body that shows a reply
abbrev pub body_of : Reply → List ℕ
body_of reply = print (reply_shown reply)

-- the body that answers an accepted write: the arn of what it creates or updates, nothing for a deletion
abbrev pub body_of_write : Write → List ℕ
body_of_write (writes.CreateSchedule group name token content) = print (object_of (text_member (codes "ScheduleArn") (schedule_arn group name) ∷ []))
body_of_write (writes.UpdateSchedule group name token content) = print (object_of (text_member (codes "ScheduleArn") (schedule_arn group name) ∷ []))
body_of_write (writes.CreateGroup name token) = print (object_of (text_member (codes "ScheduleGroupArn") (group_arn name) ∷ []))
body_of_write (writes.DeleteSchedule group name token) = []
body_of_write (writes.DeleteGroup name token) = []
