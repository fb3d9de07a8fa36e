use Rattle.reply_bodies.proofs.replies.put_read.Goals as goal

pub returns-in-Schedule : goal.returns-in-Schedule
returns-in-Schedule c = rw c.in-Schedule.is c.put_schedule.ensures
