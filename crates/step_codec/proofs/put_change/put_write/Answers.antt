use Rattle.step_codec.proofs.put_change.put_write.Goals as goal

pub returns-in-CreateSchedule-clause-bytes : goal.returns-in-CreateSchedule-clause-bytes
returns-in-CreateSchedule-clause-bytes c = rw c.in-CreateSchedule.is c.put_named_content.ensures.bytes

pub returns-in-UpdateSchedule-clause-bytes : goal.returns-in-UpdateSchedule-clause-bytes
returns-in-UpdateSchedule-clause-bytes c = rw c.in-UpdateSchedule.is c.put_named_content-in-UpdateSchedule.ensures.bytes
