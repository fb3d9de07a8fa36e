use Rattle.request_calls.proofs.decoding.call_at.Goals as goal

pub returns-in-CreateSchedule-clause-value : goal.returns-in-CreateSchedule-clause-value
returns-in-CreateSchedule-clause-value c = rw c.in-CreateSchedule.is (c.creation.ensures.value c.args.asked.now)

pub returns-in-UpdateSchedule-clause-value : goal.returns-in-UpdateSchedule-clause-value
returns-in-UpdateSchedule-clause-value c = rw c.in-UpdateSchedule.is (c.update.ensures.value c.args.asked.now)

pub returns-in-CreateGroup-clause-value : goal.returns-in-CreateGroup-clause-value
returns-in-CreateGroup-clause-value c = rw c.in-CreateGroup.is (c.group_creation.ensures.value c.args.asked.now)
