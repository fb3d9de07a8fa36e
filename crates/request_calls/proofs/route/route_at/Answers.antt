use Rattle.request_calls.proofs.route.route_at.Goals as goal

pub returns-in-Schedule : goal.returns-in-Schedule
returns-in-Schedule c = rw c.in-Schedule.is (c.at_schedule.ensures c.args.sweeps)

pub returns-in-Group : goal.returns-in-Group
returns-in-Group c = rw c.in-Group.is (c.at_group.ensures c.args.sweeps)
