use Rattle.durable_writes.proofs.WriteLemmas.{ends_unhad}
use Rattle.durable_writes.proofs.writing.write_zoned.Goals as goal

pub returns-in-Err-clause-ended : goal.returns-in-Err-clause-ended
returns-in-Err-clause-ended g c = λ since h st. (
  h,
  g.met.K.Keeper.holds _ since h st,
  ends_unhad _ h c.args.at.0 c.args.write.now (g.Z.ZoneFiles.told c.args.zones.now) _ c.args.name c.in-Err.fault (c.requires.planned since h st) c.in-Err.ensures.lacked,
)

pub returns-in-Err-clause-risen : goal.returns-in-Err-clause-risen
returns-in-Err-clause-risen g c = c.in-Err.ensures.risen (g.K.Keeper.faults c.args.keeper.now) (g.K.Keeper.faults c.args.keeper.now)
