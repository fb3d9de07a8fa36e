use Rattle.std.proofs.Common.{ap, ◌∙◌}
use Rattle.jiff_tz.specs.TzifReader.{read_tzif}
use Rattle.zone_occ.specs.ZoneBytes.{of_table}
use Rattle.zone_occ.proofs.AgreementLemmas.{read_table, read_memory, read_refused}
use Rattle.zone_occ.proofs.zone.read_file.Goals as goal

pub returns-in-Ok-clause-ok : goal.returns-in-Ok-clause-ok
returns-in-Ok-clause-ok c = ap of_table c.in-Ok.ensures.value ∙ read_table c.in-Ok.table c.in-Ok.ensures.agrees

pub returns-in-Err-clause-err : goal.returns-in-Err-clause-err
returns-in-Err-clause-err c =
    let read = read_tzif c.args.bytes.now in
    rw c.fault_of.ensures
    (read_refused c.in-Err.error read c.in-Err.ensures.err (read_memory _ c.in-Err.error read c.in-Err.ensures.refused))
