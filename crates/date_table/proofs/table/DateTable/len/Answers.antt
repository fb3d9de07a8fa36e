use Rattle.std.proofs.Common.{sym}
use Rattle.date_table.proofs.TableLemmas.{length_dates}
use Rattle.date_table.proofs.table.DateTable.len.Goals as goal

pub returns : goal.returns
returns c = rw (← c.self.view_is) (sym (length_dates c.self.inside.trees c.self.inside.len))
