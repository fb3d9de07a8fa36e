use Rattle.std.proofs.Common.{sym, ap, ◌∙◌, find}
use Rattle.date_table.specs.Dates.{has_come, date_at}
use Rattle.date_table.specs.Tables.{of_shard}
use Rattle.date_table.specs.Shards.{dates_in}
use Rattle.date_table.proofs.TableLemmas.{length_dates, first_found, none_found}
use Rattle.date_table.proofs.table.DateTable.first_come.Goals as goal

pub returns-in-Some : goal.returns-in-Some
returns-in-Some c =
    let trees = c.self.inside.trees in
    let n = c.self.inside.len in
    rw (← c.self.view_is)
    (first_found trees n c.self.invariant c.args.shard c.index-self-shard.result c.requires c.index-self-shard.is c.args.now c.latest_date.result
    c.in-Some.place c.inc_in_shard.result c.latest_date.ensures c.in-Some.ensures.some c.inc_in_shard.ensures
    ∙ ap (λ k. find (λ i. has_come c.args.now (date_at (dates_in trees n) i)) (of_shard c.args.shard k)) (sym (length_dates trees n)))

pub returns-in-None : goal.returns-in-None
returns-in-None c =
    let trees = c.self.inside.trees in
    let n = c.self.inside.len in
    rw (← c.self.view_is)
    (none_found trees n c.self.invariant c.args.shard c.index-self-shard.result c.requires c.index-self-shard.is c.args.now c.latest_date.result
    c.latest_date.ensures c.in-None.ensures.none
    ∙ ap (λ k. find (λ i. has_come c.args.now (date_at (dates_in trees n) i)) (of_shard c.args.shard k)) (sym (length_dates trees n)))
