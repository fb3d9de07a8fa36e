use Rattle.std.proofs.Common.{◌≤◌, length, subst, sym, ap, ◌∙◌, arith}
use Rattle.plain_words.specs.Ids.{shard_of}
use Rattle.date_table.specs.Tables.{Dated}
use Rattle.date_table.specs.Shards.{place_of}
use Rattle.date_table.proofs.TableLemmas.{length_dates, set_changes, place_within}
use Rattle.date_table.proofs.table.DateTable.set.Goals as goal

pub set-requires : goal.set-requires
set-requires c =
    let within = subst (λ (v : Dated). c.args.inc ≤ length v.dates) (sym c.self.view_is) c.requires.within in
    let long = length_dates c.self.inside.trees c.self.inside.len in
    place_within c.self.inside.trees c.self.inside.len c.self.invariant c.shard_of_inc-shard.result c.index-self-shard.result
    c.shard_of_inc-shard.ensures.below c.index-self-shard.is c.args.inc c.place_in_shard.result c.requires.low (omega arith)
    (c.shard_of_inc-shard.ensures.is ∙ ap shard_of c.from.ensures) (c.place_in_shard.ensures ∙ ap place_of c.from-2.ensures)

pub returns-clause-dates : goal.returns-clause-dates
returns-clause-dates c =
    let within = subst (λ (v : Dated). c.args.inc ≤ length v.dates) (sym c.self.view_is) c.requires.within in
    let long = length_dates c.self.inside.trees c.self.inside.len in
    rw (← c.self.view_is)
    (set_changes c.self.inside.trees c.self.inside.len c.self.invariant c.shard_of_inc-shard.result c.index-self-shard.result
    c.shard_of_inc-shard.ensures.below c.index-self-shard.is _ c.args.inc c.place_in_shard.result c.number_of.result c.args.date c.requires.low (omega arith)
    (c.shard_of_inc-shard.ensures.is ∙ ap shard_of c.from.ensures) (c.place_in_shard.ensures ∙ ap place_of c.from-2.ensures) c.number_of.ensures
    c.requires.date c.set.ensures.values)
