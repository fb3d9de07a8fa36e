use Rattle.std.proofs.Common.{◌<◌, length, subst, sym, arith}
use Rattle.plain_words.specs.declared.limits.TheConstants.{MOST_INCARNATIONS}
use Rattle.date_table.specs.Tables.{Dated}
use Rattle.date_table.proofs.TableLemmas.{length_dates, push_adds, push_keeps}
use Rattle.date_table.proofs.table.DateTable.push.Goals as goal

pub invariant_of-self : goal.invariant_of-self
invariant_of-self c =
    let few = subst (λ (v : Dated). length v.dates < MOST_INCARNATIONS) (sym c.self.view_is) c.requires.few in
    let long = length_dates c.self.inside.trees c.self.inside.len in
    push_keeps c.self.inside.trees c.self.inside.len c.self.invariant c.shard_of_inc-shard.result c.index-self-shard.result
    c.shard_of_inc-shard.ensures.below c.index-self-shard.is _ c.number_of.result c.shard_of_inc-shard.ensures.is (omega arith) c.push.ensures.values

pub returns-clause-dates : goal.returns-clause-dates
returns-clause-dates c =
    rw (← c.self.view_is)
    (push_adds c.self.inside.trees c.self.inside.len c.self.invariant c.shard_of_inc-shard.result c.index-self-shard.result
    c.shard_of_inc-shard.ensures.below c.index-self-shard.is _ c.number_of.result c.args.date c.shard_of_inc-shard.ensures.is c.number_of.ensures
    c.requires.date c.push.ensures.values)
