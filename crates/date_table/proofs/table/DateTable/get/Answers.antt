use Rattle.std.proofs.Common.{◌≡◌, sym, ap, ◌∙◌, arith}
use Rattle.plain_words.specs.Ids.{shard_of}
use Rattle.date_table.specs.Dates.{date_at}
use Rattle.date_table.specs.Shards.{place_of, dates_in}
use Rattle.date_table.proofs.TableLemmas.{date_got, date_before, date_behind}
use Rattle.date_table.proofs.table.DateTable.get.Goals as goal
use Rattle.date_table.proofs.table.DateTable.get.Goals.{then-inc-eq0-via-then-inc-eq0, then-inc-eq0-via-else-inc-eq0+then-from-self}

pub returns-then-inc-eq0 : goal.returns-then-inc-eq0
returns-then-inc-eq0 c =
    let trees = c.self.inside.trees in
    rw (← c.self.view_is) (elim c.then-inc-eq0.branch [
      | then-inc-eq0-via-then-inc-eq0 w ↦
          let zero : c.args.inc ≡ 0 = omega arith in
          sym (date_before trees c.self.inside.len) ∙ ap (λ k. date_at (dates_in trees c.self.inside.len) k) (sym zero)
      | then-inc-eq0-via-else-inc-eq0+then-from-self w ↦ sym (date_behind trees c.self.inside.len c.args.inc (omega arith))
    ])

pub returns : goal.returns
returns c =
    rw (← c.self.view_is)
    (c.date_of.ensures
    ∙ date_got c.self.inside.trees c.self.inside.len c.self.invariant c.shard_of_inc.result c.index-self-shard_of_inc.result
    c.shard_of_inc.ensures.below c.index-self-shard_of_inc.is c.args.inc c.get.result c.place_in_shard.result (omega arith) (omega arith)
    (c.shard_of_inc.ensures.is ∙ ap shard_of c.from-2.ensures) (c.place_in_shard.ensures ∙ ap place_of c.from-3.ensures) c.get.ensures)
