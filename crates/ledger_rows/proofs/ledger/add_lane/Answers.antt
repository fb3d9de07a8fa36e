use Rattle.std.proofs.Common.{◌≡◌, ℕ, ◌%◌, List, length, sym, ap, subst, arith}
use Rattle.plain_words.specs.declared.limits.TheConstants.{SHARDS}
use Rattle.entry_lines.specs.Rows.{LaneRows}
use Rattle.ledger_rows.specs.Shelves.{AreShelved, IsLonger}
use Rattle.ledger_rows.proofs.ShelfLemmas.{shelved_same, shelved_longer}
use Rattle.ledger_rows.proofs.ledger.add_lane.Goals as goal

pub returns-clause-shelved : goal.returns-clause-shelved
returns-clause-shelved c =
    let same = shelved_same c.args.lanes.now.items c.args.shelves.now.items c.reserve_place.new.trees.items c.reserve_place.ensures.same c.requires.shelved in
    let shard : c.len.result % SHARDS ≡ length c.args.lanes.now.items % SHARDS =
    ap (λ (n : ℕ). n % SHARDS) (let e : c.len.result ≡ length c.args.lanes.now.items = omega (arith, c.len.ensures, c.args.lanes.now.ok) in e) in
    subst (λ (l : List LaneRows). AreShelved l c.put_place.new.trees.items) (sym c.in_ok-push.ensures.items)
    (shelved_longer c.args.lanes.now.items c.reserve_place.new.trees.items c.put_place.new.trees.items c.new.result same
    (subst (λ (n : ℕ). IsLonger c.reserve_place.new.trees.items c.put_place.new.trees.items n) shard c.put_place.ensures.longer) c.new.ensures.rows)
