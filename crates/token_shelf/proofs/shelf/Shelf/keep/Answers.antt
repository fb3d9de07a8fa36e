use Rattle.std.proofs.Common.{ap}
use Rattle.token_shelf.specs.Shelves.{Shelved}
use Rattle.token_shelf.proofs.Shelves.{not_in_map, added}
use Rattle.token_shelf.proofs.shelf.Shelf.keep.Goals as goal

pub insert-requires-clause-fresh : goal.insert-requires-clause-fresh
insert-requires-clause-fresh c =
    not_in_map c.self.inside.writes.pairs c.args.self.now c.args.token (ap (λ (s : Shelved). s.kept) c.self.view_is) c.requires.new

pub returns-clause-stands : goal.returns-clause-stands
returns-clause-stands c kept keeps =
    added c.self.inside.writes.pairs c.insert.new.self.pairs c.args.self.now kept c.args.token (record { write = c.args.write; step = c.args.step }) (ap (λ (s : Shelved). s.kept) c.self.view_is) c.requires.new c.insert.ensures.pairs keeps
