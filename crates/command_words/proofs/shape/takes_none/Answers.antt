use Rattle.std.proofs.Common.{◌≡◌, map, length}
use Rattle.clap.specs.Words.{app_of}
use Rattle.command_words.specs.Shapes.{bare_app}
use Rattle.command_words.proofs.ShapeLemmas.{told, takes_nothing}
use Rattle.command_words.proofs.shape.takes_none.Goals as goal

pub returns : goal.returns
returns c = told (length c.args.words.now ≡ 0) (app_of c.bare.result) bare_app (map (λ w. w.now) c.args.words.now) c.parses.result c.bare.ensures (takes_nothing c.args.words.now c.requires) c.parses.ensures
