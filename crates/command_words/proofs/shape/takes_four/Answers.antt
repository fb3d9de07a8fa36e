use Rattle.std.proofs.Common.{◌≡◌, map, length}
use Rattle.clap.specs.Words.{app_of}
use Rattle.command_words.specs.Shapes.{four_app}
use Rattle.command_words.proofs.ShapeLemmas.{told, takes_just_four}
use Rattle.command_words.proofs.shape.takes_four.Goals as goal

pub returns : goal.returns
returns c = told (length c.args.words.now ≡ 4) (app_of c.in_ok-four.field-0) four_app (map (λ w. w.now) c.args.words.now) c.parses.result c.in_ok-four.ensures (takes_just_four c.args.words.now c.requires) c.parses.ensures
