use Rattle.std.proofs.Common.{◌≡◌, map, length}
use Rattle.clap.specs.Words.{app_of}
use Rattle.command_words.specs.Shapes.{one_app}
use Rattle.command_words.proofs.ShapeLemmas.{told, takes_just_one}
use Rattle.command_words.proofs.shape.takes_one.Goals as goal

pub returns : goal.returns
returns c = told (length c.args.words.now ≡ 1) (app_of c.in_ok-one.field-0) one_app (map (λ w. w.now) c.args.words.now) c.parses.result c.in_ok-one.ensures (takes_just_one c.args.words.now c.requires) c.parses.ensures
