use Rattle.zone_occ.proofs.WindowLemmas.{searched_place}
use Rattle.zone_occ.proofs.window.place_of.Goals as goal

pub returns : goal.returns
returns c = searched_place c.args.moments.now c.args.moment c.binary_search.result c.requires c.binary_search.ensures.position
