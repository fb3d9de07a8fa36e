use Rattle.zone_occ.proofs.SearchableLaws.{valid_searchable}
use Rattle.zone_occ.proofs.searchable.valid_is_searchable.Goals as goal

pub returns : goal.returns
returns c = valid_searchable
