-- The bodies of the replies written out.
use Rattle.std.proofs.Common.{refl}
use Rattle.std.specs.Fmt.{digits}
use Rattle.hex.proofs.OnLiterals.{hex_on_literals}
use Rattle.json.proofs.OnLiterals.{json_on_literals}
use Rattle.reply_bodies.specs.BodyRows.{BodyRows}

pub body_rows : BodyRows
unfolding json_on_literals hex_on_literals digits
body_rows = record {
  schedule_created = refl;
  group_created = refl;
  deleted = refl;
  settled = refl;
  plainly = refl;
  spoken_of = refl;
  page_with_more = refl;
  page_at_the_end = refl;
  groups_with_more = refl;
  occurrence = refl;
}
