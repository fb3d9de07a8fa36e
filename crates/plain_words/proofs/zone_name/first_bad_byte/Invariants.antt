use Rattle.std.proofs.Common.{◌≡◌, None}
use Rattle.plain_words.specs.Words.{first_below, is_bad_zone_place}
use Rattle.plain_words.proofs.zone_name.first_bad_byte.Given as goal

abbrev pub invariant-loop-at : goal.invariant-loop-at
invariant-loop-at l = first_below (is_bad_zone_place l.bytes) l.at ≡ None
