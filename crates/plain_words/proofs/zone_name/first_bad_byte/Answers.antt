use Rattle.std.proofs.Common.{sym, ◌∙◌, length}
use Rattle.plain_words.specs.Words.{is_bad_zone_place}
use Rattle.plain_words.proofs.WordLemmas.{first_below_found}
use Rattle.plain_words.proofs.zone_name.first_bad_byte.Goals as goal

pub returns-then-is_bad_place : goal.returns-then-is_bad_place
returns-then-is_bad_place c =
    sym (first_below_found (is_bad_zone_place c.args.bytes.now) c.loop-at.at (length c.args.bytes.now)
    c.loop-at.invariant (sym c.is_bad_place.ensures ∙ c.if-is_bad_place.true) c.loop-at-test.true)
