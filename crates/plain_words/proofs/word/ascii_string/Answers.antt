use Rattle.std.proofs.Common.{◌≡◌}
use Rattle.std.specs.String.{string_bytes}
use Rattle.std.proofs.lemmas.Str.{IsUtf8-from_ascii}
use Rattle.plain_words.proofs.WordLemmas.{if_ok_given}
use Rattle.plain_words.proofs.word.ascii_string.Goals as goal

pub returns : goal.returns
returns c =
    if_ok_given _ (λ text. string_bytes text ≡ c.args.bytes.now) c.from_utf8_lossy.result (IsUtf8-from_ascii c.args.bytes.now c.requires) c.from_utf8_lossy.ensures.ok
