use Rattle.std.proofs.Common.{rules}
use Rattle.std.proofs.lemmas.Str.{is_utf8-from_IsUtf8}
use Rattle.request_fields.proofs.words.input_word.Goals as goal

pub returns : goal.returns
returns c = let utf8 = is_utf8-from_IsUtf8 c.args.text.now c.utf8.text in search (rules, utf8)
