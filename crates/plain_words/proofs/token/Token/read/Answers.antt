use Rattle.std.proofs.Common.{sym, ◌∙◌}
use Rattle.plain_words.proofs.WordLemmas.{IsAscii-token}
use Rattle.plain_words.proofs.token.Token.read.Goals as goal

pub ascii_string-requires : goal.ascii_string-requires
ascii_string-requires c = IsAscii-token c.args.bytes.now (sym c.fault_of.ensures ∙ c.in_default.is)
