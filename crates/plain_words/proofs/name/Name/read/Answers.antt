use Rattle.std.proofs.Common.{sym, ◌∙◌}
use Rattle.plain_words.proofs.WordLemmas.{IsAscii-name}
use Rattle.plain_words.proofs.name.Name.read.Goals as goal

pub ascii_string-requires : goal.ascii_string-requires
ascii_string-requires c = IsAscii-name c.args.bytes.now (sym c.fault_of.ensures ∙ c.in_default.is)
