use Rattle.plain_words.proofs.IdLemmas.{read_back}
use Rattle.plain_words.proofs.id.read_hex.Goals as goal

pub returns-clause-text : goal.returns-clause-text
returns-clause-text c =
    read_back c.args.text.now c.args.bytes.now c.decode_to_slice.new.out c.decode_to_slice.result
    c.requires.digits c.requires.twice c.decode_to_slice.ensures.value
