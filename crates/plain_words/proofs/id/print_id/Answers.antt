use Rattle.plain_words.proofs.IdLemmas.{print_parts}
use Rattle.plain_words.proofs.id.print_id.Goals as goal

pub returns : goal.returns
returns c =
    rw (c.write_hex.ensures, c.write_hex-2.ensures, c.to_be_bytes.ensures, c.to_be_bytes-2.ensures)
    (print_parts c.args.inc c.args.instant)
