use Rattle.std.proofs.Common.{sym, ap, ◌∙◌, refl}
use Rattle.plain_words.specs.Ids.{is_id}
use Rattle.plain_words.proofs.IdLemmas.{id_back, id_parts, id_same, is_id-id_text}
use Rattle.plain_words.proofs.id.read_id.Goals as goal

pub returns-then-not-is_id-clause-printed : goal.returns-then-not-is_id-clause-printed
returns-then-not-is_id-clause-printed c inc instant small small' e =
    cc (is_id-id_text inc instant, ap is_id e, c.is_id.ensures, c.if-not-is_id.true)

pub read_hex-requires-clause-digits : goal.read_hex-requires-clause-digits
read_hex-requires-clause-digits c = (id_parts c.args.bytes.now (sym c.is_id.ensures ∙ c.if-not-is_id.false)).1

pub read_hex-requires-2-clause-digits : goal.read_hex-requires-2-clause-digits
read_hex-requires-2-clause-digits c = (id_parts c.args.bytes.now (sym c.is_id.ensures ∙ c.if-not-is_id.false)).2

pub returns-clause-some : goal.returns-clause-some
returns-clause-some c =
    id_back c.args.bytes.now c.read_hex.new.bytes c.read_hex-2.new.bytes c.from_be_bytes.result c.from_be_bytes-2.result
    (id_parts c.args.bytes.now (sym c.is_id.ensures ∙ c.if-not-is_id.false)).0 c.read_hex.auto.bytes c.read_hex-2.auto.bytes
    c.read_hex.ensures.fits c.read_hex-2.ensures.fits c.read_hex.ensures.text c.read_hex-2.ensures.text
    c.from_be_bytes.ensures c.from_be_bytes-2.ensures

pub returns-clause-printed : goal.returns-clause-printed
returns-clause-printed c inc instant small small' e =
    let same = id_same c.from_be_bytes.result c.from_be_bytes-2.result inc instant c.from_be_bytes.type_inv small
    c.from_be_bytes-2.type_inv small' (sym (returns-clause-some c) ∙ e) in
    rw (same.0, same.1) refl
