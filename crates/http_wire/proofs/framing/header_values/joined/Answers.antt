use Rattle.std.proofs.Common.{rules, ◌≡◌, true, [], ◌∷◌, ◌++◌, refl}
use Rattle.http_wire.proofs.framing.header_values.joined.Goals as goal

pub returns-in-Once : goal.returns-in-Once
returns-in-Once c = λ seen holds.
    let one = rw c.in-Once.is at holds in
    let same : c.args.same ≡ true = search rules in
    rw (one, same) (c.in-Once.field-0.now, c.args.value.now, [], refl)

pub returns-in-Repeated : goal.returns-in-Repeated
returns-in-Repeated c = λ seen holds.
    let (first, second, more, is) = rw c.in-Repeated.is at holds in
    let same : c.args.same ≡ true = search rules in
    rw (is, same) (first, second, more ++ c.args.value.now ∷ [], refl)
