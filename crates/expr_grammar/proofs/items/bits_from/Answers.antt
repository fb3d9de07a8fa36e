use Rattle.std.proofs.Common.{◌≡◌, ◌+◌, ◌^◌, ◌<◌, ap, ◌∙◌, arith}
use Rattle.expressions.specs.CronItems.{bits_below, contains}
use Rattle.expr_grammar.specs.Items.{item_of}
use Rattle.expr_grammar.proofs.Bits.{bits_below-lt, one_bit_fits, years_of_one}
use Rattle.expr_grammar.proofs.items.bits_from.Goals as goal

pub overflow_add-bits : goal.overflow_add-bits
overflow_add-bits c =
    let small : c.loop-place.bits < 2 ^ c.loop-place.place =
    rw c.loop-place.invariant (bits_below-lt (λ i. contains (c.args.first + i) (item_of c.args.item)) c.loop-place.place) in
    let fits = one_bit_fits c.loop-place.bits c.loop-place.place small (omega arith) in omega (arith, fits)

pub returns : goal.returns
returns c =
    let all : c.loop-place.place ≡ 128 = omega arith in
    c.loop-place.invariant
    ∙ ap (bits_below (λ i. contains (c.args.first + i) (item_of c.args.item))) all
    ∙ years_of_one c.args.first (item_of c.args.item)
