use Rattle.std.proofs.Common.{◌≡◌, ℕ, List, true, sym, ◌∙◌, subst}
use Rattle.command_words.specs.Numbers.{is_number}
use Rattle.command_words.proofs.NumberLemmas.{too_large}
use Rattle.command_words.proofs.number.number_between.Goals as goal

pub returns-in-Err : goal.returns-in-Err
returns-in-Err c =
    let digits = subst (λ (l : List ℕ). is_number l ≡ true) c.as_bytes.ensures.value (sym c.is_number.ensures ∙ c.if-not-is_number.false) in
    too_large c.args.least c.args.greatest c.args.word.now c.ranges.greatest.fits digits c.in-Err.ensures.value.0
