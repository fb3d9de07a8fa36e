use Rattle.std.proofs.Common.{◌≡◌, ◌-◌, ◌<◌, length, take, sym, ap, ◌∙◌, arith}
use Rattle.expr_grammar.specs.Answers.{enclosed}
use Rattle.expr_grammar.proofs.InsideLaws.{longer, whole}
use Rattle.expr_grammar.proofs.form.inside.Goals as goal

pub overflow_sub-rest : goal.overflow_sub-rest
overflow_sub-rest c =
    let long : length c.args.opening.now < length c.args.text.now =
    longer _ _ (sym c.if-not-starts_with.ensures.value) (sym c.if-not-ends_with.ensures.value) c.requires in
    omega (arith, c.split_at.ensures.back_len)

pub returns-clause-whole : goal.returns-clause-whole
returns-clause-whole c =
    let long : length c.args.opening.now < length c.args.text.now =
    longer _ _ (sym c.if-not-starts_with.ensures.value) (sym c.if-not-ends_with.ensures.value) c.requires in
    let count : length c.split_at.result.1.now - 1 ≡ length c.args.text.now - length c.args.opening.now - 1 =
    omega (arith, c.split_at.ensures.back_len) in
    whole _ _ (sym c.if-not-starts_with.ensures.value) (sym c.if-not-ends_with.ensures.value) long
    ∙ ap (enclosed c.args.opening.now)
    (ap (take (length c.args.text.now - length c.args.opening.now - 1)) (sym c.split_at.ensures.back)
    ∙ ap (λ n. take n c.split_at.result.1.now) (sym count) ∙ sym c.split_at-2.ensures.front)

pub returns-clause-shorter : goal.returns-clause-shorter
returns-clause-shorter c =
    let long : length c.args.opening.now < length c.args.text.now =
    longer _ _ (sym c.if-not-starts_with.ensures.value) (sym c.if-not-ends_with.ensures.value) c.requires in
    omega (arith, c.split_at.ensures.back_len, c.split_at-2.ensures.front_len)
