use Rattle.std.proofs.Common.{◌≡◌, Option, sym, ◌∙◌, subst, IfOk}
use Rattle.command_words.specs.declared.command.Command.{Command}
use Rattle.command_words.proofs.WordLemmas.{flags_are_none, plain_behind, command_is}
use Rattle.command_words.proofs.reading.read_command.Goals as goal

pub returns-then-has_flag : goal.returns-then-has_flag
returns-then-has_flag c = flags_are_none c.args.words.now (sym c.has_flag.ensures ∙ c.if-has_flag.true)

pub named-requires : goal.named-requires
named-requires c = plain_behind c.args.words.now c.in-Some.name.now c.in-Some.rest.now c.in-Some.ensures.cases.0 (sym c.has_flag.ensures ∙ c.if-has_flag.false)

pub returns-in-Some : goal.returns-in-Some
returns-in-Some c =
    let is = command_is c.args.words.now c.in-Some.name.now c.in-Some.rest.now c.in-Some.ensures.cases.0 (sym c.has_flag.ensures ∙ c.if-has_flag.false) in
    subst (λ (k : Option Command). IfOk c.named.result (λ found. found ≡ k)) (sym is) c.named.ensures
