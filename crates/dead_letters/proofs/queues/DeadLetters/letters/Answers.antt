use Rattle.std.proofs.Common.{◌≡◌, List, None, Some, IfOk, take, drop, sym, ◌∙◌, ap, subst}
use Rattle.sched_plain.specs.declared.letter.Letter.{Letter}
use Rattle.dead_letters.proofs.PileLaws.{letters_seen, no_page}
use Rattle.dead_letters.proofs.queues.DeadLetters.letters.Goals as goal

pub returns-in-Some-clause-page : goal.returns-in-Some-clause-page
returns-in-Some-clause-page c =
    let seen = letters_seen c.self.inside.piles c.args.self.now c.as_str.result.now c.args.queue.now (Some c.in-Some.pile.now) c.self.view_is c.as_str.ensures c.in-Some.ensures.value in
    subst (λ (letters : List Letter). IfOk c.page_of.result (λ page. page ≡ take c.args.max (drop c.args.after letters))) (c.as_slice.ensures ∙ seen) c.page_of.ensures.page

pub returns-in-None-clause-page : goal.returns-in-None-clause-page
returns-in-None-clause-page c =
    let seen = letters_seen c.self.inside.piles c.args.self.now c.as_str.result.now c.args.queue.now None c.self.view_is c.as_str.ensures c.in-None.ensures.value in
    c.new.ensures ∙ sym (no_page c.args.max c.args.after) ∙ ap (λ (letters : List Letter). take c.args.max (drop c.args.after letters)) seen
