use Rattle.std.proofs.Common.{◌≡◌, ◌≤◌, ℕ, ap, take}
use Rattle.book_parts.specs.Entering.{read_in}
use Rattle.book_parts.proofs.EnterLemmas.{if_ok_each}
use Rattle.book_parts.proofs.enters.instants_of.Goals as goal

pub returns-in-Some : goal.returns-in-Some
returns-in-Some c known =
    if_ok_each _ c.instants.result (λ (first : ℕ). if_ok_each _ c.instants.result (λ le.
    c.instants.ensures.occurs (read_in c.args.zones.now c.args.content.now.zone) first c.in-Some.ensures.some le))
