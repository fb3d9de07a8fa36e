use Rattle.std.proofs.Common.{ℕ, List, sym, subst, arith}
use Rattle.std.proofs.lemmas.List.{take_more}
use Rattle.next_command.specs.Adding.{AddsLines}
use Rattle.next_command.proofs.LineLemmas.{adds_more}
use Rattle.next_command.proofs.instant_lines.put_lines.Goals as goal

pub lines-preserved : goal.lines-preserved
lines-preserved c =
    let end = c.lines.auto.instant-index-end in
    let before = c.lines-test.true in
    subst (λ (xs : List ℕ). AddsLines xs c.args.text.now.items c.put_line.new.text.items)
    (sym (take_more c.args.instants.now c.lines.instant-index 0 (omega (arith, end, before))))
    (adds_more _ _ _ _ _ c.lines.invariant c.in_ok-put_line.ensures)
