use Rattle.std.proofs.Common.{take}
use Rattle.next_command.specs.Adding.{AddsLines}
use Rattle.next_command.proofs.instant_lines.put_lines.Given as goal

abbrev pub invariant-lines : goal.invariant-lines
invariant-lines l = AddsLines (take l.instant-index l.instants) l.initial.text.items l.text.items
