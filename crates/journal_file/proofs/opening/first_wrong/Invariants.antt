use Rattle.std.proofs.Common.{◌≡◌, ◌≤◌, length, take}
use Rattle.journal_file.specs.declared.format.TheConstants.{HEADER}
use Rattle.journal_file.proofs.opening.first_wrong.Given as goal

-- the bytes so far are those of the header
abbrev pub invariant-loop-at : goal.invariant-loop-at
invariant-loop-at l = record { there : l.at ≤ length l.bytes; same : take l.at l.bytes ≡ take l.at HEADER }
