-- The line that tells what a look at a journal file found.
use Rattle.std.specs.Prelude.{ℕ, List, ◌++◌, codes, decimal}
use Rattle.report_lines.specs.Lines.{numbered_line, line_end}
use Rattle.report_lines.specs.declared.finding.Finding.{Finding}
use Rattle.report_lines.specs.declared.finding.Finding.TheVariants.{Legal, NotAJournal, Damaged}

-- a legal history tells how many steps it has
abbrev pub steps_line : ℕ → List ℕ
steps_line steps = codes "legal " ++ decimal steps ++ codes " steps" ++ line_end

-- the line; a file that is at fault tells the place
abbrev pub finding_text : Finding → List ℕ
finding_text (Legal steps) = steps_line steps
finding_text (NotAJournal at) = numbered_line (codes "not a journal at") at
finding_text (Damaged at) = numbered_line (codes "damaged at") at
