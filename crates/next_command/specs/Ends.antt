-- How telling the answer ends.
use Rattle.std.specs.Prelude.{◌≡◌, ℕ, Option, List}
use Rattle.expressions.specs.declared.expression.Expr.{Expr}
use Rattle.expressions.specs.Spelling.{Spells}
use Rattle.zone_occ.specs.declared.zone_files.NamedZone.{NamedZone}
use Rattle.http_wire.specs.Devices.{Gets, GetsPart}
use Rattle.next_command.specs.declared.telling.NextEnd.{NextEnd}
use Rattle.next_command.specs.declared.telling.NextEnd.TheVariants as ends
use Rattle.next_command.specs.Answers.{Question, AreInstantsTold, IsRefusalTold, IsAnswered}

-- how it ends, by what a sink got before and has got now
abbrev pub NextEnds : NextEnd → Option (List NamedZone) → Question → Option (List ℕ) → Option (List ℕ) → Type 0
NextEnds ends.Told zones q got got' = (text : List ℕ) × AreInstantsTold zones q text × Gets got text got'
NextEnds ends.Refused zones q got got' = (text : List ℕ) × IsRefusalTold zones q text × Gets got text got'
NextEnds ends.ZonesFailed zones q got got' = (expression : Expr) × Spells q.expression expression × (got' ≡ got)
NextEnds ends.SinkFailed zones q got got' = (text : List ℕ) × IsAnswered zones q text × GetsPart got text got'
NextEnds ends.OutOfMemory zones q got got' = got' ≡ got
