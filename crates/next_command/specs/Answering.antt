-- The answer, by what its parts found.
use Rattle.std.specs.Prelude.{◌≡◌, ℕ, Option, List, ◌++◌, take}
use Rattle.plain_words.specs.Moments.{last_moment}
use Rattle.expressions.specs.declared.expression.Expr.{Expr}
use Rattle.expressions.specs.Canonical.{canonical}
use Rattle.expressions.specs.Spelling.{Spells}
use Rattle.zone_occ.specs.declared.zone_files.NamedZone.{NamedZone}
use Rattle.zone_occ.specs.Instants.{instants}
use Rattle.zone_occ.specs.ZoneText.{ZoneText}
use Rattle.next_command.specs.declared.answer.NextAnswer.{NextAnswer}
use Rattle.next_command.specs.declared.answer.NextAnswer.TheVariants as answers
use Rattle.next_command.specs.declared.zone_found.FindFault.{FindFault}
use Rattle.next_command.specs.declared.zone_found.FindFault.TheVariants as faults
use Rattle.next_command.specs.declared.zone_found.ZoneFound.{ZoneFound}
use Rattle.next_command.specs.declared.zone_found.ZoneFound.TheVariants as founds
use Rattle.next_command.specs.Answers.{Question, absent, no_zone, AreInstantsTold, IsRefusalTold}
use Rattle.next_command.specs.Finding.{IsFound}
use Rattle.next_command.specs.Lines.{line, AreInstantLines}

-- the spelling, and the first instants
pub record IsListed (expression : Expr) (zone : ZoneText) (from count : ℕ) (text : List ℕ) : Type 0 where
  pub lines : List ℕ
  pub each : AreInstantLines (take count (instants expression zone from from last_moment)) lines
  pub told : text ≡ line (canonical expression) ++ lines

-- the answer where this was found of the zone
abbrev pub AnswersFound : Expr → ZoneFound → ℕ → ℕ → NextAnswer → Type 0
AnswersFound expression (founds.Zone zone) from count (answers.Instants text) = IsListed expression zone from count text.items
AnswersFound expression (founds.Zone zone) from count (answers.Refusal text) = ⊥
AnswersFound expression founds.Absent from count (answers.Instants text) = ⊥
AnswersFound expression founds.Absent from count (answers.Refusal text) = text.items ≡ line absent
AnswersFound expression founds.NotAZone from count (answers.Instants text) = ⊥
AnswersFound expression founds.NotAZone from count (answers.Refusal text) = text.items ≡ line no_zone

-- the answer where the text spells this expression
pub record AnswersIn (zones : Option (List NamedZone)) (expression : Expr) (name : List ℕ) (from count : ℕ) (answer : NextAnswer) : Type 0 where
  pub found : ZoneFound
  pub finds : IsFound zones name found
  pub answers : AnswersFound expression found from count answer

-- the answer to a question
abbrev pub IsAnswer : Option (List NamedZone) → Question → NextAnswer → Type 0
IsAnswer zones q (answers.Instants text) = AreInstantsTold zones q text.items
IsAnswer zones q (answers.Refusal text) = IsRefusalTold zones q text.items

-- why there is no answer: the source failed, where the text spells an expression, or memory was wanted
abbrev pub IsUnanswered : List ℕ → FindFault → Type 0
IsUnanswered text faults.ZonesFailed = (expression : Expr) × Spells text expression
IsUnanswered text faults.OutOfMemory = Unit {0}
