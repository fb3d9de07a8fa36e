-- Which words are which command of the program.
use Rattle.std.specs.Prelude.{ℕ, ◌==◌, Bool, is_none, if◌then◌else◌, Option, Some, None, List, [], ◌∷◌, codes, slice_index}
use Rattle.std.specs.List.{list_any}
use Rattle.std.specs.Option.{option_map, option_and_then}
use Rattle.std.specs.Str.{bytes_eq}
use Rattle.plain_words.specs.Words.{zone_name_fault}
use Rattle.plain_words.specs.declared.limits.TheConstants.{LAST_MOMENT}
use Rattle.plain_words.specs.Moments.{moment_of}
use Rattle.command_words.specs.Numbers.{number_between}
use Rattle.command_words.specs.Shapes.{dash}
use Rattle.command_words.specs.declared.command.Command.{Command}
use Rattle.command_words.specs.declared.command.Command.TheVariants.{Init, Batch, Next, Report, Check, Drill}

-- a word that begins with a dash
abbrev pub is_flag : List ℕ → Bool
is_flag word = slice_index word 0 == dash

-- a command that has no words
abbrev pub without_words : Command → List (List ℕ) → Option Command
without_words command [] = Some command
without_words command (word ∷ words) = None

-- a drill of 1 to 1000 schedules
abbrev pub drill_by : List ℕ → Option Command
drill_by schedules = option_map (λ n. Drill n) (number_between 1 1000 schedules)

abbrev pub drill_of : List (List ℕ) → Option Command
drill_of (schedules ∷ []) = drill_by schedules
drill_of words = None

-- the zone's name that a word is
abbrev pub zone_named : List ℕ → Option (List ℕ)
zone_named word = if is_none (zone_name_fault word) then Some word else None

-- 1 to 1000 instants from a moment on
abbrev pub next_in : List ℕ → List ℕ → List ℕ → List ℕ → Option Command
next_in expression zone from count =
    option_and_then
    (λ moment. option_map (λ most. Next expression zone (moment_of moment) most) (number_between 1 1000 count))
    (number_between 0 LAST_MOMENT from)

abbrev pub next_by : List ℕ → List ℕ → List ℕ → List ℕ → Option Command
next_by expression zone from count = option_and_then (λ name. next_in expression name from count) (zone_named zone)

abbrev pub next_of : List (List ℕ) → Option Command
next_of (expression ∷ zone ∷ from ∷ count ∷ []) = next_by expression zone from count
next_of words = None

-- the command of a name and the words behind it
abbrev pub named : List ℕ → List (List ℕ) → Option Command
named name words =
    if bytes_eq name (codes "init") then without_words Init words
    else (if bytes_eq name (codes "batch") then without_words Batch words
    else (if bytes_eq name (codes "report") then without_words Report words
    else (if bytes_eq name (codes "check") then without_words Check words
    else (if bytes_eq name (codes "next") then next_of words
    else (if bytes_eq name (codes "drill") then drill_of words else None)))))

abbrev pub begun : List (List ℕ) → Option Command
begun [] = None
begun (name ∷ words) = named name words

-- the command that words are, if they are one
abbrev pub command_of : List (List ℕ) → Option Command
command_of words = if list_any is_flag words then None else begun words
