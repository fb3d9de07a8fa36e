-- What is answered to the question when an expression runs next.
use Rattle.std.specs.Prelude.{◌≡◌, ◌⊎◌, ℕ, if◌then◌else◌, Option, Some, None, Result, Ok, Err, List, ◌++◌, take, codes, decimal}
use Rattle.std.specs.Option.{option_map}
use Rattle.plain_words.specs.Lists.{same_text}
use Rattle.plain_words.specs.Moments.{last_moment}
use Rattle.expressions.specs.declared.expression.Expr.{Expr}
use Rattle.expressions.specs.Canonical.{canonical}
use Rattle.expressions.specs.ExpressionFaults.{Fault, fault}
use Rattle.expressions.specs.Spelling.{Spells}
use Rattle.zone_occ.specs.declared.zone_files.NamedZone.{NamedZone}
use Rattle.zone_occ.specs.Files.{zone_named}
use Rattle.zone_occ.specs.Instants.{instants}
use Rattle.zone_occ.specs.ZoneBytes.{zone_of}
use Rattle.zone_occ.specs.ZoneText.{ZoneText, utc}
use Rattle.next_command.specs.Lines.{line, AreInstantLines}

-- what is asked: the text of an expression, the name of a zone, from when on, and for how many instants
pub record Question : Type 0 where
  pub expression : List ℕ
  pub zone : List ℕ
  pub from : ℕ
  pub count : ℕ

-- the same, each in its turn
abbrev pub asks : List ℕ → List ℕ → ℕ → ℕ → Question
asks expression zone from count = record { expression = expression; zone = zone; from = from; count = count }

-- the bytes that zones have under a name, if there are any
abbrev pub bytes_under : List NamedZone → List ℕ → Option (List ℕ)
bytes_under zones name = option_map {T = NamedZone} (λ zone. zone.bytes) (zone_named zones name)

-- a source may have these bytes under a name, of what it tells of its zones
abbrev pub MayHave : Option (List NamedZone) → List ℕ → Option (List ℕ) → Type 0
MayHave None name bytes = Unit {0}
MayHave (Some zones) name bytes = bytes ≡ bytes_under zones name

-- what is said where no zone can be had
abbrev pub absent : List ℕ
absent = codes "zone absent"

abbrev pub no_zone : List ℕ
no_zone = codes "not a zone"

-- the zone of bytes, or what is said where they are none
abbrev pub zone_read : Option ZoneText → Result ZoneText (List ℕ)
zone_read None = Err no_zone
zone_read (Some zone) = Ok zone

abbrev pub zone_in : Option (List ℕ) → Result ZoneText (List ℕ)
zone_in None = Err absent
zone_in (Some bytes) = zone_read (zone_of bytes)

-- the zone of a name with these bytes: UTC is built in
abbrev pub zone_under : List ℕ → Option (List ℕ) → Result ZoneText (List ℕ)
zone_under name bytes = if same_text name (codes "UTC") then Ok utc else zone_in bytes

-- what is said of a text that spells no expression: its first fault, and at which byte that is
abbrev pub fault_text : Fault → List ℕ
fault_text it = codes "expression " ++ decimal it.number ++ codes " at " ++ decimal it.at

-- the text of the expression spells none, and its first fault is told
pub record IsFaultTold (q : Question) (text : List ℕ) : Type 0 where
  pub it : Fault
  pub first : fault q.expression ≡ Some it
  pub told : text ≡ line (fault_text it)

-- the text spells an expression, but no zone can be had
pub record IsZoneLackTold (zones : Option (List NamedZone)) (q : Question) (text : List ℕ) : Type 0 where
  pub expression : Expr
  pub spelled : Spells q.expression expression
  pub bytes : Option (List ℕ)
  pub had : MayHave zones q.zone bytes
  pub why : List ℕ
  pub lacked : zone_under q.zone bytes ≡ Err why
  pub told : text ≡ line why

-- the canonical spelling, then the first instants from the moment on, where a rate begins at that moment; none is later than
-- 2199-12-31T23:59:59Z
pub record AreInstantsTold (zones : Option (List NamedZone)) (q : Question) (text : List ℕ) : Type 0 where
  pub expression : Expr
  pub spelled : Spells q.expression expression
  pub bytes : Option (List ℕ)
  pub had : MayHave zones q.zone bytes
  pub zone : ZoneText
  pub found : zone_under q.zone bytes ≡ Ok zone
  pub lines : List ℕ
  pub each : AreInstantLines (take q.count (instants expression zone q.from q.from last_moment)) lines
  pub told : text ≡ line (canonical expression) ++ lines

-- there are none to tell, and that is said
abbrev pub IsRefusalTold : Option (List NamedZone) → Question → List ℕ → Type 0
IsRefusalTold zones q text = IsFaultTold q text ⊎ IsZoneLackTold zones q text

-- the text of the answer
abbrev pub IsAnswered : Option (List NamedZone) → Question → List ℕ → Type 0
IsAnswered zones q text = AreInstantsTold zones q text ⊎ IsRefusalTold zones q text
