-- The cells of the three parts in which a content is read, and the steps that are written by their fields alone.
use Rattle.std.specs.Prelude.{◌≤◌, List, [], ◌∷◌, length}
use Rattle.sched_plain.specs.declared.schedule.Schedule.{Schedule}
use Rattle.sched_plain.specs.declared.step.Step.{Step}
use Rattle.sched_plain.specs.declared.step.Step.TheVariants as steps
use Rattle.step_codec.specs.Cells.{One, Two, Four}
use Rattle.step_codec.specs.declared.content.Texts.{Texts}
use Rattle.step_codec.specs.declared.content.Timing.{Timing}
use Rattle.step_codec.specs.declared.content.Target.{Target}
use Rattle.step_codec.specs.Cells.{Cell, Number, Words, Date}
use Rattle.step_codec.specs.Payload.{code, flag, or_empty}

abbrev pub texts_cells : Texts → List Cell
texts_cells t = Words Two t.description ∷ Words Two t.text ∷ Words One t.zone ∷ []

abbrev pub timing_cells : Timing → List Cell
timing_cells t =
    Date t.start ∷ Date t.finish ∷ code (flag t.enabled) ∷ code (flag t.delete_after)
    ∷ Number Two t.window ∷ Number One t.policy.retries ∷ Number Four t.policy.age ∷ []

abbrev pub target_cells : Target → List Cell
target_cells t = Words Two t.target ∷ Words Two t.role ∷ Words Two (or_empty t.queue) ∷ Words Four (or_empty t.input) ∷ []

-- the same parts of a content as it is written
abbrev pub texts_of : Schedule → List Cell
texts_of c = Words Two c.description ∷ Words Two c.text ∷ Words One c.zone ∷ []

abbrev pub timing_of : Schedule → List Cell
timing_of c =
    Date c.start ∷ Date c.finish ∷ code (flag c.enabled) ∷ code (flag c.delete_after)
    ∷ Number Two c.window ∷ Number One c.policy.retries ∷ Number Four c.policy.age ∷ []

abbrev pub target_of : Schedule → List Cell
target_of c = Words Two c.target ∷ Words Two c.role ∷ Words Two (or_empty c.queue) ∷ Words Four (or_empty c.input) ∷ []

-- how many bytes the texts of a content have at most: four a character, but for the input, whose bytes are counted
pub record HasRoom (c : Schedule) : Type 0 where
  pub description : length c.description ≤ 2048
  pub text : length c.text ≤ 1024
  pub zone : length c.zone ≤ 50
  pub target : length c.target ≤ 6400
  pub role : length c.role ≤ 6400
  pub queue : length (or_empty c.queue) ≤ 6400
  pub input : length (or_empty c.input) ≤ 65_536

-- a step that speaks of a shard as its worker holds it, or of an attempt
abbrev pub IsOfFields : Step → Type 0
IsOfFields (steps.Lease at shard worker epoch until) = Unit {0}
IsOfFields (steps.Release at shard worker epoch) = Unit {0}
IsOfFields (steps.Begin at inc instant number epoch) = Unit {0}
IsOfFields (steps.End at inc instant number verdict status) = Unit {0}
IsOfFields step = ⊥
