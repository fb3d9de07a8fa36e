-- When two contents are the same, in two halves of seven fields.
use Rattle.std.specs.Prelude.{◌≡◌}
use Rattle.sched_plain.specs.declared.schedule.Schedule.{Schedule}

-- the texts of two contents are the same
pub record SameTexts (a b : Schedule) : Type 0 where
  pub description : a.description ≡ b.description
  pub text : a.text ≡ b.text
  pub zone : a.zone ≡ b.zone
  pub target : a.target ≡ b.target
  pub role : a.role ≡ b.role
  pub queue : a.queue ≡ b.queue
  pub input : a.input ≡ b.input

-- the times, windows and limits of two contents are the same
pub record SameTiming (a b : Schedule) : Type 0 where
  pub expr : a.expr ≡ b.expr
  pub start : a.start ≡ b.start
  pub finish : a.finish ≡ b.finish
  pub enabled : a.enabled ≡ b.enabled
  pub delete_after : a.delete_after ≡ b.delete_after
  pub window : a.window ≡ b.window
  pub policy : a.policy ≡ b.policy
