-- What the definition of one request served says of the histories written out.
use Rattle.std.specs.Prelude.{ℕ, Option, Some, None, List, [], ◌∷◌, ◌++◌, Ok, Err, codes, decimal}
use Rattle.sched_plain.specs.declared.step.Step.TheVariants as steps
use Rattle.plain_words.specs.declared.verdict.Verdict.TheVariants as verdicts
use Rattle.sched_plain.specs.declared.write.Write.TheVariants as writes
use Rattle.sched_plain.specs.declared.schedule.Schedule.{Schedule}
use Rattle.sched_calls.specs.declared.call.Call.{Call}
use Rattle.sched_calls.specs.declared.call.Call.TheVariants as calls
use Rattle.sched_calls.specs.declared.read.Read.TheVariants as reads
use Rattle.sched_calls.specs.declared.reply.Reply.{Reply}
use Rattle.sched_calls.specs.declared.reply.ReadReply.TheVariants as shown
use Rattle.sched_calls.specs.declared.reply.Reply.TheVariants as replies
use Rattle.plain_words.specs.Moments.{moment_of}
use Rattle.expressions.specs.Calendar.{Calendar}
use Rattle.sched_plain.specs.History.{History, beginning, ◌upon◌}
use Rattle.sched_plain.specs.Groups.{default_name}
use Rattle.sched_plain.specs.Examples.{first_day, first_sweep, once, hourly, at_the_office, created, creation, creation_with, updated, any_zone, created_at_the_office, all_groups}
use Rattle.sched_calls.specs.Serves.{Serves, ZoneSource, End}

-- nobody has the bytes of a zone
abbrev pub no_zones : ZoneSource
no_zones name = None

-- whoever is asked for a zone has these bytes
abbrev pub one_zone : ZoneSource
one_zone name = Some (codes "x")

-- creations and updates of the schedule written out
abbrev pub create : List ℕ → Option (List ℕ) → Schedule → Call
create group token content = calls.Write (writes.CreateSchedule group (codes "once") token content)

abbrev pub update_of : Schedule → Call
update_of content = calls.Write (writes.UpdateSchedule default_name (codes "once") None content)

abbrev pub arn : List ℕ
arn = codes "arn:aws:scheduler:local:000000000000:schedule/default/once"

-- the service started, and nothing done
abbrev pub started : History
started = steps.Boot (moment_of 0) upon beginning

-- the schedule created with the token `t`
abbrev pub created_with_token : History
created_with_token = creation_with (codes "t") 900 once upon started

-- it is refused by a rule, and nothing is added
abbrev pub IsRefused : History → ℕ → Call → ℕ → ℕ → List ℕ → Type 0
IsRefused h now call rule status subject =
    Serves first_day no_zones now h [] [] (Ok call) h [] [] (Err (record { rule = rule; status = status; subject = subject }))

-- it is answered, and nothing is added
abbrev pub IsAnswered : History → ℕ → Call → Reply → Type 0
IsAnswered h now call reply = Serves first_day no_zones now h [] [] (Ok call) h [] [] (Ok reply)

-- it is answered, and these steps are added
abbrev pub IsTaken : Calendar → ZoneSource → History → ℕ → List End → Call → History → Reply → Type 0
IsTaken calendar zones h now ends call after reply = Serves calendar zones now h [] ends (Ok call) after [] [] (Ok reply)

-- requests served over the histories written out
pub record ServesRows : Type 0 where
  pub creation_served : IsTaken first_day no_zones started 900 [] (create default_name None once) (created once) (replies.Created arn)
  pub repeated_token : IsAnswered created_with_token 950 (create default_name (Some (codes "t")) once) (replies.Created arn)
  pub other_write_of_a_token : IsRefused created_with_token 950 (create default_name (Some (codes "t")) hourly) 8 409 (codes "step " ++ decimal 2)
  pub no_such_group : IsRefused started 900 (create (codes "g") None once) 9 404 (codes "g")
  pub default_group_stays : IsRefused started 900 (calls.Write (writes.DeleteGroup default_name None)) 9 400 default_name
  pub group_exists : IsRefused started 900 (calls.Write (writes.CreateGroup default_name None)) 9 409 default_name
  pub second_creation_refused : IsRefused (created once) 950 (create default_name None once) 10 409 (codes "default/once")
  pub nothing_to_update : IsRefused started 900 (update_of once) 10 404 (codes "default/once")
  pub no_more_groups : IsRefused all_groups 900 (calls.Write (writes.CreateGroup (codes "g") None)) 11 402 (decimal 500)
  pub zone_not_had : IsRefused started 900 (create default_name None at_the_office) 12 400 (codes "zone")
  pub zone_told_first :
      IsTaken any_zone one_zone (steps.Boot (moment_of 0) upon beginning) 900 [] (create default_name None at_the_office) created_at_the_office
      (replies.Created arn)
  pub catch_up_first : IsTaken first_day no_zones (creation 1000 hourly upon started) 1000 [] (update_of hourly) updated (replies.Created arn)
  pub schedule_read :
      IsAnswered (created once) 950 (calls.Read (reads.Schedule default_name (codes "once")))
      (replies.Read (shown.Schedule default_name (codes "once") (moment_of 900) (moment_of 900) once))
  pub no_schedule_to_read : IsRefused started 950 (calls.Read (reads.Schedule default_name (codes "once"))) 10 404 (codes "default/once")
  pub no_group_to_read : IsRefused started 950 (calls.Read (reads.Group (codes "g"))) 9 404 (codes "g")
  pub sweep_served : IsTaken first_day no_zones (created once) 1000 ((verdicts.Done, 200) ∷ []) calls.Sweep first_sweep (replies.Settled (moment_of 1000))
