-- What the definitions say of the histories written out: legal, or the first rule that a step breaks; standings,
-- letters, marks, counts.
use Rattle.std.specs.Prelude.{◌≡◌, ℕ, Option, Some, None, [], ◌∷◌, codes}
use Rattle.std.specs.Option.{option_map}
use Rattle.sched_plain.specs.declared.entry.Fate.TheVariants as fates
use Rattle.sched_plain.specs.declared.standing.Standing.{Standing}
use Rattle.sched_plain.specs.declared.standing.Standing.TheVariants as standings
use Rattle.sched_plain.specs.declared.step.Step.{Step}
use Rattle.sched_plain.specs.declared.step.Step.TheVariants as steps
use Rattle.sched_plain.specs.declared.outcome.Outcome.TheVariants as outcomes
use Rattle.sched_plain.specs.declared.outcome.Reason.TheVariants as reasons
use Rattle.plain_words.specs.declared.verdict.Verdict.TheVariants as verdicts
use Rattle.sched_plain.specs.declared.why.RowFault.TheVariants as faults
use Rattle.sched_plain.specs.declared.why.Why.{Why}
use Rattle.sched_plain.specs.declared.why.Why.TheVariants as whys
use Rattle.sched_plain.specs.declared.work.Work.TheVariants as works
use Rattle.sched_plain.specs.History.{History, beginning, ◌upon◌, count}
use Rattle.plain_words.specs.Moments.{moment_of}
use Rattle.sched_plain.specs.Entries.{filed}
use Rattle.sched_plain.specs.Ledger.{ledger_of}
use Rattle.sched_plain.specs.Standing.{standing_of}
use Rattle.sched_plain.specs.Queues.{letters}
use Rattle.sched_plain.specs.Marks.{mark, unentered}
use Rattle.sched_plain.specs.Occurrences.{occ}
use Rattle.sched_plain.specs.Report.{counts, last_swept}
use Rattle.sched_plain.specs.Attempts.{attempts}
use Rattle.sched_plain.specs.Seen.{seen}
use Rattle.sched_plain.specs.Work.{work}
use Rattle.sched_plain.specs.Legal.{why, first_illegal}
use Rattle.sched_plain.specs.Examples.{first_day, first_sweep, once, created, creation, creation_in, creation_with, update, deletion, updated, late, created_again, taking, entered, at_work, windowed, windowed_sweep, windowed_again, retried_twice, retried_out, aged_five, aged_out, dead_queue, finished, removed, deleted_at_work, any_zone, created_at_the_office, group_created, all_groups}

-- so many steps, each of which may follow those before it
pub record LegalSteps (h : History) (n : ℕ) : Type 0 where
  pub long : count h ≡ n
  pub legal : first_illegal first_day h ≡ None

-- the sweeps of the schedules written out
pub record SweepsAreLegal : Type 0 where
  pub first : LegalSteps first_sweep 29
  pub windowed : LegalSteps windowed_sweep 27
  pub windowed_again : LegalSteps windowed_again 53
  pub retried_twice : LegalSteps retried_twice 55
  pub retried_out : LegalSteps retried_out 82
  pub aged_out : LegalSteps aged_out 160
  pub created_again : LegalSteps created_again 4
  pub updated : LegalSteps updated 4
  pub deleted_at_work : LegalSteps deleted_at_work 8
  pub zoned : first_illegal any_zone created_at_the_office ≡ None

-- the first rule that a step breaks behind a history
abbrev pub Breaks : History → Step → Why → Type 0
Breaks h s broken = why first_day h s ≡ Some broken

-- a Begin, an End and a Close of the one occurrence
abbrev pub begin : ℕ → ℕ → ℕ → Step
begin at number epoch = steps.Begin (moment_of at) 1 1000 number epoch

abbrev pub end : ℕ → ℕ → Step
end at number = steps.End (moment_of at) 1 1000 number verdicts.Done 200

abbrev pub close : ℕ → Step
close at = steps.Close (moment_of at) 1 1000 reasons.Attempts

-- the occurrence entered with a pair of its own
abbrev pub entering : ℕ → ℕ → ℕ → Step
entering at instant chosen = steps.Enter (moment_of at) 1 (record { instant = instant; chosen = chosen } ∷ [])

-- steps that may not follow, each with the first rule that it breaks
pub record BrokenSteps : Type 0 where
  pub moment_back : Breaks (created once) (taking 899 1 1) (whys.MomentBack (moment_of 900))
  pub boot_later : Breaks (created once) (steps.Boot (moment_of 901)) (whys.MomentBack (moment_of 900))
  pub second_creation : Breaks (created once) (creation 950 once) (whys.Row faults.Exists)
  pub no_group : Breaks (created once) (creation_in (codes "g") 950 once) (whys.Row faults.NoGroup)
  pub zone_unknown : Breaks (created once) (update 950 (record once { zone = codes "Office" })) whys.ZoneUnknown
  pub token_kept : Breaks (creation_with (codes "t") 900 once upon beginning) (creation_with (codes "t") 950 once) (whys.Row faults.Exists)
  pub token_kept_again : Breaks (deletion 950 upon creation_with (codes "t") 900 once upon beginning) (creation_with (codes "t") 950 once) (whys.TokenKept 1)
  pub update_too_soon : Breaks (created once) (update 1000 once) (whys.Unentered 1 1000)
  pub utc_is_known : Breaks (created once) (steps.Zone (moment_of 950) (codes "UTC") []) whys.ZoneKnown
  pub zone_known : why any_zone created_at_the_office (steps.Zone (moment_of 950) (codes "Office") (codes "y")) ≡ Some whys.ZoneKnown
  pub no_more_groups : Breaks all_groups (group_created (codes "g")) (whys.Row (faults.TooMany 500))
  pub group_again : Breaks all_groups (group_created (codes "007")) (whys.Row faults.GroupExists)
  pub bad_zone : Breaks (created once) (steps.Zone (moment_of 950) (codes "Office") (codes "x")) whys.BadZone
  pub too_early : Breaks (at_work []) (entering 1000 999 999) (whys.NotNext 999)
  pub entered_twice : Breaks (at_work (entered 1000 ∷ [])) (entered 1000) (whys.NotNext 1000)
  pub chosen_late : Breaks (at_work []) (entering 1000 1000 1001) (whys.OutsideWindow 1000)
  pub window_past : Breaks (created windowed) (entering 1000 1000 1900) (whys.OutsideWindow 1000)
  pub begin_unentered : Breaks (at_work []) (begin 1000 1 1) (whys.Unentered 1 1000)
  pub close_unentered : Breaks (at_work []) (close 1000) (whys.Unentered 1 1000)
  pub held_by_other : Breaks (at_work []) (steps.Lease (moment_of 1059) 1 2 2 1119) (whys.Held 0 1060)
  pub epoch_jumps : Breaks (at_work []) (taking 1000 1 3) (whys.Stale 1)
  pub renewed_by_other : Breaks (at_work []) (steps.Lease (moment_of 1000) 1 2 1 1060) (whys.Stale 1)
  pub never_taken : Breaks (created once) (steps.Release (moment_of 1000) 1 0 0) (whys.Stale 0)
  pub old_epoch : Breaks (at_work (entered 1000 ∷ [])) (begin 1000 1 0) (whys.Stale 1)
  pub begun_live : Breaks (at_work (entered 1000 ∷ begin 1000 1 1 ∷ [])) (begin 1000 2 1) (whys.Standing standings.Live)
  pub close_due : Breaks (at_work (entered 1000 ∷ [])) (close 1000) (whys.Standing standings.Due)
  pub close_other_reason : Breaks (at_work (entered 1000 ∷ [])) (steps.Close (moment_of 87401) 1 1000 reasons.Attempts) (whys.Standing (standings.Exhausted reasons.Age))
  pub number_again : Breaks (at_work (entered 1000 ∷ [])) (begin 1000 2 1) (whys.Number 0)
  pub not_live : Breaks (at_work (entered 1000 ∷ begin 1000 1 1 ∷ end 1000 1 ∷ [])) (end 1000 1) whys.NotLive
  pub other_number : Breaks (at_work (entered 1000 ∷ begin 1000 1 1 ∷ [])) (end 1000 2) whys.NotLive
  pub not_complete : Breaks first_sweep (steps.Complete (moment_of 1000) 1) whys.NotComplete
  pub unentered_left : Breaks (at_work []) (steps.Swept (moment_of 1000) 1) (whys.Work (works.Enter 1))
  pub due_left : Breaks (at_work (entered 1000 ∷ [])) (steps.Swept (moment_of 1000) 1) (whys.Work (works.Begin 1 1000))
  pub live_left : Breaks (at_work (entered 1000 ∷ begin 1000 1 1 ∷ [])) (steps.Swept (moment_of 1000) 1) (whys.Work (works.Live 1 1000))
  pub back_and_unentered : Breaks (at_work []) (begin 999 1 1) (whys.MomentBack (moment_of 1000))
  pub stale_and_number : Breaks (at_work (entered 1000 ∷ [])) (begin 1000 2 7) (whys.Stale 1)

-- what is finished may be removed, once, and is the next work of its shard
pub record Finishing : Type 0 where
  pub may : why first_day finished (steps.Complete (moment_of 1000) 1) ≡ None
  pub next : work (seen first_day finished) 1 1000 ≡ works.Complete 1
  pub once : Breaks removed (steps.Complete (moment_of 1000) 1) whys.NotComplete
  pub settled : work (seen first_day removed) 1 1000 ≡ works.Settled

-- where the one entry stands at a moment
abbrev pub stands_at : History → ℕ → Option Standing
stands_at h now = option_map (λ f. standing_of f now) (filed (ledger_of h) 1 1000)

-- standings behind the sweeps
pub record Standings : Type 0 where
  pub in_window : stands_at windowed_sweep 1000 ≡ Some (standings.Waiting 1001)
  pub chosen_comes : stands_at windowed_sweep 1001 ≡ Some standings.Due
  pub done : stands_at windowed_again 1001 ≡ Some (standings.Decided outcomes.Done)
  pub second_delay : stands_at retried_twice 1002 ≡ Some (standings.Waiting 1003)
  pub third_due : stands_at retried_twice 1003 ≡ Some standings.Due
  pub used_up : stands_at retried_out 1003 ≡ Some (standings.Decided outcomes.Attempts)
  pub sixth_due : stands_at aged_five 1031 ≡ Some standings.Due
  pub sixth_late : stands_at aged_five 1061 ≡ Some (standings.Exhausted reasons.Age)
  pub too_old : stands_at aged_out 1031 ≡ Some (standings.Decided outcomes.Age)
  pub first_age : stands_at (at_work (entered 1000 ∷ [])) 87400 ≡ Some standings.Due
  pub cancelled : stands_at deleted_at_work 1000 ≡ Some (standings.Decided outcomes.Cancelled)
  pub past_age : stands_at (at_work (entered 1000 ∷ [])) 87401 ≡ Some (standings.Exhausted reasons.Age)

-- letters and marks
pub record LettersAndMarks : Type 0 where
  pub one_letter : letters retried_out dead_queue ≡ record { inc = 1; instant = 1000; reason = outcomes.Attempts } ∷ []
  pub age_letter : letters aged_out dead_queue ≡ record { inc = 1; instant = 1000; reason = outcomes.Age } ∷ []
  pub no_letter : letters first_sweep dead_queue ≡ []
  pub mark_created : mark (created once) 1 ≡ Some 899
  pub mark_entered : mark (at_work (entered 1000 ∷ [])) 1 ≡ Some 1000
  pub mark_unswept : mark (at_work []) 1 ≡ Some 899
  pub mark_swept : mark windowed_again 1 ≡ Some 1001
  pub mark_of_none : mark first_sweep 2 ≡ None
  pub mark_updated : mark updated 1 ≡ Some 1000
  pub mark_removed : mark removed 1 ≡ Some 1000

-- occurrences: what is entered, what is not, and which of it is past its age
pub record Occurring : Type 0 where
  pub late_hours : unentered first_day late 1 14400 ≡ 0 ∷ 3600 ∷ 7200 ∷ 10800 ∷ 14400 ∷ []
  pub spans : occ first_day updated 1 5000 ≡ 1000 ∷ 4600 ∷ []
  pub entered_once : unentered first_day updated 1 5000 ≡ 4600 ∷ []
  pub second_incarnation : occ first_day created_again 2 1000 ≡ 1000 ∷ []
  pub ended_incarnation : occ first_day created_again 1 1000 ≡ []

-- what the report counts, and when a shard was last swept
pub record Reported : Type 0 where
  pub after_sweep : counts first_sweep 1000 ≡ record {
    moment = 1000;
    steps = 29;
    schedules = 1;
    groups = 1;
    entries = 1;
    done = 1;
    finals = 0;
    attempts = 0;
    age = 0;
    cancelled = 0;
    waiting = 0;
    due = 0;
    live = 0;
    exhausted = 0;
    letters = 0;
  }
  pub in_sweep : counts (at_work (entered 1000 ∷ [])) 1000 ≡ record {
    moment = 1000;
    steps = 7;
    schedules = 1;
    groups = 1;
    entries = 1;
    done = 0;
    finals = 0;
    attempts = 0;
    age = 0;
    cancelled = 0;
    waiting = 0;
    due = 1;
    live = 0;
    exhausted = 0;
    letters = 0;
  }
  pub swept : last_swept first_sweep 1 ≡ Some (moment_of 1000)
  pub not_swept : last_swept (at_work []) 1 ≡ None
  pub booted : last_swept (steps.Boot (moment_of 1000) upon first_sweep) 1 ≡ None

-- attempts that were lost, ended, or are live
pub record Attempting : Type 0 where
  pub ended : attempts (ledger_of retried_twice) 1 1000 ≡
      record { number = 1; begun = moment_of 1000; epoch = 1; fate = fates.Ended verdicts.Retry 0 }
      ∷ record { number = 2; begun = moment_of 1001; epoch = 2; fate = fates.Ended verdicts.Retry 0 } ∷ []
  pub lost : attempts (ledger_of (steps.Boot (moment_of 1000) upon at_work (entered 1000 ∷ begin 1000 1 1 ∷ []))) 1 1000 ≡
      record { number = 1; begun = moment_of 1000; epoch = 1; fate = fates.Lost } ∷ []
  pub taken : attempts (ledger_of (taking 1000 1 2 upon at_work (entered 1000 ∷ begin 1000 1 1 ∷ []))) 1 1000 ≡
      record { number = 1; begun = moment_of 1000; epoch = 1; fate = fates.Lost } ∷ []
  pub renewed : attempts (ledger_of (taking 1000 1 1 upon at_work (entered 1000 ∷ begin 1000 1 1 ∷ []))) 1 1000 ≡
      record { number = 1; begun = moment_of 1000; epoch = 1; fate = fates.Live } ∷ []
