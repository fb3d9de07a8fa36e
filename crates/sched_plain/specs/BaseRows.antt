-- Two histories that begin with a base, and what the definitions say of them.
use Rattle.std.specs.Prelude.{◌≡◌, true, Some, None, [], ◌∷◌, ◌++◌, codes}
use Rattle.sched_plain.specs.declared.entry.Fate.TheVariants as fates
use Rattle.sched_plain.specs.declared.outcome.Outcome.TheVariants as outcomes
use Rattle.sched_plain.specs.declared.outcome.Reason.TheVariants as reasons
use Rattle.sched_plain.specs.declared.standing.Standing.TheVariants as standings
use Rattle.sched_plain.specs.declared.step.Step.{Step}
use Rattle.sched_plain.specs.declared.step.Step.TheVariants as steps
use Rattle.plain_words.specs.Moments.{moment_of}
use Rattle.sched_plain.specs.Base.{none_folded}
use Rattle.sched_plain.specs.History.{History, beginning, based, ◌upon◌, count, step_at, first, grown}
use Rattle.sched_plain.specs.Moments.{moment}
use Rattle.sched_plain.specs.Changes.{changes_of}
use Rattle.sched_plain.specs.Rows.{rows_of, content_at, revision_from}
use Rattle.sched_plain.specs.Groups.{groups_of, has_group}
use Rattle.sched_plain.specs.Leases.{holder, untaken}
use Rattle.sched_plain.specs.Ledger.{ledger_of}
use Rattle.sched_plain.specs.Entries.{entries, filed, instants_of}
use Rattle.sched_plain.specs.Attempts.{attempts}
use Rattle.sched_plain.specs.Standing.{standing_of}
use Rattle.sched_plain.specs.Marks.{unentered, mark}
use Rattle.sched_plain.specs.Tokens.{kept_place}
use Rattle.sched_plain.specs.Queues.{letters}
use Rattle.sched_plain.specs.Report.{counts, last_swept}
use Rattle.sched_plain.specs.Examples.{first_day, hourly, retried, creation, creation_with, creation_in, group_created, entered, lost_attempt, taking, dead_queue}
use Rattle.sched_plain.specs.ExampleRows.{begin}
use Rattle.plain_words.specs.Lists.{nth}
use Rattle.std.specs.Option.{option_map}

-- the entry of 7200, and the begin of its one attempt by worker 5
abbrev pub enter_two : Step
enter_two = steps.Enter (moment_of 7200) 1 (record { instant = 7200; chosen = 7200 } ∷ [])

abbrev pub begin_two : Step
begin_two = steps.Begin (moment_of 7200) 1 7200 1 3

-- the schedule that acts each hour, created at 0 under a token. The entries of its first two hours, which the target
-- took, were folded away. The attempt of the third was live when the part behind the base was folded
abbrev pub folded_hours : History
folded_hours =
    based (record {
      size = 40;
      at = 7300;
      epochs = 0 ∷ 3 ∷ 0 ∷ 0 ∷ 0 ∷ 0 ∷ 0 ∷ 0 ∷ [];
      takers = 0 ∷ 5 ∷ 0 ∷ 0 ∷ 0 ∷ 0 ∷ 0 ∷ 0 ∷ [];
      floors = record { inc = 1; instant = 3600 } ∷ [];
      folded = record none_folded { done = 2 };
      places = 2 ∷ 30 ∷ 31 ∷ [];
      losses = record { behind = 3; place = 40; at = 7300; inc = 1; instant = 7200; number = 1 } ∷ [];
    }) (begin_two upon enter_two upon creation_with (codes "t") 0 hourly upon beginning)

-- worker 0 takes the schedule's shard upon it
abbrev pub taken_upon : History
taken_upon = taking 14400 1 4 upon folded_hours

-- what the definitions say of both
pub record FoldedHours : Type 0 where
  pub size : count folded_hours ≡ 40
  pub one_more : count taken_upon ≡ 41
  pub moment : moment folded_hours ≡ 7300
  pub kept_step : step_at folded_hours 31 ≡ Some begin_two
  pub folded_step : step_at folded_hours 3 ≡ None
  pub step_upon : step_at taken_upon 41 ≡ Some (taking 14400 1 4)
  pub kept_below : step_at taken_upon 30 ≡ Some enter_two
  pub firsts : first 12 taken_upon ≡ folded_hours
  pub content : content_at (rows_of (changes_of folded_hours)) 1 7200 ≡ Some hourly
  pub revisions : option_map (λ row. row.revisions) (nth (rows_of (changes_of folded_hours)) 1) ≡ Some (revision_from 0 hourly ∷ [])
  pub entered : instants_of (entries (ledger_of folded_hours) 1) ≡ 7200 ∷ []
  pub lost : attempts (ledger_of folded_hours) 1 7200 ≡
      record { number = 1; begun = moment_of 7200; epoch = 3; fate = fates.Lost } ∷ []
  pub used_up : option_map (λ f. standing_of f 7300) (filed (ledger_of folded_hours) 1 7200) ≡ Some (standings.Exhausted reasons.Attempts)
  pub above_floor : unentered first_day folded_hours 1 14400 ≡ 10800 ∷ 14400 ∷ []
  pub mark_entered : mark folded_hours 1 ≡ Some 7200
  pub taker : holder folded_hours 1 ≡ record { worker = 5; epoch = 3; until = 0 }
  pub never_taken : holder folded_hours 2 ≡ untaken
  pub taken : holder taken_upon 1 ≡ record { worker = 0; epoch = 4; until = 14460 }
  pub unswept : last_swept folded_hours 1 ≡ None
  pub token : kept_place taken_upon (codes "t") ≡ Some 2
  pub no_token : kept_place taken_upon (codes "u") ≡ None
  pub counted : counts folded_hours 7300 ≡ record {
    moment = 7300;
    steps = 40;
    schedules = 1;
    groups = 1;
    entries = 3;
    done = 2;
    finals = 0;
    attempts = 0;
    age = 0;
    cancelled = 0;
    waiting = 0;
    due = 0;
    live = 0;
    exhausted = 1;
    letters = 0;
  }

-- an entry that was closed after three attempts is kept for its letter. In a group of its own a schedule acts each hour
-- from 900 on; its one entry so far was cancelled and folded away
abbrev pub folded_letter : History
folded_letter =
    based (record {
      size = 90;
      at = 1003;
      epochs = [];
      takers = [];
      floors = record { inc = 2; instant = 900 } ∷ [];
      folded = record none_folded { cancelled = 1 };
      places = 2 ∷ 3 ∷ 4 ∷ 20 ∷ 21 ∷ 22 ∷ 47 ∷ 48 ∷ 75 ∷ 76 ∷ 77 ∷ [];
      losses = [];
    })
    (grown beginning
    (group_created (codes "g") ∷ creation 900 retried ∷ creation_in (codes "g") 900 hourly ∷ entered 1000 ∷ lost_attempt 1000 1
    ++ lost_attempt 1001 2 ++ lost_attempt 1003 3 ++ steps.Close (moment_of 1003) 1 1000 reasons.Attempts ∷ []))

-- what the definitions say of it
pub record FoldedLetter : Type 0 where
  pub size : count (steps.Boot (moment_of 1003) upon folded_letter) ≡ 91
  pub begun : step_at folded_letter 21 ≡ Some (begin 1000 1 1)
  pub group : has_group (groups_of (changes_of folded_letter)) (codes "g") ≡ true
  pub letter : letters folded_letter dead_queue ≡ record { inc = 1; instant = 1000; reason = outcomes.Attempts } ∷ []
  pub mark_floor : mark folded_letter 2 ≡ Some 900
  pub unfloored : unentered first_day folded_letter 1 4500 ≡ []
  pub above_floor : unentered first_day folded_letter 2 4500 ≡ 4500 ∷ []
  pub counted : counts folded_letter 1003 ≡ record {
    moment = 1003;
    steps = 90;
    schedules = 2;
    groups = 2;
    entries = 2;
    done = 0;
    finals = 0;
    attempts = 1;
    age = 0;
    cancelled = 1;
    waiting = 0;
    due = 0;
    live = 0;
    exhausted = 0;
    letters = 1;
  }
