-- The histories written out are what the definitions say of them: all of it computes.
use Rattle.std.proofs.Common.{◌≡◌, ℕ, zero, suc, ◌+◌, nat_lt, ◌==◌, Bool, false, ◌&&◌, ◌||◌, refl, inl, inr, arith}
use Rattle.std.proofs.lemmas.Bool.{cases_eq, ne_eqb, le-ltb}
use Rattle.plain_words.proofs.Booleans.{and_false}
use Rattle.plain_words.specs.Lists.{any_passing}
use Rattle.plain_words.specs.Moments.{last_moment}
use Rattle.sched_plain.specs.Items.{items}
use Rattle.sched_plain.specs.Examples.{first_day, finished}
use Rattle.sched_plain.specs.Occurrences.{occ_below, has_later, occurs_in}
use Rattle.sched_plain.specs.BaseRows.{FoldedHours, FoldedLetter}
use Rattle.sched_plain.specs.ExampleRows.{SweepsAreLegal, BrokenSteps, Finishing, Standings, LettersAndMarks, Occurring, Reported, Attempting}

pub sweeps_are_legal : SweepsAreLegal
unfolding occ_below
sweeps_are_legal =
    record {
      first = record { long = refl; legal = refl };
      windowed = record { long = refl; legal = refl };
      windowed_again = record { long = refl; legal = refl };
      retried_twice = record { long = refl; legal = refl };
      retried_out = record { long = refl; legal = refl };
      aged_out = record { long = refl; legal = refl };
      created_again = record { long = refl; legal = refl };
      updated = record { long = refl; legal = refl };
      deleted_at_work = record { long = refl; legal = refl };
      zoned = refl;
    }

pub broken_steps : BrokenSteps
unfolding occ_below
broken_steps =
    record {
      moment_back = refl;
      boot_later = refl;
      second_creation = refl;
      no_group = refl;
      zone_unknown = refl;
      token_kept = refl;
      token_kept_again = refl;
      update_too_soon = refl;
      utc_is_known = refl;
      zone_known = refl;
      no_more_groups = refl;
      group_again = refl;
      bad_zone = refl;
      too_early = refl;
      entered_twice = refl;
      chosen_late = refl;
      window_past = refl;
      begin_unentered = refl;
      close_unentered = refl;
      held_by_other = refl;
      epoch_jumps = refl;
      renewed_by_other = refl;
      never_taken = refl;
      old_epoch = refl;
      begun_live = refl;
      close_due = refl;
      close_other_reason = refl;
      number_again = refl;
      not_live = refl;
      other_number = refl;
      not_complete = refl;
      unentered_left = refl;
      due_left = refl;
      live_left = refl;
      back_and_unentered = refl;
      stale_and_number = refl;
    }

-- a test that no number passes finds none
none_pass : (test : ℕ → Bool) (n : ℕ) → ((i : ℕ) → test i ≡ false) → any_passing test n ≡ false
none_pass test zero fails = refl
none_pass test (suc n) fails = rw (none_pass test n fails, fails n) refl

-- what has to be 1000 is not later than 1000
not_later : (i : ℕ) (rest : Bool) → (nat_lt 1000 i && ((rest && (i == 1000)) || false)) ≡ false
not_later i rest =
    elim (cases_eq i 1000) [
      | inl same ↦ let low : nat_lt 1000 i ≡ false = le-ltb 1000 i (omega arith) in rw low refl
      | inr apart ↦
          let other : (i == 1000) ≡ false = ne_eqb i 1000 apart in
          let none : (rest && false) ≡ false = and_false rest in
          let never : (nat_lt 1000 i && false) ≡ false = and_false (nat_lt 1000 i) in
          rw (other, none) never
    ]

-- the schedule written out has nothing to come behind 1000
nothing_later : has_later first_day (items finished 1) 1000 ≡ false
unfolding has_later
nothing_later = none_pass (λ i. nat_lt 1000 i && occurs_in first_day (items finished 1) i) (last_moment + 1) (λ i. not_later i _)

pub finishing : Finishing
unfolding occ_below
finishing = record { may = rw nothing_later refl; next = rw nothing_later refl; once = refl; settled = refl }

pub standings : Standings
standings =
    record {
      in_window = refl;
      chosen_comes = refl;
      done = refl;
      second_delay = refl;
      third_due = refl;
      used_up = refl;
      sixth_due = refl;
      sixth_late = refl;
      too_old = refl;
      first_age = refl;
      cancelled = refl;
      past_age = refl;
    }

pub letters_and_marks : LettersAndMarks
letters_and_marks =
    record {
      one_letter = refl;
      age_letter = refl;
      no_letter = refl;
      mark_created = refl;
      mark_entered = refl;
      mark_unswept = refl;
      mark_swept = refl;
      mark_of_none = refl;
      mark_updated = refl;
      mark_removed = refl;
    }

pub occurring : Occurring
unfolding occ_below
occurring = record { late_hours = refl; spans = refl; entered_once = refl; second_incarnation = refl; ended_incarnation = refl }

pub reported : Reported
reported = record { after_sweep = refl; in_sweep = refl; swept = refl; not_swept = refl; booted = refl }

pub attempting : Attempting
attempting = record { ended = refl; lost = refl; taken = refl; renewed = refl }

pub folded_hours_read : FoldedHours
unfolding occ_below
folded_hours_read =
    record {
      size = refl;
      one_more = refl;
      moment = refl;
      kept_step = refl;
      folded_step = refl;
      step_upon = refl;
      kept_below = refl;
      firsts = refl;
      content = refl;
      revisions = refl;
      entered = refl;
      lost = refl;
      used_up = refl;
      above_floor = refl;
      mark_entered = refl;
      taker = refl;
      never_taken = refl;
      taken = refl;
      unswept = refl;
      token = refl;
      no_token = refl;
      counted = refl;
    }

pub folded_letter_read : FoldedLetter
unfolding occ_below
folded_letter_read =
    record {
      size = refl;
      begun = refl;
      group = refl;
      letter = refl;
      mark_floor = refl;
      unfloored = refl;
      above_floor = refl;
      counted = refl;
    }
