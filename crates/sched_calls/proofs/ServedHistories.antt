-- The requests written out are served as the definition says: all of it computes.
use Rattle.std.specs.Prelude.{refl}
use Rattle.std.proofs.Common.{ℕ, ap, inl, inr, arith}
use Rattle.sched_plain.specs.declared.write.Write.{Write}
use Rattle.sched_plain.specs.declared.write.Write.TheVariants as writes
use Rattle.sched_plain.specs.Occurrences.{occ_below}
use Rattle.sched_calls.specs.ServedRows.{ServesRows}
use Rattle.sched_calls.specs.Serves.{caught_up, next_incarnation, enters_first, settled, enters, begins, next_shard, swept}

-- the age in what a creation says
abbrev age_of : Write → ℕ
age_of (writes.CreateSchedule group name token content) = content.policy.age
age_of write = 0

pub serves_rows : ServesRows
unfolding occ_below
serves_rows =
    record {
      creation_served = (inr (record { new = refl; allowed = refl; zone = refl; entered = _; caught_up = caught_up; added = refl; answered = refl }), refl);
      repeated_token = (inl (refl, inl (record { kept = _; found = refl; repeated = refl; unchanged = refl; answered = refl })), refl);
      other_write_of_a_token = (
        inl (refl, inr (inl (record { kept = _; found = refl; other = λ same. omega (arith, ap age_of same); unchanged = refl; answered = refl }))),
        refl,
      );
      no_such_group = (inl (refl, inr (inr (inl (record { new = refl; fault = _; found = refl; unchanged = refl; answered = refl })))), refl);
      default_group_stays = (inl (refl, inr (inr (inl (record { new = refl; fault = _; found = refl; unchanged = refl; answered = refl })))), refl);
      group_exists = (inl (refl, inr (inr (inl (record { new = refl; fault = _; found = refl; unchanged = refl; answered = refl })))), refl);
      second_creation_refused = (inl (refl, inr (inr (inl (record { new = refl; fault = _; found = refl; unchanged = refl; answered = refl })))), refl);
      nothing_to_update = (inl (refl, inr (inr (inl (record { new = refl; fault = _; found = refl; unchanged = refl; answered = refl })))), refl);
      no_more_groups = (inl (refl, inr (inr (inl (record { new = refl; fault = _; found = refl; unchanged = refl; answered = refl })))), refl);
      zone_not_had = (inl (refl, inr (inr (inr (record { new = refl; allowed = refl; lacking = refl; unchanged = refl; answered = refl })))), refl);
      zone_told_first = (inr (record { new = refl; allowed = refl; zone = refl; entered = _; caught_up = caught_up; added = refl; answered = refl }), refl);
      catch_up_first = (
        inr (record {
          new = refl;
          allowed = refl;
          zone = refl;
          entered = _;
          caught_up = enters_first refl (next_incarnation refl caught_up);
          added = refl;
          answered = refl;
        }),
        refl,
      );
      schedule_read = (refl, refl, refl, refl);
      no_schedule_to_read = (refl, refl, refl, refl);
      no_group_to_read = (refl, refl, refl, refl);
      sweep_served = (
        next_shard (settled refl)
            (next_shard (enters refl (begins refl (settled refl)))
            (next_shard (settled refl) (next_shard (settled refl) (next_shard (settled refl)
            (next_shard (settled refl) (next_shard (settled refl) (next_shard (settled refl) swept))))))),
        refl,
      );
    }
