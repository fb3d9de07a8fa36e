-- The cells of a valid step keep the rules of its table, and a step whose cells keep them is valid.
use Rattle.std.proofs.Common.{◌≡◌, ℕ, ◌+◌, ◌-◌, ◌^◌, ◌<◌, ◌≤◌, true, nat_le, List, [], ◌∷◌, length, refl, arith, lit<}
use Rattle.std.specs.List.{AllByRecursion}
use Rattle.std.proofs.lemmas.Bool.{leb-true, ltb-true, eqb-true, le-leb, lt-ltb, eq-eqb, and_parts}
use Rattle.std.proofs.lemmas.List.Elements.{All-from_recursion, recursion_from_All}
use Rattle.plain_words.specs.declared.limits.TheConstants.{LONGEST_DESCRIPTION, LONGEST_EXPRESSION, LONGEST_ARN, LONGEST_WINDOW, LONGEST_ZONE, MOST_RETRIES, LEAST_AGE, LONGEST_AGE, MOST_PAIRS, SHARDS, LEASE_SECONDS}
use Rattle.plain_words.specs.Moments.{last_moment}
use Rattle.plain_words.specs.Words.{name_fault, zone_name_fault}
use Rattle.sched_plain.specs.declared.schedule.Schedule.{Schedule}
use Rattle.sched_plain.specs.declared.write.Write.{Write}
use Rattle.sched_plain.specs.declared.write.Write.TheVariants as writes
use Rattle.sched_plain.specs.declared.step.Pair.{Pair}
use Rattle.sched_plain.specs.declared.step.Step.{Step}
use Rattle.sched_plain.specs.declared.step.Step.TheVariants as steps
use Rattle.sched_plain.specs.Validity.{IsContent, IsWrite, IsPair, IsValid}
use Rattle.step_codec.specs.Cells.{One, Cell, Number}
use Rattle.step_codec.specs.Payload.{IsExact, IsExactContent, IsExactWrite, cells, content_cells, pair_cells, write_cells}
use Rattle.step_codec.specs.Rules as rule
use Rattle.step_codec.specs.Format.{content_table, fields, change_table, pairs_table}
use Rattle.step_codec.proofs.Fitting.{FitsTable}
use Rattle.step_codec.proofs.RuleLaws as laws

-- the cells of a step, by its tag
abbrev pub FitsStep : List Cell → Type 0
FitsStep (Number size tag ∷ more) = (size ≡ One) × (rule.is_code 11 tag ≡ true) × FitsTable (fields tag) more
FitsStep cells = ⊥

-- ---- what is valid fits

content_fits : (c : Schedule) → IsContent c → FitsTable content_table (content_cells c)
content_fits c v =
    let description = laws.text_length 0 LONGEST_DESCRIPTION c.description v.description in
    let text = laws.text_length 1 LONGEST_EXPRESSION c.text v.text in
    let zone = laws.zone_name_fits c.zone v.zone in
    let target = laws.text_length 1 LONGEST_ARN c.target v.target in
    let role = laws.text_length 1 LONGEST_ARN c.role v.role in
    let queue = laws.queue_fits c.queue v.queue in
    let input = laws.input_fits c.input v.input in
    let enabled = laws.flag_fits c.enabled in
    let deleted = laws.flag_fits c.delete_after in
    let window = v.window in
    let retries = v.retries in
    let age = v.longest_age in (
      (refl, laws.text_passes 0 LONGEST_DESCRIPTION c.description v.description, omega arith),
      (
        (refl, laws.expression_passes c.text c.expr v.text v.expression, omega arith),
        (
          (refl, zone.0, zone.1),
          (
            laws.date_fits c.start v.start,
            (
              laws.date_fits c.finish v.finish,
              (
                (refl, enabled.0, enabled.1),
                (
                  (refl, deleted.0, deleted.1),
                  (
                    (refl, le-leb c.window LONGEST_WINDOW v.window, omega arith),
                    (
                      (refl, le-leb c.policy.retries MOST_RETRIES v.retries, omega arith),
                      (
                        (refl, laws.within LEAST_AGE LONGEST_AGE c.policy.age v.least_age v.longest_age, omega arith),
                        (
                          (refl, laws.text_passes 1 LONGEST_ARN c.target v.target, omega arith),
                          (
                            (refl, laws.text_passes 1 LONGEST_ARN c.role v.role, omega arith),
                            (
                              (refl, queue.0, omega arith),
                              (
                                (refl, input.0, omega arith),
                                tt,
                              ),
                            ),
                          ),
                        ),
                      ),
                    ),
                  ),
                ),
              ),
            ),
          ),
        ),
      ),
    )

write_fits : (w : Write) → IsWrite w → FitsTable change_table (write_cells w)
write_fits (writes.CreateSchedule group name token content) v =
    (refl, refl, lit< tt, ((refl, (laws.token_fits token v.2).0, (laws.token_fits token v.2).1), ((refl, (laws.name_fits group v.0).0, (laws.name_fits group v.0).1), ((refl, (laws.name_fits name v.1).0, (laws.name_fits name v.1).1), content_fits content v.3))))
write_fits (writes.UpdateSchedule group name token content) v =
    (refl, refl, lit< tt, ((refl, (laws.token_fits token v.2).0, (laws.token_fits token v.2).1), ((refl, (laws.name_fits group v.0).0, (laws.name_fits group v.0).1), ((refl, (laws.name_fits name v.1).0, (laws.name_fits name v.1).1), content_fits content v.3))))
write_fits (writes.DeleteSchedule group name token) v =
    (refl, refl, lit< tt, ((refl, (laws.token_fits token v.2).0, (laws.token_fits token v.2).1), ((refl, (laws.name_fits group v.0).0, (laws.name_fits group v.0).1), ((refl, (laws.name_fits name v.1).0, (laws.name_fits name v.1).1), tt))))
write_fits (writes.CreateGroup name token) v =
    (refl, refl, lit< tt, ((refl, (laws.token_fits token v.1).0, (laws.token_fits token v.1).1), ((refl, (laws.name_fits name v.0).0, (laws.name_fits name v.0).1), ((refl, refl, lit< tt), tt))))
write_fits (writes.DeleteGroup name token) v =
    (refl, refl, lit< tt, ((refl, (laws.token_fits token v.1).0, (laws.token_fits token v.1).1), ((refl, (laws.name_fits name v.0).0, (laws.name_fits name v.0).1), ((refl, refl, lit< tt), tt))))

pairs_fit : (pairs : List Pair) → AllByRecursion IsPair pairs → FitsTable (pairs_table (length pairs)) (pair_cells pairs)
pairs_fit [] valid = tt
pairs_fit (p ∷ more) valid =
    let instant = valid.0.instant in
    let late = valid.0.late in
    let small : p.chosen - p.instant ≤ 86399 = omega arith in (
      (refl, le-leb p.instant last_moment instant, omega arith),
      (
        (refl, le-leb (p.chosen - p.instant) 86399 small, omega arith),
        pairs_fit more valid.1,
      ),
    )

pub valid_fits : (s : Step) → IsValid s → FitsStep (cells s)
valid_fits (steps.Boot at) v = (refl, refl, (refl, le-leb at.0 last_moment v, omega arith, tt))
valid_fits (steps.Zone at name bytes) v =
    let short = v.2 in
    let name_is = laws.zone_name_fits name v.1 in
    (refl, refl, (refl, le-leb at.0 last_moment v.0, omega arith, ((refl, name_is.0, name_is.1), ((refl, le-leb (length bytes) LONGEST_ZONE v.2, omega arith), tt))))
valid_fits (steps.Change at write) v = (refl, refl, (refl, le-leb at.0 last_moment v.0, omega arith, write_fits write v.1))
valid_fits (steps.Enter at inc pairs) v =
    (refl, refl, (refl, le-leb at.0 last_moment v.0, omega arith, ((refl, le-leb 1 inc v.1.0, omega arith), (refl, laws.within 1 MOST_PAIRS (length pairs) v.2 v.3, omega arith, pairs_fit pairs (recursion_from_All IsPair pairs v.4)))))
valid_fits (steps.Lease at shard worker epoch until) v =
    (refl, refl, (refl, le-leb at.0 last_moment v.0, omega arith, ((refl, lt-ltb shard SHARDS v.1, omega arith), ((refl, refl, v.2), ((refl, refl, v.3), ((refl, eq-eqb until (at.0 + LEASE_SECONDS) v.4, omega arith), tt))))))
valid_fits (steps.Release at shard worker epoch) v =
    (refl, refl, (refl, le-leb at.0 last_moment v.0, omega arith, ((refl, lt-ltb shard SHARDS v.1, omega arith), ((refl, refl, v.2), ((refl, refl, v.3), tt)))))
valid_fits (steps.Begin at inc instant number epoch) v =
    (refl, refl, (refl, le-leb at.0 last_moment v.0, omega arith, ((refl, le-leb 1 inc v.1.0, v.1.1), ((refl, le-leb instant last_moment v.2, omega arith), ((refl, le-leb 1 number v.3.0, v.3.1), ((refl, refl, v.4), tt))))))
valid_fits (steps.End at inc instant number verdict status) v =
    let verdict_is = laws.verdict_fits verdict in
    (refl, refl, (refl, le-leb at.0 last_moment v.0, omega arith, ((refl, le-leb 1 inc v.1.0, v.1.1), ((refl, le-leb instant last_moment v.2, omega arith), ((refl, le-leb 1 number v.3.0, v.3.1), ((refl, verdict_is.0, verdict_is.1), ((refl, laws.status_passes status v.4, laws.status_small status v.4), tt)))))))
valid_fits (steps.Close at inc instant reason) v =
    let reason_is = laws.reason_fits reason in
    (refl, refl, (refl, le-leb at.0 last_moment v.0, omega arith, ((refl, le-leb 1 inc v.1.0, v.1.1), ((refl, le-leb instant last_moment v.2, omega arith), ((refl, reason_is.0, reason_is.1), tt)))))
valid_fits (steps.Complete at inc) v = (refl, refl, (refl, le-leb at.0 last_moment v.0, omega arith, ((refl, le-leb 1 inc v.1.0, v.1.1), tt)))
valid_fits (steps.Swept at shard) v = (refl, refl, (refl, le-leb at.0 last_moment v.0, omega arith, ((refl, lt-ltb shard SHARDS v.1, omega arith), tt)))

-- ---- what fits is valid

moment_is : (n : ℕ) → rule.is_moment n ≡ true → n ≤ last_moment
moment_is n e = leb-true n last_moment e

content_valid : (c : Schedule) → FitsTable content_table (content_cells c) → IsExactContent c → IsContent c
content_valid c f exact =
    let age = and_parts (nat_le LEAST_AGE c.policy.age) (nat_le c.policy.age LONGEST_AGE) f.1.1.1.1.1.1.1.1.1.0.1 in
    record {
      description = laws.text_valid 0 LONGEST_DESCRIPTION c.description f.0.1;
      text = laws.expression_text c.text f.1.0.1;
      expression = exact.expression;
      zone = laws.none_is (zone_name_fault c.zone) f.1.1.0.1;
      start = laws.date_valid c.start f.1.1.1.0;
      finish = laws.date_valid c.finish f.1.1.1.1.0;
      window = leb-true c.window LONGEST_WINDOW f.1.1.1.1.1.1.1.0.1;
      retries = leb-true c.policy.retries MOST_RETRIES f.1.1.1.1.1.1.1.1.0.1;
      least_age = leb-true LEAST_AGE c.policy.age age.0;
      longest_age = leb-true c.policy.age LONGEST_AGE age.1;
      target = laws.text_valid 1 LONGEST_ARN c.target f.1.1.1.1.1.1.1.1.1.1.0.1;
      role = laws.text_valid 1 LONGEST_ARN c.role f.1.1.1.1.1.1.1.1.1.1.1.0.1;
      queue = laws.queue_valid c.queue exact.queue f.1.1.1.1.1.1.1.1.1.1.1.1.0.1;
      input = laws.input_valid c.input exact.input f.1.1.1.1.1.1.1.1.1.1.1.1.1.0.1;
    }

write_valid : (w : Write) → FitsTable change_table (write_cells w) → IsExactWrite w → IsWrite w
write_valid (writes.CreateSchedule group name token content) f exact =
    (laws.none_is (name_fault group) f.3.1.0.1, laws.none_is (name_fault name) f.3.1.1.0.1, laws.token_valid token exact.0 f.3.0.1, content_valid content f.3.1.1.1 exact.1)
write_valid (writes.UpdateSchedule group name token content) f exact =
    (laws.none_is (name_fault group) f.3.1.0.1, laws.none_is (name_fault name) f.3.1.1.0.1, laws.token_valid token exact.0 f.3.0.1, content_valid content f.3.1.1.1 exact.1)
write_valid (writes.DeleteSchedule group name token) f exact =
    (laws.none_is (name_fault group) f.3.1.0.1, laws.none_is (name_fault name) f.3.1.1.0.1, laws.token_valid token exact f.3.0.1)
write_valid (writes.CreateGroup name token) f exact =
    (laws.none_is (name_fault name) f.3.1.0.1, laws.token_valid token exact f.3.0.1)
write_valid (writes.DeleteGroup name token) f exact =
    (laws.none_is (name_fault name) f.3.1.0.1, laws.token_valid token exact f.3.0.1)

pairs_valid : (pairs : List Pair) → FitsTable (pairs_table (length pairs)) (pair_cells pairs) → AllByRecursion (λ p. p.instant ≤ p.chosen) pairs → AllByRecursion IsPair pairs
pairs_valid [] f early = tt
pairs_valid (p ∷ more) f early =
    let offset : p.chosen - p.instant ≤ 86399 = leb-true (p.chosen - p.instant) 86399 f.1.0.1 in
    let first = early.0 in
    (record { instant = moment_is p.instant f.0.1; early = first; late = omega arith }, pairs_valid more f.1.1 early.1)

incarnation_is : (inc : ℕ) → rule.counts_from_one inc ≡ true → inc < 2 ^ 32 → (1 ≤ inc) × (inc < 2 ^ 32)
incarnation_is inc e lt = (leb-true 1 inc e, lt)

pub fits_valid : (s : Step) → FitsStep (cells s) → IsExact s → IsValid s
fits_valid (steps.Boot at) f exact = moment_is at.0 f.2.1
fits_valid (steps.Zone at name bytes) f exact =
    (moment_is at.0 f.2.1, laws.none_is (zone_name_fault name) f.2.3.0.1, leb-true (length bytes) LONGEST_ZONE f.2.3.1.0.1)
fits_valid (steps.Change at write) f exact = (moment_is at.0 f.2.1, write_valid write f.2.3 exact)
fits_valid (steps.Enter at inc pairs) f exact =
    let count = and_parts (nat_le 1 (length pairs)) (nat_le (length pairs) MOST_PAIRS) f.2.3.1.1 in (
      moment_is at.0 f.2.1,
      incarnation_is inc f.2.3.0.1 f.2.3.0.2,
      leb-true 1 (length pairs) count.0,
      leb-true (length pairs) MOST_PAIRS count.1,
      All-from_recursion IsPair pairs (pairs_valid pairs f.2.3.1.3 (recursion_from_All (λ (p : Pair). p.instant ≤ p.chosen) pairs exact)),
    )
fits_valid (steps.Lease at shard worker epoch until) f exact =
    (moment_is at.0 f.2.1, ltb-true shard SHARDS f.2.3.0.1, f.2.3.1.0.2, f.2.3.1.1.0.2, eqb-true until (at.0 + LEASE_SECONDS) f.2.3.1.1.1.0.1)
fits_valid (steps.Release at shard worker epoch) f exact =
    (moment_is at.0 f.2.1, ltb-true shard SHARDS f.2.3.0.1, f.2.3.1.0.2, f.2.3.1.1.0.2)
fits_valid (steps.Begin at inc instant number epoch) f exact =
    (moment_is at.0 f.2.1, incarnation_is inc f.2.3.0.1 f.2.3.0.2, moment_is instant f.2.3.1.0.1, (leb-true 1 number f.2.3.1.1.0.1, f.2.3.1.1.0.2), f.2.3.1.1.1.0.2)
fits_valid (steps.End at inc instant number verdict status) f exact =
    (moment_is at.0 f.2.1, incarnation_is inc f.2.3.0.1 f.2.3.0.2, moment_is instant f.2.3.1.0.1, (leb-true 1 number f.2.3.1.1.0.1, f.2.3.1.1.0.2), laws.status_valid status f.2.3.1.1.1.1.0.1)
fits_valid (steps.Close at inc instant reason) f exact =
    (moment_is at.0 f.2.1, incarnation_is inc f.2.3.0.1 f.2.3.0.2, moment_is instant f.2.3.1.0.1)
fits_valid (steps.Complete at inc) f exact = (moment_is at.0 f.2.1, incarnation_is inc f.2.3.0.1 f.2.3.0.2)
fits_valid (steps.Swept at shard) f exact = (moment_is at.0 f.2.1, ltb-true shard SHARDS f.2.3.0.1)
