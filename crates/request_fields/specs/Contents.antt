-- The content that the body of a creation or an update says: the table of its fields, in the order in which they are
-- looked at.
use Rattle.std.specs.Prelude.{ℕ, true, false, if◌then◌else◌, unwrap_or, Option, Result, Ok, List, [], codes}
use Rattle.serde_json.specs.Data.{Data, null}
use Rattle.plain_words.specs.declared.limits.TheConstants.{LAST_MOMENT, LONGEST_DESCRIPTION, LONGEST_ARN, LONGEST_WINDOW, MOST_RETRIES, LEAST_AGE, LONGEST_AGE}
use Rattle.expressions.specs.declared.expression.Expr.{Expr}
use Rattle.expressions.specs.declared.expression.Expr.TheVariants as exprs
use Rattle.sched_plain.specs.declared.schedule.Policy.{Policy}
use Rattle.sched_plain.specs.declared.schedule.Schedule.{Schedule}
use Rattle.sched_calls.specs.declared.reply.Refusal.{Refusal}
use Rattle.request_fields.specs.declared.timing.Timing.{Timing}
use Rattle.request_fields.specs.declared.errand.Errand.{Errand}
use Rattle.request_fields.specs.Refusals.{◌giving◌}
use Rattle.request_fields.specs.Words.{text_word, zone_word, expression_word, target_word, queue_word, input_word, one_of}
use Rattle.request_fields.specs.Rows.{in_text, whole, an_object, required, defaulted, optional}

-- the least EndDate: StartDate, but for an `at`
abbrev pub earliest_finish : Expr → Option ℕ → ℕ
earliest_finish (exprs.At civil) start = 0
earliest_finish (exprs.Rate count unit) start = unwrap_or start 0
earliest_finish (exprs.Cron sets) start = unwrap_or start 0

-- the minutes of a flexible window, 0 for OFF: with OFF nothing else is looked at
unfoldable pub window_of : Data → Result ℕ Refusal
window_of window =
    required (codes "FlexibleTimeWindow.") (codes "Mode") (in_text (one_of (codes "OFF") (codes "FLEXIBLE"))) window giving λ off.
    if off then Ok 0
    else required (codes "FlexibleTimeWindow.") (codes "MaximumWindowInMinutes") (whole 1 LONGEST_WINDOW) window

-- when a schedule runs
unfoldable pub timing_of : Data → Result Timing Refusal
timing_of body =
    required [] (codes "ScheduleExpression") (in_text expression_word) body giving λ spelled.
    defaulted [] (codes "ScheduleExpressionTimezone") (in_text zone_word) (codes "UTC") body giving λ zone.
    optional [] (codes "StartDate") (whole 0 LAST_MOMENT) body giving λ start.
    optional [] (codes "EndDate") (whole (earliest_finish spelled.1 start) LAST_MOMENT) body giving λ finish.
    defaulted [] (codes "State") (in_text (one_of (codes "ENABLED") (codes "DISABLED"))) true body giving λ enabled.
    defaulted [] (codes "ActionAfterCompletion") (in_text (one_of (codes "DELETE") (codes "NONE"))) false body giving λ delete_after.
    required [] (codes "FlexibleTimeWindow") an_object body giving λ window.
    window_of window giving λ minutes.
    Ok (record {
      text = spelled.0;
      expr = spelled.1;
      zone = zone;
      start = start;
      finish = finish;
      enabled = enabled;
      delete_after = delete_after;
      window = minutes;
    })

-- the queue of dead letters; an object left out has no member
unfoldable pub queue_of : Data → Result (Option (List ℕ)) Refusal
queue_of target =
    defaulted (codes "Target.") (codes "DeadLetterConfig") an_object null target giving λ config.
    optional (codes "Target.DeadLetterConfig.") (codes "Arn") (in_text queue_word) config

-- how often and for how long an occurrence is tried again, by an object
unfoldable pub limits_of : Data → Result Policy Refusal
limits_of policy =
    defaulted (codes "Target.RetryPolicy.") (codes "MaximumRetryAttempts") (whole 0 MOST_RETRIES) MOST_RETRIES policy giving λ retries.
    defaulted (codes "Target.RetryPolicy.") (codes "MaximumEventAgeInSeconds") (whole LEAST_AGE LONGEST_AGE) LONGEST_AGE policy giving λ age.
    Ok (record { retries = retries; age = age })

-- the same by the object of a target, which may be left out
unfoldable pub policy_of : Data → Result Policy Refusal
policy_of target = defaulted (codes "Target.") (codes "RetryPolicy") an_object null target giving limits_of

-- what is sent, and where
unfoldable pub errand_of : Data → Result Errand Refusal
errand_of body =
    required [] (codes "Target") an_object body giving λ target.
    required (codes "Target.") (codes "Arn") (in_text target_word) target giving λ arn.
    required (codes "Target.") (codes "RoleArn") (in_text (text_word 1 LONGEST_ARN)) target giving λ role.
    queue_of target giving λ queue.
    optional (codes "Target.") (codes "Input") (in_text input_word) target giving λ input.
    policy_of target giving λ policy.
    Ok (record { target = arn; role = role; queue = queue; input = input; policy = policy })

-- the content of these parts
abbrev pub content_with : List ℕ → Timing → Errand → Schedule
content_with description timing errand = record {
  description = description;
  text = timing.text;
  expr = timing.expr;
  zone = timing.zone;
  start = timing.start;
  finish = timing.finish;
  enabled = timing.enabled;
  delete_after = timing.delete_after;
  window = timing.window;
  policy = errand.policy;
  target = errand.target;
  role = errand.role;
  queue = errand.queue;
  input = errand.input;
}

-- the content of a schedule, or the first field that breaks its rule
unfoldable pub content_of : Data → Result Schedule Refusal
content_of body =
    defaulted [] (codes "Description") (in_text (text_word 0 LONGEST_DESCRIPTION)) [] body giving λ description.
    timing_of body giving λ timing.
    errand_of body giving λ errand.
    Ok (content_with description timing errand)
