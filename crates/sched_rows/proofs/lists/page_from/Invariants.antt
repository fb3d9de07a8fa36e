use Rattle.std.proofs.Common.{◌≡◌, ◌≤◌, ◌++◌, ℕ, List, length, drop, option_map}
use Rattle.sched_calls.specs.Replies.{is_listed}
use Rattle.sched_rows.specs.Pages.{shown_of}
use Rattle.sched_rows.proofs.lists.page_from.Given as goal

-- the rows so far and those that are left are all that the list asks for
abbrev pub invariant-loop-i : goal.invariant-loop-i
invariant-loop-i l = record {
  all : shown_of (is_listed (option_map (λ g. g.now) l.group) l.prefix l.enabled (option_map {U = List ℕ × List ℕ} (λ names. (names.0.now, names.1.now)) l.after)) l.rows l.numbers
      ≡ l.page ++ shown_of (is_listed (option_map (λ g. g.now) l.group) l.prefix l.enabled (option_map {U = List ℕ × List ℕ} (λ names. (names.0.now, names.1.now)) l.after)) l.rows (drop l.i l.numbers);
  fits : length l.page ≤ l.max;
}
