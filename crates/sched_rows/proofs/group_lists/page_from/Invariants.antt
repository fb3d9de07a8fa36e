use Rattle.std.proofs.Common.{◌≡◌, ◌≤◌, ◌++◌, length, drop, option_map}
use Rattle.sched_rows.specs.Pages.{groups_shown_of, is_listed_group}
use Rattle.sched_rows.proofs.group_lists.page_from.Given as goal

-- the groups so far and those that are left are all that the list asks for
abbrev pub invariant-loop-i : goal.invariant-loop-i
invariant-loop-i l = record {
  all : groups_shown_of (is_listed_group l.prefix (option_map (λ n. n.now) l.after)) l.groups l.places
      ≡ l.page ++ groups_shown_of (is_listed_group l.prefix (option_map (λ n. n.now) l.after)) l.groups (drop l.i l.places);
  fits : length l.page ≤ l.max;
}
