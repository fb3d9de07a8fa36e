-- What the laws of entries give.
use Rattle.std.proofs.Common.{◌≡◌, ℕ, ◌+◌, ◌≤◌, None, []}
use Rattle.sched_plain.specs.History.{History}
use Rattle.sched_plain.specs.Moments.{moment}
use Rattle.plain_words.specs.Lists.{nth}
use Rattle.sched_plain.specs.Changes.{changes_of}
use Rattle.sched_plain.specs.Rows.{rows_of}
use Rattle.sched_plain.specs.Items.{items}
use Rattle.expressions.specs.Calendar.{Calendar}
use Rattle.sched_plain.specs.Marks.{cover}
use Rattle.sched_plain.specs.Legal.{IsLegal}
use Rattle.book_laws.proofs.EntriesExact.{caught}

pub cover_bound : (c : Calendar) (h : History) → IsLegal c h → (inc : ℕ) → cover h inc ≤ moment h + 1
cover_bound c h legal inc = (caught c h legal inc).bound

pub unborn : (c : Calendar) (h : History) → IsLegal c h → (inc : ℕ) → nth (rows_of (changes_of h)) inc ≡ None → items h inc ≡ []
unborn c h legal inc = (caught c h legal inc).unborn
