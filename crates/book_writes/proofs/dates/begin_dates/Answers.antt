use Rattle.std.proofs.Common.{◌∙◌, ap, Option, ℕ, ◌++◌, ◌∷◌, []}
use Rattle.book_writes.proofs.dates.begin_dates.Goals as goal

pub returns : goal.returns
returns c = record {
  first = c.first_instant-first.result;
  is = c.first_instant-first.ensures.first c.requires.known;
  coming = c.push.ensures.dates;
  ending = c.push-2.ensures.dates ∙ ap (λ (date : Option ℕ). c.args.finished.now.dates ++ date ∷ []) c.finished_at_birth.ensures;
}
