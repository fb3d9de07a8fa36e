use Rattle.std.proofs.Common.{refl, sym, ap, ◌∙◌}
use Rattle.date_table.specs.Dates.{date_at}
use Rattle.book_parts.proofs.BeginningLemmas.{no_next, none_finished, unswept}
use Rattle.book_parts.proofs.parts.Parts.new.Goals as goal

pub returns : goal.returns
returns c = record {
  legal = tt;
  moment = refl;
  steps = refl;
  swept = λ shard low. unswept shard;
  holders = c.new.ensures;
  zones = c.new-2.ensures;
  rows = c.in_ok-new.ensures;
  ledger = c.new-4.ensures;
  shelf = c.new-5.ensures;
  letters = c.new-6.ensures;
  next = λ inc. ap (λ dates. date_at dates inc) c.new-7.ensures ∙ sym (no_next inc);
  finished = λ inc. ap (λ dates. date_at dates inc) c.new-8.ensures ∙ sym (none_finished inc);
}
