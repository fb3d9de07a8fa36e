use Rattle.std.proofs.Common.{◌≡◌, ◌∙◌, ap, sym, subst, option_map}
use Rattle.std.specs.Option.{option_copied}
use Rattle.plain_words.specs.Lists.{nth}
use Rattle.plain_words.proofs.ListLemmas.{nth_map}
use Rattle.sched_rows.specs.State.{Kept, State}
use Rattle.sched_rows.proofs.rows.Rows.row.Goals as goal

pub returns : goal.returns
returns c =
    subst (λ (v : State). option_map (λ (k : Kept). k.row) (option_copied c.row.result) ≡ nth v.rows c.args.inc) c.self.view_is
    (ap (option_map (λ (k : Kept). k.row)) c.row.ensures ∙ sym (nth_map (λ (k : Kept). k.row) c.self.inside.schedules.rows c.args.inc))
