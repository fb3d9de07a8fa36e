use Rattle.std.proofs.Common.{ℕ, List, inr, subst}
use Rattle.next_command.specs.Answers.{asks, IsRefusalTold}
use Rattle.next_command.proofs.telling.tell_next.Goals as goal

pub returns-in-Ok-Refusal-clause-ends : goal.returns-in-Ok-Refusal-clause-ends
returns-in-Ok-Refusal-clause-ends g c =
    let refused = rw c.in-Ok-Refusal.field-0-is at c.in-Ok-Refusal.ensures.answered in
    let asked = subst (λ (expression : List ℕ). IsRefusalTold (g.Z.ZoneFiles.told c.args.zones.now) (asks expression c.args.zone.now c.args.from.0 c.args.count) c.in-Ok-Refusal.text.items)
    c.as_bytes.ensures.value refused in
    (c.in-Ok-Refusal.text.items, inr asked, rw c.deref-in-Ok-Refusal.ensures.value at c.in-Err-send_all.ensures.cut)
