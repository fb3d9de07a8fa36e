use Rattle.std.proofs.Common.{◌≡◌, ℕ, List, Vec, Result, Ok, Err, IfOk, sym, subst, rules}
use Rattle.std.specs.declared.alloc.Global.{Global}
use Rattle.disk_port.specs.Past.{IsImage, image_of}
use Rattle.disk_port.specs.declared.event.Event.{Event}
use Rattle.disk_port.proofs.PastLemmas.{image_is}
use Rattle.disk_port.proofs.mem_disk.MemDisk.image.Goals as goal

imaged : {E : Type 0} (made : Result (Vec ℕ Global) E) (keep fill : ℕ) (first : List ℕ) (past : List Event)
    → IfOk made (λ file. file.items ≡ image_of keep fill first past) → IfOk made (λ file. IsImage first past file.items)
imaged (Ok file) keep fill first past is = subst (IsImage first past) (sym is) (image_is keep fill first past)
imaged (Err fault) keep fill first past is = tt

pub returns-clause-image : goal.returns-clause-image
returns-clause-image c =
    let first = c.args.self.now.first in
    let past = c.args.self.now.past in
    let exact : IfOk c.image_after.result (λ file. file.items ≡ image_of c.args.keep c.args.fill first past) = search rules in
    imaged c.image_after.result c.args.keep c.args.fill first past exact
