-- Facts on what devices tell, joined from call to call.
use Rattle.std.proofs.Common.{◌≡◌, ℕ, ◌+◌, List, [], ◌++◌, refl, Option, Some, None, option_map, append_assoc, append-nil, sym, ap, ◌∙◌, take, drop, length, ◌-◌, arith}
use Rattle.std.proofs.lemmas.Grind.{common_steps}
use Rattle.std.proofs.Math.Seq.{take-add}
use Rattle.http_wire.specs.Devices.{Gives, Gets}

-- nothing was taken
pub Gives-nil : (a : Option (List ℕ)) → Gives a [] a
Gives-nil None = refl
Gives-nil (Some left) = refl

-- nothing was added
pub Gets-nil : (a : Option (List ℕ)) → Gets a [] a
Gets-nil None = refl
Gets-nil (Some got) = ap Some (sym (append-nil got))

-- two pieces that were added one after the other
pub Gets-append : (a b c : Option (List ℕ)) (xs ys : List ℕ) → Gets a xs b → Gets b ys c → Gets a (xs ++ ys) c
Gets-append None b c xs ys e f = f ∙ ap (λ o. option_map (λ got. got ++ ys) o) e
Gets-append (Some got) b c xs ys e f =
    f ∙ ap (λ o. option_map (λ got. got ++ ys) o) e ∙ ap Some (append_assoc got xs ys)

-- two pieces that were taken one after the other
pub Gives-append : (a b c : Option (List ℕ)) (xs ys : List ℕ) → Gives a xs b → Gives b ys c → Gives a (xs ++ ys) c
Gives-append a b None xs ys e f = e ∙ ap (λ o. option_map (λ rest. xs ++ rest) o) f
Gives-append a b (Some left) xs ys e f =
    e ∙ ap (λ o. option_map (λ rest. xs ++ rest) o) f ∙ ap Some (sym (append_assoc xs ys left))

-- a front that was added, and a front of what follows it
pub Gets-more : (a b c : Option (List ℕ)) (bytes : List ℕ) (sent count : ℕ)
    → Gets a (take sent bytes) b → Gets b (take count (take (length bytes - sent) (drop sent bytes))) c
    → Gets a (take (sent + count) bytes) c
Gets-more a b c bytes sent count e f =
    let whole : take (length bytes - sent) (drop sent bytes) ≡ drop sent bytes = grind (arith, common_steps) in
    let g : Gets b (take count (drop sent bytes)) c = rw (← whole) f in
    rw (take-add sent count bytes) (Gets-append a b c (take sent bytes) (take count (drop sent bytes)) e g)
