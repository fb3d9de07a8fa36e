-- Laws of options and results that proofs of every crate cite.
use Rattle.std.proofs.Common.{◌≡◌, Option, Some, None, option_map, refl}
use Rattle.std.specs.Prelude.{Result, Ok, Err, OnOk}
use Rattle.plain_words.specs.Lists.{or_else}

pub some_same : {A : Type 0} (a b : A) → Some a ≡ Some b → a ≡ b
some_same a b e = cc e

pub map_none : {A B : Type 0} (f : A → B) (o : Option A) → option_map f o ≡ None → o ≡ None
map_none f None e = refl
map_none f (Some x) e = cc

-- where neither of two answers is there, each is not
pub else_none : {A : Type 0} (a b : Option A) → or_else a b ≡ None → (a ≡ None) × (b ≡ None)
else_none None b e = (refl, e)
else_none (Some x) b e = let clash : ⊥ = cc in absurd clash

-- what each of two answers is, the first that is there is
pub first_case : {A : Type 0} (P : A → Type 0) (o rest : Option A) (x : A) → (o ≡ Some x → P x) → (rest ≡ Some x → P x) → or_else o rest ≡ Some x → P x
first_case P None rest x f g e = g e
first_case P (Some y) rest x f g e = f e

-- what follows where a call went well
pub on_ok : {T E : Type 0} (r : Result T E) (P Q : Type 0) → (P → Q) → OnOk r P → OnOk r Q
on_ok (Ok x) P Q f p = f p
on_ok (Err e) P Q f p = tt
