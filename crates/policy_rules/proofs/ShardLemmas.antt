-- Numbers of shards, by their places.
use Rattle.std.proofs.Common.{◌≡◌, ℕ, zero, suc, ◌+◌, ◌-◌, List, [], ◌∷◌, refl, ap, ◌∙◌, arith}
use Rattle.std.specs.Prelude.{slice_get, slice_index}
use Rattle.std.proofs.lemmas.Option.{unwrap_or-slice_get}
use Rattle.plain_words.specs.Lists.{nth}
use Rattle.plain_words.proofs.ListLemmas.{nth_first, nth_rest}
use Rattle.sched_plain.specs.Base.{of_the_shard}

-- places from 1 and indices from 0
nth_index : {A : Type 0} (xs : List A) (i : ℕ) → nth xs (i + 1) ≡ slice_get xs i
nth_index [] i = refl
nth_index (x ∷ xs) zero = nth_first x xs 1 refl
nth_index (x ∷ xs) (suc i) =
    let before : suc i + 1 - 1 ≡ i + 1 = omega arith in
    nth_rest x xs (suc i + 1) (λ e. omega (arith, e)) ∙ ap (nth xs) before ∙ nth_index xs i

-- the number of a shard is the one at its index
pub number_of_shard : (numbers : List ℕ) (shard : ℕ) → of_the_shard numbers shard ≡ slice_index numbers shard
number_of_shard numbers shard =
    let e : nth numbers (shard + 1) ≡ slice_get numbers shard = nth_index numbers shard in
    rw e (unwrap_or-slice_get numbers shard 0)
