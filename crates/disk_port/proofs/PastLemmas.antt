-- What a file has gone through, and the images that it had.
use Rattle.std.proofs.Common.{◌≡◌, inl, inr, ⊎_elim, ℕ, Bool, true, false, nat_lt, List, [], ◌∷◌, ◌++◌, length, reverse, refl, sym, subst, arith}
use Rattle.std.proofs.lemmas.List.{reverse-append, length-replicate}
use Rattle.disk_port.specs.Crashes.{NoMore, Elapses}
use Rattle.disk_port.specs.Past.{seen_of, IsImage, unsynced, whole_or, image_of, Since}
use Rattle.disk_port.specs.declared.event.Event.{Event}
use Rattle.disk_port.specs.declared.event.Event.TheVariants.{Written, Synced}
use Rattle.disk_port.specs.Memory.{MemoryFile}
use Rattle.disk_port.proofs.WriteLemmas.{written_torn}

-- nothing happened
pub elapses_same : (passes : List Event → List ℕ → Type 0) (past : List Event) (image : List ℕ → Type 0)
    → Elapses (length past) (length past) (Since passes past) (Since passes past) image
elapses_same passes past image = record { later = omega arith; nothing_else = λ m file le left. inl left; keeps = λ m file le left. left }

-- one thing more happened
pub elapses_more : (passes : List Event → List ℕ → Type 0) (event : Event) (past : List Event)
    → Elapses (length past) (length (event ∷ past)) (Since passes past) (Since passes (event ∷ past)) (passes (event ∷ past))
elapses_more passes event past = record {
  later = omega arith;
  nothing_else = λ m file le left. ⊎_elim (λ now. inr now) (λ before. inl before.1) left;
  keeps = λ m file le left. inr (le, left);
}

-- the newest stands first
pub newest_first : {A : Type 0} (xs : List A) (x : A) → reverse (xs ++ x ∷ []) ≡ x ∷ reverse xs
newest_first xs x = reverse-append xs (x ∷ [])

-- what a read gives is one of the images
pub seen_image : (first : List ℕ) (past : List Event) → IsImage first past (seen_of first past)
seen_image first [] = refl
seen_image first (Written at bytes ∷ past) =
    (seen_of first past, seen_image first past, written_torn (seen_of first past) bytes at (length bytes) refl)
seen_image first (Synced ∷ past) = refl

-- a sync adds no image
pub synced_no_more : (first : List ℕ) (past : List Event) → NoMore (IsImage first past) (IsImage first (Synced ∷ past))
synced_no_more first past file is = subst (IsImage first past) (sym is) (seen_image first past)

-- a file of which nothing but its counts changed
pub mem_same : (old new : MemoryFile) → new.first ≡ old.first → new.past ≡ old.past
    → Elapses (length old.past) (length new.past) (λ from file. Since (IsImage old.first) old.past from file) (λ from file. Since (IsImage new.first) new.past from file) (λ file. IsImage new.first new.past file)
mem_same old new first past = rw (first, past) (elapses_same (IsImage old.first) old.past (IsImage old.first old.past))

-- a file that one thing more happened to
pub mem_more : (old new : MemoryFile) (event : Event) → new.first ≡ old.first → new.past ≡ event ∷ old.past
    → Elapses (length old.past) (length new.past) (λ from file. Since (IsImage old.first) old.past from file) (λ from file. Since (IsImage new.first) new.past from file) (λ file. IsImage new.first new.past file)
mem_more old new event first past = rw (first, past) (elapses_more (IsImage old.first) event old.past)

-- a file that was synced has no more images
pub mem_synced : (old new : MemoryFile) → new.first ≡ old.first → new.past ≡ Synced ∷ old.past
    → NoMore (IsImage old.first old.past) (IsImage new.first new.past)
mem_synced old new first past = rw (first, past) (synced_no_more old.first old.past)

length-whole_or : (is_whole : Bool) (fill : ℕ) (bytes : List ℕ) → length (whole_or is_whole fill bytes) ≡ length bytes
length-whole_or true fill bytes = refl
length-whole_or false fill bytes = length-replicate (length bytes) fill

-- the image that a crash leaves where later writes have one value in their ranges
pub image_is : (keep fill : ℕ) (first : List ℕ) (past : List Event) → IsImage first past (image_of keep fill first past)
image_is keep fill first [] = refl
image_is keep fill first (Written at bytes ∷ past) = (
  image_of keep fill first past,
  image_is keep fill first past,
  written_torn (image_of keep fill first past) _ at (length bytes) (length-whole_or (nat_lt (unsynced past) keep) fill bytes),
)
image_is keep fill first (Synced ∷ past) = refl
