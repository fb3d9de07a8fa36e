-- Facts on the front of a stream that is, or is not, the head of a request.
use Rattle.std.proofs.Common.{◌≡◌, ◌≢◌, ℕ, ◌-◌, ◌<◌, ◌≤◌, List, [], ◌∷◌, ◌++◌, length, drop, Option, Some, None, IfSome, refl, sym, ap, subst, ◌∙◌, append_assoc, append-nil, arith, length-append}
use Rattle.std.proofs.lemmas.List.{same_from_push}
use Rattle.httparse.specs.Grammar.{RequestHead, LineEnd, crlf, lf, print_end, print_request}
use Rattle.http_wire.specs.Devices.{Gives}
use Rattle.http_wire.specs.declared.limits.TheConstants.{HEAD_LIMIT}
use Rattle.http_wire.specs.Heads.{BeginsWithHead, HasNoHead, NeverHasHead, IsNoShortHead, HasNothingBehindHead, TakesFewer, TakesUpTo}
use Rattle.http_wire.proofs.DeviceLemmas.{Gives-append}

-- a list that ends in this element
abbrev pub EndsIn : ℕ → List ℕ → Type 0
EndsIn last xs = (init : List ℕ) × (xs ≡ init ++ last ∷ [])

-- a list that is not empty ends in some element
pub last_split : (x : ℕ) (xs : List ℕ) → (last : ℕ) × EndsIn last (x ∷ xs)
last_split x [] = (x, ([], refl))
last_split x (y ∷ ys) = let (last, (init, e)) = last_split y ys in (last, (x ∷ init, ap (λ l. x ∷ l) e))

-- what stands in front of a list does not change its end
EndsIn-append : (x f e : List ℕ) → EndsIn 10 e → EndsIn 10 (x ++ (f ++ e))
EndsIn-append x f e (init, is) =
    (x ++ (f ++ init), ap (λ l. x ++ (f ++ l)) is ∙ ap (λ l. x ++ l) (sym (append_assoc f init (10 ∷ []))) ∙ sym (append_assoc x (f ++ init) (10 ∷ [])))

-- a line ends in a line feed
print_end_ends : (e : LineEnd) → EndsIn 10 (print_end e)
print_end_ends crlf = (13 ∷ [], refl)
print_end_ends lf = ([], refl)

-- a head ends in a line feed
pub print_request_ends : (h : RequestHead) → EndsIn 10 (print_request h)
unfolding print_request
print_request_ends h = EndsIn-append _ _ _ (print_end_ends h.last)

-- where one more byte completes a head, the head is all of the bytes, and the byte is a line feed
pub completed : (xs : List ℕ) (b : ℕ) (h : RequestHead) (rest : List ℕ) → HasNoHead xs
    → BeginsWithHead (xs ++ b ∷ []) h rest → (rest ≡ []) × (b ≡ 10)
completed xs b h [] none begins =
    let (init, ends) = print_request_ends h in
    let whole : xs ++ b ∷ [] ≡ init ++ 10 ∷ [] = begins.reads.1 ∙ ap (λ l. l ++ []) ends ∙ append-nil (init ++ 10 ∷ []) in
    (refl, (same_from_push xs init b 10 whole).1)
completed xs b h (r ∷ more) none begins =
    let (last, (init, ends)) = last_split r more in
    let whole : xs ++ b ∷ [] ≡ (print_request h ++ init) ++ last ∷ [] =
    begins.reads.1 ∙ ap (λ l. print_request h ++ l) ends ∙ sym (append_assoc (print_request h) init (last ∷ [])) in
    let before : xs ≡ print_request h ++ init = (same_from_push xs (print_request h ++ init) b last whole).0 in
    absurd (none h init (record { reads = (begins.reads.0, before); fields = begins.fields }))

-- so a byte that is no line feed completes none
pub unfinished : (xs : List ℕ) (b : ℕ) → HasNoHead xs → b ≢ 10 → HasNoHead (xs ++ b ∷ [])
unfinished xs b none other h rest begins = other (completed xs b h rest none begins).1

-- and a line feed that completes one completes all of the bytes
pub complete : (xs : List ℕ) (b : ℕ) → HasNoHead xs → (h : RequestHead) × (rest : List ℕ) × BeginsWithHead (xs ++ b ∷ []) h rest
    → (h : RequestHead) × BeginsWithHead (xs ++ b ∷ []) h []
complete xs b none (h, rest, begins) =
    let P : List ℕ → Type 0 = λ r. BeginsWithHead (xs ++ b ∷ []) h r in (h, subst P (completed xs b h rest none begins).0 begins)

-- the empty front of a stream is no head
pub HasNoHead-nil : HasNoHead []
HasNoHead-nil h rest begins =
    let (init, ends) = print_request_ends h in
    let empty : length {A = ℕ} [] ≡ length ((init ++ 10 ∷ []) ++ rest) = ap length (begins.reads.1 ∙ ap (λ l. l ++ rest) ends) in
    absurd (omega (arith, empty, length-append {A = ℕ}))

-- what stands behind bytes that were read stands behind something
some_behind : (head rest : List ℕ) → 0 < length head → 0 < length (head ++ rest)
some_behind head rest some = omega (arith, some, length-append {A = ℕ})

-- at its end the stream has no head, where what was read has none
pub unframed_at_end : (before after : Option (List ℕ)) (head : List ℕ) → Gives before head after
    → IfSome after (λ bytes. bytes ≡ []) → HasNoHead head → 0 < length head → IfSome before IsNoShortHead
unframed_at_end before None head e ends none some = rw e tt
unframed_at_end before (Some rest) head e ends none some =
    let P : RequestHead → List ℕ → List ℕ → Type 0 = λ h more l. BeginsWithHead l h more in
    rw (e, ends) (record {
      something = some_behind head [] some;
      none = λ h more begins short. none h more (subst (P h more) (append-nil head) begins);
    })

-- nor where what was read never has one
pub unframed_for_ever : (before after : Option (List ℕ)) (head : List ℕ) → Gives before head after
    → NeverHasHead head → 0 < length head → IfSome before IsNoShortHead
unframed_for_ever before None head e never some = rw e tt
unframed_for_ever before (Some rest) head e never some = rw e (record {
  something = some_behind head rest some;
  none = λ h more begins short. never rest h more begins;
})

-- of two splits of one list, the shorter front is a front of the longer one
pub front_within : (a b c d : List ℕ) → a ++ b ≡ c ++ d → length c ≤ length a → a ≡ c ++ drop (length c) a
front_within a b [] d e le = refl
front_within [] b (x ∷ c) d e le = absurd (omega arith)
front_within (y ∷ a) b (x ∷ c) d e le =
    let heads : y ≡ x = cc in
    let tails : a ++ b ≡ c ++ d = cc in
    let inner : a ≡ c ++ drop (length c) a = front_within a b c d tails (omega arith) in
    ap (λ l. y ∷ l) inner ∙ ap (λ z. z ∷ (c ++ drop (length c) a)) heads

-- nor where as many bytes as a head may have hold none
pub unframed_at_limit : (before after : Option (List ℕ)) (head : List ℕ) → Gives before head after
    → HasNoHead head → length head ≡ HEAD_LIMIT → IfSome before IsNoShortHead
unframed_at_limit before None head e none full = rw e tt
unframed_at_limit before (Some rest) head e none full = rw e (record {
  something = some_behind head rest (omega (arith, full));
  none = λ h more begins short.
      none h (drop (length (print_request h)) head) (record {
        reads = (begins.reads.0, front_within head rest (print_request h) more begins.reads.1 (omega (arith, short, full)));
        fields = begins.fields;
      });
})

-- bytes that never make a head have none
pub never_none : (head : List ℕ) → NeverHasHead head → HasNoHead head
never_none head never h rest begins =
    let P : List ℕ → Type 0 = λ l. BeginsWithHead l h rest in never [] h rest (subst P (sym (append-nil head)) begins)

-- nothing stands behind a head that the last byte completes
pub most_completed : (xs : List ℕ) (b : ℕ) → HasNoHead xs → HasNothingBehindHead (xs ++ b ∷ [])
most_completed xs b none h rest begins = (completed xs b h rest none begins).0

-- so many bytes behind others, of which so many are wanted
pub fewer_after : (a b c : Option (List ℕ)) (xs : List ℕ) (n k : ℕ) → Gives a xs b → length xs ≤ n → k ≡ length xs
    → TakesFewer (n - k) b c → TakesFewer n a c
fewer_after a b c xs n k e within long part = record {
  taken = xs ++ part.taken;
  fewer = omega (arith, part.fewer, within, long, length-append {A = ℕ});
  gives = Gives-append a b c xs part.taken e part.gives;
}

pub up_to_after : (a b c : Option (List ℕ)) (xs : List ℕ) (n k : ℕ) → Gives a xs b → length xs ≤ n → k ≡ length xs
    → TakesUpTo (n - k) b c → TakesUpTo n a c
up_to_after a b c xs n k e within long part = record {
  taken = xs ++ part.taken;
  within = omega (arith, part.within, within, long, length-append {A = ℕ});
  gives = Gives-append a b c xs part.taken e part.gives;
}
