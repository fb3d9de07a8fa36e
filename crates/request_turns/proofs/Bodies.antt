-- The object of a body has no more members than the body has bytes.
use Rattle.std.proofs.Common.{◌≡◌, ℕ, suc, ◌+◌, ◌≤◌, ◌==◌, Bool, true, false, if◌then◌else◌, List, [], ◌∷◌, length, Option, Some, None, option_map, option_and_then, Ordering, Less, Equal, Greater, subst, arith}
use Rattle.std.specs.Prelude.{⊤}
use Rattle.std.specs.Ordering.{match_ordering}
use Rattle.std.specs.Str.{is_utf8}
use Rattle.json.specs.Token.{Token}
use Rattle.json.specs.Lex.{tokens}
use Rattle.json.specs.Json as json
use Rattle.serde_json.specs.Data.{Data, number, array, object, item, Members, no_members, member, put}
use Rattle.serde_json.specs.Read.{number_of, of_json, of_items, of_members, max_depth, read}
use Rattle.request_fields.specs.Rows.{an_object}
use Rattle.request_fields.specs.Bodies.{value_of, object_in}
use Rattle.request_turns.specs.Turns.{member_count, item_members, members_in}
use Rattle.request_turns.proofs.Read.{written, items_written, members_written, taken, AtMost as AtMostLeft, few_written}
use Rattle.request_turns.proofs.Tokens.{few_tokens}

abbrev AtMost : {A : Type 0} → (A → ℕ) → ℕ → Option A → Type 0
AtMost f n None = ⊤
AtMost f n (Some a) = f a ≤ n

AtMost-map : {A B : Type 0} (f : A → ℕ) (g : B → ℕ) (m n : ℕ) (h : A → B) → ((a : A) → f a ≤ m → g (h a) ≤ n) → (o : Option A) → AtMost f m o → AtMost g n (option_map h o)
AtMost-map f g m n h k None x = tt
AtMost-map f g m n h k (Some a) x = k a x

AtMost-and_then : {A B : Type 0} (f : A → ℕ) (g : B → ℕ) (m n : ℕ) (h : A → Option B) → ((a : A) → f a ≤ m → AtMost g n (h a)) → (o : Option A) → AtMost f m o → AtMost g n (option_and_then h o)
AtMost-and_then f g m n h k None x = tt
AtMost-and_then f g m n h k (Some a) x = k a x

flat : {A : Type 0} (o : Option A) → AtMost (λ _. 0) 0 o
flat None = tt
flat (Some a) = omega arith

one_of_three : (o : Ordering) (a b c : Members) (n : ℕ) → members_in a ≤ n → members_in b ≤ n → members_in c ≤ n → members_in (match_ordering o a b c) ≤ n
one_of_three Less a b c n p q r = p
one_of_three Equal a b c n p q r = q
one_of_three Greater a b c n p q r = r

-- a member that is put is at most one more
few_put : (k : List ℕ) (d : Data) (ms : Members) → members_in (put k d ms) ≤ suc (member_count d + members_in ms)
few_put k d no_members = omega arith
few_put k d (member l e ms) =
    one_of_three _ (member k d (member l e ms)) (member l d ms) (member l e (put k d ms)) _ (omega arith) (omega arith) (omega (arith, few_put k d ms))

mutual
  few_of_json : (j : json.Json) (n : ℕ) → written j ≤ n → AtMost member_count n (of_json j)
  few_of_json json.null n h = omega arith
  few_of_json (json.boolean b) n h = omega arith
  few_of_json (json.number s) n h = AtMost-map (λ _. 0) member_count 0 n number (λ a x. omega arith) (number_of s) (flat _)
  few_of_json (json.string s) n h = omega arith
  few_of_json (json.array js) n h = AtMost-map item_members member_count (items_written js) n array (λ a x. omega arith) _ (few_of_items js _ (omega arith))
  few_of_json (json.object ms) n h = AtMost-map members_in member_count (members_written ms) n object (λ a x. omega arith) _ (few_of_members ms no_members _ (omega arith))

  few_of_items : (js : json.Items) (n : ℕ) → items_written js ≤ n → AtMost item_members n (of_items js)
  few_of_items json.no_items n h = omega arith
  few_of_items (json.item j js) n h =
      AtMost-and_then member_count item_members (written j) n _
      (λ d x. AtMost-map item_members item_members (items_written js) n (item d) (λ ds y. omega arith) _ (few_of_items js _ (omega arith)))
      _ (few_of_json j _ (omega arith))

  few_of_members : (ms : json.Members) (found : Members) (n : ℕ) → members_written ms + members_in found ≤ n → AtMost members_in n (of_members ms found)
  few_of_members json.no_members found n h = omega arith
  few_of_members (json.member name j ms) found n h =
      AtMost-and_then member_count members_in (written j) n _
      (λ d x. few_of_members ms (put name d found) n (omega (arith, few_put name d found)))
      _ (few_of_json j _ (omega arith))

last_within : (o : Option (json.Json × List Token)) (n : ℕ) → AtMostLeft taken (suc n) o → AtMost written n (option_and_then (λ p. json.if_last p.0 p.1) o)
last_within None n h = tt
last_within (Some (j, [])) n h = omega arith
last_within (Some (j, t ∷ r)) n h = tt

more : (o : Option (json.Json × List Token)) (m n : ℕ) → m ≤ n → AtMostLeft taken m o → AtMostLeft taken n o
more None m n le h = tt
more (Some p) m n le h = omega arith

few_read : (text : List ℕ) → AtMost member_count (length text) (read text)
few_read text =
    AtMost-and_then written member_count (length text) (length text) of_json (λ j x. few_of_json j (length text) x) _
    (last_within _ (length text) (more _ _ _ (few_tokens text) (few_written max_depth (tokens text))))

if_utf8 : (n : ℕ) (b : Bool) (o : Option Data) → AtMost member_count n o → AtMost member_count n (if b then o else None)
if_utf8 n true o h = h
if_utf8 n false o h = tt

if_kept : (n : ℕ) (d : Data) (b : Bool) → member_count d ≤ n → AtMost member_count n (if b then Some d else None)
if_kept n d true h = h
if_kept n d false h = tt

if_empty : (n : ℕ) (b : Bool) (o : Option Data) → AtMost member_count n o → AtMost member_count n (if b then Some (object no_members) else o)
if_empty n true o h = omega arith
if_empty n false o h = h

few_in : (body : List ℕ) → AtMost member_count (length body) (object_in body)
few_in body =
    if_empty (length body) (length body == 0) _ (AtMost-and_then member_count member_count (length body) (length body) an_object
    (λ d x. if_kept (length body) d _ x) (value_of body) (if_utf8 (length body) (is_utf8 body) (read body) (few_read body)))

pub few_members : (body : List ℕ) (value : Data) → object_in body ≡ Some value → member_count value ≤ length body
few_members body value e = subst (AtMost member_count (length body)) e (few_in body)
