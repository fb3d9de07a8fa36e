-- Facts on a request that stands, or does not stand, at the front of a stream.
use Rattle.std.proofs.Common.{refl, All, ◌≡◌, ℕ, ◌<◌, ◌≤◌, List, [], ◌∷◌, ◌++◌, length, Option, Some, None, IfSome, sym, ap, subst, ◌∙◌, append_assoc, append-nil, arith, length-append}
use Rattle.std.proofs.lemmas.List.{nil_from_length}
use Rattle.httparse.specs.Grammar.{RequestHead, print_request}
use Rattle.httparse.proofs.GrammarLemmas.{request_unique, ReadsRequest-append}
use Rattle.http_wire.specs.declared.request.HttpRequest.{HttpRequest}
use Rattle.http_wire.specs.Devices.{Gives}
use Rattle.http_wire.specs.Framing.{Message, message_bytes, IsFramed, HasNoMessage, IsNoMessage, length_of_fields, request_of, TakesRequest, TakesPart, TakesAtMostOne, HasNothingBehind, Holds, HoldsOneList}
use Rattle.std.specs.List.{flat_map}
use Rattle.std.proofs.lemmas.List.Elements.{All-head, All-tail}
use Rattle.http_wire.specs.declared.limits.TheConstants.{HEAD_LIMIT}
use Rattle.http_wire.specs.Heads.{BeginsWithHead, IsNoShortHead, IsHead, TakesNoHead, TakesAtMostHead, TakesFewer, TakesUpTo}
use Rattle.http_wire.proofs.DeviceLemmas.{Gives-append}
use Rattle.http_wire.proofs.HeadLemmas.{HasNoHead-nil}

-- what a head says of the length of its body, as a reader answered it
abbrev pub SaysLength : List ℕ → Option ℕ → Type 0
SaysLength head said = (h : RequestHead) (rest : List ℕ) → BeginsWithHead head h rest → said ≡ length_of_fields h.fields

-- the request that a head and a body make, as a reader answered it
abbrev pub MakesRequest : List ℕ → List ℕ → HttpRequest → Type 0
MakesRequest head body request =
    (h : RequestHead) (rest : List ℕ) → BeginsWithHead head h rest → request ≡ request_of (record { head = h; body = body })

-- a message begins with its head
pub message_begins : (bytes : List ℕ) (m : Message) (rest : List ℕ) → IsFramed m → bytes ≡ message_bytes m ++ rest
    → BeginsWithHead bytes m.head (m.body ++ rest)
message_begins bytes m rest framed e = record {
  reads = (framed.head, e ∙ append_assoc (print_request m.head) m.body rest);
  fields = framed.fields;
}

-- where no head stands there is no message
pub no_message : (before : Option (List ℕ)) → IfSome before IsNoShortHead → IfSome before IsNoMessage
no_message None is_none = tt
no_message (Some bytes) is_none = record {
  something = is_none.something;
  none = λ m rest framed e. is_none.none m.head (m.body ++ rest) (message_begins bytes m rest framed e) framed.short;
}

-- what stands behind a head stands behind something
behind_head : (head rest : List ℕ) → IsHead head → 0 < length (head ++ rest)
behind_head [] rest is = absurd (HasNoHead-nil is.head [] is.begins)
behind_head (byte ∷ head) rest is = omega (arith, length-append {A = ℕ})

-- the head of a message behind a head that was read is that head, and its body stands behind it
pub same_head : (head rest : List ℕ) (is : IsHead head) (m : Message) (more : List ℕ) → IsFramed m
    → head ++ rest ≡ message_bytes m ++ more → (m.head ≡ is.head) × (m.body ++ more ≡ rest)
same_head head rest is m more framed e =
    request_unique (head ++ rest) m.head is.head (m.body ++ more) rest
    (message_begins (head ++ rest) m more framed e).reads
    (ReadsRequest-append head is.head [] rest is.begins.reads)

-- the length that was said is that of the message's body
said_length : (head rest : List ℕ) (said : Option ℕ) (is : IsHead head) (m : Message) (more : List ℕ) → SaysLength head said
    → IsFramed m → head ++ rest ≡ message_bytes m ++ more → said ≡ Some (length m.body)
said_length head rest said is m more says framed eq =
    says is.head [] is.begins ∙ ap (λ h. length_of_fields h.fields) (sym (same_head head rest is m more framed eq).0) ∙ framed.sized

-- where a head says no length there is no message
pub unsized_bytes : (head rest : List ℕ) (said : Option ℕ) → IsHead head → SaysLength head said → said ≡ None
    → HasNoMessage (head ++ rest)
unsized_bytes head rest said is says none m more framed eq =
    let some : said ≡ Some (length m.body) = said_length head rest said is m more says framed eq in cc

-- where fewer bytes stand behind the head than it says there is no message
pub cut_bytes : (head rest : List ℕ) (said : Option ℕ) (n : ℕ) → IsHead head → SaysLength head said → said ≡ Some n
    → length rest < n → HasNoMessage (head ++ rest)
cut_bytes head rest said n is says some fewer m more framed eq =
    let long : said ≡ Some (length m.body) = said_length head rest said is m more says framed eq in
    let equal : n ≡ length m.body = cc in
    let total : length (m.body ++ more) ≡ length rest = ap length (same_head head rest is m more framed eq).1 in
    absurd (omega (arith, equal, total, fewer, length-append {A = ℕ}))

-- where no more bytes stand behind the head than it says, nothing stands behind the message
pub within_bytes : (head rest : List ℕ) (said : Option ℕ) (n : ℕ) → IsHead head → SaysLength head said → said ≡ Some n
    → length rest ≤ n → HasNothingBehind (head ++ rest)
within_bytes head rest said n is says some within m more framed eq =
    let long : said ≡ Some (length m.body) = said_length head rest said is m more says framed eq in
    let equal : n ≡ length m.body = cc in
    let total : length (m.body ++ more) ≡ length rest = ap length (same_head head rest is m more framed eq).1 in
    nil_from_length more (omega (arith, equal, total, within, length-append {A = ℕ}))

-- so it is for what a source tells
pub unsized : (before after : Option (List ℕ)) (head : List ℕ) (said : Option ℕ) → IsHead head → Gives before head after
    → SaysLength head said → said ≡ None → IfSome before IsNoMessage
unsized before None head said is e says none = rw e tt
unsized before (Some rest) head said is e says none =
    rw e (record { something = behind_head head rest is; none = unsized_bytes head rest said is says none })

pub cut_body : (before middle : Option (List ℕ)) (head : List ℕ) (said : Option ℕ) (n : ℕ) → IsHead head → Gives before head middle
    → SaysLength head said → said ≡ Some n → IfSome middle (λ left. length left < n) → IfSome before IsNoMessage
cut_body before None head said n is e says some fewer = rw e tt
cut_body before (Some rest) head said n is e says some fewer =
    rw e (record { something = behind_head head rest is; none = cut_bytes head rest said n is says some fewer })

-- and for what was taken: a head that says no length
pub part_unsized : (before after : Option (List ℕ)) (head : List ℕ) (said : Option ℕ) → IsHead head → Gives before head after
    → SaysLength head said → said ≡ None → TakesPart before after
part_unsized before after head said is e says none =
    let P : List ℕ → Type 0 = HasNoMessage in record {
      taken = head;
      none = subst P (append-nil head) (unsized_bytes head [] said is says none);
      gives = e;
    }

-- a head and a part of its body
pub part_cut : (before middle after : Option (List ℕ)) (head : List ℕ) (said : Option ℕ) (n : ℕ) → IsHead head → Gives before head middle
    → SaysLength head said → said ≡ Some n → TakesFewer n middle after → TakesPart before after
part_cut before middle after head said n is e says some part = record {
  taken = head ++ part.taken;
  none = cut_bytes head part.taken said n is says some part.fewer;
  gives = Gives-append before middle after head part.taken e part.gives;
}

-- a head and at most its body
pub most_cut : (before middle after : Option (List ℕ)) (head : List ℕ) (said : Option ℕ) (n : ℕ) → IsHead head → Gives before head middle
    → SaysLength head said → said ≡ Some n → TakesUpTo n middle after → TakesAtMostOne before after
most_cut before middle after head said n is e says some part = record {
  taken = head ++ part.taken;
  within = within_bytes head part.taken said n is says some part.within;
  gives = Gives-append before middle after head part.taken e part.gives;
}

-- a whole body is at most as long as it is
pub whole_up_to : (middle after : Option (List ℕ)) (body : List ℕ) (n : ℕ) → length body ≡ n → Gives middle body after → TakesUpTo n middle after
whole_up_to middle after body n long gives = record { taken = body; within = omega (arith, long); gives = gives }

-- bytes without a head are no message
pub part_headless : (before after : Option (List ℕ)) → TakesNoHead before after → TakesPart before after
part_headless before after part = record {
  taken = part.taken;
  none = λ m rest framed e. part.none m.head (m.body ++ rest) (message_begins part.taken m rest framed e);
  gives = part.gives;
}

-- where nothing stands behind a head, nothing stands behind a message
pub most_head : (before after : Option (List ℕ)) → TakesAtMostHead before after → TakesAtMostOne before after
most_head before after part = record {
  taken = part.taken;
  within = λ m rest framed e.
      let empty : m.body ++ rest ≡ [] = part.within m.head (m.body ++ rest) (message_begins part.taken m rest framed e) in
      let total : length (m.body ++ rest) ≡ length {A = ℕ} [] = ap length empty in
      nil_from_length rest (omega (arith, total, length-append {A = ℕ}));
  gives = part.gives;
}

-- where there is no message, nothing stands behind one
pub most_part : (before after : Option (List ℕ)) → TakesPart before after → TakesAtMostOne before after
most_part before after part = record {
  taken = part.taken;
  within = λ m rest framed e. absurd (part.none m rest framed e);
  gives = part.gives;
}

-- two splits of one list whose fronts are as long are one
pub split_unique : (a b x y : List ℕ) → length a ≡ length b → a ++ x ≡ b ++ y → (a ≡ b) × (x ≡ y)
split_unique [] [] x y long e = (refl, e)
split_unique [] (q ∷ b) x y long e = absurd (omega (arith, long))
split_unique (p ∷ a) [] x y long e = absurd (omega (arith, long))
split_unique (p ∷ a) (q ∷ b) x y long e =
    let heads : p ≡ q = cc in
    let tails : a ++ x ≡ b ++ y = cc in
    let inner = split_unique a b x y (omega (arith, long)) tails in
    (ap (λ l. p ∷ l) inner.0 ∙ ap (λ z. z ∷ b) heads, inner.1)

-- at most one message stands at the front of a stream
pub message_unique : (bytes : List ℕ) (m n : Message) (r q : List ℕ) → IsFramed m → IsFramed n
    → bytes ≡ message_bytes m ++ r → bytes ≡ message_bytes n ++ q → (m ≡ n) × (r ≡ q)
message_unique bytes m n r q framed framed' e f =
    let heads = request_unique bytes m.head n.head (m.body ++ r) (n.body ++ q)
    (message_begins bytes m r framed e).reads (message_begins bytes n q framed' f).reads in
    let sizes : Some (length m.body) ≡ Some (length n.body) =
    sym framed.sized ∙ ap (λ h. length_of_fields h.fields) heads.0 ∙ framed'.sized in
    let long : length m.body ≡ length n.body = cc in
    let split = split_unique m.body n.body r q long heads.1 in
    (ap (λ h. record { head = h; body = m.body }) heads.0 ∙ ap (λ b. record { head = n.head; body = b }) split.0, split.1)

-- a request is one message, and nothing stands behind it
pub most_request : (before after : Option (List ℕ)) (request : HttpRequest) → TakesRequest before request after → TakesAtMostOne before after
most_request before after request takes = record {
  taken = message_bytes takes.message;
  within = λ m rest framed e.
      sym (message_unique (message_bytes takes.message) takes.message m [] rest takes.framed framed
      (sym (append-nil (message_bytes takes.message))) e).1;
  gives = takes.taken;
}

-- a head and the body that it says are a request
pub takes_request : (before middle after : Option (List ℕ)) (head body : List ℕ) (said : Option ℕ) (n : ℕ) (request : HttpRequest)
    → IsHead head → Gives before head middle → SaysLength head said → said ≡ Some n
    → length body ≡ n → Gives middle body after → MakesRequest head body request → TakesRequest before request after
takes_request before middle after head body said n request is e says some long f makes =
    let whole : head ≡ print_request is.head = is.begins.reads.1 ∙ append-nil (print_request is.head) in
    let P : List ℕ → Type 0 = λ l. length l ≤ HEAD_LIMIT in
    let Q : List ℕ → Type 0 = λ l. Gives before (l ++ body) after in
    record {
      message = record { head = is.head; body = body };
      framed = record {
        head = is.begins.reads.0;
        fields = is.begins.fields;
        short = subst P whole is.short;
        sized = sym (says is.head [] is.begins) ∙ some ∙ ap Some (sym long);
      };
      asked = makes is.head [] is.begins;
      taken = subst Q whole (Gives-append before middle after head body e f);
    }

-- the messages of a stream behind its first
Holds-rest : (m : Message) (ms : List Message) (rest : List ℕ) (all : All IsFramed (m ∷ ms)) → HasNoMessage rest
    → Holds (flat_map message_bytes ms ++ rest) ms rest
Holds-rest m ms rest all none = record { framed = All-tail IsFramed m ms all; reads = refl; none = none }

-- a stream holds one list of messages
pub holds_one_list : HoldsOneList
holds_one_list bytes [] [] r q a b = (refl, sym a.reads ∙ b.reads)
holds_one_list bytes [] (n ∷ ns) r q a b =
    absurd (a.none n (flat_map message_bytes ns ++ q) (All-head IsFramed n ns b.framed)
    (sym a.reads ∙ b.reads ∙ append_assoc (message_bytes n) (flat_map message_bytes ns) q))
holds_one_list bytes (m ∷ ms) [] r q a b =
    absurd (b.none m (flat_map message_bytes ms ++ r) (All-head IsFramed m ms a.framed)
    (sym b.reads ∙ a.reads ∙ append_assoc (message_bytes m) (flat_map message_bytes ms) r))
holds_one_list bytes (m ∷ ms) (n ∷ ns) r q a b =
    let first = message_unique bytes m n (flat_map message_bytes ms ++ r) (flat_map message_bytes ns ++ q) (All-head IsFramed m ms a.framed) (All-head IsFramed n ns b.framed)
    (a.reads ∙ append_assoc (message_bytes m) (flat_map message_bytes ms) r)
    (b.reads ∙ append_assoc (message_bytes n) (flat_map message_bytes ns) q) in
    let P : List ℕ → Type 0 = λ l. Holds l ns q in
    let rest = holds_one_list (flat_map message_bytes ms ++ r) ms ns r q (Holds-rest m ms r a.framed a.none)
    (subst P (sym first.1) (Holds-rest n ns q b.framed b.none)) in
    (ap (λ x. x ∷ ms) first.0 ∙ ap (λ l. n ∷ l) rest.0, rest.1)
