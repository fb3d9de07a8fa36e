-- What is sent, step by step.
use Rattle.std.proofs.Common.{◌≡◌, ℕ, ◌+◌, eq-eqb, Bool, true, false, Option, Some, None, List, [], ◌∷◌, ◌++◌, length, map, refl, ap, sym, subst, ◌∙◌, append_assoc}
use Rattle.std.specs.Prelude.{◌==◌, ◌&&◌, if◌then◌else◌}
use Rattle.std.specs.Option.{option_map, option_to_list}
use Rattle.std.proofs.lemmas.List.{append-nil, map-append, length-map}
use Rattle.plain_words.specs.declared.moment.Moment.{Moment}
use Rattle.sched_plain.specs.declared.step.Step.TheVariants as steps
use Rattle.plain_words.specs.declared.verdict.Verdict.{Verdict}
use Rattle.plain_words.specs.Lists.{nth}
use Rattle.plain_words.proofs.ListLemmas.{nth_more, nth_snoc}
use Rattle.sched_plain.specs.History.{History, beginning, based, ◌upon◌}
use Rattle.target_link.specs.declared.link.Sent.{Sent}
use Rattle.timer_work.specs.Sendings.{Request, Reported, AttemptSent, EndsAs, EndsHeard, request_for, requests_of, request_sent, sent_for}
use Rattle.timer_work.specs.Swept.{Sends}

-- what is told stays where nothing is sent
pub told_same : (told : Option (List Sent)) → told ≡ option_map (λ (before : List Sent). before ++ []) told
told_same None = refl
told_same (Some before) = ap Some (sym (append-nil before))

-- nothing is sent, and nothing is wanted
pub sends_nothing : (h after : History) (told : Option (List Sent)) → ((sent : List Sent) → Reported h sent → Reported after sent) → Sends h after told told
sends_nothing h after told keeps = record {
  more = [];
  added = told_same told;
  reported = λ before r. subst (Reported after) (sym (append-nil before)) (keeps before r);
}

told_on : (told : Option (List Sent)) (one two : List Sent)
    → option_map (λ (before : List Sent). before ++ two) (option_map (λ (before : List Sent). before ++ one) told) ≡ option_map (λ (before : List Sent). before ++ (one ++ two)) told
told_on None one two = refl
told_on (Some before) one two = ap Some (append_assoc before one two)

-- what is sent behind what was sent
pub sends_on : (h mid after : History) (told told1 told2 : Option (List Sent)) → Sends h mid told told1 → Sends mid after told1 told2 → Sends h after told told2
sends_on h mid after told told1 told2 a b = record {
  more = a.more ++ b.more;
  added = b.added ∙ ap (option_map (λ (before : List Sent). before ++ b.more)) a.added ∙ told_on told a.more b.more;
  reported = λ before r. subst (Reported after) (append_assoc before a.more b.more) (b.reported (before ++ a.more) (a.reported before r));
}

either_more : {A : Type 0} (b : Bool) (one other one' other' : Option A) (x : A) → (one ≡ Some x → one' ≡ Some x) → (other ≡ Some x → other' ≡ Some x)
    → (if b then one else other) ≡ Some x → (if b then one' else other') ≡ Some x
either_more true one other one' other' x f g e = f e
either_more false one other one' other' x f g e = g e

-- what was sent for an attempt stays
sent_more : (h : History) (before more : List Sent) (inc instant number : ℕ) (one : Sent)
    → sent_for h before inc instant number ≡ Some one → sent_for h (before ++ more) inc instant number ≡ Some one
sent_more beginning before more inc instant number one e = cc e
sent_more (based b kept) before more inc instant number one e = sent_more kept before more inc instant number one e
sent_more (steps.Boot at upon h) before more inc instant number one e = sent_more h before more inc instant number one e
sent_more (steps.Zone at name bytes upon h) before more inc instant number one e = sent_more h before more inc instant number one e
sent_more (steps.Change at write upon h) before more inc instant number one e = sent_more h before more inc instant number one e
sent_more (steps.Enter at of pairs upon h) before more inc instant number one e = sent_more h before more inc instant number one e
sent_more (steps.Lease at shard worker epoch until upon h) before more inc instant number one e = sent_more h before more inc instant number one e
sent_more (steps.Release at shard worker epoch upon h) before more inc instant number one e = sent_more h before more inc instant number one e
sent_more (steps.Begin at of i n epoch upon h) before more inc instant number one e =
    either_more (inc == of && instant == i && number == n) _ _ _ _ one (nth_more before more (length (requests_of h) + 1) one) (sent_more h before more inc instant number one) e
sent_more (steps.End at of i n verdict status upon h) before more inc instant number one e = sent_more h before more inc instant number one e
sent_more (steps.Close at of i reason upon h) before more inc instant number one e = sent_more h before more inc instant number one e
sent_more (steps.Complete at of upon h) before more inc instant number one e = sent_more h before more inc instant number one e
sent_more (steps.Swept at shard upon h) before more inc instant number one e = sent_more h before more inc instant number one e

-- an end stays what was heard
ends_more : (request : Option Request) (o o' : Option Sent) (verdict : Verdict) (status : ℕ)
    → ((one : Sent) → o ≡ Some one → o' ≡ Some one) → EndsAs request o verdict status → EndsAs request o' verdict status
ends_more None o o' verdict status f p = p
ends_more (Some request) None o' verdict status f p = absurd p
ends_more (Some request) (Some one) o' verdict status f p = subst (λ (x : Option Sent). EndsAs (Some request) x verdict status) (sym (f one refl)) p

heard_more : (h : History) (before more : List Sent) → EndsHeard h before → EndsHeard h (before ++ more)
heard_more beginning before more p = tt
heard_more (based b kept) before more p = heard_more kept before more p
heard_more (steps.Boot at upon h) before more p = heard_more h before more p
heard_more (steps.Zone at name bytes upon h) before more p = heard_more h before more p
heard_more (steps.Change at write upon h) before more p = heard_more h before more p
heard_more (steps.Enter at of pairs upon h) before more p = heard_more h before more p
heard_more (steps.Lease at shard worker epoch until upon h) before more p = heard_more h before more p
heard_more (steps.Release at shard worker epoch upon h) before more p = heard_more h before more p
heard_more (steps.Begin at of i n epoch upon h) before more p = heard_more h before more p
heard_more (steps.End at of i n verdict status upon h) before more p =
    (heard_more h before more p.0, ends_more (request_for h of i n) _ _ verdict status (λ one. sent_more h before more of i n one) p.1)
heard_more (steps.Close at of i reason upon h) before more p = heard_more h before more p
heard_more (steps.Complete at of upon h) before more p = heard_more h before more p
heard_more (steps.Swept at shard upon h) before more p = heard_more h before more p

-- the request of an attempt that is begun is sent
begun_reported : (h : History) (at : Moment) (inc instant number epoch : ℕ) (sent before : List Sent)
    → map request_sent sent ≡ option_to_list (request_for h inc instant number) → Reported h before
    → Reported (steps.Begin at inc instant number epoch upon h) (before ++ sent)
begun_reported h at inc instant number epoch sent before e r = record {
  requests = map-append request_sent before sent ∙ ap (λ (xs : List Request). xs ++ map request_sent sent) r.requests ∙ ap (λ (xs : List Request). requests_of h ++ xs) e;
  heard = heard_more h before sent r.heard;
}

-- what was told of the request of an attempt
abbrev sent_of : (request : Option Request) (told told' : Option (List Sent)) (verdict : Verdict) (status : ℕ) → AttemptSent request told told' verdict status → List Sent
sent_of None told told' verdict status p = []
sent_of (Some request) told told' verdict status p = record { to = request.to; request = request.text; room = request.room; heard = p.0 } ∷ []

sent_is : (request : Option Request) (told told' : Option (List Sent)) (verdict : Verdict) (status : ℕ) (p : AttemptSent request told told' verdict status)
    → map request_sent (sent_of request told told' verdict status p) ≡ option_to_list request
sent_is None told told' verdict status p = refl
sent_is (Some request) told told' verdict status p = refl

sent_told : (request : Option Request) (told told' : Option (List Sent)) (verdict : Verdict) (status : ℕ) (p : AttemptSent request told told' verdict status)
    → told' ≡ option_map (λ (before : List Sent). before ++ sent_of request told told' verdict status p) told
sent_told None told told' verdict status p = p.0 ∙ told_same told
sent_told (Some request) told told' verdict status p = p.1

-- an attempt is begun and its request sent
pub sends_begin : (h : History) (at : Moment) (inc instant number epoch : ℕ) (told told' : Option (List Sent)) (verdict : Verdict) (status : ℕ)
    → AttemptSent (request_for h inc instant number) told told' verdict status → Sends h (steps.Begin at inc instant number epoch upon h) told told'
sends_begin h at inc instant number epoch told told' verdict status p =
    let request = request_for h inc instant number in record {
      more = sent_of request told told' verdict status p;
      added = sent_told request told told' verdict status p;
      reported = λ before r. begun_reported h at inc instant number epoch _ before (sent_is request told told' verdict status p) r;
    }

-- its end is what came back
heard_end : (request : Option Request) (told told' : Option (List Sent)) (verdict : Verdict) (status n : ℕ) (before : List Sent) (p : AttemptSent request told told' verdict status)
    → n ≡ length before + 1 → EndsAs request (nth (before ++ sent_of request told told' verdict status p) n) verdict status
heard_end None told told' verdict status n before p e = (p.1, p.2)
heard_end (Some request) told told' verdict status n before p e =
    let one : Sent = record { to = request.to; request = request.text; room = request.room; heard = p.0 } in
    let here : nth (before ++ one ∷ []) n ≡ Some one = nth_snoc before one n ∙ ap (λ (b : Bool). if b then Some one else nth before n) (eq-eqb n (length before + 1) e) in
    subst (λ (o : Option Sent). EndsAs (Some request) o verdict status) (sym here) (refl, p.2)

this_one : (inc instant number : ℕ) → (inc == inc && instant == instant && number == number) ≡ true
this_one inc instant number =
    let a : (inc == inc) ≡ true = eq-eqb inc inc refl in
    let b : (instant == instant) ≡ true = eq-eqb instant instant refl in
    let c : (number == number) ≡ true = eq-eqb number number refl in
    rw (a, b, c) refl

pub sends_end : (h : History) (at : Moment) (inc instant number epoch : ℕ) (told told' : Option (List Sent)) (verdict : Verdict) (status : ℕ)
    → AttemptSent (request_for h inc instant number) told told' verdict status
    → Sends h (steps.End at inc instant number verdict status upon steps.Begin at inc instant number epoch upon h) told told'
sends_end h at inc instant number epoch told told' verdict status p =
    let request = request_for h inc instant number in record {
      more = sent_of request told told' verdict status p;
      added = sent_told request told told' verdict status p;
      reported = λ before r.
          let begun = begun_reported h at inc instant number epoch _ before (sent_is request told told' verdict status p) r in
          let places : length (requests_of h) ≡ length before = sym (ap length r.requests) ∙ length-map before request_sent in
          record {
            requests = begun.requests;
            heard = (
              begun.heard,
              subst (λ (b : Bool). EndsAs request (if b then nth (before ++ sent_of request told told' verdict status p) (length (requests_of h) + 1) else sent_for h (before ++ sent_of request told told' verdict status p) inc instant number) verdict status)
                  (sym (this_one inc instant number))
                  (heard_end request told told' verdict status (length (requests_of h) + 1) before p (ap (λ (n : ℕ). n + 1) places)),
            );
          };
    }
