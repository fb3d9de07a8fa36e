-- A run that grows by one request.
use Rattle.std.proofs.Common.{◌≡◌, ℕ, ◌+◌, ◌<◌, ◌^◌, List, [], ◌∷◌, ◌++◌, Option, Some, None, refl, sym, ap, subst, ◌∙◌, append-nil, append_assoc, zero, suc, arith}
use Rattle.std.specs.Option.{option_map}
use Rattle.std.proofs.lemmas.List.{length_push}
use Rattle.std.proofs.lemmas.Grind.{flat_map-append}
use Rattle.zone_occ.specs.declared.zone_files.NamedZone.{NamedZone}
use Rattle.policy_rules.specs.Given.{Gives as GivesWords}
use Rattle.policy_rules.proofs.GivenLemmas.{gives_none, gives_through}
use Rattle.sched_plain.specs.History.{History, beginning, as_it_was}
use Rattle.sched_plain.proofs.HistoryLemmas.{extends_through}
use Rattle.step_keeper.specs.Carrying.{Start}
use Rattle.target_link.specs.declared.link.Sent.{Sent}
use Rattle.http_wire.specs.declared.request.HttpRequest.{HttpRequest}
use Rattle.http_wire.specs.Devices.{Gives, Gets}
use Rattle.http_wire.specs.Framing.{message_bytes, IsFramed, request_of, TakesRequest}
use Rattle.http_wire.proofs.DeviceLemmas.{Gives-append, Gets-append, Gives-nil, Gets-nil}
use Rattle.timer_work.specs.Swept.{Sends}
use Rattle.sched_top.specs.Serving.{Answers}
use Rattle.sched_top.specs.Keeping.{IsHanded}
use Rattle.sched_top.specs.Batch.{booted, Exchange, bytes_read, bytes_sent, words_of, words_given, nothing_full, Served, zone_failure, zone_failures, RoseBy, Told, Ran}
use Rattle.sched_top.specs.Running.{StandsFor, heard, Responds, Underway}

-- one more exchange behind those before
Served-push : (zones : Option (List NamedZone)) (before middle after : History) (now at at' : ℕ) (exchanges : List Exchange) (x : Exchange)
    → Served zones before now exchanges middle at → IsFramed x.message → Answers nothing_full ⊥ zones x.kind middle at (request_of x.message) x.taken after at' x.response
    → Served zones before now (exchanges ++ x ∷ []) after at'
Served-push zones before middle after now at at' [] x same framed answers =
    (after, at', framed, rw (← same.0, ← same.1) answers, (refl, refl))
Served-push zones before middle after now at at' (y ∷ more) x (between, told, framed_y, answers_y, rest) framed answers =
    (between, told, framed_y, answers_y, Served-push zones between middle after told at at' more x rest framed answers)

-- how often zones failed in one more
failures_push : (exchanges : List Exchange) (x : Exchange) → zone_failures (exchanges ++ x ∷ []) ≡ zone_failures exchanges + zone_failure x.kind
failures_push [] x = omega arith
failures_push (y ∷ more) x = let before = failures_push more x in omega (arith, before)

-- a count that rose, and then rose again
rose_more : (n m a b c : ℕ) → RoseBy n a b → RoseBy m b c → RoseBy (n + m) a c
rose_more n m a b c first then_so = omega arith

rose_none : (n : ℕ) → RoseBy 0 n n
rose_none n = omega arith

-- what was told grows by one list and then by another
told_more : (told : Option (List Sent)) (some more : List Sent) → option_map (λ before. before ++ more) (option_map (λ earlier. earlier ++ some) told) ≡ option_map (λ earlier. earlier ++ (some ++ more)) told
told_more None some more = refl
told_more (Some sent) some more = ap Some (append_assoc sent some more)

told_same : (told : Option (List Sent)) → told ≡ option_map (λ (before : List Sent). before ++ []) told
told_same None = refl
told_same (Some before) = ap Some (sym (append-nil before))

pub handed_more : (h after : History) (told mid told' : Option (List Sent)) → IsHanded h told mid → Sends h after mid told' → IsHanded after told told'
handed_more h after told mid told' handed sends = record {
  sent = handed.sent ++ sends.more;
  more = sends.added ∙ ap (option_map (λ before. before ++ sends.more)) handed.more ∙ told_more told handed.sent sends.more;
  reported = sends.reported handed.sent handed.reported;
}

-- one more request was read and answered
ran_more : (zones : Option (List NamedZone)) (number : ℕ) (before middle after : History) (at at' : ℕ) (old mid new : Told) (request : HttpRequest)
    → Ran zones number before middle at old mid → TakesRequest mid.left request new.left
    → Responds Gets zones at request at' (heard mid) (heard new) middle after
    → Ran zones (number + 1) before after at' old new
ran_more zones number before middle after at at' old mid new request ran takes r =
    let x : Exchange = record { message = takes.message; response = r.response; kind = r.kind; taken = r.taken } in
    let P : HttpRequest → Type 0 = λ q. Answers nothing_full ⊥ zones r.kind middle at q r.taken after at' r.response in
    let R : List ℕ → Type 0 = λ bytes. Gives old.left bytes new.left in
    let S : List ℕ → Type 0 = λ bytes. Gets old.got bytes new.got in
    let W : List ℕ → Type 0 = λ words. GivesWords old.words words new.words in
    let F : ℕ → Type 0 = λ n. RoseBy n old.zone_faults new.zone_faults in
    let reads : bytes_read (ran.exchanges ++ x ∷ []) ≡ bytes_read ran.exchanges ++ message_bytes takes.message =
    flat_map-append (λ (y : Exchange). message_bytes y.message) ran.exchanges (x ∷ [])
    ∙ ap (λ l. bytes_read ran.exchanges ++ l) (append-nil (message_bytes takes.message)) in
    let sends : bytes_sent (ran.exchanges ++ x ∷ []) ≡ bytes_sent ran.exchanges ++ r.response =
    flat_map-append (λ (y : Exchange). y.response) ran.exchanges (x ∷ [])
    ∙ ap (λ l. bytes_sent ran.exchanges ++ l) (append-nil r.response) in
    let draws : words_given (ran.exchanges ++ x ∷ []) ≡ words_given ran.exchanges ++ words_of r.taken =
    flat_map-append (λ (y : Exchange). words_of y.taken) ran.exchanges (x ∷ [])
    ∙ ap (λ l. words_given ran.exchanges ++ l) (append-nil (words_of r.taken)) in
    record {
      exchanges = ran.exchanges ++ x ∷ [];
      many = length_push ran.exchanges x ∙ ap (λ n. n + 1) ran.many;
      batch = Served-push zones (booted before) middle after _ at at' ran.exchanges x ran.batch takes.framed (subst P takes.asked r.answers);
      read = subst R (sym reads) (Gives-append old.left mid.left new.left (bytes_read ran.exchanges) (message_bytes takes.message) ran.read takes.taken);
      sent = subst S (sym sends) (Gets-append old.got mid.got new.got (bytes_sent ran.exchanges) r.response ran.sent r.given);
      drew = subst W (sym draws) (gives_through old.words mid.words new.words (words_given ran.exchanges) (words_of r.taken) ran.drew r.drew);
      failed = subst F (sym (failures_push ran.exchanges x)) (rose_more (zone_failures ran.exchanges) (zone_failure r.kind) old.zone_faults mid.zone_faults new.zone_faults ran.failed r.failed);
    }

-- the run goes on over the history at the answer
pub underway_more : {K : Type 0} (held held' : Start K → History → Type 0) (zones : Option (List NamedZone)) (number : ℕ) (before : History) (now at : ℕ) (old mid new : Told) (request : HttpRequest)
    → (u : Underway held zones number before now old mid) → TakesRequest mid.left request new.left
    → (after : History) × held' u.since after × Responds Gets zones now request at (heard mid) (heard new) u.after after
    → Underway held' zones (number + 1) before at old new
underway_more held held' zones number before now at old mid new request u takes (after, stands, r) = record {
  since = u.since;
  after = after;
  stands = stands;
  free = r.free;
  grows = extends_through u.grows r.answers.grows;
  ran = ran_more zones number before u.after after now at old mid new request u.ran takes r;
  handed = handed_more u.after after old.handed mid.handed new.handed u.handed r.sends;
}

-- the run has begun
pub underway_first : {K : Type 0} (held : Start K → History → Type 0) (zones : Option (List NamedZone)) (told : Told) → StandsFor held (booted beginning) → Underway held zones 0 beginning 0 told told
underway_first held zones told (since, st) = record {
  since = since;
  after = booted beginning;
  stands = st;
  free = λ shard. refl;
  grows = as_it_was;
  ran = record {
    exchanges = [];
    many = refl;
    batch = (refl, refl);
    read = Gives-nil told.left;
    sent = Gets-nil told.got;
    drew = gives_none told.words;
    failed = rose_none told.zone_faults;
  };
  handed = record { sent = []; more = told_same told.handed; reported = record { requests = refl; heard = tt } };
}

-- what a source may give was below 2^64 when the run began: it is so at each read, and at the first nothing was taken
pub small_at_start : (number now start : ℕ) → now < 2 ^ 64 → (number ≡ 0 → now ≡ start) → (0 < number → start < 2 ^ 64) → start < 2 ^ 64
small_at_start zero now start small fresh known = let same : now ≡ start = fresh refl in omega arith
small_at_start (suc n) now start small fresh known = known (omega arith)
