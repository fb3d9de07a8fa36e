-- The attempts in the air owe the same letters where the contents of their occurrences are the same.
use Rattle.std.proofs.Common.{◌≡◌, ℕ, suc, Bool, true, false, Option, List, [], ◌∷◌, length, refl, ap, arith}
use Rattle.std.specs.Prelude.{if◌then◌else◌}
use Rattle.std.specs.List.{filter, Contains}
use Rattle.plain_words.specs.Lists.{some_pass, same_text}
use Rattle.sched_plain.specs.declared.row.Row.{Row}
use Rattle.sched_plain.specs.Queues.{queue_of}
use Rattle.sched_plain.specs.Rows.{content_at}
use Rattle.ledger_rows.specs.declared.row.Flight.{Flight}
use Rattle.book_parts.specs.Sound.{may_post, owed}

pub owed_same : (rows more : List Row) (queue : List ℕ) (flights : List Flight)
    → ((f : Flight) → Contains flights f → content_at more f.inc f.instant ≡ content_at rows f.inc f.instant)
    → owed more flights queue ≡ owed rows flights queue
owed_same rows more queue [] same = refl
owed_same rows more queue (f ∷ flights) same =
    let here : may_post more queue f ≡ may_post rows queue f =
    ap (λ (o : Option _). some_pass (same_text queue) (queue_of o)) (same f (0, omega arith, refl)) in
    let rest = owed_same rows more queue flights (λ g there. let lt = there.1 in same g (suc there.0, omega (arith, lt), there.2)) in
    chosen (may_post more queue f) (may_post rows queue f) (filter {X = Flight} (may_post more queue) flights) (filter {X = Flight} (may_post rows queue) flights) here rest
  where
    chosen : (p q : Bool) (xs ys : List Flight) → p ≡ q → length xs ≡ length ys
        → length (if p then f ∷ xs else xs) ≡ length (if q then f ∷ ys else ys)
    chosen true true xs ys e long = ap suc long
    chosen true false xs ys e long = cc e
    chosen false true xs ys e long = cc e
    chosen false false xs ys e long = long
