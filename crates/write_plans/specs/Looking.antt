-- What is looked up of the parts of a book before a write is planned.
use Rattle.std.specs.Prelude.{ℕ, if◌then◌else◌, Option, Some, None, is_some, List}
use Rattle.std.specs.Option.{option_and_then, option_map}
use Rattle.plain_words.specs.Lists.{first_answer}
use Rattle.sched_plain.specs.declared.write.Write.{Write}
use Rattle.sched_plain.specs.Rules.{zone_of}
use Rattle.sched_plain.specs.Work.{Occurrence}
use Rattle.sched_plain.specs.Zones.{is_utc}
use Rattle.book_parts.specs.Touching.{come_at}

-- the zone of a write's content, where it is neither built in nor has bytes
abbrev pub zone_needed : (List ℕ → Option (List ℕ)) → Write → Option (List ℕ)
zone_needed bytes write = option_and_then (λ zone. if is_utc zone then None else (if is_some (bytes zone) then None else Some zone)) (zone_of write)

-- the first of these incarnations whose next instant has come at a moment
abbrev pub first_come : List (Option ℕ) → ℕ → List ℕ → Option ℕ
first_come dates t incs = option_map {T = Occurrence} (λ o. o.inc) (first_answer (come_at dates t) incs)
