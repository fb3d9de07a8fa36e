-- What a call that did nothing did.
use Rattle.std.proofs.Common.{ℕ, Option, Some, None, List, [], refl, inl, ap, sym, append-nil, arith}
use Rattle.policy_rules.specs.Given.{Gives}
use Rattle.sched_plain.specs.History.{History}
use Rattle.zone_occ.specs.declared.zone_files.NamedZone.{NamedZone}
use Rattle.sched_plain.specs.declared.step.Step.{Step}
use Rattle.sched_calls.specs.Serves.{ZoneSource, Finds}
use Rattle.durable_writes.specs.Words.{Draws}
use Rattle.durable_writes.specs.Writing.{IsSource, bytes_under}

pub some_source : (zones : Option (List NamedZone)) → (source : ZoneSource) × IsSource zones source
some_source None = ((λ name. None), tt)
some_source (Some zones) = (bytes_under zones, λ name. refl)

pub gives_nothing : (told : Option (List ℕ)) → Gives told [] told
gives_nothing None = tt
gives_nothing (Some words) = ap (λ (ws : List ℕ). Some ws) (sym (append-nil words))

pub draws_nothing : (h : History) (told : Option (List ℕ)) → Draws h h [] [] told told
draws_nothing h told = record { gives = gives_nothing told; drew = omega arith; few = omega arith }

-- what was found may be the history as it was
pub found_same : (doubt : Option Step) (h : History) → Finds h doubt h
found_same None h = refl
found_same (Some s) h = inl refl
