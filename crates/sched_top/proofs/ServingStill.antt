-- A call that does nothing to the history that was found.
use Rattle.std.proofs.Common.{◌≡◌, ℕ, ◌≤◌, Option, Some, None, List, [], ◌++◌, refl, inl, ap, sym, subst, append-nil, arith}
use Rattle.std.specs.Option.{option_map}
use Rattle.zone_occ.specs.declared.zone_files.NamedZone.{NamedZone}
use Rattle.target_link.specs.declared.link.Sent.{Sent}
use Rattle.policy_rules.specs.Given.{Gives}
use Rattle.sched_plain.specs.declared.step.Step.{Step}
use Rattle.sched_plain.specs.History.{History, Extends, as_it_was, with_step, count}
use Rattle.sched_calls.specs.Serves.{Finds, ZoneSource}
use Rattle.durable_writes.specs.Words.{Draws}
use Rattle.durable_writes.specs.Writing.{IsSource, bytes_under}
use Rattle.timer_work.specs.Sendings.{Reported}
use Rattle.timer_work.specs.Swept.{Sends}

-- what was found may be the history as it was
pub found_same : (doubt : Option Step) (h : History) → Finds h doubt h
found_same None h = refl
found_same (Some s) h = inl refl

-- there is a source that is told of
pub some_source : (zones : Option (List NamedZone)) → (source : ZoneSource) × IsSource zones source
some_source None = ((λ name. None), tt)
some_source (Some zones) = (bytes_under zones, λ name. refl)

gives_nothing : (told : Option (List ℕ)) → Gives told [] told
gives_nothing None = tt
gives_nothing (Some words) = ap (λ (ws : List ℕ). Some ws) (sym (append-nil words))

pub draws_nothing : (h : History) (told : Option (List ℕ)) → Draws h h [] [] told told
draws_nothing h told = record { gives = gives_nothing told; drew = omega arith; few = omega arith }

added_nothing : (sent : Option (List Sent)) → sent ≡ option_map (λ before. before ++ []) sent
added_nothing None = refl
added_nothing (Some sent) = ap (λ (s : List Sent). Some s) (sym (append-nil sent))

-- what was reported stays so, where nothing was sent and nothing was wanted
pub sends_nothing : (h after : History) (sent : Option (List Sent)) → ((before : List Sent) → Reported h before → Reported after before) → Sends h after sent sent
sends_nothing h after sent keeps = record {
  more = [];
  added = added_nothing sent;
  reported = λ before r. subst (Reported after) (sym (append-nil before)) (keeps before r);
}

-- a history that extends another has no fewer steps
pub extends_count : {h after : History} → Extends h after → count h ≤ count after
extends_count as_it_was = omega arith
extends_count (with_step s e) = let before = extends_count e in omega (arith, before)
