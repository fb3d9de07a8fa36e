-- The bytes of time zones: those of a name stand in its last Zone step. `UTC` is built in.
use Rattle.std.specs.Prelude.{ℕ, Bool, if◌then◌else◌, Option, Some, None, List, codes}
use Rattle.sched_plain.specs.declared.step.Step.TheVariants as steps
use Rattle.sched_plain.specs.History.{History, beginning, based, ◌upon◌}
use Rattle.sched_plain.specs.Rows.{same_text}

-- the zone that is built in
abbrev pub is_utc : List ℕ → Bool
is_utc name = same_text name (codes "UTC")

-- the bytes of a zone's name
abbrev pub bytes_of : History → List ℕ → Option (List ℕ)
bytes_of beginning name = None
bytes_of (based b kept) name = bytes_of kept name
bytes_of (steps.Zone at known bytes upon h) name = if same_text name known then Some bytes else bytes_of h name
bytes_of (s upon h) name = bytes_of h name

-- the bytes under which a content in this zone is read: none for UTC
abbrev pub read_under : History → List ℕ → Option (List ℕ)
read_under h zone = if is_utc zone then None else bytes_of h zone
