-- Writes that are kept as their places, the newest first, and all their bytes in one list.
use Rattle.std.specs.Prelude.{ℕ, ◌-◌, List, [], ◌∷◌, length, take, drop}
use Rattle.disk_port.specs.declared.event.Event.{Event}
use Rattle.disk_port.specs.declared.event.Event.TheVariants.{Written}
use Rattle.disk_port.specs.declared.sure_disk.Place.{Place}

-- each of them has the last bytes of those that are left
abbrev pub writes_at : List Place → List ℕ → List Event
writes_at [] bytes = []
writes_at (place ∷ older) bytes =
    Written place.at (drop (length bytes - place.len) bytes) ∷ writes_at older (take (length bytes - place.len) bytes)
