use Rattle.std.proofs.Common.{◌≡◌, ◌-◌, take, reverse}
use Rattle.disk_port.specs.Past.{seen_of, unsynced, image_of}
use Rattle.disk_port.proofs.replay.image_after.Given as goal

-- what the events so far make
abbrev pub invariant-loop-event : goal.invariant-loop-event
invariant-loop-event l =
    let past = reverse (take l.event-index l.events) in
    record {
      seen : l.replay.seen.items ≡ seen_of l.fn.first past;
      image : l.replay.image.items ≡ image_of l.fn.keep l.fn.fill l.fn.first past;
      left : l.replay.left ≡ l.fn.keep - unsynced past;
    }
