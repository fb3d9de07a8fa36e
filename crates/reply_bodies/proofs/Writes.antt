-- The bodies that answer accepted writes.
use Rattle.std.proofs.Common.{◌≡◌, [], refl}
use Rattle.json.specs.Print.{print, print_from}
use Rattle.sched_plain.specs.declared.write.Write.{Write}
use Rattle.sched_plain.specs.declared.write.Write.TheVariants as writes
use Rattle.sched_calls.specs.Replies.{reply_to}
use Rattle.reply_bodies.specs.Bodies.{body_of, body_of_write}

print-nil : print [] ≡ []
unfolding print_from
print-nil = refl

-- the arn that a write is answered tells whether it is a group's
pub body_of-reply_to : (write : Write) → body_of (reply_to write) ≡ body_of_write write
body_of-reply_to (writes.CreateSchedule group name token content) = refl
body_of-reply_to (writes.UpdateSchedule group name token content) = refl
body_of-reply_to (writes.DeleteSchedule group name token) = print-nil
body_of-reply_to (writes.CreateGroup name token) = refl
body_of-reply_to (writes.DeleteGroup name token) = print-nil
