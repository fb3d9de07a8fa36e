use Rattle.std.proofs.Common.{◌≡◌}
use Rattle.serde_json.specs.View.{members_view}
use Rattle.request_fields.specs.Members.{first_unknown}
use Rattle.request_fields.proofs.unknown.first_unknown.Given as goal

abbrev pub invariant-loop-name : goal.invariant-loop-name
invariant-loop-name l =
    first_unknown l.part (members_view l.members.entries) ≡ first_unknown l.part (members_view l.name-iterator)
