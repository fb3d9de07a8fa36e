-- How many things the loops over a request go over, beside its bytes.
use Rattle.std.specs.Prelude.{◌≡◌, ◌≤◌, ℕ, suc, ◌+◌, Some, List, length}
use Rattle.serde_json.specs.Data.{Data, null, boolean, number, string, array, object, Items, no_items, item, Members, no_members, member}
use Rattle.form_urlencoded.specs.Form.{raw_pairs}
use Rattle.request_fields.specs.Bodies.{object_in}
use Rattle.request_calls.specs.Queries.{decoded}

-- the members of the objects in a JSON value (RFC 8259), inner ones too
abbrev mutual
  pub member_count : Data → ℕ
  member_count null = 0
  member_count (boolean b) = 0
  member_count (number n) = 0
  member_count (string s) = 0
  member_count (array ds) = item_members ds
  member_count (object ms) = members_in ms

  pub item_members : Items → ℕ
  item_members no_items = 0
  item_members (item d ds) = member_count d + item_members ds

  pub members_in : Members → ℕ
  members_in no_members = 0
  members_in (member k d ms) = suc (member_count d + members_in ms)

-- the object of a body has no more members than the body has bytes, those of inner objects too
abbrev pub MembersAreFew : Type 0
MembersAreFew = (body : List ℕ) (value : Data) → object_in body ≡ Some value → member_count value ≤ length body

-- a query has no more pairs than bytes
abbrev pub PairsAreFew : Type 0
PairsAreFew = (query : List ℕ) → length (decoded (raw_pairs query)) ≤ length query
