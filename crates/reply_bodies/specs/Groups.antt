-- Groups of schedules as bodies show them: one, and a page of many.
use Rattle.std.specs.Prelude.{ℕ, ◌-◌, if◌then◌else◌, Option, None, List, [], ◌∷◌, length, codes, slice_get, option_map}
use Rattle.std.specs.List.{flat_map}
use Rattle.json.specs.Token.{Token}
use Rattle.sched_plain.specs.declared.row.GroupRow.{GroupRow}
use Rattle.sched_calls.specs.declared.page.GroupPage.{GroupPage}
use Rattle.sched_calls.specs.Replies.{group_arn}
use Rattle.reply_bodies.specs.Members.{object_of, list_of, member_of, text_member, number_member, text_if_any}

-- a group, which is never modified
abbrev pub group_shown : GroupRow → List Token
group_shown row =
    object_of (
    text_member (codes "Arn") (group_arn row.name)
    ∷ number_member (codes "CreationDate") row.created.0
    ∷ number_member (codes "LastModificationDate") row.created.0
    ∷ text_member (codes "Name") row.name
    ∷ text_member (codes "State") (codes "ACTIVE")
    ∷ [])

-- by what name the next page begins behind a group
abbrev pub name_of_row : GroupRow → List ℕ
name_of_row row = row.name

-- the name of a page's last group, where more follow
abbrev pub next_group : GroupPage → Option (List ℕ)
next_group page = if page.more then option_map name_of_row (slice_get page.groups (length page.groups - 1)) else None

-- a page of groups, member by member
abbrev pub group_page_members : GroupPage → List (List Token)
group_page_members page =
    text_if_any (codes "NextToken") (next_group page)
    ∷ member_of (codes "ScheduleGroups") (list_of (flat_map group_shown page.groups))
    ∷ []
