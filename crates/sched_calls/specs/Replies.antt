-- What a call is answered: the first rule that it breaks over a history, or what is read off it.
use Rattle.std.specs.Prelude.{ℕ, ◌+◌, ◌==◌, nat_lt, Bool, true, false, not, ◌&&◌, ◌||◌, if◌then◌else◌, Option, Some, None, Result, Ok, Err, List, [], ◌∷◌, ◌++◌, length, take, drop, codes}
use Rattle.std.specs.List.{filter, find, flat_map, starts_with}
use Rattle.std.specs.Prelude.{nat_eq}
use Rattle.std.specs.Option.{option_map, option_and_then, option_to_list}
use Rattle.std.specs.Fmt.{decimal}
use Rattle.sched_plain.specs.declared.entry.Filed.{Filed}
use Rattle.sched_plain.specs.declared.letter.Letter.{Letter}
use Rattle.sched_calls.specs.declared.letter_row.LetterRow.{LetterRow}
use Rattle.sched_calls.specs.declared.read.Read.{Read}
use Rattle.sched_calls.specs.declared.read.Read.TheVariants as reads
use Rattle.sched_calls.specs.declared.reply.ReadReply.{ReadReply}
use Rattle.sched_calls.specs.declared.reply.ReadReply.TheVariants as shown
use Rattle.sched_calls.specs.declared.reply.Refusal.{Refusal}
use Rattle.sched_calls.specs.declared.reply.Reply.{Reply}
use Rattle.sched_calls.specs.declared.reply.Reply.TheVariants as replies
use Rattle.sched_plain.specs.declared.row.GroupRow.{GroupRow}
use Rattle.sched_calls.specs.declared.page.GroupPage.{GroupPage}
use Rattle.sched_calls.specs.declared.page.ListRow.{ListRow}
use Rattle.sched_calls.specs.declared.page.Page.{Page}
use Rattle.sched_plain.specs.declared.row.Row.{Row}
use Rattle.sched_plain.specs.declared.schedule.Schedule.{Schedule}
use Rattle.sched_plain.specs.declared.why.RowFault.{RowFault}
use Rattle.sched_plain.specs.declared.why.RowFault.TheVariants as faults
use Rattle.sched_plain.specs.declared.write.Write.{Write}
use Rattle.sched_plain.specs.declared.write.Write.TheVariants as writes
use Rattle.sched_plain.specs.History.{History}
use Rattle.plain_words.specs.Lists.{nth}
use Rattle.sched_plain.specs.Changes.{changes_of}
use Rattle.sched_plain.specs.Rows.{same_text, rows_of, living, current_of}
use Rattle.sched_plain.specs.Groups.{groups_of, has_group, is_named}
use Rattle.sched_plain.specs.Ledger.{ledger_of}
use Rattle.sched_plain.specs.Entries.{filed}
use Rattle.sched_plain.specs.Attempts.{attempts}
use Rattle.sched_plain.specs.Queues.{letters}
use Rattle.plain_words.specs.Ids.{id_text}

-- the arn of a schedule
abbrev pub schedule_arn : List ℕ → List ℕ → List ℕ
schedule_arn group name = codes "arn:aws:scheduler:local:000000000000:schedule/" ++ group ++ codes "/" ++ name

-- the arn of a group
abbrev pub group_arn : List ℕ → List ℕ
group_arn name = codes "arn:aws:scheduler:local:000000000000:schedule-group/" ++ name

-- what an accepted write is answered
abbrev pub reply_to : Write → Reply
reply_to (writes.CreateSchedule group name token content) = replies.Created (schedule_arn group name)
reply_to (writes.UpdateSchedule group name token content) = replies.Created (schedule_arn group name)
reply_to (writes.DeleteSchedule group name token) = replies.Empty
reply_to (writes.CreateGroup name token) = replies.Created (group_arn name)
reply_to (writes.DeleteGroup name token) = replies.Empty

-- a refusal by a rule, with its status and what it is about
abbrev pub refusal : ℕ → ℕ → List ℕ → Refusal
refusal rule status subject = record { rule = rule; status = status; subject = subject }

-- rule 8: the token is kept with another operation or content
abbrev pub token_refusal : ℕ → Refusal
token_refusal place = refusal 8 409 (codes "step " ++ decimal place)

-- the group that a write names, and the schedule, as GROUP/NAME
abbrev pub group_of : Write → List ℕ
group_of (writes.CreateSchedule group name token content) = group
group_of (writes.UpdateSchedule group name token content) = group
group_of (writes.DeleteSchedule group name token) = group
group_of (writes.CreateGroup name token) = name
group_of (writes.DeleteGroup name token) = name

abbrev pub full_name : List ℕ → List ℕ → List ℕ
full_name group name = group ++ codes "/" ++ name

abbrev pub named_by : Write → List ℕ
named_by (writes.CreateSchedule group name token content) = full_name group name
named_by (writes.UpdateSchedule group name token content) = full_name group name
named_by (writes.DeleteSchedule group name token) = full_name group name
named_by write = group_of write

-- rules 9 to 11: the groups, the schedules, and how many there may be
abbrev pub row_refusal : Write → RowFault → Refusal
row_refusal write faults.DefaultGroup = refusal 9 400 (group_of write)
row_refusal write faults.NoGroup = refusal 9 404 (group_of write)
row_refusal write faults.GroupExists = refusal 9 409 (group_of write)
row_refusal write faults.Missing = refusal 10 404 (named_by write)
row_refusal write faults.Exists = refusal 10 409 (named_by write)
row_refusal write (faults.TooMany count) = refusal 11 402 (decimal count)

-- rule 12: there are no bytes of the zone, or they are not a zone
abbrev pub zone_refusal : Refusal
zone_refusal = refusal 12 400 (codes "zone")

-- the first text comes before the second, by their bytes
abbrev pub text_before : List ℕ → List ℕ → Bool
text_before [] [] = false
text_before [] (y ∷ ys) = true
text_before (x ∷ xs) [] = false
text_before (x ∷ xs) (y ∷ ys) = nat_lt x y || (x == y && text_before xs ys)

-- the first pair of group and name comes before the second: by the groups, then by the names
abbrev pub name_before : List ℕ → List ℕ → List ℕ → List ℕ → Bool
name_before group name other_group other_name =
    text_before group other_group || (same_text group other_group && text_before name other_name)

-- the element in its place in a sorted list, before those that it comes before
abbrev pub put_sorted : {A : Type 0} → (A → A → Bool) → A → List A → List A
put_sorted before x [] = x ∷ []
put_sorted before x (y ∷ ys) = if before x y then x ∷ y ∷ ys else y ∷ put_sorted before x ys

-- the list, sorted
abbrev pub sorted : {A : Type 0} → (A → A → Bool) → List A → List A
sorted before [] = []
sorted before (x ∷ xs) = put_sorted before x (sorted before xs)

-- the row of a list for a living schedule with this current content
abbrev pub list_row : Row → Schedule → ListRow
list_row row content =
    record { group = row.group; name = row.name; created = row.created; changed = row.changed; enabled = content.enabled; target = content.target }

-- the rows of all living schedules, by group, then by name
abbrev pub list_rows : List Row → List ListRow
list_rows rows =
    sorted {A = ListRow} (λ a b. name_before a.group a.name b.group b.name)
    (flat_map (λ row. option_to_list (option_map (list_row row) (current_of row))) rows)

-- what is asked for, if anything is, passes
abbrev pub where_asked : {A : Type 0} → (A → Bool) → Option A → Bool
where_asked test None = true
where_asked test (Some asked) = test asked

-- two states are the same
abbrev pub same_state : Bool → Bool → Bool
same_state true b = b
same_state false b = not b

-- the row is one that a list asks for
abbrev pub is_listed : Option (List ℕ) → List ℕ → Option Bool → Option (List ℕ × List ℕ) → ListRow → Bool
is_listed group prefix enabled after row =
    where_asked (λ g. same_text g row.group) group && starts_with nat_eq row.name prefix
    && where_asked (λ state. same_state state row.enabled) enabled
    && where_asked (λ last. name_before last.0 last.1 row.group row.name) after

-- the first rows of a list, at most so many, and whether more follow
abbrev pub page_of : ℕ → List ListRow → Page
page_of max rows = record { rows = take max rows; more = nat_lt max (length rows) }

abbrev pub group_page_of : ℕ → List GroupRow → GroupPage
group_page_of max groups = record { groups = take max groups; more = nat_lt max (length groups) }

-- all groups that a list asks for, by name
abbrev pub listed_groups : List ℕ → Option (List ℕ) → List GroupRow → List GroupRow
listed_groups prefix after groups =
    filter {X = GroupRow} (λ group. starts_with nat_eq group.name prefix && where_asked (λ last. text_before last group.name) after)
    (sorted {A = GroupRow} (λ a b. text_before a.name b.name) groups)

-- letters with their numbers in their queue, from this number on, and with the names of their schedules
abbrev pub letter_row : List Row → ℕ → Letter → List LetterRow
letter_row rows number letter =
    option_to_list (option_map {T = Row} (λ row. record {
      number = number;
      inc = letter.inc;
      instant = letter.instant;
      reason = letter.reason;
      group = row.group;
      name = row.name;
    }) (nth rows letter.inc))

abbrev pub letter_rows : List Row → ℕ → List Letter → List LetterRow
letter_rows rows number [] = []
letter_rows rows number (letter ∷ more) = letter_row rows number letter ++ letter_rows rows (number + 1) more

-- what is shown, or a refusal where there is nothing
abbrev pub shown_or : Refusal → Option ReadReply → Result Reply Refusal
shown_or refusal None = Err refusal
shown_or refusal (Some reply) = Ok (replies.Read reply)

-- a living schedule with its current content
abbrev pub schedule_shown : Row → Option ReadReply
schedule_shown row = option_map (λ content. shown.Schedule row.group row.name row.created row.changed content) (current_of row)

abbrev pub schedule_of : List Row → List ℕ → List ℕ → Option ReadReply
schedule_of rows group name = option_and_then (λ inc. option_and_then schedule_shown (nth rows inc)) (living rows group name)

-- an occurrence with its entry and its attempts
abbrev pub execution_shown : History → ℕ → ℕ → Filed → Option ReadReply
execution_shown h inc instant filed =
    option_map {T = Row} (λ row. shown.Execution row.group row.name inc instant filed.entry (attempts (ledger_of h) inc instant))
    (nth (rows_of (changes_of h)) inc)

abbrev pub execution_of : History → ℕ → ℕ → Option ReadReply
execution_of h inc instant = option_and_then (execution_shown h inc instant) (filed (ledger_of h) inc instant)

-- the letters of a queue behind the first so many, at most so many
abbrev pub letters_shown : History → List ℕ → ℕ → ℕ → List LetterRow
letters_shown h queue after max = take max (drop after (letter_rows (rows_of (changes_of h)) 1 (letters h queue)))

-- the schedules of all groups, or of one that is there
abbrev pub schedules_shown : History → Option (List ℕ) → List ListRow → ℕ → Result Reply Refusal
schedules_shown h None rows max = Ok (replies.Read (shown.Schedules (page_of max rows)))
schedules_shown h (Some group) rows max =
    if has_group (groups_of (changes_of h)) group then Ok (replies.Read (shown.Schedules (page_of max rows))) else Err (refusal 9 404 group)

-- the answer to a read: the first of the rules 9 and 10 that it breaks, or what it shows
abbrev pub answer_to : History → Read → Result Reply Refusal
answer_to h (reads.Schedule group name) =
    if has_group (groups_of (changes_of h)) group
    then shown_or (refusal 10 404 (full_name group name)) (schedule_of (rows_of (changes_of h)) group name)
    else Err (refusal 9 404 group)
answer_to h (reads.Group name) =
    shown_or (refusal 9 404 name) (option_map shown.Group (find (is_named name) (groups_of (changes_of h))))
answer_to h (reads.Schedules group prefix enabled after max) =
    schedules_shown h group (filter (is_listed group prefix enabled after) (list_rows (rows_of (changes_of h)))) max
answer_to h (reads.Groups prefix after max) =
    Ok (replies.Read (shown.Groups (group_page_of max (listed_groups prefix after (groups_of (changes_of h))))))
answer_to h (reads.Execution inc instant) = shown_or (refusal 10 404 (id_text inc instant)) (execution_of h inc instant)
answer_to h (reads.Letters queue after max) = Ok (replies.Read (shown.Letters (letters_shown h queue after max)))
