-- The call that a request asks for, or the first rule that it breaks: first a route, then the query, then the body and its
-- members, then the fields in the order in which they stand here.
use Rattle.std.specs.Prelude.{ℕ, nat_le, Bool, ◌&&◌, Option, Some, Result, Ok, List, [], take, codes}
use Rattle.std.specs.Option.{option_and_then}
use Rattle.std.specs.Str.Lossy.{utf8_lossy}
use Rattle.serde_json.specs.Data.{Data}
use Rattle.plain_words.specs.Bytes.{slash}
use Rattle.plain_words.specs.declared.limits.TheConstants.{LONGEST_ARN}
use Rattle.expressions.specs.CronItems.{both}
use Rattle.sched_plain.specs.declared.write.Write.TheVariants as writes
use Rattle.sched_plain.specs.Groups.{default_name}
use Rattle.sched_calls.specs.declared.call.Call.{Call}
use Rattle.sched_calls.specs.declared.call.Call.TheVariants as calls
use Rattle.sched_calls.specs.declared.read.Read.TheVariants as reads
use Rattle.sched_calls.specs.declared.reply.Refusal.{Refusal}
use Rattle.sched_calls.specs.Replies.{refusal}
use Rattle.http_wire.specs.declared.request.HttpRequest.{HttpRequest}
use Rattle.http_wire.specs.Digits.{number_within}
use Rattle.request_fields.specs.declared.part.Part.TheVariants as parts
use Rattle.request_fields.specs.Bodies.{object_of}
use Rattle.request_fields.specs.Contents.{content_of}
use Rattle.request_fields.specs.Members.{unknown_in, unknown_of_schedule, unless_unknown}
use Rattle.request_fields.specs.Refusals.{◌giving◌, or_refused, or_else_refused}
use Rattle.request_fields.specs.Rows.{in_text, defaulted, optional}
use Rattle.request_fields.specs.Words.{kept, around, name_word, token_word, text_word, one_of}
use Rattle.request_calls.specs.declared.query.Pair.{Pair}
use Rattle.request_calls.specs.declared.route.Route.{Route}
use Rattle.request_calls.specs.declared.route.Route.TheVariants as routes
use Rattle.request_calls.specs.declared.put.Put.{Put}
use Rattle.request_calls.specs.declared.asked.TheConstants.{COUNT_DIGITS, MOST_COUNT, MOST_ROWS, LETTER_DIGITS, MOST_LETTER}
use Rattle.request_calls.specs.declared.decoding.TheConstants.{SHOWN_PATH}
use Rattle.request_calls.specs.Ids.{execution_word}
use Rattle.request_calls.specs.Queries.{query_of, asked_required, asked_or, asked_optional}
use Rattle.request_calls.specs.Routes.{route_of, path_in, query_in, segment_of}

-- the name that stands in a path
abbrev pub path_name : List ℕ → Result (List ℕ) Refusal
path_name segment = or_refused (codes "Name") (name_word segment)

-- the object of a schedule's body, without unknown members
abbrev pub schedule_body : List ℕ → Result Data Refusal
schedule_body body = object_of body giving λ object. unless_unknown (unknown_of_schedule object) giving λ _. Ok object

-- the object of a group's body, without unknown members
abbrev pub group_body : List ℕ → Result Data Refusal
group_body body = object_of body giving λ object. unless_unknown (unknown_in parts.Group (Some object)) giving λ _. Ok object

-- what is to be put, and where
unfoldable pub put_of : List ℕ → Data → Result Put Refusal
put_of segment body =
    path_name segment giving λ name.
    defaulted [] (codes "GroupName") (in_text name_word) default_name body giving λ group.
    optional [] (codes "ClientToken") (in_text token_word) body giving λ token.
    content_of body giving λ content.
    Ok (record { group = group; name = name; token = token; content = content })

-- the creation and the update of a schedule
abbrev pub creation_of : Put → Call
creation_of it = calls.Write (writes.CreateSchedule it.group it.name it.token it.content)

abbrev pub update_of : Put → Call
update_of it = calls.Write (writes.UpdateSchedule it.group it.name it.token it.content)

-- the creation of a group
unfoldable pub group_creation : List ℕ → Data → Result Call Refusal
group_creation segment body =
    path_name segment giving λ name.
    optional [] (codes "ClientToken") (in_text token_word) body giving λ token.
    Ok (calls.Write (writes.CreateGroup name token))

-- a schedule that is asked for
unfoldable pub schedule_read : List ℕ → List Pair → Result Call Refusal
schedule_read segment asked =
    path_name segment giving λ name.
    asked_or (codes "groupName") name_word default_name asked giving λ group.
    Ok (calls.Read (reads.Schedule group name))

-- the deletion of a schedule
unfoldable pub schedule_deletion : List ℕ → List Pair → Result Call Refusal
schedule_deletion segment asked =
    path_name segment giving λ name.
    asked_or (codes "groupName") name_word default_name asked giving λ group.
    asked_optional (codes "clientToken") token_word asked giving λ token.
    Ok (calls.Write (writes.DeleteSchedule group name token))

-- the deletion of a group
unfoldable pub group_deletion : List ℕ → List Pair → Result Call Refusal
group_deletion segment asked =
    path_name segment giving λ name.
    asked_optional (codes "clientToken") token_word asked giving λ token.
    Ok (calls.Write (writes.DeleteGroup name token))

-- a group that is asked for
unfoldable pub group_read : List ℕ → Result Call Refusal
group_read segment = path_name segment giving λ name. Ok (calls.Read (reads.Group name))

-- a count of rows that a list may show
abbrev pub is_count : ℕ → Bool
is_count count = nat_le 1 count && nat_le count MOST_ROWS

-- how many rows a list may show, in at most three digits
abbrev pub count_word : List ℕ → Option ℕ
count_word text = kept is_count (number_within COUNT_DIGITS MOST_COUNT text)

-- a place in the list of schedules: a group and a name
abbrev pub place_of : List ℕ → List ℕ → Option (List ℕ × List ℕ)
place_of group name = both (λ first second. (first, second)) (name_word group) (name_word name)

-- the same, with a slash between them
abbrev pub place_word : List ℕ → Option (List ℕ × List ℕ)
place_word text = option_and_then (λ parts. place_of parts.0 parts.1) (around slash text)

-- a list of schedules
unfoldable pub schedule_list : List Pair → Result Call Refusal
schedule_list asked =
    asked_or (codes "MaxResults") count_word MOST_ROWS asked giving λ max.
    asked_or (codes "NamePrefix") name_word [] asked giving λ prefix.
    asked_optional (codes "NextToken") place_word asked giving λ after.
    asked_optional (codes "ScheduleGroup") name_word asked giving λ group.
    asked_optional (codes "State") (one_of (codes "ENABLED") (codes "DISABLED")) asked giving λ enabled.
    Ok (calls.Read (reads.Schedules group prefix enabled after max))

-- a list of groups
unfoldable pub group_list : List Pair → Result Call Refusal
group_list asked =
    asked_or (codes "MaxResults") count_word MOST_ROWS asked giving λ max.
    asked_or (codes "NamePrefix") name_word [] asked giving λ prefix.
    asked_optional (codes "NextToken") name_word asked giving λ after.
    Ok (calls.Read (reads.Groups prefix after max))

-- an occurrence that is asked for
unfoldable pub execution_read : List ℕ → Result Call Refusal
execution_read segment =
    or_refused (codes "Id") (execution_word segment) giving λ id. Ok (calls.Read (reads.Execution id.0 id.1))

-- a number of a letter: at most 19 digits
abbrev pub letter_word : List ℕ → Option ℕ
letter_word text = number_within LETTER_DIGITS MOST_LETTER text

-- a list of dead letters
unfoldable pub letter_list : List Pair → Result Call Refusal
letter_list asked =
    asked_required (codes "Queue") (text_word 1 LONGEST_ARN) asked giving λ queue.
    asked_or (codes "After") letter_word 0 asked giving λ after.
    asked_or (codes "MaxResults") count_word MOST_ROWS asked giving λ max.
    Ok (calls.Read (reads.Letters queue after max))

-- the call of a route, given the segment that its path names, the query and the body
abbrev pub call_at : Route → List ℕ → List Pair → List ℕ → Result Call Refusal
call_at routes.CreateSchedule segment asked body =
    schedule_body body giving λ object. put_of segment object giving λ it. Ok (creation_of it)
call_at routes.UpdateSchedule segment asked body =
    schedule_body body giving λ object. put_of segment object giving λ it. Ok (update_of it)
call_at routes.GetSchedule segment asked body = schedule_read segment asked
call_at routes.DeleteSchedule segment asked body = schedule_deletion segment asked
call_at routes.ListSchedules segment asked body = schedule_list asked
call_at routes.CreateGroup segment asked body = group_body body giving λ object. group_creation segment object
call_at routes.GetGroup segment asked body = group_read segment
call_at routes.DeleteGroup segment asked body = group_deletion segment asked
call_at routes.ListGroups segment asked body = group_list asked
call_at routes.GetExecution segment asked body = execution_read segment
call_at routes.ListLetters segment asked body = letter_list asked
call_at routes.Sweep segment asked body = Ok calls.Sweep

-- the path that no route has, as a message shows it: its first bytes
abbrev pub shown_path : List ℕ → List ℕ
shown_path path = utf8_lossy (take SHOWN_PATH path)

-- the route of a method and a path
abbrev pub read_route : Bool → List ℕ → List ℕ → Result Route Refusal
read_route sweeps method path = or_else_refused (refusal 3 404 (shown_path path)) (route_of sweeps method path)

-- the call of these parts of a request, or the first rule that they break
unfoldable pub call_with : Bool → List ℕ → List ℕ → List ℕ → List ℕ → Result Call Refusal
call_with sweeps method path query body =
    read_route sweeps method path giving λ route.
    query_of route query giving λ asked.
    call_at route (segment_of route path) asked body

-- the call of a request, or the first rule that it breaks. Where no sweeps are served there is no route to one
abbrev pub call_of : HttpRequest → Bool → Result Call Refusal
call_of request sweeps =
    call_with sweeps request.method (path_in request.target) (query_in request.target) request.body
