-- The routes: which call a method and a path ask for. A path is not percent-decoded.
use Rattle.std.specs.Prelude.{ℕ, ◌==◌, nat_le, Bool, not, ◌&&◌, unwrap_or, Option, List, [], ◌∷◌, length, codes}
use Rattle.std.specs.List.{list_any}
use Rattle.std.specs.Option.{option_map, option_and_then}
use Rattle.std.specs.Str.{bytes_eq}
use Rattle.plain_words.specs.Bytes.{question_mark, slash}
use Rattle.plain_words.specs.Lists.{first_some, when, some_pass}
use Rattle.request_fields.specs.Words.{around, behind}
use Rattle.request_calls.specs.declared.route.Place.{Place}
use Rattle.request_calls.specs.declared.route.Place.TheVariants as places
use Rattle.request_calls.specs.declared.route.Route.{Route}
use Rattle.request_calls.specs.declared.route.Route.TheVariants as routes

-- one segment of a path, which is not empty
abbrev pub is_segment : List ℕ → Bool
is_segment text = nat_le 1 (length text) && not (list_any (λ byte. byte == slash) text)

-- the path is a front and one segment
abbrev pub is_under : List ℕ → List ℕ → Bool
is_under front path = some_pass is_segment (behind front path)

-- what a path names
abbrev pub place_of : List ℕ → Option Place
place_of path = first_some (
    when (bytes_eq path (codes "/schedules")) places.Schedules
    ∷ when (is_under (codes "/schedules/") path) places.Schedule
    ∷ when (bytes_eq path (codes "/schedule-groups")) places.Groups
    ∷ when (is_under (codes "/schedule-groups/") path) places.Group
    ∷ when (is_under (codes "/executions/") path) places.Execution
    ∷ when (bytes_eq path (codes "/dead-letters")) places.Letters
    ∷ when (bytes_eq path (codes "/sweep")) places.Sweep
    ∷ [])

-- what the methods ask for at each place; a sweep may be left out
abbrev pub route_at : Bool → List ℕ → Place → Option Route
route_at sweeps method places.Schedule = first_some (
    when (bytes_eq method (codes "POST")) routes.CreateSchedule
    ∷ when (bytes_eq method (codes "PUT")) routes.UpdateSchedule
    ∷ when (bytes_eq method (codes "GET")) routes.GetSchedule
    ∷ when (bytes_eq method (codes "DELETE")) routes.DeleteSchedule ∷ [])
route_at sweeps method places.Schedules = when (bytes_eq method (codes "GET")) routes.ListSchedules
route_at sweeps method places.Group = first_some (
    when (bytes_eq method (codes "POST")) routes.CreateGroup
    ∷ when (bytes_eq method (codes "GET")) routes.GetGroup
    ∷ when (bytes_eq method (codes "DELETE")) routes.DeleteGroup ∷ [])
route_at sweeps method places.Groups = when (bytes_eq method (codes "GET")) routes.ListGroups
route_at sweeps method places.Execution = when (bytes_eq method (codes "GET")) routes.GetExecution
route_at sweeps method places.Letters = when (bytes_eq method (codes "GET")) routes.ListLetters
route_at sweeps method places.Sweep = when (sweeps && bytes_eq method (codes "POST")) routes.Sweep

-- the route of a method and a path, where there is one
abbrev pub route_of : Bool → List ℕ → List ℕ → Option Route
route_of sweeps method path = option_and_then (route_at sweeps method) (place_of path)

-- the front of the paths at which a route stands, for those behind which a segment is named
abbrev pub front_of : Route → List ℕ
front_of routes.CreateSchedule = codes "/schedules/"
front_of routes.UpdateSchedule = codes "/schedules/"
front_of routes.GetSchedule = codes "/schedules/"
front_of routes.DeleteSchedule = codes "/schedules/"
front_of routes.CreateGroup = codes "/schedule-groups/"
front_of routes.GetGroup = codes "/schedule-groups/"
front_of routes.DeleteGroup = codes "/schedule-groups/"
front_of routes.GetExecution = codes "/executions/"
front_of route = []

-- the segment behind it
abbrev pub segment_of : Route → List ℕ → List ℕ
segment_of route path = unwrap_or (behind (front_of route) path) []

-- the names that each route's query knows
abbrev pub names_of : Route → List (List ℕ)
names_of routes.GetSchedule = codes "groupName" ∷ []
names_of routes.DeleteSchedule = codes "groupName" ∷ codes "clientToken" ∷ []
names_of routes.ListSchedules =
    codes "MaxResults" ∷ codes "NamePrefix" ∷ codes "NextToken" ∷ codes "ScheduleGroup" ∷ codes "State" ∷ []
names_of routes.DeleteGroup = codes "clientToken" ∷ []
names_of routes.ListGroups = codes "MaxResults" ∷ codes "NamePrefix" ∷ codes "NextToken" ∷ []
names_of routes.ListLetters = codes "Queue" ∷ codes "After" ∷ codes "MaxResults" ∷ []
names_of route = []

-- the path of a request target: what stands before its first question mark
abbrev pub path_in : List ℕ → List ℕ
path_in target = unwrap_or (option_map (λ parts. parts.0) (around question_mark target)) target

-- its query: what stands behind that, if there is one
abbrev pub query_in : List ℕ → List ℕ
query_in target = unwrap_or (option_map (λ parts. parts.1) (around question_mark target)) []
