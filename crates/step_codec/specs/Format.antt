-- The tables of payloads: a line for each field, with its size and its rule.
use Rattle.std.specs.Prelude.{ℕ, zero, suc, ◌+◌, ◌==◌, nat_le, Bool, if◌then◌else◌, List}
use Rattle.step_codec.specs.Cells.{One, Two, Four, Eight}
use Rattle.plain_words.specs.declared.limits.TheConstants.{LONGEST_WINDOW, MOST_RETRIES, LEASE_SECONDS}
use Rattle.step_codec.specs.Tables.{Table, nothing, ◌then◌, choosing, ◌and◌, a_number, a_text, a_date}
use Rattle.step_codec.specs.Rules as rule

-- what a schedule says: its own texts
abbrev pub texts_table : Table
texts_table =
    a_text Two rule.is_description
    then a_text Two rule.is_expression
    then a_text One rule.is_zone_name
    then nothing

-- its times, switches and limits
abbrev pub timing_table : Table
timing_table =
    a_date rule.is_moment
    then a_date rule.is_moment
    then a_number One rule.is_flag
    then a_number One rule.is_flag
    then a_number Two (rule.at_most LONGEST_WINDOW)
    then a_number One (rule.at_most MOST_RETRIES)
    then a_number Four rule.is_age
    then nothing

-- what is sent, and where to
abbrev pub target_table : Table
target_table =
    a_text Two rule.is_arn
    then a_text Two rule.is_arn
    then a_text Two rule.is_arn_or_none
    then a_text Four rule.is_input_or_none
    then nothing

-- what a schedule says
abbrev pub content_table : Table
content_table = texts_table and timing_table and target_table

-- the kinds of a write: 1 creates a schedule, 2 updates one, 3 deletes one, 4 creates a group, 5 deletes one; a write of
-- a group has an empty name
abbrev pub name_of_kind : ℕ → List ℕ → Bool
name_of_kind kind text = if nat_le kind 3 then rule.is_name text else rule.is_empty text

-- a creation and an update say what the schedule is
abbrev pub content_of_kind : ℕ → Table
content_of_kind kind = if nat_le kind 2 then content_table else nothing

abbrev pub named_table : ℕ → Table
named_table kind =
    a_text One rule.is_token_or_none
    then a_text One rule.is_name
    then a_text One (name_of_kind kind)
    then content_of_kind kind

-- so many pairs: each an instant, and how far behind it the chosen moment lies
abbrev pub pairs_table : ℕ → Table
pairs_table zero = nothing
pairs_table (suc more) =
    a_number Eight rule.is_moment
    then a_number Four rule.is_offset
    then pairs_table more

-- the fields behind the tag and the moment
abbrev pub zone_table : Table
zone_table = a_text One rule.is_zone_name then a_text Four rule.is_zone then nothing

abbrev pub change_table : Table
change_table = choosing One (rule.is_code 5) named_table

abbrev pub enter_table : Table
enter_table = a_number Four rule.counts_from_one then choosing Two rule.is_count pairs_table

-- a lease lasts from its moment for its fixed time
abbrev pub lease_table : ℕ → Table
lease_table at =
    a_number One rule.is_shard
    then a_number Four rule.any
    then a_number Eight rule.any
    then a_number Eight (λ until. until == at + LEASE_SECONDS)
    then nothing

abbrev pub release_table : Table
release_table = a_number One rule.is_shard then a_number Four rule.any then a_number Eight rule.any then nothing

abbrev pub begin_table : Table
begin_table =
    a_number Four rule.counts_from_one
    then a_number Eight rule.is_moment
    then a_number Two rule.counts_from_one
    then a_number Eight rule.any
    then nothing

abbrev pub end_table : Table
end_table =
    a_number Four rule.counts_from_one
    then a_number Eight rule.is_moment
    then a_number Two rule.counts_from_one
    then a_number One (rule.is_code 3)
    then a_number Two rule.is_status
    then nothing

abbrev pub close_table : Table
close_table =
    a_number Four rule.counts_from_one
    then a_number Eight rule.is_moment
    then a_number One (rule.is_code 2)
    then nothing

abbrev pub complete_table : Table
complete_table = a_number Four rule.counts_from_one then nothing

abbrev pub swept_table : Table
swept_table = a_number One rule.is_shard then nothing

-- the fields behind the tag and the moment, by the tag
abbrev pub fields_at : ℕ → ℕ → Table
fields_at tag at =
    if tag == 1 then nothing
    else (if tag == 2 then zone_table
    else (if tag == 3 then change_table
    else (if tag == 4 then enter_table
    else (if tag == 5 then lease_table at
    else (if tag == 6 then release_table
    else (if tag == 7 then begin_table
    else (if tag == 8 then end_table
    else (if tag == 9 then close_table
    else (if tag == 10 then complete_table
    else swept_table)))))))))

-- the fields behind the tag: the moment first
abbrev pub fields : ℕ → Table
fields tag = choosing Eight rule.is_moment (fields_at tag)
