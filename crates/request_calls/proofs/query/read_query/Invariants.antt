use Rattle.std.proofs.Common.{◌≡◌}
use Rattle.form_urlencoded.specs.Parse.{pairs_left}
use Rattle.request_calls.specs.Queries.{decoded, gathered, query_of}
use Rattle.request_calls.proofs.query.read_query.Given as goal

abbrev pub invariant-loop-pair : goal.invariant-loop-pair
invariant-loop-pair l = query_of l.route l.query ≡ gathered l.route l.found (decoded (pairs_left l.pair-iterator))
