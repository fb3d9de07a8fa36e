use Rattle.std.proofs.Common.{ℕ, List, Bor, ◌≡◌, ◌≤◌, ◌++◌, ◌∷◌, [], arith, length-append}
use Rattle.std.proofs.lemmas.List.Elements.{All-push}
use Rattle.std.proofs.lemmas.Result.{err_from_is_err_and}
use Rattle.sched_plain.specs.declared.step.Pair.{Pair}
use Rattle.step_codec.specs.Format.{pairs_table}
use Rattle.step_codec.specs.Payload.{pair_cells}
use Rattle.step_codec.specs.Tables.{walk}
use Rattle.step_codec.proofs.Pairs.{pairs_go_on, pairs_end}
use Rattle.step_codec.proofs.enter.read_pairs.Goals as goal

pub loop-preserved : goal.loop-preserved
loop-preserved c =
    let pair = c.in_ok-pair.pair in
    let pushed : c.add_pair.new.pairs ≡ c.loop.pairs ++ pair ∷ [] = c.in_ok-add_pair.ensures.ok in
    record {
      read = rw pushed (pairs_go_on c.loop.pairs c.args.count c.loop.counter c.loop.rest.now pair c.in_ok-pair.behind.now (walk (pairs_table c.args.count) c.args.bytes.now) c.loop-test.true c.in_ok-pair.ensures.read c.loop.invariant.read);
      count = rw pushed (omega (arith, length-append c.loop.pairs (pair ∷ []), c.loop.invariant.count));
      exact = rw pushed (All-push (λ (p : Pair). p.instant ≤ p.chosen) c.loop.pairs pair c.loop.invariant.exact c.in_ok-pair.ensures.exact);
    }

pub returns-in_err-pair-clause-read : goal.returns-in_err-pair-clause-read
returns-in_err-pair-clause-read c =
    let p = err_from_is_err_and c.from_residual.result c.from_residual.ensures.1 in
    rw (p.1, p.2) (pairs_end (λ (x : Pair × Bor (List ℕ)). (pair_cells (x.0 ∷ []), x.1.now)) (λ (x : List Pair × Bor (List ℕ)). (pair_cells x.0, x.1.now)) c.in_err-pair.field-0.0 c.loop.pairs c.args.count c.loop.counter c.loop.rest.now (walk (pairs_table c.args.count) c.args.bytes.now) c.loop-test.true c.in_err-pair.ensures.read c.loop.invariant.read)
