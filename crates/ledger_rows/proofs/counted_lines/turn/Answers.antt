use Rattle.std.proofs.Common.{[], ◌∷◌, sym, ap, ◌∙◌, subst, arith}
use Rattle.sched_plain.specs.declared.entry.Filed.{Filed}
use Rattle.sched_plain.specs.Standing.{standing_of}
use Rattle.ledger_rows.specs.declared.tally.Tally.{Tally}
use Rattle.ledger_rows.specs.Tallying.{IsAmong, tally_of}
use Rattle.ledger_rows.proofs.LineTallies.{alone_few, rows_few, tally_has}
use Rattle.ledger_rows.proofs.counted_lines.turn.Goals as goal

pub replace-requires-clause-among : goal.replace-requires-clause-among
replace-requires-clause-among c =
    subst (λ (t : Tally). IsAmong t c.args.tally.now) (sym (c.alone.ensures ∙ ap (λ (f : Filed). tally_of (standing_of f 0 ∷ [])) c.filed-filed.ensures))
    (tally_has c.args.lines.now.rows c.args.place c.args.tally.now c.requires.there c.requires.tally)

pub replace-requires-clause-few : goal.replace-requires-clause-few
replace-requires-clause-few c = rows_few c.args.lines.now.rows _ c.args.tally.now (omega (arith, c.len-few.ensures.value, c.len-few.ensures.few)) c.requires.tally

pub replace-requires-clause-small : goal.replace-requires-clause-small
replace-requires-clause-small c = alone_few (record { entry = c.args.entry; policy = c.filed-filed.result.policy }) c.alone-2.result c.alone-2.ensures
