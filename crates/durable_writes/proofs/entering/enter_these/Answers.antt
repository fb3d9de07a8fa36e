use Rattle.std.proofs.Common.{ℕ, ◌≤◌, List, subst, sym, arith}
use Rattle.std.specs.List.{All}
use Rattle.plain_words.specs.declared.limits.TheConstants.{LAST_MOMENT}
use Rattle.durable_writes.proofs.EnterLemmas.{wanted_valid, wanted_follows, early_wanted, enters_wanted, leaves_wanted, leaves_unmade}
use Rattle.durable_writes.proofs.entering.enter_these.Goals as goal

pub choose-requires-clause-moments : goal.choose-requires-clause-moments
choose-requires-clause-moments g c =
    let lives = c.requires.lives in
    subst (λ (xs : List ℕ). All (λ i. i ≤ LAST_MOMENT) xs) (sym (c.requires.wanted lives.0 lives.1 lives.2)) (early_wanted lives.1 c.args.inc c.args.at.0 c.requires.moment)

pub returns-in_default-clause-refused : goal.returns-in_default-clause-refused
returns-in_default-clause-refused g c = λ since h st.
    (h, g.met.K.Keeper.holds _ since h st, leaves_unmade _ h c.args.at.0 c.args.inc c.args.instants.now _ _ (c.requires.wanted since h st) c.in_default.ensures.dropped)

pub add_lawful-requires-clause-valid : goal.add_lawful-requires-clause-valid
add_lawful-requires-clause-valid g c =
    let since = c.requires.lives.0 in
    let h = c.requires.lives.1 in
    let held = g.met.K.Keeper.holds _ since h c.requires.lives.2 in
    let stands = c.book.ensures.stands since h held in
    let early = g.met.K.Keeper.early _ since h held in
    let later = c.requires.later in
    wanted_valid h c.args.at.0 c.args.inc c.args.instants.now _ _ c.in-Ok.pairs
    (record {
      legal = g.met.K.Book.Machine.legal_history _ h stands;
      valid = g.met.K.Book.Machine.valid_history _ h stands;
      early = omega (arith, early, later);
      late = c.requires.moment;
    })
    (c.requires.wanted since h c.requires.lives.2) c.requires.some (c.in-Ok.ensures.chosen h stands)

pub add_lawful-requires-clause-lawful : goal.add_lawful-requires-clause-lawful
add_lawful-requires-clause-lawful g c =
    let since = c.requires.lives.0 in
    let h = c.requires.lives.1 in
    let held = g.met.K.Keeper.holds _ since h c.requires.lives.2 in
    let stands = c.book.ensures.stands since h held in
    let early = g.met.K.Keeper.early _ since h held in
    let later = c.requires.later in (
      since,
      h,
      c.requires.lives.2,
      wanted_follows h c.args.at.0 c.args.inc c.args.instants.now _ _ c.in-Ok.pairs (omega (arith, early, later)) (c.requires.wanted since h c.requires.lives.2) (c.in-Ok.ensures.chosen h stands),
    )

pub returns-in-Err-clause-refused : goal.returns-in-Err-clause-refused
returns-in-Err-clause-refused g c = λ since h st.
    let stands = c.book.ensures.stands since h (g.met.K.Keeper.holds _ since h st) in (
      h,
      c.in-Err.ensures.stays since h st,
      leaves_wanted _ h c.args.at.0 c.args.inc c.args.instants.now _ _ c.in-Ok.pairs c.in-Err.fault (c.requires.wanted since h st) (c.in-Ok.ensures.chosen h stands) (c.in-Err.ensures.cause since h st),
    )

pub returns-clause-entered : goal.returns-clause-entered
returns-clause-entered g c = λ since h st.
    let stands = c.book.ensures.stands since h (g.met.K.Keeper.holds _ since h st) in (
      _,
      c.in_default-add_lawful.ensures.kept since h st,
      enters_wanted h c.args.at.0 c.args.inc c.args.instants.now _ _ c.in-Ok.pairs (c.requires.wanted since h st) c.requires.some (c.in-Ok.ensures.chosen h stands),
    )
