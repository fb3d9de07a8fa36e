use Rattle.std.proofs.Common.{◌∷◌, None, refl, arith}
use Rattle.timer_work.specs.Going.{outside}
use Rattle.timer_work.specs.Places.{Before, AtWork, Unreleased}
use Rattle.timer_work.proofs.ActLemmas.{disk_as}
use Rattle.timer_work.proofs.WentLemmas.{went_on, stopped_on}
use Rattle.timer_work.proofs.sweep.shard.sweep_shard.Goals as goal

pub work_until_settled-requires-clause-lives : goal.work_until_settled-requires-clause-lives
work_until_settled-requires-clause-lives g c =
    let (shards, (since, h, st, fit)) = c.requires.lives in
    let taken = c.in_default.ensures.went shards (outside None None) since h st fit in
    (shards, (since, taken.after, taken.stands, taken.fit))

pub mark_swept-requires-clause-wanted : goal.mark_swept-requires-clause-wanted
mark_swept-requires-clause-wanted g c =
    let (shards, (since, h, st, fit)) = c.requires.lives in
    let taken = c.in_default.ensures.went shards (outside None None) since h st fit in
    let worked = c.in_default-work_until_settled.ensures.settled shards since taken.after taken.stands taken.fit in
    (shards, (since, worked.went.after, worked.went.stands, (worked.went.fit, worked.asks)))

pub give_back-requires-clause-lives : goal.give_back-requires-clause-lives
give_back-requires-clause-lives g c =
    let (shards, (since, h, st, fit)) = c.requires.lives in
    let taken = c.in_default.ensures.went shards (outside None None) since h st fit in
    let worked = c.in_default-work_until_settled.ensures.settled shards since taken.after taken.stands taken.fit in
    let swept = c.in_default-mark_swept.ensures.swept shards (outside None None) since worked.went.after worked.went.stands (worked.went.fit, worked.asks) in
    (shards, (since, swept.after, swept.stands, swept.fit))

pub returns-in-Err-clause-went : goal.returns-in-Err-clause-went
returns-in-Err-clause-went g c = λ shards since h st fit.
    c.in-Err.ensures.went shards (outside (g.P.Picker.told c.args.picker.now) (g.L.Link.told c.args.link.now)) since h st fit

pub returns-in-Err-work_until_settled-clause-went : goal.returns-in-Err-work_until_settled-clause-went
returns-in-Err-work_until_settled-clause-went g c = λ shards since h st fit.
    let o = outside (g.P.Picker.told c.args.picker.now) (g.L.Link.told c.args.link.now) in
    let taken = c.in_default.ensures.went shards o since h st fit in
    stopped_on _ _ _ _ c.args.at.0 (Before (c.args.shard ∷ shards)) h _ (AtWork c.args.shard shards) _ _ taken
    (c.in-Err-work_until_settled.ensures.settled shards since taken.after taken.stands taken.fit)

pub returns-in-Err-mark_swept-clause-went : goal.returns-in-Err-mark_swept-clause-went
returns-in-Err-mark_swept-clause-went g c = λ shards since h st fit.
    let o = outside (g.P.Picker.told c.args.picker.now) (g.L.Link.told c.args.link.now) in
    let n = outside (g.P.Picker.told c.work_until_settled.new.picker) (g.L.Link.told c.work_until_settled.new.link) in
    let taken = c.in_default.ensures.went shards o since h st fit in
    let worked = c.in_default-work_until_settled.ensures.settled shards since taken.after taken.stands taken.fit in
    stopped_on _ _ _ _ c.args.at.0 (Before (c.args.shard ∷ shards)) h _ (AtWork c.args.shard shards) _ _ taken
    (stopped_on _ _ _ _ c.args.at.0 (AtWork c.args.shard shards) taken.after _ (AtWork c.args.shard shards) _ _ worked.went
    (c.in-Err-mark_swept.ensures.swept shards n since worked.went.after worked.went.stands worked.went.fit))

pub returns-in-Err-give_back-clause-went : goal.returns-in-Err-give_back-clause-went
returns-in-Err-give_back-clause-went g c = λ shards since h st fit.
    let o = outside (g.P.Picker.told c.args.picker.now) (g.L.Link.told c.args.link.now) in
    let n = outside (g.P.Picker.told c.work_until_settled.new.picker) (g.L.Link.told c.work_until_settled.new.link) in
    let taken = c.in_default.ensures.went shards o since h st fit in
    let worked = c.in_default-work_until_settled.ensures.settled shards since taken.after taken.stands taken.fit in
    let swept = c.in_default-mark_swept.ensures.swept shards n since worked.went.after worked.went.stands (worked.went.fit, worked.asks) in
    stopped_on _ _ _ _ c.args.at.0 (Before (c.args.shard ∷ shards)) h _ (AtWork c.args.shard shards) _ _ taken
    (stopped_on _ _ _ _ c.args.at.0 (AtWork c.args.shard shards) taken.after _ (AtWork c.args.shard shards) _ _ worked.went
    (stopped_on _ _ _ _ c.args.at.0 (AtWork c.args.shard shards) worked.went.after _ (Unreleased c.args.shard shards) _ _ swept
    (c.in-Err-give_back.ensures.went shards n since swept.after swept.stands swept.fit)))

pub returns-clause-went : goal.returns-clause-went
returns-clause-went g c = λ shards since h st fit.
    let o = outside (g.P.Picker.told c.args.picker.now) (g.L.Link.told c.args.link.now) in
    let n = outside (g.P.Picker.told c.work_until_settled.new.picker) (g.L.Link.told c.work_until_settled.new.link) in
    let taken = c.in_default.ensures.went shards o since h st fit in
    let worked = c.in_default-work_until_settled.ensures.settled shards since taken.after taken.stands taken.fit in
    let swept = c.in_default-mark_swept.ensures.swept shards n since worked.went.after worked.went.stands (worked.went.fit, worked.asks) in
    went_on _ _ c.args.at.0 (Before (c.args.shard ∷ shards)) h _ (AtWork c.args.shard shards) _ (Before shards) _ taken
    (went_on _ _ c.args.at.0 (AtWork c.args.shard shards) taken.after _ (AtWork c.args.shard shards) _ (Before shards) _ worked.went
    (went_on _ _ c.args.at.0 (AtWork c.args.shard shards) worked.went.after _ (Unreleased c.args.shard shards) _ (Before shards) _ swept
    (c.in_default-give_back.ensures.went shards n since swept.after swept.stands swept.fit)))

pub returns-in-Err-work_until_settled-clause-disk : goal.returns-in-Err-work_until_settled-clause-disk
returns-in-Err-work_until_settled-clause-disk g c =
    let a = c.take_shard.ensures.faults in
    disk_as _ _ _ _ _ a refl c.in-Err-work_until_settled.ensures.disk

pub returns-in-Err-mark_swept-clause-disk : goal.returns-in-Err-mark_swept-clause-disk
returns-in-Err-mark_swept-clause-disk g c =
    let a = c.take_shard.ensures.faults in
    let b = c.work_until_settled.ensures.faults in
    disk_as _ _ _ _ _ (omega (arith, a, b)) refl c.in-Err-mark_swept.ensures.disk

pub returns-in-Err-give_back-clause-disk : goal.returns-in-Err-give_back-clause-disk
returns-in-Err-give_back-clause-disk g c =
    let a = c.take_shard.ensures.faults in
    let b = c.work_until_settled.ensures.faults in
    let d = c.mark_swept.ensures.faults in
    disk_as _ _ _ _ _ (omega (arith, a, b, d)) refl c.in-Err-give_back.ensures.disk
