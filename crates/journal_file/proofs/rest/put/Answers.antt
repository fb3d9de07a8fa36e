use Rattle.std.proofs.Common.{◌⊎◌, inl, inr, List, ℕ, length}
use Rattle.journal_file.specs.Journals.{Was, WasTorn}
use Rattle.journal_file.proofs.Moments.{on_err, started, goes_on, shows_torn, shows_unsynced}
use Rattle.journal_file.proofs.rest.put.Goals as goal

pub returns-in_err-write_at-clause-err : goal.returns-in_err-write_at-clause-err
returns-in_err-write_at-clause-err g c =
    on_err c.from_residual.result _
    (shows_torn g.D.Disk.seen g.D.Disk.image c.args.disk.now c.write_at.new.self c.args.at (length c.args.bytes.now) c.in_err-write_at.ensures.torn c.write_at.ensures.image)

pub returns-in_err-write_at-clause-during : goal.returns-in_err-write_at-clause-during
returns-in_err-write_at-clause-during g c =
    let D = g.D.Disk in
    let passes : List ℕ → Type 0 = λ file. Was D.seen D.image c.args.disk.now file ⊎ WasTorn D.seen D.image c.args.disk.now c.args.at (length c.args.bytes.now) file in
    let begun = started D.moment D.image_since c.args.disk.now passes (λ file left. inl (inr (g.met.D.Disk.only_now c.args.disk.now file left))) in
    goes_on D.moment D.image_since c.args.disk.now c.args.disk.now c.write_at.new.self passes _ begun c.write_at.ensures.time
    (λ file left. let from = c.write_at.ensures.image file left in inr (from.0, inr from.1, from.2))

pub returns-in_err-sync-clause-err : goal.returns-in_err-sync-clause-err
returns-in_err-sync-clause-err g c =
    on_err c.from_residual-in_err-sync.result _
    (shows_unsynced g.D.Disk.seen g.D.Disk.image c.args.disk.now c.write_at.new.self c.sync.new.self c.args.at c.args.bytes.now
    c.in_ok-write_at.ensures.written c.write_at.ensures.image c.sync.ensures.seen c.sync.ensures.image)

pub returns-in_err-sync-clause-during : goal.returns-in_err-sync-clause-during
returns-in_err-sync-clause-during g c =
    let D = g.D.Disk in
    let passes : List ℕ → Type 0 = λ file. Was D.seen D.image c.args.disk.now file ⊎ WasTorn D.seen D.image c.args.disk.now c.args.at (length c.args.bytes.now) file in
    let begun = started D.moment D.image_since c.args.disk.now passes (λ file left. inl (inr (g.met.D.Disk.only_now c.args.disk.now file left))) in
    let torn : (file : List ℕ) → D.image c.write_at.new.self file → passes file = λ file left. let from = c.write_at.ensures.image file left in inr (from.0, inr from.1, from.2) in
    let wrote = goes_on D.moment D.image_since c.args.disk.now c.args.disk.now c.write_at.new.self passes _ begun c.write_at.ensures.time torn in
    goes_on D.moment D.image_since c.args.disk.now c.write_at.new.self c.sync.new.self passes _ wrote c.sync.ensures.time (λ file left. torn file (c.sync.ensures.image file left))

pub returns-clause-during : goal.returns-clause-during
returns-clause-during g c =
    let D = g.D.Disk in
    let passes : List ℕ → Type 0 = λ file. Was D.seen D.image c.args.disk.now file ⊎ WasTorn D.seen D.image c.args.disk.now c.args.at (length c.args.bytes.now) file in
    let begun = started D.moment D.image_since c.args.disk.now passes (λ file left. inl (inr (g.met.D.Disk.only_now c.args.disk.now file left))) in
    let torn : (file : List ℕ) → D.image c.write_at.new.self file → passes file = λ file left. let from = c.write_at.ensures.image file left in inr (from.0, inr from.1, from.2) in
    let wrote = goes_on D.moment D.image_since c.args.disk.now c.args.disk.now c.write_at.new.self passes _ begun c.write_at.ensures.time torn in
    goes_on D.moment D.image_since c.args.disk.now c.write_at.new.self c.sync.new.self passes _ wrote c.sync.ensures.time (λ file left. torn file (c.sync.ensures.image file left))
