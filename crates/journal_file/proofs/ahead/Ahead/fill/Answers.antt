use Rattle.std.proofs.Common.{◌≡◌, length, ◌∙◌, ap, rules}
use Rattle.std.proofs.lemmas.Option.{IfSome_then}
use Rattle.disk_port.specs.Writes.{piece}
use Rattle.journal_file.specs.declared.ahead.TheConstants.{BLOCK}
use Rattle.journal_file.proofs.ahead.Ahead.fill.Goals as goal

pub returns-clause-ok : goal.returns-clause-ok
returns-clause-ok g c =
    let long : length c.self.inside.bytes ≡ BLOCK = search rules in
    IfSome_then (g.D.Disk.seen c.args.disk.now) c.in_ok-count.ensures.bytes (λ file is. is ∙ ap (piece file c.args.at) long)
