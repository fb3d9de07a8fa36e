use Rattle.std.proofs.Common.{◌∙◌, ap, sym}
use Rattle.std.proofs.lemmas.Option.{IfSome_then}
use Rattle.disk_port.specs.Writes.{piece}
use Rattle.journal_file.specs.declared.ahead.TheConstants.{BLOCK}
use Rattle.journal_file.proofs.PieceLemmas.{filled_piece, filled_look}
use Rattle.journal_file.proofs.ahead.Ahead.look.Goals as goal

pub returns-in_ok-fill-clause-piece : goal.returns-in_ok-fill-clause-piece
returns-in_ok-fill-clause-piece g c =
    IfSome_then (g.D.Disk.seen c.args.disk.now) c.in_ok-fill.ensures.ok (λ file is was.
    filled_piece c.fill.new.self.bytes file c.fill.new.self.start BLOCK (is ∙ ap (λ at. piece file at BLOCK) (sym c.in_ok-fill.ensures.start)))

pub returns-in_ok-fill-clause-enough : goal.returns-in_ok-fill-clause-enough
returns-in_ok-fill-clause-enough g c =
    IfSome_then (g.D.Disk.seen c.args.disk.now) c.in_ok-fill.ensures.ok (λ file is. filled_look c.fill.new.self c.args.at file c.in_ok-fill.ensures.start is)
