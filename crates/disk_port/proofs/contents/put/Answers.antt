use Rattle.std.proofs.Common.{◌≡◌, ◌+◌, ◌++◌, length, take, drop, ◌∙◌, ap, rules}
use Rattle.std.proofs.lemmas.List.{take_at}
use Rattle.disk_port.specs.Writes.{reaching}
use Rattle.disk_port.proofs.WriteLemmas.{write_over}
use Rattle.disk_port.proofs.contents.put.Goals as goal

pub returns-clause-ok : goal.returns-clause-ok
returns-clause-ok c =
    let is : c.deref_mut.result.now ≡ reaching c.in-Some.end c.args.file.now.items = search rules in
    let ends : c.in-Some.end ≡ c.args.at + length c.args.bytes.now = search rules in
    let long : length c.overwrite.new.file ≡ c.lengthen.new.file.len = search rules in
    take_at c.overwrite.new.file (drop (length c.overwrite.new.file) c.lengthen.new.file.items) c.lengthen.new.file.len long
    ∙ c.overwrite.ensures
    ∙ ap (λ file. take c.args.at file ++ c.args.bytes.now ++ drop (c.args.at + length c.args.bytes.now) file) is
    ∙ write_over c.args.file.now.items c.args.bytes.now c.args.at c.in-Some.end ends
