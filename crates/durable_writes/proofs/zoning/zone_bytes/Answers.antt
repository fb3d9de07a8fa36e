use Rattle.std.proofs.Common.{ℕ, List, sym, subst}
use Rattle.zone_occ.specs.declared.zone_files.ZoneAnswer.{ZoneAnswer}
use Rattle.zone_occ.specs.Files.{IsTold}
use Rattle.durable_writes.specs.Zoning.{IsHad}
use Rattle.durable_writes.proofs.ResultLemmas.{ok_more, err_more}
use Rattle.durable_writes.proofs.ZoneLemmas.{is_had, is_lacked, is_absent, not_had}
use Rattle.durable_writes.proofs.zoning.zone_bytes.Goals as goal

pub returns-in-Ok-Present-clause-had : goal.returns-in-Ok-Present-clause-had
returns-in-Ok-Present-clause-had g c =
    let answer = subst (λ (a : ZoneAnswer). IsTold (g.Z.ZoneFiles.told c.args.zones.now) c.args.name.now a) c.in-Ok-Present.field-0-is c.in-Ok-Present.ensures.answer in
    ok_more _ _ c.as_zone.result
    (λ zone is. subst (λ (b : List ℕ). IsHad (g.Z.ZoneFiles.told c.args.zones.now) c.args.name.now b) (sym is.0) (is_had (g.Z.ZoneFiles.told c.args.zones.now) c.args.name.now c.in-Ok-Present.bytes answer is.1))
    c.as_zone.ensures.had

pub returns-in-Ok-Present-clause-lacked : goal.returns-in-Ok-Present-clause-lacked
returns-in-Ok-Present-clause-lacked g c =
    let answer = subst (λ (a : ZoneAnswer). IsTold (g.Z.ZoneFiles.told c.args.zones.now) c.args.name.now a) c.in-Ok-Present.field-0-is c.in-Ok-Present.ensures.answer in
    err_more _ _ c.as_zone.result
    (λ fault tells. not_had (g.Z.ZoneFiles.told c.args.zones.now) c.args.name.now _ fault (is_lacked (g.Z.ZoneFiles.told c.args.zones.now) c.args.name.now c.in-Ok-Present.bytes answer) tells)
    c.as_zone.ensures.lacked

pub returns-in-Ok-Absent-clause-lacked : goal.returns-in-Ok-Absent-clause-lacked
returns-in-Ok-Absent-clause-lacked g c =
    let answer = subst (λ (a : ZoneAnswer). IsTold (g.Z.ZoneFiles.told c.args.zones.now) c.args.name.now a) c.in-Ok-Absent.field-0-is c.in-Ok-Absent.ensures.answer in
    not_had (g.Z.ZoneFiles.told c.args.zones.now) c.args.name.now _ c.refuse_zone.result (λ nothing. is_absent (g.Z.ZoneFiles.told c.args.zones.now) c.args.name.now answer) c.refuse_zone.ensures
