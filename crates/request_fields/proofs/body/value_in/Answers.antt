use Rattle.std.proofs.Common.{◌≡◌, Bool, true, false, if◌then◌else◌, List, ℕ, None, rules, refl, sym}
use Rattle.std.specs.Str.{IsUtf8, is_utf8}
use Rattle.std.proofs.lemmas.Str.{IsUtf8-from_is_utf8, is_utf8-from_IsUtf8}
use Rattle.serde_json.specs.Read.{read}
use Rattle.request_fields.proofs.body.value_in.Goals as goal

none_by : (body : List ℕ) (utf8 : Bool) → is_utf8 body ≡ utf8 → (IsUtf8 body → read body ≡ None) → (if utf8 then read body else None) ≡ None
none_by body true is none = none (IsUtf8-from_is_utf8 body is)
none_by body false is none = refl

pub returns-in-Ok : goal.returns-in-Ok
returns-in-Ok c =
    let utf8 = is_utf8-from_IsUtf8 c.args.body.now c.in-Ok.ensures.ok.0 in
    rw (utf8, c.in-Ok.ensures.ok.1) refl

pub returns-in-Err-2 : goal.returns-in-Err-2
returns-in-Err-2 c =
    let none : IsUtf8 c.args.body.now → read c.args.body.now ≡ None = search rules in
    sym (none_by c.args.body.now (is_utf8 c.args.body.now) refl none)
