-- UTF-8 as a test, and how many bytes a text of so many characters has.
use Rattle.std.proofs.Common.{◌≡◌, ℕ, Bool, true, false, List, refl}
use Rattle.std.specs.Str.{is_utf8, IsUtf8}
use Rattle.std.proofs.lemmas.Str.{is_utf8-from_IsUtf8, IsUtf8-from_is_utf8}

pub utf8_is : (text : List ℕ) → IsUtf8 text → is_utf8 text ≡ true
utf8_is text is = is_utf8-from_IsUtf8 text is

is_not : (text : List ℕ) (b : Bool) → is_utf8 text ≡ b → ¬ (IsUtf8 text) → b ≡ false
is_not text true e not_so = absurd (not_so (IsUtf8-from_is_utf8 text e))
is_not text false e not_so = refl

pub utf8_is_not : (text : List ℕ) → ¬ (IsUtf8 text) → is_utf8 text ≡ false
utf8_is_not text not_so = is_not text (is_utf8 text) refl not_so
