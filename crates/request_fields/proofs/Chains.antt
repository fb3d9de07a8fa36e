-- What a chain of fields that ends well says of each of them, and what a chain that does not answers.
use Rattle.std.proofs.Common.{◌≡◌, ℕ, List, ◌++◌, Option, Some, None, Result, Ok, Err, option_map, refl, ap, subst}
use Rattle.std.specs.Prelude.{option_and_then}
use Rattle.serde_json.specs.Data.{Data}
use Rattle.serde_json.specs.Find.{as_str}
use Rattle.sched_plain.specs.Validity.{IfThere}
use Rattle.sched_calls.specs.declared.reply.Refusal.{Refusal}
use Rattle.request_fields.specs.declared.fault.DecodeFault.{DecodeFault}
use Rattle.request_fields.specs.declared.fault.DecodeFault.TheVariants.{Refused, OutOfMemory}
use Rattle.request_fields.specs.Objects.{ReadsObject, ReadsOwned}
use Rattle.request_fields.specs.Refusals.{◌giving◌, Reads, or_refused}
use Rattle.request_fields.specs.Rows.{in_text, given, needed, or_default, or_none, required, defaulted, optional}

-- ---- a refusal ends the chain

pub ends : {A B : Type 0} (fault : DecodeFault) (said : Result A Refusal) (next : A → Result B Refusal) → Reads {A = A} (Err fault) said → Reads {A = B} (Err fault) (said giving next)
ends (Refused refusal) said next reads = ap (λ s. s giving next) reads
ends OutOfMemory said next reads = tt

pub object_ends : {B : Type 0} (fault : DecodeFault) (said : Result Data Refusal) (next : Data → Result B Refusal) → ReadsObject (Err fault) said → Reads {A = B} (Err fault) (said giving next)
object_ends (Refused refusal) said next reads = ap (λ s. s giving next) reads
object_ends OutOfMemory said next reads = tt

pub owned_ends : {B : Type 0} (fault : DecodeFault) (said : Result Data Refusal) (next : Data → Result B Refusal) → ReadsOwned (Err fault) said → Reads {A = B} (Err fault) (said giving next)
owned_ends (Refused refusal) said next reads = ap (λ s. s giving next) reads
owned_ends OutOfMemory said next reads = tt

-- what is answered in the place of an object
pub as_owned : (fault : DecodeFault) (said : Result Data Refusal) → Reads {A = Data} (Err fault) said → ReadsOwned (Err fault) said
as_owned (Refused refusal) said reads = reads
as_owned OutOfMemory said reads = tt

-- ---- a chain that ends well

-- it has a value at its first field
pub giving_ok : {A B : Type 0} (said : Result A Refusal) (next : A → Result B Refusal) (y : B) → (said giving next) ≡ Ok y → (x : A) × (said ≡ Ok x) × (next x ≡ Ok y)
giving_ok (Ok x) next y e = (x, refl, e)
giving_ok (Err refusal) next y e = absurd (let clash : ⊥ = cc in clash)

passed : {A : Type 0} (path : List ℕ) (o : Option A) (x : A) → or_refused path o ≡ Ok x → o ≡ Some x
passed path None x e = absurd (let clash : ⊥ = cc in clash)
passed path (Some y) x e = cc

needed_holds : {A : Type 0} (P : A → Type 0) (rule : Data → Option A) → ((v : Data) (x : A) → rule v ≡ Some x → P x) →
    (path : List ℕ) (here : Option Data) (x : A) → or_refused path (needed (option_map rule here)) ≡ Ok x → P x
needed_holds P rule holds path None x e = absurd (let clash : ⊥ = cc in clash)
needed_holds P rule holds path (Some v) x e = holds v x (passed path (rule v) x e)

default_holds : {A : Type 0} (P : A → Type 0) (rule : Data → Option A) → ((v : Data) (x : A) → rule v ≡ Some x → P x) →
    (default : A) → P default → (path : List ℕ) (here : Option Data) (x : A) → or_refused path (or_default default (option_map rule here)) ≡ Ok x → P x
default_holds P rule holds default is path None x e = let same : default ≡ x = cc in subst P same is
default_holds P rule holds default is path (Some v) x e = holds v x (passed path (rule v) x e)

some_holds : {A : Type 0} (P : A → Type 0) (path : List ℕ) (found : Option A) → ((x : A) → found ≡ Some x → P x) →
    (o : Option A) → or_refused path (or_none (Some found)) ≡ Ok o → IfThere P o
some_holds P path None holds o e = absurd (let clash : ⊥ = cc in clash)
some_holds P path (Some y) holds o e = let same : Some y ≡ o = cc in subst (IfThere P) same (holds y refl)

none_holds : {A : Type 0} (P : A → Type 0) (rule : Data → Option A) → ((v : Data) (x : A) → rule v ≡ Some x → P x) →
    (path : List ℕ) (here : Option Data) (o : Option A) → or_refused path (or_none (option_map rule here)) ≡ Ok o → IfThere P o
none_holds P rule holds path None o e = let same : None ≡ o = cc in subst (IfThere P) same tt
none_holds P rule holds path (Some v) o e = some_holds P path (rule v) (holds v) o e

-- what holds of each value that a row's rule lets pass holds of the row's value, which the rest of the chain goes on with
pub after_required : {A B : Type 0} (P : A → Type 0) (rule : Data → Option A) → ((v : Data) (x : A) → rule v ≡ Some x → P x) →
    (prefix name : List ℕ) (d : Data) (next : A → Result B Refusal) (y : B) → (required prefix name rule d giving next) ≡ Ok y →
    (x : A) × P x × (next x ≡ Ok y)
after_required P rule holds prefix name d next y e =
    let g = giving_ok (required prefix name rule d) next y e in
    (g.0, needed_holds P rule holds (prefix ++ name) (given name d) g.0 g.1, g.2)

pub after_default : {A B : Type 0} (P : A → Type 0) (rule : Data → Option A) → ((v : Data) (x : A) → rule v ≡ Some x → P x) →
    (default : A) → P default → (prefix name : List ℕ) (d : Data) (next : A → Result B Refusal) (y : B) →
    (defaulted prefix name rule default d giving next) ≡ Ok y → (x : A) × P x × (next x ≡ Ok y)
after_default P rule holds default is prefix name d next y e =
    let g = giving_ok (defaulted prefix name rule default d) next y e in
    (g.0, default_holds P rule holds default is (prefix ++ name) (given name d) g.0 g.1, g.2)

pub after_optional : {A B : Type 0} (P : A → Type 0) (rule : Data → Option A) → ((v : Data) (x : A) → rule v ≡ Some x → P x) →
    (prefix name : List ℕ) (d : Data) (next : Option A → Result B Refusal) (y : B) → (optional prefix name rule d giving next) ≡ Ok y →
    (x : Option A) × IfThere P x × (next x ≡ Ok y)
after_optional P rule holds prefix name d next y e =
    let g = giving_ok (optional prefix name rule d) next y e in
    (g.0, none_holds P rule holds (prefix ++ name) (given name d) g.0 g.1, g.2)

pub required_holds : {A : Type 0} (P : A → Type 0) (rule : Data → Option A) → ((v : Data) (x : A) → rule v ≡ Some x → P x) →
    (prefix name : List ℕ) (d : Data) (x : A) → required prefix name rule d ≡ Ok x → P x
required_holds P rule holds prefix name d x e = needed_holds P rule holds (prefix ++ name) (given name d) x e

pub optional_holds : {A : Type 0} (P : A → Type 0) (rule : Data → Option A) → ((v : Data) (x : A) → rule v ≡ Some x → P x) →
    (prefix name : List ℕ) (d : Data) (o : Option A) → optional prefix name rule d ≡ Ok o → IfThere P o
optional_holds P rule holds prefix name d o e = none_holds P rule holds (prefix ++ name) (given name d) o e

-- what holds of each text that a rule lets pass holds of the strings
by_text : {A : Type 0} (P : A → Type 0) (rule : List ℕ → Option A) → ((s : List ℕ) (x : A) → rule s ≡ Some x → P x) →
    (s : Option (List ℕ)) (x : A) → option_and_then rule s ≡ Some x → P x
by_text P rule holds None x e = absurd (let clash : ⊥ = cc in clash)
by_text P rule holds (Some s) x e = holds s x e

pub text_holds : {A : Type 0} (P : A → Type 0) (rule : List ℕ → Option A) → ((s : List ℕ) (x : A) → rule s ≡ Some x → P x) →
    (d : Data) (x : A) → in_text rule d ≡ Some x → P x
text_holds P rule holds d x e = by_text P rule holds (as_str d) x e
