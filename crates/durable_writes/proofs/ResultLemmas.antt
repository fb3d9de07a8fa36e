-- What holds of a result, from what else does.
use Rattle.std.proofs.Common.{Result, Ok, Err}
use Rattle.std.specs.Prelude.{IfOk, IfErr, OnOk, OnErr}

pub ok_more : {A E : Type 0} (P Q : A → Type 0) (r : Result A E) → ((x : A) → P x → Q x) → IfOk r P → IfOk r Q
ok_more P Q (Ok x) more is = more x is
ok_more P Q (Err e) more is = tt

pub err_more : {A E : Type 0} (P Q : E → Type 0) (r : Result A E) → ((e : E) → P e → Q e) → IfErr r P → IfErr r Q
err_more P Q (Ok x) more is = tt
err_more P Q (Err e) more is = more e is

pub ok_both : {A E : Type 0} (P Q : A → Type 0) (R : Type 0) (r : Result A E) → ((x : A) → P x → R → Q x) → IfOk r P → OnOk r R → IfOk r Q
ok_both P Q R (Ok x) both is on = both x is on
ok_both P Q R (Err e) both is on = tt

pub err_both : {A E : Type 0} (P Q : E → Type 0) (R : Type 0) (r : Result A E) → ((e : E) → P e → R → Q e) → IfErr r P → OnErr r R → IfErr r Q
err_both P Q R (Ok x) both is on = tt
err_both P Q R (Err e) both is on = both e is on
