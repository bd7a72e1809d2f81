-- what a clause says in an arm of its result
use Rattle.std.proofs.Common.{◌≡◌, subst}
use Rattle.std.specs.Prelude.{IfErr, IfOk, OnErr, OnOk, Result, Ok, Err}

pub ok_of : {T E : Type 0} (P : T → Type 0) (result : Result T E) (value : T) → result ≡ Ok value → IfOk result P → P value
ok_of P result value is holds = subst (λ r. IfOk r P) is holds

pub err_of : {T E : Type 0} (P : E → Type 0) (result : Result T E) (error : E) → result ≡ Err error → IfErr result P → P error
err_of P result error is holds = subst (λ r. IfErr r P) is holds

-- a clause that follows from another
pub ok_too : {T E : Type 0} (P Q : T → Type 0) (result : Result T E) → ((value : T) → P value → Q value) → IfOk result P → IfOk result Q
ok_too P Q (Ok value) follows holds = follows value holds
ok_too P Q (Err error) follows holds = holds

pub err_too : {T E : Type 0} (P Q : E → Type 0) (result : Result T E) → ((error : E) → P error → Q error) → IfErr result P → IfErr result Q
err_too P Q (Ok value) follows holds = holds
err_too P Q (Err error) follows holds = follows error holds

pub on_err_too : {T E P Q : Type 0} (result : Result T E) → (P → Q) → OnErr result P → OnErr result Q
on_err_too (Ok value) follows holds = holds
on_err_too (Err error) follows holds = follows holds

pub on_ok_too : {T E P Q : Type 0} (result : Result T E) → (P → Q) → OnOk result P → OnOk result Q
on_ok_too (Ok value) follows holds = follows holds
on_ok_too (Err error) follows holds = holds

-- one that holds in any case
pub ok_all : {T E : Type 0} (P : T → Type 0) (result : Result T E) → ((value : T) → P value) → IfOk result P
ok_all P (Ok value) all = all value
ok_all P (Err error) all = tt

pub on_ok_of : {T E P : Type 0} (result : Result T E) → P → OnOk result P
on_ok_of (Ok value) holds = holds
on_ok_of (Err error) holds = tt

pub on_err_of : {T E P : Type 0} (result : Result T E) → P → OnErr result P
on_err_of (Ok value) holds = tt
on_err_of (Err error) holds = holds
