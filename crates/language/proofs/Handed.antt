-- What is returned behind a call that fails: its fault as it is, or one that is made of it.
use Rattle.std.proofs.Common.{◌≡◌, Result, Ok, Err, ap}
use Rattle.std.specs.Result.{IfErr, IsErrAnd}

-- it is the call's fault
pub err_is : {A E : Type 0} (answer : Result A E) {fault : E} → IsErrAnd answer (λ e. e ≡ fault) → answer ≡ Err fault
err_is (Ok done) is = absurd is
err_is (Err e) is = ap Err is

-- so what holds of this holds of what is returned
pub handed_on : {A E : Type 0} (P : E → Type 0) (answer : Result A E) {fault : E} → IsErrAnd answer (λ e. e ≡ fault)
    → P fault → IfErr answer P
handed_on P answer is h = rw (err_is answer is) h

-- and what holds of each fault that it may be made into, such as out of memory
pub converted_on : {A E : Type 0} {P Q : E → Type 0} (answer : Result A E) → IsErrAnd answer Q → ((e : E) → Q e → P e)
    → IfErr answer P
converted_on (Ok done) is h = absurd is
converted_on (Err e) is h = h e is
