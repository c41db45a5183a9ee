-- Two things that hold of a fault, where there is one.
use Rattle.std.proofs.Common.{Result, Ok, Err, IfErr}

pub err_both : {T E : Type 0} (P Q R : E → Type 0) (answer : Result T E) → IfErr answer P → IfErr answer Q
    → ((e : E) → P e → Q e → R e) → IfErr answer R
err_both P Q R (Ok x) p q both = tt
err_both P Q R (Err e) p q both = both e p q
