-- What is said of a result, by what it is.
use Rattle.std.proofs.Common.{Result, Ok, Err, IfOk, OnErr}

pub on_err : {T E : Type 0} (result : Result T E) (P : Type 0) → P → OnErr result P
on_err (Ok x) P p = tt
on_err (Err e) P p = p

pub if_ok_of : {T E : Type 0} (result : Result T E) (P Q : T → Type 0) → IfOk result P → ((x : T) → P x → Q x) → IfOk result Q
if_ok_of (Ok x) P Q has of = of x has
if_ok_of (Err e) P Q has of = tt
