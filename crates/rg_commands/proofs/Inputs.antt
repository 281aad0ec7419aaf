-- What is known of a source that tells its bytes, and of every result.
use Rattle.std.proofs.Common.{◌≡◌, List, ◌++◌, Option, Some, None, Result, Ok, Err, ap, sym, ◌∙◌, subst, ℕ}
use Rattle.std.specs.Prelude.{OnOk, IfErr, IfSome}
use Rattle.std.proofs.lemmas.List.{append-nil}
use Rattle.rg_bytes.specs.Known.{before, IsAtEnd}

-- what holds of all that a source told
pub told_all : (P : List ℕ → Type 0) (left now : Option (List ℕ)) (all : List ℕ) → left ≡ before all now → IsAtEnd now → P all → IfSome left P
told_all P left (Some told) all took end h = subst (λ v. IfSome v P) (sym (took ∙ ap (λ v. Some (all ++ v)) end ∙ ap (λ v. Some v) (append-nil all))) h
told_all P left None all took end h = subst (λ v. IfSome v P) (sym took) tt

-- what follows for an error from two facts
pub on_errs : {T E : Type 0} (result : Result T E) (P Q R : E → Type 0) → ((error : E) → P error → Q error → R error) → IfErr result P → IfErr result Q → IfErr result R
on_errs (Ok value) P Q R f p q = tt
on_errs (Err error) P Q R f p q = f error p q

pub any_err : {T E : Type 0} (result : Result T E) (P : E → Type 0) → ((error : E) → P error) → IfErr result P
any_err (Ok value) P f = tt
any_err (Err error) P f = f error

-- what follows for every error, and for no error
pub on_err : {T E : Type 0} (result : Result T E) (P Q : E → Type 0) → ((error : E) → P error → Q error) → IfErr result P → IfErr result Q
on_err (Ok value) P Q f p = tt
on_err (Err error) P Q f p = f error p

pub on_ok : {T E : Type 0} (result : Result T E) (P Q : Type 0) → (P → Q) → OnOk result P → OnOk result Q
on_ok (Ok value) P Q f p = f p
on_ok (Err error) P Q f p = tt
