-- What holds at the end of a call, of what a loan has then.
use Rattle.std.proofs.Common.{◌≡◌, sym, subst}

pub back : {A : Type 0} (P : A → Type 0) (a then : A) → then ≡ a → P a → P then
back P a then is here = subst P (sym is) here
