-- What holds of a host and a reservoir that were lent holds of them afterwards.
use Rattle.std.proofs.Common.{◌≡◌, sym, subst}

pub moved : {A B : Type 0} (P : A → B → Type 0) (a then : A) (b after : B) → then ≡ a → after ≡ b → P a b → P then after
moved P a then b after first second here = subst (λ x. P x after) (sym first) (subst (λ y. P a y) (sym second) here)
