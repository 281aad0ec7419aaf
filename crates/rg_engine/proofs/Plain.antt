-- Plain facts that many proofs need.
use Rattle.std.proofs.Common.{◌≡◌, ℕ, Bool, true, false, Some, None, refl, sym}
use Rattle.std.specs.Prelude.{Err, IsErrOf}
use Rattle.rg_state.specs.declared.table.TableFault.TheVariants.{BadState}

pub none_some : {A : Type 0} {x : A} → None ≡ Some x → ⊥
none_some e = cc

pub same_some : {A : Type 0} {x y : A} → Some x ≡ Some y → x ≡ y
same_some e = cc

pub is_false : (b : Bool) → (b ≡ true → ⊥) → b ≡ false
is_false true h = absurd (h refl)
is_false false h = refl

pub same_tests : (a b : Bool) → (a ≡ true → b ≡ true) → (b ≡ true → a ≡ true) → a ≡ b
same_tests true true f g = refl
same_tests true false f g = sym (f refl)
same_tests false true f g = g refl
same_tests false false f g = refl

pub same_fault : {A E : Type 0} {x y : E} → IsErrOf {T = A} (Err x) y → x ≡ y
same_fault e = cc

pub same_node : {A : Type 0} {m n : ℕ} → IsErrOf {T = A} (Err (BadState m)) (BadState n) → n ≡ m
same_node e = cc
