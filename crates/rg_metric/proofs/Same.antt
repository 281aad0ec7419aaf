-- What the tests of values and keys say.
use Rattle.std.proofs.Common.{◌≡◌, true, false, Bool, List, [], ◌∷◌, refl, ap, ◌∙◌, subst}
use Rattle.std.specs.Bool.{Decides}
use Rattle.std.proofs.lemmas.Bool.{and_parts, and_from}
use Rattle.std.proofs.lemmas.Bool.Decides.{Decides-eqb, Decides-int_eq}
use Rattle.std.proofs.lemmas.Slice.Eq.{bytes_eq-Decides}
use Rattle.rg_event.specs.declared.value.Value.{Value}
use Rattle.rg_event.specs.declared.value.Value.TheVariants.{Int, Id, Text, Flag}
use Rattle.rg_metric.specs.Same.{same_flag, same_value, same_values}

same_flag-true : (x y : Bool) → same_flag x y ≡ true → x ≡ y
same_flag-true true true e = refl
same_flag-true true false e = cc
same_flag-true false true e = cc
same_flag-true false false e = refl

-- two values that pass the test are the same
pub same_value-true : (x y : Value) → same_value x y ≡ true → x ≡ y
same_value-true (Int x) (Int y) e = ap Int ((Decides-int_eq x y).0 e)
same_value-true (Id x) (Id y) e = ap Id ((Decides-eqb x y).0 e)
same_value-true (Text x) (Text y) e = ap Text ((bytes_eq-Decides x y).0 e)
same_value-true (Flag x) (Flag y) e = ap Flag (same_flag-true x y e)
same_value-true x y e = cc

same_flag-same : (x : Bool) → same_flag x x ≡ true
same_flag-same true = refl
same_flag-same false = refl

-- a value passes the test with itself
pub same_value-same : (x : Value) → same_value x x ≡ true
same_value-same (Int x) = (Decides-int_eq x x).1 refl
same_value-same (Id x) = (Decides-eqb x x).1 refl
same_value-same (Text x) = (bytes_eq-Decides x x).1 refl
same_value-same (Flag x) = same_flag-same x

same_values-true : (xs ys : List Value) → same_values xs ys ≡ true → xs ≡ ys
same_values-true [] [] e = refl
same_values-true [] (y ∷ ys) e = cc
same_values-true (x ∷ xs) [] e = cc
same_values-true (x ∷ xs) (y ∷ ys) e =
    let parts = and_parts (same_value x y) (same_values xs ys) e in
    ap (λ v. v ∷ xs) (same_value-true x y parts.0) ∙ ap (λ vs. y ∷ vs) (same_values-true xs ys parts.1)

same_values-same : (xs : List Value) → same_values xs xs ≡ true
same_values-same [] = refl
same_values-same (x ∷ xs) = and_from (same_value x x) (same_values xs xs) (same_value-same x) (same_values-same xs)

-- the test of lists of values says exactly whether they are equal
pub same_values_decides : (xs ys : List Value) → Decides (same_values xs ys) (xs ≡ ys)
same_values_decides xs ys = (same_values-true xs ys, λ e. subst (λ zs. same_values xs zs ≡ true) e (same_values-same xs))
