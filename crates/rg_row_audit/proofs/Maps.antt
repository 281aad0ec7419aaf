-- What a map has at other keys than one, and what is put there.
use Rattle.std.proofs.Common.{◌≡◌, ◌∙◌, ℕ, Bool, true, false, List, [], ◌∷◌, ◌++◌, Option, Some, None, refl, sym, subst, arith, length-append}
use Rattle.std.specs.Prelude.{bytes_eq}
use Rattle.std.specs.BTreeMap.{is_at}
use Rattle.std.specs.Cmp.Lexicographic.{slice_cmp, bytes_decides}
use Rattle.std.specs.Ordering.{nat_cmp}
use Rattle.std.proofs.lemmas.Map.Text.{is_eq-slice_cmp}
use Rattle.rg_event.specs.declared.value.Value.{Value}
use Rattle.rg_keywords.specs.declared.func.Func.{Func}
use Rattle.rg_row_audit.specs.Gathering.{Holds, IsGathered}
use Rattle.rg_row_audit.specs.declared.gathered.Gathered.{Gathered}

pub not_at : (key other : List ℕ) → (other ≡ key → ⊥) → is_at (slice_cmp nat_cmp key) other ≡ false
not_at key other isnt = is_eq-slice_cmp key other ∙ by (bytes_eq key other) refl
  where
    by : (b : Bool) → bytes_eq key other ≡ b → bytes_eq key other ≡ false
    by true same = absurd (isnt (sym ((bytes_decides key other).0 same)))
    by false is = is

module _ (func : Func) (values : List Value) where
  -- one value more
  pub put_at : (o : Option Gathered) (g : Gathered) (v : Value) → o ≡ Some g → Holds func g (values ++ v ∷ []) → IsGathered func o (values ++ v ∷ [])
  put_at o g v is holds = subst (λ p. IsGathered func p (values ++ v ∷ [])) (sym is) (omega (arith, length-append values (v ∷ [])), holds)

  -- what was gathered
  pub held_some : (o : Option Gathered) (g : Gathered) → o ≡ Some g → IsGathered func o values → Holds func g values
  held_some o g is gathered = let both : IsGathered func (Some g) values = subst (λ p. IsGathered func p values) is gathered in both.1

  pub held_none : (o : Option Gathered) (g : Gathered) → o ≡ None → IsGathered func o values → Holds func g [] → Holds func g values
  held_none o g is gathered holds = let none : values ≡ [] = subst (λ p. IsGathered func p values) is gathered in subst (Holds func g) (sym none) holds
