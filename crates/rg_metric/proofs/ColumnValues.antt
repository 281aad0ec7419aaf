-- The value of a column is the one at the index below it.
use Rattle.std.proofs.Common.{◌≡◌, ℕ, zero, suc, ◌-◌, List, [], ◌∷◌, length, Option, Some, None, Bor, refl, sym, subst, ◌∙◌, arith}
use Rattle.std.proofs.lemmas.Option.{slice_get_past, slice_get_read}
use Rattle.std.specs.List.{slice_get}
use Rattle.std.specs.Option.{option_copied}
use Rattle.std.specs.Slice.{IsItemAt}
use Rattle.rg_event.specs.declared.value.Value.{Value}
use Rattle.rg_metric.specs.Conditions.{value_in}

pub value_in_is_get : (index : ℕ) (values : List Value) → value_in (suc index) values ≡ slice_get values index
value_in_is_get index [] = refl
value_in_is_get zero (value ∷ values) = refl
value_in_is_get (suc index) (value ∷ values) = value_in_is_get index values

pub value_in_none : (values : List Value) → value_in 0 values ≡ None
value_in_none [] = refl
value_in_none (value ∷ values) = refl

-- what is found at an index of a list
item_is : (found : Option (Bor Value)) (values : List Value) (index : ℕ) → IsItemAt values index found → option_copied found ≡ slice_get values index
item_is None values index is = sym (slice_get_past values index is.3)
item_is (Some item) values index is = sym (slice_get_read values (length values) index item.now refl is.3.0 is.1)

pub column_found : (found : Option (Bor Value)) (values : List Value) (column : ℕ) → (column ≡ 0 → ⊥) → IsItemAt values (column - 1) found → option_copied found ≡ value_in column values
column_found found values zero other is = absurd (other refl)
column_found found values (suc index) other is =
    let same : suc index - 1 ≡ index = omega arith in
    item_is found values index (subst (λ n. IsItemAt values n found) same is) ∙ sym (value_in_is_get index values)
