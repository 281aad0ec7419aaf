-- The order of values of each kind.
use Rattle.std.specs.Prelude.{◌≡◌, ℕ, Bool, true, false, List, ◌++◌, Ok, refl}
use Rattle.std.proofs.Common.{ap}
use Rattle.std.specs.Ordering.{is_eq, is_lt}
use mathlib.Core.Bool.{beq}
use Rattle.rg_agg.specs.Held.{as_part}
use Rattle.rg_event.proofs.Laws.{tagged_reads_back}
use Rattle.rg_event.specs.Order.{value_cmp}
use Rattle.rg_event.specs.OrderLaws.{ties_of, by_bytes}
use Rattle.rg_event.specs.Tagged.{value_kind, IsLegal, tagged_bytes}
use Rattle.rg_event.specs.declared.value.Value.{Value}
use Rattle.rg_metric.specs.Same.{same_flag, same_value}
use Rattle.rg_multiset.specs.Reading.{is_before, any_value_at}

same_flags : (x y : Bool) → same_flag x y ≡ beq x y
same_flags true true = refl
same_flags true false = refl
same_flags false true = refl
same_flags false false = refl

pub value_tells : (first second : Value) → same_value first second ≡ is_eq (value_cmp first second)
value_tells =
    ties_of same_value (λ _ _. refl) (λ _ _. refl) (λ _ _. refl) same_flags (λ _ _. refl) (λ _ _. refl) (λ _ _. refl) (λ _ _. refl) (λ _ _. refl) (λ _ _. refl) (λ _ _. refl) (λ _ _. refl) (λ _ _. refl) (λ _ _. refl) (λ _ _. refl) (λ _ _. refl)

pub value_orders : (first second : Value) → IsLegal first → IsLegal second → value_kind first ≡ value_kind second → is_before first second ≡ is_lt (value_cmp first second)
value_orders first second one two kind = ap is_lt (by_bytes first second one two kind)

pub value_reads_back : (value : Value) (rest : List ℕ) → IsLegal value → any_value_at (tagged_bytes value ++ rest) ≡ Ok (value, rest)
value_reads_back value rest is = ap as_part (tagged_reads_back value rest is)
