-- A state of values that are all of one kind is one of that kind.
use Rattle.std.proofs.Common.{◌≡◌, ◌⊎◌, inl, inr, ℕ, ◌+◌, ◌<◌, Bool, true, false, List, [], ◌∷◌, length, if◌then◌else◌, Option, Some, None, refl, ap, sym, ◌∙◌, subst, arith}
use Rattle.std.specs.List.{All, list_any}
use Rattle.std.proofs.lemmas.List.Elements.{All-nil, All-cons, All-head, All-tail, All-weaker}
use Rattle.rg_event.specs.declared.value.Kind.{Kind}
use Rattle.rg_event.specs.declared.value.Kind.TheVariants as kinds
use Rattle.rg_event.specs.declared.value.Value.{Value}
use Rattle.rg_event.specs.declared.value.Value.TheVariants.{Int, Id, Text, Flag}
use Rattle.rg_keywords.specs.declared.func.Func.{Func}
use Rattle.rg_keywords.specs.declared.func.Func.TheVariants.{Count}
use Rattle.rg_agg.specs.Held.{Held, counted, summed, averaged, squared, queued, ended, lowest, highest, varied, ranked}
use Rattle.rg_agg.specs.Sharing.{kept_as}
use Rattle.rg_agg.specs.Standing.{func_of, AreThere, Stands, count_in, places}
use Rattle.rg_agg.specs.Stands.{AreInts, last_behind, last_value}
use Rattle.rg_agg.specs.Unbeaten.{is_less, is_greater, joined_to, unbeaten}
use Rattle.rg_metric.specs.Same.{same_value}
use Rattle.rg_metric.proofs.Laws.{same_value-true, same_value-same}
use Rattle.rg_multiset.specs.Pairs.{once}
use Rattle.rg_multiset.proofs.Laws.{places_first}
use Rattle.rg_state.specs.Rows.{RowStands}
use Rattle.rg_state.specs.States.{HasKind, IsOfKind, IsFor}

ints_kind : (kind : Option Kind) (values : List Value) → AreInts values → 0 < length values → All (HasKind kind) values → kind ≡ Some kinds.Int
ints_kind kind [] ints some all = absurd (omega (arith, some))
ints_kind kind (Int number ∷ values) ints some all = sym (All-head (HasKind kind) (Int number) values all)
ints_kind kind (Id number ∷ values) ints some all = absurd ints.0
ints_kind kind (Text text ∷ values) ints some all = absurd ints.0
ints_kind kind (Flag flag ∷ values) ints some all = absurd ints.0

last_kind : (kind : Option Kind) (first : Value) (values : List Value) → HasKind kind first → All (HasKind kind) values → HasKind kind (last_behind first values)
last_kind kind first [] is all = is
last_kind kind first (value ∷ values) is all = last_kind kind value values (All-head (HasKind kind) value values all) (All-tail (HasKind kind) value values all)

end_kind : (kind : Option Kind) (n : ℕ) (last : Option Value) (values : List Value) → last ≡ last_value values → All (HasKind kind) values → IsOfKind kind (ended n last)
end_kind kind n None values is all = tt
end_kind kind n (Some value) [] is all = absurd (cc)
end_kind kind n (Some value) (first ∷ values) is all =
    let same : value ≡ last_behind first values = cc in
    subst (HasKind kind) (sym same) (last_kind kind first values (All-head (HasKind kind) first values all) (All-tail (HasKind kind) first values all))

module _ (kind : Option Kind) where
  abbrev OfKind : Value × ℕ → Type 0
  OfKind pair = HasKind kind pair.0

  joined_kind : (value : Value) (pairs : List (Value × ℕ)) → HasKind kind value → All OfKind pairs → All OfKind (joined_to value pairs)
  joined_kind value [] is all = All-cons OfKind (value, 1) [] is (All-nil OfKind)
  joined_kind value (pair ∷ pairs) is all = by (same_value value pair.0)
    where
      by : (same : Bool) → All OfKind (if same then (pair.0, pair.1 + 1) ∷ pairs else (value, 1) ∷ (pair ∷ pairs))
      by true = All-cons OfKind (pair.0, pair.1 + 1) pairs (All-head OfKind pair pairs all) (All-tail OfKind pair pairs all)
      by false = All-cons OfKind (value, 1) (pair ∷ pairs) is all

  unbeaten_kind : (beats : Value → Value → Bool) (values : List Value) → All (HasKind kind) values → All OfKind (unbeaten beats values)
  unbeaten_kind beats [] all = All-nil OfKind
  unbeaten_kind beats (value ∷ values) all =
      by (list_any (λ later. beats later value) values) (unbeaten_kind beats values (All-tail (HasKind kind) value values all))
    where
      by : (beaten : Bool) → All OfKind (unbeaten beats values) → All OfKind (if beaten then unbeaten beats values else joined_to value (unbeaten beats values))
      by true rest = rest
      by false rest = joined_kind value (unbeaten beats values) (All-head (HasKind kind) value values all) rest

  placed_kind : (v : Value) (values : List Value) → All (HasKind kind) values → 0 < places v values → HasKind kind v
  placed_kind v [] all some = absurd (omega (arith, some))
  placed_kind v (w ∷ ws) all some = by (same_value v w) refl (λ h. placed_kind v ws (All-tail (HasKind kind) w ws all) h)
    where
      by : (b : Bool) → same_value v w ≡ b → (0 < places v ws → HasKind kind v) → HasKind kind v
      by true same rest = subst (HasKind kind) (sym (same_value-true v w same)) (All-head (HasKind kind) w ws all)
      by false same rest =
          let no : once v w ≡ 0 = rw same refl in
          rest (omega (arith, some, no, places_first v w ws))

-- each of these is counted
abbrev IsCounted : List (Value × ℕ) → Value × ℕ → Type 0
IsCounted pairs pair = 0 < count_in pair.0 pairs

still_counted : (pair other : Value × ℕ) (pairs : List (Value × ℕ)) → 0 < pair.1 → IsCounted pairs other → IsCounted (pair ∷ pairs) other
still_counted pair other pairs some is = by (same_value other.0 pair.0)
  where
    by : (same : Bool) → 0 < (if same then pair.1 else count_in other.0 pairs)
    by true = some
    by false = is

all_counted : (pairs : List (Value × ℕ)) → AreThere pairs → All (IsCounted pairs) pairs
all_counted [] there = All-nil (IsCounted [])
all_counted (pair ∷ pairs) there =
    All-cons (IsCounted (pair ∷ pairs)) pair pairs (rw (same_value-same pair.0) there.0)
    (All-weaker (IsCounted pairs) (IsCounted (pair ∷ pairs)) (λ other is. still_counted pair other pairs there.0 is) pairs (all_counted pairs there.1))

varied_kind : (kind : Option Kind) (pairs : List (Value × ℕ)) (values : List Value) → ((value : Value) → count_in value pairs ≡ places value values) → AreThere pairs
    → All (HasKind kind) values → All (λ pair. HasKind kind pair.0) pairs
varied_kind kind pairs values counts there all =
    All-weaker (IsCounted pairs) (λ (pair : Value × ℕ). HasKind kind pair.0)
    (λ pair is. placed_kind kind pair.0 values all (subst (λ n. 0 < n) (counts pair.0) is)) pairs (all_counted pairs there)

of_kind : (kind : Option Kind) (held : Held) (values : List Value) → (func_of held ≡ func_of held) × Stands held values × (0 < length values) → All (HasKind kind) values → IsOfKind kind held
of_kind kind (counted n) values stands all = tt
of_kind kind (summed n sum) values stands all = ints_kind kind values stands.1.ints stands.2 all
of_kind kind (averaged n sum) values stands all = ints_kind kind values stands.1.ints stands.2 all
of_kind kind (squared n sum) values stands all = ints_kind kind values stands.1.ints stands.2 all
of_kind kind (queued kept) values stands all = subst (All (HasKind kind)) (sym stands.1) all
of_kind kind (ended n last) values stands all = end_kind kind n last values stands.1.ends all
of_kind kind (lowest n pairs) values stands all = subst (All (λ (pair : Value × ℕ). HasKind kind pair.0)) (sym stands.1.kept) (unbeaten_kind kind is_less values all)
of_kind kind (highest n pairs) values stands all = subst (All (λ (pair : Value × ℕ). HasKind kind pair.0)) (sym stands.1.kept) (unbeaten_kind kind is_greater values all)
of_kind kind (varied pairs) values stands all = varied_kind kind pairs values stands.1.1 stands.1.2 all
of_kind kind (ranked pairs) values stands all = varied_kind kind pairs values stands.1.1 stands.1.2 all

count_of_any : (kind : Option Kind) (held : Held) → func_of held ≡ Count → IsOfKind kind held
count_of_any kind (counted n) is = tt
count_of_any kind held is = absurd (cc)

pub fits_kind : (func : Func) (kind : Option Kind) (held : Held) (values : List Value) → RowStands func (Some held) values → (func ≡ Count) ⊎ All (HasKind kind) values → IsFor func kind held
fits_kind func kind held values stands (inl counts) = (stands.0, count_of_any kind held (stands.0 ∙ ap kept_as counts))
fits_kind func kind held values stands (inr all) = (stands.0, of_kind kind held values (refl, stands.1, stands.2) all)
