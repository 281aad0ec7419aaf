-- All values that a state keeps are of the kind of the first one.
use Rattle.std.proofs.Common.{ℕ, ◌≡◌, List, [], ◌∷◌, true, ◌&&◌, Option, Some, refl, ap, sym, ◌∙◌}
use Rattle.std.specs.List.{All}
use Rattle.std.proofs.lemmas.Bool.{and_parts}
use Rattle.std.proofs.lemmas.List.Elements.{All-nil, All-cons, All-head}
use Rattle.rg_event.specs.Tagged.{value_kind}
use Rattle.rg_event.specs.declared.value.Kind.{Kind}
use Rattle.rg_event.specs.declared.value.Value.{Value}
use Rattle.rg_event.specs.declared.value.Value.TheVariants.{Int, Id}
use Rattle.rg_agg.specs.Held.{is_like}
use Rattle.rg_agg.specs.Standing.{first_kind, pairs_kind}
use Rattle.rg_agg.specs.Stands.{is_int_or_id, all_like, are_alike}
use Rattle.rg_multiset.specs.Pairs.{AreAlike, AreOf}
use Rattle.rg_state.specs.Kinds.{IsSame}
use Rattle.rg_state.specs.States.{HasKind}

like_kind : (first value : Value) → is_like first value ≡ true → value_kind value ≡ value_kind first
like_kind (Int first) (Int value) like = refl
like_kind (Id first) (Id value) like = refl
like_kind first value like = cc

all_kind : (kind : Option Kind) (first : Value) (values : List Value) → all_like first values ≡ true → kind ≡ Some (value_kind first) → All (HasKind kind) values
all_kind kind first [] alike is = All-nil (HasKind kind)
all_kind kind first (value ∷ values) alike is =
    let legal = and_parts (is_int_or_id value) (is_like first value && all_like first values) alike in
    let like = and_parts (is_like first value) (all_like first values) legal.1 in
    All-cons (HasKind kind) value values (ap Some (like_kind first value like.0) ∙ sym is) (all_kind kind first values like.1 is)

pub alike_same : (kind : Option Kind) (values : List Value) → are_alike values ≡ true → IsSame kind (first_kind values) → All (HasKind kind) values
alike_same kind [] alike same = All-nil (HasKind kind)
alike_same kind (value ∷ values) alike same =
    let parts = and_parts (is_int_or_id value) (all_like value values) alike in
    All-cons (HasKind kind) value values (sym same) (all_kind kind value values parts.1 same)

pub all_first : (kind : Option Kind) (values : List Value) → All (HasKind kind) values → IsSame kind (first_kind values)
all_first kind [] all = tt
all_first kind (value ∷ values) all = sym (All-head (HasKind kind) value values all)

-- the same of values with their counts

pairs_kind_is : (legal : Value → Type 0) (kind : Option Kind) (kept : Kind) (pairs : List (Value × ℕ)) → kind ≡ Some kept → AreOf legal kept pairs → All (λ pair. HasKind kind pair.0) pairs
pairs_kind_is legal kind kept [] is are = All-nil (λ (pair : Value × ℕ). HasKind kind pair.0)
pairs_kind_is legal kind kept (pair ∷ pairs) is are = All-cons (λ (pair : Value × ℕ). HasKind kind pair.0) pair pairs (ap Some are.1 ∙ sym is) (pairs_kind_is legal kind kept pairs is are.3)

pub pairs_same : (legal : Value → Type 0) (kind : Option Kind) (pairs : List (Value × ℕ)) → AreAlike legal pairs → IsSame kind (pairs_kind pairs) → All (λ pair. HasKind kind pair.0) pairs
pairs_same legal kind [] alike same = All-nil (λ (pair : Value × ℕ). HasKind kind pair.0)
pairs_same legal kind (pair ∷ pairs) alike same = pairs_kind_is legal kind (value_kind pair.0) (pair ∷ pairs) same (alike (value_kind pair.0) refl)

pub pairs_first : (kind : Option Kind) (pairs : List (Value × ℕ)) → All (λ pair. HasKind kind pair.0) pairs → IsSame kind (pairs_kind pairs)
pairs_first kind [] all = tt
pairs_first kind (pair ∷ pairs) all = sym (All-head (λ (pair : Value × ℕ). HasKind kind pair.0) pair pairs all)
