-- Facts on pairs have at most one proof.
use Rattle.std.specs.Prelude.{ℕ, Bool, List, [], ◌∷◌}
use mathlib.Core.HLevel.{Unit-prop}
use Rattle.std.proofs.Props.{props}
use Rattle.rg_event.specs.declared.value.Kind.{Kind}
use Rattle.rg_event.specs.declared.value.Value.{Value}
use Rattle.rg_multiset.specs.Pairs.{AreOf, AreRising, IsTally}

pub AreOf-prop : (legal : Value → Type 0) → ((v : Value) → IsProp (legal v)) → (kind : Kind) (pairs : List (Value × ℕ)) → IsProp (AreOf legal kind pairs)
AreOf-prop legal prop kind [] = Unit-prop
AreOf-prop legal prop kind (pair ∷ pairs) = let first = prop pair.0 in let rest = AreOf-prop legal prop kind pairs in Prim.hlevel props

pub AreRising-prop : (below : Value → Value → Bool) (pairs : List (Value × ℕ)) → IsProp (AreRising below pairs)
AreRising-prop below [] = Unit-prop
AreRising-prop below (pair ∷ []) = Unit-prop
AreRising-prop below (pair ∷ (next ∷ pairs)) = let rest = AreRising-prop below (next ∷ pairs) in Prim.hlevel props

pub IsTally-prop : (legal : Value → Type 0) → ((v : Value) → IsProp (legal v)) → (below : Value → Value → Bool) (pairs : List (Value × ℕ)) → IsProp (IsTally legal below pairs)
IsTally-prop legal prop below pairs = let alike = AreOf-prop legal prop in let rising = AreRising-prop below pairs in Prim.hlevel props
