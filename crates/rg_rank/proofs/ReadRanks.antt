-- What is read of ranks.
use Rattle.std.proofs.Common.{◌≡◌, ℕ, ◌<◌, true, List, [], ◌∷◌, ◌++◌, length, Some, Ok, Err, refl, arith, subst, sym}
use Rattle.std.specs.Prelude.{Result, OnOk, OnErr}
use Rattle.rg_agg.specs.Held.{is_like}
use Rattle.rg_agg.specs.Numbers.{value_of}
use Rattle.rg_agg.specs.Stands.{IsNumber}
use Rattle.rg_agg.specs.Unbeaten.{is_less}
use Rattle.rg_agg.specs.declared.number.Number.{Number}
use Rattle.rg_agg.specs.declared.number.Number.TheVariants.{Int, Id}
use Rattle.rg_bytes.specs.declared.memory.Memory.{Memory}
use Rattle.rg_event.specs.declared.value.Value.{Value}
use Rattle.rg_multiset.specs.Pairs.{IsTally}
use Rattle.rg_multiset.specs.Reading.{comes_behind, is_count, last_kept, same_kind}
use Rattle.rg_multiset.proofs.Laws.{last_append, tally_pushed}

pub like_tags : (a b : Number) → is_like (value_of a) (value_of b) ≡ same_kind (value_of a) (value_of b)
like_tags (Int a) (Int b) = refl
like_tags (Int a) (Id b) = refl
like_tags (Id a) (Int b) = refl
like_tags (Id a) (Id b) = refl

-- the last one of all is that of the right side, or the root where there is none

pub last_right : (l : List (Value × ℕ)) (p : Value × ℕ) (r : List (Value × ℕ)) → 0 < length r → last_kept (l ++ p ∷ r) ≡ last_kept r
last_right [] p [] some = absurd (omega (arith, some))
last_right [] p (q ∷ r) some = refl
last_right (x ∷ []) p r some = last_right [] p r some
last_right (x ∷ (y ∷ l)) p r some = last_right (y ∷ l) p r some

pub last_root : (l : List (Value × ℕ)) (p : Value × ℕ) (r : List (Value × ℕ)) → length r ≡ 0 → last_kept (l ++ p ∷ r) ≡ Some p.0
last_root l p [] none = last_append l p
last_root l p (q ∷ r) none = absurd (omega (arith, none))

-- one pair more at the back
pub pushed_sound : (old new : List (Value × ℕ)) (pair : Value × ℕ) (result : Result (Unit {0}) Memory) → IsTally IsNumber is_less old → IsNumber pair.0 → comes_behind is_less (last_kept old) pair.0 ≡ true → is_count 1099511627776 old pair.1 ≡ true → OnOk result (new ≡ old ++ pair ∷ []) → OnErr result (new ≡ old)
    → IsTally IsNumber is_less new
pushed_sound old new pair (Ok x) tally is behind count ok err = tally_pushed IsNumber is_less 1099511627776 old new pair (omega arith) tally is behind count ok
pushed_sound old new pair (Err e) tally is behind count ok err = subst (IsTally IsNumber is_less) (sym err) tally
