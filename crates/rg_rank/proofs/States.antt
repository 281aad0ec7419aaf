-- What a state of ranks stands for.
use Rattle.std.proofs.Common.{◌≡◌, ℕ, ◌+◌, ◌*◌, ◌/◌, ◌<◌, ◌≤◌, ◌^◌, Bool, true, false, List, [], ◌∷◌, ◌++◌, Some, Ok, Err, refl, ap, sym, ◌∙◌, subst, arith}
use Rattle.std.specs.List.{All}
use Rattle.std.proofs.lemmas.List.Elements.{All-head, All-tail}
use Rattle.std.specs.Prelude.{Result, OnOk, OnErr}
use Rattle.std.proofs.Math.Nat.{mul-le-mul_left}
use Rattle.rg_agg.specs.Held.{is_like}
use Rattle.rg_agg.specs.Numbers.{value_of}
use Rattle.rg_agg.specs.Standing.{AreCounts, AreThere, IsLike, count_in, counts_sum, pairs_kind, places}
use Rattle.rg_agg.specs.Stands.{IsNumber}
use Rattle.rg_agg.specs.Unbeaten.{is_less}
use Rattle.rg_agg.specs.declared.number.Number.{Number}
use Rattle.rg_agg.specs.declared.number.Number.TheVariants.{Int, Id}
use Rattle.rg_bytes.specs.declared.memory.Memory.{Memory}
use Rattle.rg_event.specs.Tagged.{value_kind}
use Rattle.rg_event.specs.declared.value.Kind.{Kind}
use Rattle.rg_event.specs.declared.value.Value.{Value}
use Rattle.rg_metric.specs.Same.{same_value}
use Rattle.rg_metric.proofs.Laws.{same_value-same, same_value-true}
use Rattle.rg_multiset.specs.Pairs.{AreAlike, AreOf, IsTally, OneMore, once}
use Rattle.rg_multiset.proofs.Laws.{counts_more, none_first, places_first}
use Rattle.rg_rank.specs.Ranking.{is_there, with_one, without_one}
use Rattle.rg_rank.specs.Trees.{IsAmong}
use Rattle.rg_rank.proofs.Tallies.{absent_counts, one_less, one_more, ranking_of, tally_less, tally_more}

-- the kind of any of the pairs is that of the first one

kind_middle : (kind : Kind) (l : List (Value × ℕ)) (v : Value) (n : ℕ) (r : List (Value × ℕ)) → AreOf IsNumber kind (l ++ (v, n) ∷ r) → value_kind v ≡ kind
kind_middle kind [] v n r are = are.1
kind_middle kind (p ∷ l) v n r are = kind_middle kind l v n r are.3

kind_front : (l : List (Value × ℕ)) (v : Value) (n : ℕ) (r : List (Value × ℕ)) → AreAlike IsNumber (l ++ (v, n) ∷ r) → Some (value_kind v) ≡ pairs_kind (l ++ (v, n) ∷ r)
kind_front [] v n r alike = refl
kind_front (p ∷ l) v n r alike = ap (λ kind. Some kind) (kind_middle (value_kind p.0) (p ∷ l) v n r (alike (value_kind p.0) refl))

pub kind_of_some : (v : Value) (pairs : List (Value × ℕ)) → AreAlike IsNumber pairs → IsAmong v pairs → Some (value_kind v) ≡ pairs_kind pairs
kind_of_some v pairs alike among = kind_front among.front v among.count among.back (subst (AreAlike IsNumber) among.is alike) ∙ ap pairs_kind (sym among.is)

-- each of the pairs is counted

some_counted : (l : List (Value × ℕ)) (v : Value) (n : ℕ) (r : List (Value × ℕ)) → AreThere (l ++ (v, n) ∷ r) → 0 < count_in v (l ++ (v, n) ∷ r)
some_counted [] v n r there = rw (same_value-same v) there.0
some_counted (p ∷ l) v n r there = by (same_value v p.0) refl (some_counted l v n r there.1)
  where
    by : (b : Bool) → same_value v p.0 ≡ b → 0 < count_in v (l ++ (v, n) ∷ r) → 0 < count_in v (p ∷ (l ++ (v, n) ∷ r))
    by true at rest = rw at there.0
    by false at rest = rw at rest

-- what holds of each value of a list holds of one that has a place in it
place_holds : (P : Value → Type 0) (v : Value) (values : List Value) → All P values → 0 < places v values → P v
place_holds P v [] all some = absurd (omega (arith, some))
place_holds P v (w ∷ ws) all some = by (same_value v w) refl (place_holds P v ws (All-tail P w ws all))
  where
    by : (b : Bool) → same_value v w ≡ b → (0 < places v ws → P v) → P v
    by true same rest = subst P (sym (same_value-true v w same)) (All-head P w ws all)
    by false same rest =
        let no : once v w ≡ 0 = rw same refl in
        rest (omega (arith, some, no, places_first v w ws))

pub like_of_some : (v : Value) (pairs : List (Value × ℕ)) (values : List Value) (value : Value) → IsAmong v pairs → AreCounts pairs values → All (λ w. value_kind w ≡ value_kind value) values → value_kind value ≡ value_kind v
like_of_some v pairs values value among counts all =
    let there = subst AreThere among.is counts.2 in
    let some : 0 < count_in v pairs = subst (λ ps. 0 < count_in v ps) (sym among.is) (some_counted among.front v among.count among.back there) in
    sym (place_holds (λ w. value_kind w ≡ value_kind value) v values all (omega (arith, some, counts.1 v)))

-- what a kind is by two numbers

pub kinds_like : (a b : Number) → is_like (value_of a) (value_of b) ≡ true → value_kind (value_of a) ≡ value_kind (value_of b)
kinds_like (Int a) (Int b) is = refl
kinds_like (Int a) (Id b) is = cc
kinds_like (Id a) (Int b) is = cc
kinds_like (Id a) (Id b) is = refl

pub kinds_other : (a b : Number) → is_like (value_of a) (value_of b) ≡ false → value_kind (value_of a) ≡ value_kind (value_of b) → ⊥
kinds_other (Int a) (Int b) is same = cc
kinds_other (Int a) (Id b) is same = cc
kinds_other (Id a) (Int b) is same = cc
kinds_other (Id a) (Id b) is same = cc

-- one more

pub sound_after : (v : Value) (pairs new : List (Value × ℕ)) (result : Result (Unit {0}) Memory) → IsNumber v → IsLike (pairs_kind pairs) v → counts_sum pairs < 2 ^ 40 → IsTally IsNumber is_less pairs → OnOk result (new ≡ with_one v pairs) → OnErr result (new ≡ pairs) → IsTally IsNumber is_less new
sound_after v pairs new (Ok x) is like room tally ok err = subst (IsTally IsNumber is_less) (sym ok) (tally_more v pairs is like room tally)
sound_after v pairs new (Err e) is like room tally ok err = subst (IsTally IsNumber is_less) (sym err) tally

pub counts_after : (v : Value) (pairs new : List (Value × ℕ)) (values : List Value) → IsNumber v → IsLike (pairs_kind pairs) v → counts_sum pairs < 2 ^ 40 → IsTally IsNumber is_less pairs → new ≡ with_one v pairs → AreCounts pairs values → AreCounts new (values ++ v ∷ [])
counts_after v pairs new values is like room tally put counts =
    subst (λ ps. AreCounts ps (values ++ v ∷ [])) (sym put) (counts_more IsNumber is_less v pairs (with_one v pairs) values (one_more v pairs is like tally) (tally_more v pairs is like room tally) counts)

-- one fewer

pub record IsRemoved (v : Value) (old new : List (Value × ℕ)) : Type 0 where
  pub one : OneMore v new old
  pub sound : IsTally IsNumber is_less new

pub removed : (v : Value) (old new : List (Value × ℕ)) (was : Bool) → IsNumber v → IsLike (pairs_kind old) v → IsTally IsNumber is_less old → was ≡ is_there v old → new ≡ without_one v old → was ≡ true → IsRemoved v old new
removed v old new was is like tally there gone true_was = record {
  one = subst (λ ps. OneMore v ps old) (sym gone) (one_less v old is like tally (sym there ∙ true_was));
  sound = subst (IsTally IsNumber is_less) (sym gone) (tally_less v old tally);
}

pub not_there : (v : Value) (old : List (Value × ℕ)) (was : Bool) (values : List Value) → IsTally IsNumber is_less old → was ≡ is_there v old → was ≡ false → AreCounts old (v ∷ values) → ⊥
not_there v old was values tally there false_was counts = none_first v old values (absent_counts v old (ranking_of old tally).rise (sym there ∙ false_was)) counts

-- a place behind at least one hundredth is not the one before the first
pub some_place : (percent n : ℕ) → 0 < percent → 0 < n → 0 < (percent * n + 99) / 100
some_place percent n some any = let least : 1 ≤ n = omega (arith, any) in omega (arith, some, mul-le-mul_left percent least)
