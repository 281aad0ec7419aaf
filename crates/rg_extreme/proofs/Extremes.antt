-- What pairs stand for, with one value more at the back and one fewer at the front, and where they stand for no list that begins with a value.
use Rattle.std.proofs.Common.{◌≡◌, ℕ, ◌+◌, ◌<◌, true, false, List, [], ◌∷◌, ◌++◌, length, refl, ap, sym, ◌∙◌, subst, arith, length-append}
use Rattle.std.specs.List.{All}
use Rattle.std.proofs.lemmas.Bool.{true≢false}
use Rattle.rg_agg.specs.Held.{is_like}
use Rattle.rg_agg.specs.Standing.{IsLike, counts_sum, pairs_kind}
use Rattle.rg_agg.specs.Stands.{IsNumber}
use Rattle.rg_agg.specs.Unbeaten.{IsExtreme, unbeaten}
use Rattle.rg_event.specs.Tagged.{value_kind}
use Rattle.rg_event.specs.declared.value.Kind.{Kind}
use Rattle.rg_event.specs.declared.value.Value.{Value}
use Rattle.rg_metric.specs.Same.{same_value}
use Rattle.rg_multiset.specs.Pairs.{AreOf}
use Rattle.rg_extreme.specs.Deques.{first_value, with_value, without_first}
use Rattle.rg_extreme.specs.Sides.{beats, weakest, some_can_beat}
use Rattle.rg_extreme.specs.declared.side.Side.{Side}
use Rattle.rg_extreme.proofs.Ranks.{ranks}
use Rattle.rg_extreme.proofs.Rows.{fewer_sum}
use Rattle.rg_extreme.proofs.Unbeaten.{AllOf, BeatsNone, kind_like, kind_of_alike, alike_of_kind, all_more, all_kept, first_holds, least_first, none_kept, or_parts, unbeaten_are, unbeaten_less, unbeaten_more, unbeaten_same, unbeaten_sum}

-- a value more at the back

more_of : (side : Side) (n : ℕ) (pairs new : List (Value × ℕ)) (values : List Value) (v : Value) (kind : Kind) → new ≡ with_value (beats side) v pairs → IsExtreme (beats side) n pairs values → AllOf kind values → AllOf kind (values ++ v ∷ []) → IsExtreme (beats side) (n + 1) new (values ++ v ∷ [])
more_of side n pairs new values v kind is stands all more = record {
  count = omega (arith, stands.count, length-append values (v ∷ []));
  kept = is ∙ (ap (with_value (beats side) v) stands.kept ∙ sym (unbeaten_more (beats side) (weakest side) (ranks side) kind values v all));
  alike = alike_of_kind kind (values ++ v ∷ []) more;
}

pub extreme_more : (side : Side) (n : ℕ) (pairs new : List (Value × ℕ)) (values : List Value) (v : Value) → IsNumber v → IsLike (pairs_kind pairs) v → new ≡ with_value (beats side) v pairs → IsExtreme (beats side) n pairs values → IsExtreme (beats side) (n + 1) new (values ++ v ∷ [])
extreme_more side n pairs new [] v is like same stands = more_of side n pairs new [] v (value_kind v) same stands tt (is, refl, tt)
extreme_more side n pairs new (w ∷ ws) v is like same stands =
    let kind = kind_of_alike (w ∷ ws) stands.alike in
    by kind.0 kind.1 pairs stands.kept like
  where
    by : (kind : Kind) → AllOf kind (w ∷ ws) → (found : List (Value × ℕ)) → found ≡ unbeaten (beats side) (w ∷ ws) → IsLike (pairs_kind found) v → IsExtreme (beats side) (n + 1) new ((w ∷ ws) ++ v ∷ [])
    by kind all [] at goes = let none : w ∷ ws ≡ [] = none_kept (beats side) (w ∷ ws) (sym at) in absurd cc
    by kind all (p ∷ ps) at goes =
        let P : List (Value × ℕ) → Type 0 = λ found. AreOf IsNumber kind found in
        let are = subst P (sym at) (unbeaten_are (beats side) kind (w ∷ ws) all) in
        more_of side n pairs new (w ∷ ws) v kind same stands all (all_more kind (w ∷ ws) v all is (goes ∙ are.1))

-- a value fewer at the front

pub extreme_less : (side : Side) (n m : ℕ) (p : Value × ℕ) (ps new : List (Value × ℕ)) (v : Value) (values : List Value) → same_value p.0 v ≡ true → n ≡ m + 1 → new ≡ without_first (p ∷ ps) → IsExtreme (beats side) n (p ∷ ps) (v ∷ values) → IsExtreme (beats side) m new values
extreme_less side n m p ps new v values same one is stands =
    let kind = kind_of_alike (v ∷ values) stands.alike in
    record {
      count = omega (arith, stands.count);
      kept = is ∙ sym (unbeaten_less (beats side) (weakest side) (ranks side) kind.0 v values p ps kind.1.2 (sym stands.kept) same);
      alike = alike_of_kind kind.0 values kind.1.2;
    }

pub extreme_same : (side : Side) (n m : ℕ) (p : Value × ℕ) (ps new : List (Value × ℕ)) (v : Value) (values : List Value) → same_value p.0 v ≡ false → n ≡ m + 1 → new ≡ p ∷ ps → IsExtreme (beats side) n (p ∷ ps) (v ∷ values) → IsExtreme (beats side) m new values
extreme_same side n m p ps new v values other one is stands =
    let kind = kind_of_alike (v ∷ values) stands.alike in
    record {
      count = omega (arith, stands.count);
      kept = is ∙ sym (unbeaten_same (beats side) v values p ps (sym stands.kept) other);
      alike = alike_of_kind kind.0 values kind.1.2;
    }

-- where there is no list that begins with a value

pub no_number : (side : Side) (n : ℕ) (pairs : List (Value × ℕ)) (v : Value) (values : List Value) → IsExtreme (beats side) n pairs (v ∷ values) → IsNumber v
no_number side n pairs v values stands = (kind_of_alike (v ∷ values) stands.alike).1.0

pub no_pairs : (side : Side) (n : ℕ) (pairs : List (Value × ℕ)) (v : Value) (values : List Value) → pairs ≡ [] → IsExtreme (beats side) n pairs (v ∷ values) → ⊥
no_pairs side n pairs v values none stands = let is : v ∷ values ≡ [] = none_kept (beats side) (v ∷ values) (sym stands.kept ∙ none) in cc

pub other_kind : (side : Side) (n : ℕ) (p : Value × ℕ) (ps : List (Value × ℕ)) (v : Value) (values : List Value) → is_like p.0 v ≡ false → IsExtreme (beats side) n (p ∷ ps) (v ∷ values) → ⊥
other_kind side n p ps v values other stands =
    let kind = kind_of_alike (v ∷ values) stands.alike in
    let P : List (Value × ℕ) → Type 0 = λ pairs. AreOf IsNumber kind.0 pairs in
    let are = subst P (sym stands.kept) (unbeaten_are (beats side) kind.0 (v ∷ values) kind.1) in
    absurd (true≢false (sym (kind_like p.0 v kind.1.0 (kind.1.1 ∙ sym are.1)) ∙ other))

-- a value that beats the extreme
pub beyond : (side : Side) (n : ℕ) (p : Value × ℕ) (ps : List (Value × ℕ)) (v : Value) (values : List Value) → same_value p.0 v ≡ false → beats side p.0 v ≡ false → IsExtreme (beats side) n (p ∷ ps) (v ∷ values) → ⊥
beyond side n p ps v values other not stands =
    let kind = kind_of_alike (v ∷ values) stands.alike in
    let P : List (Value × ℕ) → Type 0 = λ pairs. AreOf IsNumber kind.0 pairs in
    let are = subst P (sym stands.kept) (unbeaten_are (beats side) kind.0 (v ∷ values) kind.1) in
    let none = least_first (beats side) (weakest side) (ranks side) (v ∷ values) p ps (sym stands.kept) in
    let rises = (ranks side).rises p.0 v are.0 kind.1.0 (are.1 ∙ sym kind.1.1) other (or_parts _ _ none).0 in
    absurd (true≢false (sym rises ∙ not))

-- a beaten value where all values are in the pairs
pub no_room : (side : Side) (n : ℕ) (p : Value × ℕ) (ps : List (Value × ℕ)) (v : Value) (values : List Value) → same_value p.0 v ≡ false → counts_sum (p ∷ ps) ≡ n → IsExtreme (beats side) n (p ∷ ps) (v ∷ values) → ⊥
no_room side n p ps v values other full stands =
    let same : unbeaten (beats side) values ≡ p ∷ ps = unbeaten_same (beats side) v values p ps (sym stands.kept) other in
    absurd (omega (arith, full, stands.count, ap counts_sum same, unbeaten_sum (beats side) values))

-- more values than the pairs have, and none left that could beat them
pub none_beats : (side : Side) (n : ℕ) (p : Value × ℕ) (ps : List (Value × ℕ)) (v : Value) (values : List Value) → same_value p.0 v ≡ true → 0 < p.1 → counts_sum (p ∷ ps) < n → some_can_beat side (first_value (without_first (p ∷ ps))) ≡ false → IsExtreme (beats side) n (p ∷ ps) (v ∷ values) → ⊥
none_beats side n p ps v values same some more not stands =
    let kind = kind_of_alike (v ∷ values) stands.alike in
    by kind.0 kind.1.2 (without_first (p ∷ ps)) (unbeaten_less (beats side) (weakest side) (ranks side) kind.0 v values p ps kind.1.2 (sym stands.kept) same) not (fewer_sum p ps some)
  where
    by : (kind : Kind) → AllOf kind values → (found : List (Value × ℕ)) → unbeaten (beats side) values ≡ found → some_can_beat side (first_value found) ≡ false → counts_sum found + 1 ≡ counts_sum (p ∷ ps) → ⊥
    by kind all [] at over sum =
        let none : values ≡ [] = none_kept (beats side) values at in
        absurd (omega (arith, more, stands.count, ap length none, sum))
    by kind all (q ∷ qs) at over sum =
        let P : List (Value × ℕ) → Type 0 = λ pairs. AreOf IsNumber kind pairs in
        let are = subst P at (unbeaten_are (beats side) kind values all) in
        let none : BeatsNone (beats side) kind q.0 = λ other is like. (ranks side).apart q.0 (weakest side q.0) other over ((ranks side).last q.0 other is (are.1 ∙ sym like)) in
        let whole = all_kept (beats side) (weakest side) (ranks side) kind values q qs all at none in
        absurd (omega (arith, more, stands.count, ap counts_sum at, whole, sum))

-- the kind of all values is that of the first pair
pub extreme_like : (side : Side) (n : ℕ) (pairs : List (Value × ℕ)) (values : List Value) (value : Value) → IsExtreme (beats side) n pairs values → All (λ v. value_kind v ≡ value_kind value) values → IsLike (pairs_kind pairs) value
extreme_like side n [] values value stands all = tt
extreme_like side n (p ∷ ps) values value stands all = sym (first_holds (λ v. value_kind v ≡ value_kind value) (beats side) values p ps all (sym stands.kept))
