-- What a state of ranks keeps is settled by the values that it stands for.
use Rattle.std.proofs.Common.{◌≡◌, ℕ, ◌<◌, Bool, true, false, List, [], ◌∷◌, refl, ap, sym, ◌∙◌, subst, arith}
use Rattle.std.proofs.lemmas.Bool.{true≢false}
use Rattle.rg_agg.specs.Held.{ranked}
use Rattle.rg_agg.specs.Standing.{AreCounts, AreThere, count_in}
use Rattle.rg_agg.specs.Stands.{IsNumber}
use Rattle.rg_agg.specs.Unbeaten.{is_less}
use Rattle.rg_event.specs.declared.value.Value.{Value}
use Rattle.rg_metric.specs.Same.{same_value}
use Rattle.rg_metric.proofs.Laws.{same_value-same, same_value-true}
use Rattle.rg_multiset.specs.Pairs.{IsTally}
use Rattle.rg_multiset.proofs.Laws.{other_way}
use Rattle.rg_rank.specs.Ranking.{AreAbove, Rise}
use Rattle.rg_rank.proofs.Order.{less_not_back}
use Rattle.rg_rank.proofs.Tallies.{none_above, ranking_of}

first_count : (p : Value × ℕ) (ps : List (Value × ℕ)) → count_in p.0 (p ∷ ps) ≡ p.1
first_count p ps = rw (same_value-same p.0) refl

other_count : (x : Value) (p : Value × ℕ) (ps : List (Value × ℕ)) → same_value x p.0 ≡ false → count_in x (p ∷ ps) ≡ count_in x ps
other_count x p ps other = rw other refl

-- what is counted among greater numbers is greater
above_counted : (v x : Value) (ps : List (Value × ℕ)) → AreAbove v ps → 0 < count_in x ps → is_less v x ≡ true
above_counted v x [] above some = absurd (omega (arith, some))
above_counted v x (p ∷ ps) above some = by (same_value x p.0) refl (above_counted v x ps above.1)
  where
    by : (b : Bool) → same_value x p.0 ≡ b → (0 < count_in x ps → is_less v x ≡ true) → is_less v x ≡ true
    by true same rest = subst (λ w. is_less v w ≡ true) (sym (same_value-true x p.0 same)) above.0
    by false same rest = rest (rw same at some)

same_first : (a b : Value × ℕ) (xs ys : List (Value × ℕ)) → Rise (a ∷ xs) → Rise (b ∷ ys) → 0 < a.1 → 0 < b.1 → ((x : Value) → count_in x (a ∷ xs) ≡ count_in x (b ∷ ys)) → a.0 ≡ b.0
same_first a b xs ys rises rises' some some' counts = by (same_value a.0 b.0) refl
  where
    by : (same : Bool) → same_value a.0 b.0 ≡ same → a.0 ≡ b.0
    by true same = same_value-true a.0 b.0 same
    by false same =
        let there : count_in a.0 ys ≡ a.1 = sym (other_count a.0 b ys same) ∙ (sym (counts a.0) ∙ first_count a xs) in
        let there' : count_in b.0 xs ≡ b.1 = sym (other_count b.0 a xs (other_way a.0 b.0 same)) ∙ (counts b.0 ∙ first_count b ys) in
        let one : is_less a.0 b.0 ≡ true = above_counted a.0 b.0 xs rises.0 (omega (arith, some', there')) in
        let two : is_less b.0 a.0 ≡ true = above_counted b.0 a.0 ys rises'.0 (omega (arith, some, there)) in
        absurd (true≢false (sym two ∙ less_not_back a.0 b.0 one))

same_behind : (a b : Value × ℕ) (xs ys : List (Value × ℕ)) → Rise (a ∷ xs) → Rise (b ∷ ys) → a.0 ≡ b.0 → ((x : Value) → count_in x (a ∷ xs) ≡ count_in x (b ∷ ys)) → (x : Value) → count_in x xs ≡ count_in x ys
same_behind a b xs ys rises rises' first counts x = by (same_value x a.0) refl
  where
    by : (same : Bool) → same_value x a.0 ≡ same → count_in x xs ≡ count_in x ys
    by true same =
        let here : x ≡ a.0 = same_value-true x a.0 same in
        ap (λ v. count_in v xs) here ∙ (none_above a.0 xs rises.0 ∙ (sym (none_above b.0 ys rises'.0) ∙ ap (λ v. count_in v ys) (sym (here ∙ first))))
    by false same = sym (other_count x a xs same) ∙ (counts x ∙ other_count x b ys (subst (λ v. same_value x v ≡ false) first same))

-- rising numbers that count alike are one list
one_list : (xs ys : List (Value × ℕ)) → Rise xs → Rise ys → AreThere xs → AreThere ys → ((x : Value) → count_in x xs ≡ count_in x ys) → xs ≡ ys
one_list [] [] rises rises' there there' counts = refl
one_list [] (b ∷ ys) rises rises' there there' counts = absurd (omega (arith, there'.0, first_count b ys, counts b.0))
one_list (a ∷ xs) [] rises rises' there there' counts = absurd (omega (arith, there.0, first_count a xs, counts a.0))
one_list (a ∷ xs) (b ∷ ys) rises rises' there there' counts =
    let first = same_first a b xs ys rises rises' there.0 there'.0 counts in
    let count : a.1 ≡ b.1 = sym (first_count a xs) ∙ (counts a.0 ∙ (ap (λ v. count_in v (b ∷ ys)) first ∙ first_count b ys)) in
    let rest = one_list xs ys rises.1 rises'.1 there.1 there'.1 (same_behind a b xs ys rises rises' first counts) in
    λ i. (first i, count i) ∷ rest i

pub same_ranks : (xs ys : List (Value × ℕ)) (values : List Value) → IsTally IsNumber is_less xs → IsTally IsNumber is_less ys → AreCounts xs values → AreCounts ys values → ranked xs ≡ ranked ys
same_ranks xs ys values tally tally' counts counts' = ap ranked (one_list xs ys (ranking_of xs tally).rise (ranking_of ys tally').rise counts.2 counts'.2 (λ x. counts.1 x ∙ sym (counts'.1 x)))
