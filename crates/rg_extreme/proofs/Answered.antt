-- The least and the greatest of a list of values.
use Rattle.std.proofs.Common.{◌≡◌, ℕ, ℤ, Bool, true, false, List, [], ◌∷◌, ◌⊎◌, inl, inr, refl, ap, sym, ◌∙◌, rules}
use Rattle.std.specs.Prelude.{int_lt, ⊤}
use Rattle.std.specs.List.{list_any, All}
use Rattle.std.proofs.lemmas.List.Elements.{All-cons, All-weaker}
use Rattle.std.proofs.lemmas.Bool.{true≢false}
use Rattle.std.proofs.lemmas.Bool.Decides.{Decides-int_eq}
use Rattle.rg_agg.specs.Unbeaten.{unbeaten, is_less, is_greater}
use Rattle.rg_event.specs.declared.value.Value.{Value}
use Rattle.rg_metric.specs.Answers.{answer_of, number_of, numbers, least, greatest}
use Rattle.rg_metric.specs.declared.answer.Answer.TheVariants.{Number}
use Rattle.rg_keywords.specs.declared.func.Func.TheVariants.{Min, Max}
use Rattle.rg_extreme.specs.Sides.{weakest}
use Rattle.rg_extreme.specs.declared.side.Side.TheVariants.{Least, Greatest}
use Rattle.rg_extreme.proofs.Ranks.{ranks}
use Rattle.rg_extreme.proofs.Unbeaten.{first_holds, least_first, or_parts}

-- a number of these
abbrev Among : ℤ → List ℤ → Type 0
Among m [] = ⊥
Among m (n ∷ ns) = (m ≡ n) ⊎ Among m ns

-- none of these is less, or none is greater
abbrev NoneLess : ℤ → List ℤ → Type 0
NoneLess m [] = ⊤
NoneLess m (n ∷ ns) = (int_lt n m ≡ false) × NoneLess m ns

abbrev NoneGreater : ℤ → List ℤ → Type 0
NoneGreater m [] = ⊤
NoneGreater m (n ∷ ns) = (int_lt m n ≡ false) × NoneGreater m ns

-- neither is less, so they are the same
level : (a b : ℤ) → int_lt a b ≡ false → int_lt b a ≡ false → a ≡ b
level a b one two = (Decides-int_eq a b).0 (rw (one, two) refl)

least_is : (m n : ℤ) (ns : List ℤ) → Among m (n ∷ ns) → NoneLess m (n ∷ ns) → least n ns ≡ m
least_is m n [] (inl is) none = sym is
least_is m n [] (inr h) none = absurd h
least_is m n (k ∷ ns) among none = by (int_lt k n) refl among
    (λ a. least_is m k ns a none.1) (λ a. least_is m n ns a (none.0, none.1.1))
  where
    by : (b : Bool) → int_lt k n ≡ b → Among m (n ∷ (k ∷ ns)) → (Among m (k ∷ ns) → least k ns ≡ m) → (Among m (n ∷ ns) → least n ns ≡ m) → least n (k ∷ ns) ≡ m
    by true is (inl first) second_on first_on = absurd (true≢false (sym is ∙ (ap (int_lt k) (sym first) ∙ none.1.0)))
    by true is (inr rest) second_on first_on = rw is (second_on rest)
    by false is (inl first) second_on first_on = rw is (first_on (inl first))
    by false is (inr (inl second)) second_on first_on =
        let same : n ≡ k = level n k (ap (int_lt n) (sym second) ∙ none.0) is in
        rw is (first_on (inl (second ∙ sym same)))
    by false is (inr (inr rest)) second_on first_on = rw is (first_on (inr rest))

greatest_is : (m n : ℤ) (ns : List ℤ) → Among m (n ∷ ns) → NoneGreater m (n ∷ ns) → greatest n ns ≡ m
greatest_is m n [] (inl is) none = sym is
greatest_is m n [] (inr h) none = absurd h
greatest_is m n (k ∷ ns) among none = by (int_lt n k) refl among
    (λ a. greatest_is m k ns a none.1) (λ a. greatest_is m n ns a (none.0, none.1.1))
  where
    by : (b : Bool) → int_lt n k ≡ b → Among m (n ∷ (k ∷ ns)) → (Among m (k ∷ ns) → greatest k ns ≡ m) → (Among m (n ∷ ns) → greatest n ns ≡ m) → greatest n (k ∷ ns) ≡ m
    by true is (inl first) second_on first_on = absurd (true≢false (sym is ∙ (ap (λ x. int_lt x k) (sym first) ∙ none.1.0)))
    by true is (inr rest) second_on first_on = rw is (second_on rest)
    by false is (inl first) second_on first_on = rw is (first_on (inl first))
    by false is (inr (inl second)) second_on first_on =
        let same : n ≡ k = level n k is (ap (λ x. int_lt x n) (sym second) ∙ none.0) in
        rw is (first_on (inl (second ∙ sym same)))
    by false is (inr (inr rest)) second_on first_on = rw is (first_on (inr rest))

none_less : (m : Value) (values : List Value) → list_any (λ w. is_less w m) values ≡ false → NoneLess (number_of m) (numbers values)
none_less m [] none = tt
none_less m (v ∷ vs) none = let parts = or_parts (is_less v m) (list_any (λ w. is_less w m) vs) none in (parts.0, none_less m vs parts.1)

none_greater : (m : Value) (values : List Value) → list_any (λ w. is_greater w m) values ≡ false → NoneGreater (number_of m) (numbers values)
none_greater m [] none = tt
none_greater m (v ∷ vs) none = let parts = or_parts (is_greater v m) (list_any (λ w. is_greater w m) vs) none in (parts.0, none_greater m vs parts.1)

all_among : (values : List Value) → All (λ v. Among (number_of v) (numbers values)) values
all_among [] = search rules
all_among (v ∷ vs) =
    All-cons (λ w. Among (number_of w) (numbers (v ∷ vs))) v vs (inl refl)
    (All-weaker (λ w. Among (number_of w) (numbers vs)) (λ w. Among (number_of w) (numbers (v ∷ vs))) (λ w among. inr among) vs (all_among vs))

first_among : (beats : Value → Value → Bool) (values : List Value) (p : Value × ℕ) (ps : List (Value × ℕ)) → unbeaten beats values ≡ p ∷ ps → Among (number_of p.0) (numbers values)
first_among beats values p ps is = first_holds (λ v. Among (number_of v) (numbers values)) beats values p ps (all_among values) is

-- the first unbeaten value is the least one, and the greatest one
pub answers_least : (p : Value × ℕ) (ps : List (Value × ℕ)) (values : List Value) → p ∷ ps ≡ unbeaten is_less values → Number (number_of p.0) ≡ answer_of Min values
answers_least p ps [] is = cc
answers_least p ps (v ∷ vs) is =
    ap (λ number. Number number) (sym (least_is (number_of p.0) (number_of v) (numbers vs) (first_among is_less (v ∷ vs) p ps (sym is)) (none_less p.0 (v ∷ vs) (least_first is_less (weakest Least) (ranks Least) (v ∷ vs) p ps (sym is)))))

pub answers_greatest : (p : Value × ℕ) (ps : List (Value × ℕ)) (values : List Value) → p ∷ ps ≡ unbeaten is_greater values → Number (number_of p.0) ≡ answer_of Max values
answers_greatest p ps [] is = cc
answers_greatest p ps (v ∷ vs) is =
    ap (λ number. Number number) (sym (greatest_is (number_of p.0) (number_of v) (numbers vs) (first_among is_greater (v ∷ vs) p ps (sym is)) (none_greater p.0 (v ∷ vs) (least_first is_greater (weakest Greatest) (ranks Greatest) (v ∷ vs) p ps (sym is)))))
