-- What a state keeps is settled by its function and the values that it stands for.
use Rattle.std.proofs.Common.{◌≡◌, ℕ, zero, suc, ◌<◌, Bool, true, false, List, [], ◌∷◌, length, refl, ap, sym, ◌∙◌, subst, arith}
use Rattle.std.specs.Prelude.{⊤}
use Rattle.std.specs.Cmp.Lexicographic.{slice_cmp}
use Rattle.std.specs.Ordering.{nat_cmp, is_lt, ordering_reverse}
use Rattle.std.specs.declared.cmp.Ordering.{Ordering}
use Rattle.std.specs.declared.cmp.Ordering.TheVariants.{Less, Equal, Greater}
use Rattle.std.proofs.lemmas.Cmp.{nat_list_cmp_total}
use Rattle.rg_event.specs.Tagged.{tagged_bytes}
use Rattle.rg_event.specs.declared.value.Value.{Value}
use Rattle.rg_keywords.specs.declared.func.Func.{Func}
use Rattle.rg_keywords.specs.declared.func.Func.TheVariants as func
use Rattle.rg_metric.specs.Answers.{numbers, total, total_of_squares}
use Rattle.rg_metric.specs.Same.{same_value}
use Rattle.rg_metric.proofs.Laws.{same_value-true, same_value-same}
use Rattle.rg_agg.specs.Held.{Held, counted, summed, averaged, squared, queued, ended, lowest, highest, varied, ranked}
use Rattle.rg_agg.specs.Standing.{func_of, AreThere, count_in, Stands}
use Rattle.rg_agg.specs.Stands.{last_value}
use Rattle.rg_agg.specs.Unbeaten.{is_less, is_greater, unbeaten}
use Rattle.rg_multiset.specs.Pairs.{AreRising}
use Rattle.rg_multiset.specs.Reading.{is_before}
use Rattle.rg_multiset.proofs.Laws.{other_way}
use Rattle.rg_rank.proofs.Laws.{same_ranks}
use Rattle.rg_rank.specs.Shapes.{listed}
use Rattle.rg_state.specs.States.{held_of}
use Rattle.rg_state.specs.declared.state.AggState.{AggState}
use Rattle.rg_state.specs.declared.state.AggState.TheVariants.{Count, Sum, Avg, SumSq, Min, Max, Distinct, Rank, First, Last}

-- the order of values by their bytes

abbrev bytes_cmp : Value → Value → Ordering
bytes_cmp v w = slice_cmp nat_cmp (tagged_bytes v) (tagged_bytes w)

is_less_of : (o : Ordering) → is_lt o ≡ true → o ≡ Less
is_less_of Less e = refl
is_less_of Equal e = absurd (cc)
is_less_of Greater e = absurd (cc)

lt_of : (o : Ordering) → o ≡ Less → is_lt o ≡ true
lt_of o e = ap is_lt e

not_both : (v w : Value) → is_before v w ≡ true → is_before w v ≡ true → ⊥
not_both v w e f =
    let less = is_less_of (bytes_cmp v w) e in
    let back = is_less_of (bytes_cmp w v) f in
    let both : Less ≡ Greater = sym less ∙ nat_list_cmp_total.antisymm (tagged_bytes v) (tagged_bytes w) ∙ ap ordering_reverse back in
    absurd (cc)

before_all : (u v w : Value) → is_before u v ≡ true → is_before v w ≡ true → is_before u w ≡ true
before_all u v w e f =
    lt_of (bytes_cmp u w) (nat_list_cmp_total.trans (tagged_bytes u) (tagged_bytes v) (tagged_bytes w) (is_less_of (bytes_cmp u v) e) (is_less_of (bytes_cmp v w) f))

-- rising pairs

rise_behind : (pair : Value × ℕ) (pairs : List (Value × ℕ)) → AreRising is_before (pair ∷ pairs) → AreRising is_before pairs
rise_behind pair [] rising = tt
rise_behind pair (next ∷ pairs) rising = rising.1

-- what is counted behind the first pair is above it
above : (pair : Value × ℕ) (pairs : List (Value × ℕ)) → AreRising is_before (pair ∷ pairs) → (x : Value) → 0 < count_in x pairs → is_before pair.0 x ≡ true
above pair [] rising x some = absurd (omega (arith, some))
above pair (next ∷ pairs) rising x some = by (same_value x next.0) refl (λ h. above next pairs rising.1 x h)
  where
    by : (b : Bool) → same_value x next.0 ≡ b → (0 < count_in x pairs → is_before next.0 x ≡ true) → is_before pair.0 x ≡ true
    by true same rest = subst (λ v. is_before pair.0 v ≡ true) (sym (same_value-true x next.0 same)) rising.0
    by false same rest =
        let some_behind : 0 < count_in x pairs = rw same at some in
        before_all pair.0 next.0 x rising.0 (rest some_behind)

none_of : (n : ℕ) → (0 < n → ⊥) → n ≡ 0
none_of zero h = refl
none_of (suc n) h = absurd (h (omega arith))

none_behind : (pair : Value × ℕ) (pairs : List (Value × ℕ)) → AreRising is_before (pair ∷ pairs) → count_in pair.0 pairs ≡ 0
none_behind pair pairs rising = none_of (count_in pair.0 pairs) (λ some. let b = above pair pairs rising pair.0 some in not_both pair.0 pair.0 b b)

first_count : (pair : Value × ℕ) (pairs : List (Value × ℕ)) → count_in pair.0 (pair ∷ pairs) ≡ pair.1
first_count pair pairs = rw (same_value-same pair.0) refl

other_count : (x : Value) (pair : Value × ℕ) (pairs : List (Value × ℕ)) → same_value x pair.0 ≡ false → count_in x (pair ∷ pairs) ≡ count_in x pairs
other_count x pair pairs other = rw other refl

same_first : (a b : Value × ℕ) (xs ys : List (Value × ℕ)) → AreRising is_before (a ∷ xs) → AreRising is_before (b ∷ ys) → 0 < a.1 → 0 < b.1
    → ((x : Value) → count_in x (a ∷ xs) ≡ count_in x (b ∷ ys)) → a.0 ≡ b.0
same_first a b xs ys rises rises' some some' counts = by (same_value a.0 b.0) refl
  where
    by : (same : Bool) → same_value a.0 b.0 ≡ same → a.0 ≡ b.0
    by true same = same_value-true a.0 b.0 same
    by false same =
        let there : count_in a.0 ys ≡ a.1 = sym (other_count a.0 b ys same) ∙ sym (counts a.0) ∙ first_count a xs in
        let there' : count_in b.0 xs ≡ b.1 = sym (other_count b.0 a xs (other_way a.0 b.0 same)) ∙ counts b.0 ∙ first_count b ys in
        absurd (not_both a.0 b.0 (above a xs rises b.0 (omega (arith, some', there'))) (above b ys rises' a.0 (omega (arith, some, there))))

same_behind : (a b : Value × ℕ) (xs ys : List (Value × ℕ)) → AreRising is_before (a ∷ xs) → AreRising is_before (b ∷ ys) → a.0 ≡ b.0
    → ((x : Value) → count_in x (a ∷ xs) ≡ count_in x (b ∷ ys)) → (x : Value) → count_in x xs ≡ count_in x ys
same_behind a b xs ys rises rises' first counts x = by (same_value x a.0) refl
  where
    by : (same : Bool) → same_value x a.0 ≡ same → count_in x xs ≡ count_in x ys
    by true same =
        let here : x ≡ a.0 = same_value-true x a.0 same in
        ap (λ v. count_in v xs) here ∙ none_behind a xs rises ∙ sym (none_behind b ys rises') ∙ ap (λ v. count_in v ys) (sym (here ∙ first))
    by false same =
        sym (other_count x a xs same) ∙ counts x ∙ other_count x b ys (subst (λ v. same_value x v ≡ false) first same)

-- rising pairs that count alike are one list
one_list : (xs ys : List (Value × ℕ)) → AreRising is_before xs → AreRising is_before ys → AreThere xs → AreThere ys → ((x : Value) → count_in x xs ≡ count_in x ys) → xs ≡ ys
one_list [] [] rises rises' there there' counts = refl
one_list [] (b ∷ ys) rises rises' there there' counts = absurd (omega (arith, there'.0, first_count b ys, counts b.0))
one_list (a ∷ xs) [] rises rises' there there' counts = absurd (omega (arith, there.0, first_count a xs, counts a.0))
one_list (a ∷ xs) (b ∷ ys) rises rises' there there' counts =
    let first = same_first a b xs ys rises rises' there.0 there'.0 counts in
    let count : a.1 ≡ b.1 = sym (first_count a xs) ∙ counts a.0 ∙ ap (λ v. count_in v (b ∷ ys)) first ∙ first_count b ys in
    let rest = one_list xs ys (rise_behind a xs rises) (rise_behind b ys rises') there.1 there'.1 (same_behind a b xs ys rises rises' first counts) in
    λ i. (first i, count i) ∷ rest i

-- what a state of a function keeps of some values, but for a distinct count and a rank
abbrev kept_of : Func → List Value → Held
kept_of func.Count values = counted (length values)
kept_of func.Sum values = summed (length values) (total (numbers values))
kept_of func.Avg values = averaged (length values) (total (numbers values))
kept_of func.SumSq values = squared (length values) (total_of_squares (numbers values))
kept_of func.Min values = lowest (length values) (unbeaten is_less values)
kept_of func.Max values = highest (length values) (unbeaten is_greater values)
kept_of func.First values = queued values
kept_of func.Last values = ended (length values) (last_value values)
kept_of func.CountDistinct values = varied []
kept_of func.Median values = ranked []
kept_of (func.Pct percent) values = ranked []

abbrev IsSettled : Func → Type 0
IsSettled func.CountDistinct = ⊥
IsSettled func.Median = ⊥
IsSettled other = ⊤

is_kept : (held : Held) (values : List Value) → IsSettled (func_of held) → Stands held values → held ≡ kept_of (func_of held) values
is_kept (counted n) values settled stands = ap counted stands
is_kept (summed n sum) values settled stands = λ i. summed (stands.count i) (stands.adds_up i)
is_kept (averaged n sum) values settled stands = λ i. averaged (stands.count i) (stands.adds_up i)
is_kept (squared n sum) values settled stands = λ i. squared (stands.count i) (stands.adds_up i)
is_kept (queued kept) values settled stands = ap queued stands
is_kept (ended n last) values settled stands = λ i. ended (stands.count i) (stands.ends i)
is_kept (lowest n pairs) values settled stands = λ i. lowest (stands.count i) (stands.kept i)
is_kept (highest n pairs) values settled stands = λ i. highest (stands.count i) (stands.kept i)
is_kept (varied pairs) values settled stands = absurd settled
is_kept (ranked pairs) values settled stands = absurd settled

by_func : (a b : Held) (values : List Value) → func_of a ≡ func_of b → IsSettled (func_of a) → Stands a values → Stands b values → a ≡ b
by_func a b values same settled stands stands' =
    is_kept a values settled stands ∙ ap (λ f. kept_of f values) same ∙ sym (is_kept b values (subst IsSettled same settled) stands')

both_varied : (xs ys : List (Value × ℕ)) (values : List Value) → AreRising is_before xs → AreRising is_before ys → Stands (varied xs) values → Stands (varied ys) values → varied xs ≡ varied ys
both_varied xs ys values rises rises' stands stands' = ap varied (one_list xs ys rises rises' stands.2 stands'.2 (λ x. stands.1 x ∙ sym (stands'.1 x)))

-- two states of one function that stand for one list keep the same
pub keep_same : (a b : AggState) (values : List Value) → func_of (held_of a) ≡ func_of (held_of b) → Stands (held_of a) values → Stands (held_of b) values → held_of a ≡ held_of b
keep_same (Distinct state) (Distinct other) values same stands stands' = both_varied state.value.tally other.value.tally values state.value.sound.rising other.value.sound.rising stands stands'
keep_same (Distinct state) b values same stands stands' = absurd (cc)
keep_same (Rank state) (Rank other) values same stands stands' = same_ranks (listed state.value.tree) (listed other.value.tree) values state.value.sound other.value.sound stands stands'
keep_same (Rank state) b values same stands stands' = absurd (cc)
keep_same (Count state) b values same stands stands' = by_func (held_of (Count state)) (held_of b) values same tt stands stands'
keep_same (Sum state) b values same stands stands' = by_func (held_of (Sum state)) (held_of b) values same tt stands stands'
keep_same (Avg state) b values same stands stands' = by_func (held_of (Avg state)) (held_of b) values same tt stands stands'
keep_same (SumSq state) b values same stands stands' = by_func (held_of (SumSq state)) (held_of b) values same tt stands stands'
keep_same (Min state) b values same stands stands' = by_func (held_of (Min state)) (held_of b) values same tt stands stands'
keep_same (Max state) b values same stands stands' = by_func (held_of (Max state)) (held_of b) values same tt stands stands'
keep_same (First state) b values same stands stands' = by_func (held_of (First state)) (held_of b) values same tt stands stands'
keep_same (Last state) b values same stands stands' = by_func (held_of (Last state)) (held_of b) values same tt stands stands'
