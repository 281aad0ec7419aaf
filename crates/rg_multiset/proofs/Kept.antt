-- What holds of each pair, as the entries of a map change.
use Rattle.std.proofs.Common.{◌≡◌, ℕ, ◌<◌, Bool, true, false, List, [], ◌∷◌, ◌++◌, Option, Some, ◌+◌, ◌-◌, ◌==◌, ◌&&◌, length, refl, ap, sym, ◌∙◌, subst, arith}
use Rattle.std.specs.declared.cmp.Ordering.{Ordering}
use Rattle.std.specs.declared.cmp.Ordering.TheVariants.{Less, Equal, Greater}
use Rattle.std.specs.BTreeMap.{insert_entry}
use Rattle.std.specs.Map.{remove_entry, set_value}
use Rattle.std.proofs.lemmas.Bool.{and_parts}
use Rattle.std.specs.Prelude.{slice_get, Result, Ok, Err, OnErr}
use Rattle.rg_agg.specs.Standing.{counts_sum, pairs_kind, IsLike}
use Rattle.rg_event.specs.Tagged.{tag_of, value_kind}
use Rattle.rg_event.specs.declared.value.Kind.TheVariants.{Int, Id, Text, Flag}
use Rattle.rg_event.specs.declared.value.Kind.{Kind}
use Rattle.rg_event.specs.declared.value.Value.{Value}
use Rattle.rg_multiset.specs.Pairs.{pairs_by, AreOf, AreAlike}
use Rattle.rg_multiset.specs.Reading.{last_kept, same_kind, comes_behind}
use Rattle.rg_multiset.proofs.Counting.{some_same}

pub set_are : {K : Type 0} (f : K → Value) (legal : Value → Type 0) (kind : Kind) (test : K → Bool) (m : ℕ) (es : List (K × ℕ)) → 0 < m → AreOf legal kind (pairs_by f es) → AreOf legal kind (pairs_by f (set_value test es m))
set_are f legal kind test m [] some are = are
set_are {K} f legal kind test m (e ∷ es) some are = by (test e.0) refl (set_are f legal kind test m es some are.3)
  where
    by : (b : Bool) → test e.0 ≡ b → AreOf legal kind (pairs_by f (set_value test es m)) → AreOf legal kind (pairs_by f (set_value test (e ∷ es) m))
    by true is rest = rw is (are.0, are.1, some, are.3)
    by false is rest = rw is (are.0, are.1, are.2, rest)

pub remove_are : {K : Type 0} (f : K → Value) (legal : Value → Type 0) (kind : Kind) (test : K → Bool) (es : List (K × ℕ)) → AreOf legal kind (pairs_by f es) → AreOf legal kind (pairs_by f (remove_entry test es))
remove_are f legal kind test [] are = are
remove_are {K} f legal kind test (e ∷ es) are = by (test e.0) refl (remove_are f legal kind test es are.3)
  where
    by : (b : Bool) → test e.0 ≡ b → AreOf legal kind (pairs_by f (remove_entry test es)) → AreOf legal kind (pairs_by f (remove_entry test (e ∷ es)))
    by true is rest = rw is are.3
    by false is rest = rw is (are.0, are.1, are.2, rest)

pub insert_are : {K : Type 0} (f : K → Value) (legal : Value → Type 0) (kind : Kind) (cmp : K → K → Ordering) (k : K) (n : ℕ) (es : List (K × ℕ)) → legal (f k) → value_kind (f k) ≡ kind → 0 < n → AreOf legal kind (pairs_by f es) → AreOf legal kind (pairs_by f (insert_entry cmp es k n))
insert_are f legal kind cmp k n [] is like some are = (is, like, some, tt)
insert_are {K} f legal kind cmp k n (e ∷ es) is like some are = by (cmp k e.0) refl (insert_are f legal kind cmp k n es is like some are.3)
  where
    by : (o : Ordering) → cmp k e.0 ≡ o → AreOf legal kind (pairs_by f (insert_entry cmp es k n)) → AreOf legal kind (pairs_by f (insert_entry cmp (e ∷ es) k n))
    by Less at rest = rw at (is, like, some, are)
    by Equal at rest = rw at (are.0, are.1, some, are.3)
    by Greater at rest = rw at (are.0, are.1, are.2, rest)

-- pairs that are all so of one kind are alike
pub alike_of : (legal : Value → Type 0) (kind : Kind) (pairs : List (Value × ℕ)) → AreOf legal kind pairs → AreAlike legal pairs
alike_of legal kind [] are other is = tt
alike_of legal kind (pair ∷ pairs) are other is =
    let P : Kind → Type 0 = λ k. AreOf legal k (pair ∷ pairs) in
    let same : kind ≡ other = cc (are.1) in
    subst P same are

-- alike pairs that a value goes with are of its kind
pub alike_with : (legal : Value → Type 0) (value : Value) (pairs : List (Value × ℕ)) → AreAlike legal pairs → IsLike (pairs_kind pairs) value → AreOf legal (value_kind value) pairs
alike_with legal value [] alike like = tt
alike_with legal value (pair ∷ pairs) alike like =
    let P : Kind → Type 0 = λ k. AreOf legal k (pair ∷ pairs) in
    subst P (sym like) (alike (value_kind pair.0) refl)

-- alike pairs are of a kind, whichever where there are none
pub some_kind : (legal : Value → Type 0) (pairs : List (Value × ℕ)) (none : Kind) → AreAlike legal pairs → (kind : Kind) × AreOf legal kind pairs
some_kind legal [] none alike = (none, tt)
some_kind legal (pair ∷ pairs) none alike = (value_kind pair.0, alike (value_kind pair.0) refl)

tags_same : (a b : Kind) → (tag_of a == tag_of b) ≡ true → a ≡ b
tags_same Int Int is = refl
tags_same Id Id is = refl
tags_same Text Text is = refl
tags_same Flag Flag is = refl
tags_same a b is = cc

-- a value that may stand behind pairs of a kind is of it
behind_kind : (legal : Value → Type 0) (below : Value → Value → Bool) (kind : Kind) (pair : Value × ℕ) (pairs : List (Value × ℕ)) (value : Value) → AreOf legal kind (pair ∷ pairs) → comes_behind below (last_kept (pair ∷ pairs)) value ≡ true → kind ≡ value_kind value
behind_kind legal below kind pair [] value are behind = sym are.1 ∙ tags_same _ _ (and_parts (same_kind pair.0 value) (below pair.0 value) behind).0
behind_kind legal below kind pair (next ∷ pairs) value are behind = behind_kind legal below kind next pairs value are.3 behind

pub behind_are : (legal : Value → Type 0) (below : Value → Value → Bool) (pairs : List (Value × ℕ)) (value : Value) → AreAlike legal pairs → comes_behind below (last_kept pairs) value ≡ true → AreOf legal (value_kind value) pairs
behind_are legal below [] value alike behind = tt
behind_are legal below (pair ∷ pairs) value alike behind =
    let P : Kind → Type 0 = λ k. AreOf legal k (pair ∷ pairs) in
    let are = alike (value_kind pair.0) refl in
    subst P (behind_kind legal below (value_kind pair.0) pair pairs value are behind) are

pub append_are : (legal : Value → Type 0) (kind : Kind) (pairs : List (Value × ℕ)) (value : Value) (n : ℕ) → AreOf legal kind pairs → legal value → value_kind value ≡ kind → 0 < n → AreOf legal kind (pairs ++ (value, n) ∷ [])
append_are legal kind [] value n are is like some = (is, like, some, tt)
append_are legal kind (pair ∷ pairs) value n are is like some = (are.0, are.1, are.2, append_are legal kind pairs value n are.3 is like some)

pub pairs_append : {K : Type 0} (f : K → Value) (k : K) (n : ℕ) (es : List (K × ℕ)) → pairs_by f (es ++ (k, n) ∷ []) ≡ pairs_by f es ++ (f k, n) ∷ []
pairs_append f k n [] = refl
pairs_append f k n (e ∷ es) = ap (λ pairs. (f e.0, e.1) ∷ pairs) (pairs_append f k n es)

pub sum_append : (pairs : List (Value × ℕ)) (value : Value) (n : ℕ) → counts_sum (pairs ++ (value, n) ∷ []) ≡ counts_sum pairs + n
sum_append [] value n = omega arith
sum_append (pair ∷ pairs) value n = let rest : counts_sum (pairs ++ (value, n) ∷ []) ≡ counts_sum pairs + n = sum_append pairs value n in omega arith

last_at : {K : Type 0} (f : K → Value) (legal : Value → Type 0) (kind : Kind) (e : K × ℕ) (es : List (K × ℕ)) (k : K) (n : ℕ) → AreOf legal kind (pairs_by f (e ∷ es)) → slice_get (e ∷ es) (length es) ≡ Some (k, n) → (last_kept (pairs_by f (e ∷ es)) ≡ Some (f k)) × legal (f k)
last_at {K} f legal kind e [] k n are is =
    let same : e ≡ (k, n) = some_same is in
    let one : f e.0 ≡ f k = ap (λ (p : K × ℕ). f p.0) same in
    (ap (λ v. Some v) one, subst legal one are.0)
last_at f legal kind e (d ∷ es) k n are is = last_at f legal kind d es k n are.3 is

-- the last entry of a map is the last one that is kept
pub last_is : {K : Type 0} (f : K → Value) (legal : Value → Type 0) (kind : Kind) (es : List (K × ℕ)) (k : K) (n : ℕ) → AreOf legal kind (pairs_by f es) → slice_get es (length es - 1) ≡ Some (k, n) → (last_kept (pairs_by f es) ≡ Some (f k)) × legal (f k)
last_is f legal kind [] k n are is = cc
last_is f legal kind (e ∷ es) k n are is =
    let place : length (e ∷ es) - 1 ≡ length es = omega arith in
    last_at f legal kind e es k n are (sym (ap (slice_get (e ∷ es)) place) ∙ is)

pub on_err_of : {A E : Type 0} {P : Type 0} (result : Result A E) → P → OnErr result P
on_err_of (Ok value) is = tt
on_err_of (Err fault) is = is

-- the two tests of a last value and one behind it
pub both_tests : (below : Value → Value → Bool) (last : Option Value) (v value : Value) (like less : Bool) → last ≡ Some v → like ≡ same_kind v value → less ≡ below v value → comes_behind below last value ≡ like && less
both_tests below last v value like less is one two = rw (is, one, two) refl

pub first_test : (below : Value → Value → Bool) (last : Option Value) (v value : Value) (like : Bool) → last ≡ Some v → like ≡ same_kind v value → like ≡ false → comes_behind below last value ≡ false
first_test below last v value like is one fails = rw (is, ← one, fails) refl

pub kinds_same : (a b : Value) → same_kind a b ≡ true → value_kind a ≡ value_kind b
kinds_same a b is = tags_same _ _ is

-- with a value that may stand behind them put there
pub alike_pushed : (legal : Value → Type 0) (below : Value → Value → Bool) (old new : List (Value × ℕ)) (value : Value) (n : ℕ) → AreAlike legal old → legal value → comes_behind below (last_kept old) value ≡ true → 0 < n → new ≡ old ++ (value, n) ∷ [] → AreAlike legal new
alike_pushed legal below old new value n alike is behind some pushed =
    let are = append_are legal (value_kind value) old value n (behind_are legal below old value alike behind) is refl some in
    alike_of legal (value_kind value) new (rw pushed are)
