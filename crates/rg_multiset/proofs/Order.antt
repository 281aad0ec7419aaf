-- The order of pairs, from that of the keys of a map.
use Rattle.std.proofs.Common.{◌≡◌, ℕ, Bool, true, List, [], ◌∷◌, ◌++◌, refl, ap, sym, ◌∙◌, subst, append_assoc}
use Rattle.std.proofs.lemmas.Bool.{and_parts}
use Rattle.std.specs.Cmp.{IsTotalOrder}
use Rattle.std.specs.List.{AllByRecursion}
use Rattle.std.specs.List.Sorted.{IsStrictlySortedBy}
use Rattle.std.specs.Map.{keys_of}
use Rattle.std.specs.declared.cmp.Ordering.{Ordering}
use Rattle.std.specs.declared.cmp.Ordering.TheVariants.{Less, Equal, Greater}
use Rattle.std.specs.Ordering.{is_lt, ordering_reverse}
use Rattle.std.specs.BTreeMap.{insert_entry}
use Rattle.rg_event.specs.Tagged.{value_kind}
use Rattle.rg_event.specs.declared.value.Kind.{Kind}
use Rattle.rg_event.specs.declared.value.Value.{Value}
use Rattle.rg_multiset.specs.Pairs.{pairs_by, AreOf, AreRising}
use Rattle.rg_multiset.specs.Reading.{last_kept, comes_behind}

-- values of one kind stand in the order of their keys
abbrev pub Orders : {K : Type 0} → (K → K → Ordering) → (K → Value) → (Value → Type 0) → (Value → Value → Bool) → Type 0
Orders {K} cmp value_of legal below =
    (first second : K) → legal (value_of first) → legal (value_of second) → value_kind (value_of first) ≡ value_kind (value_of second) → below (value_of first) (value_of second) ≡ is_lt (cmp first second)

pub rising : {K : Type 0} (cmp : K → K → Ordering) (f : K → Value) (legal : Value → Type 0) (below : Value → Value → Bool) (kind : Kind) → Orders cmp f legal below → (es : List (K × ℕ)) → IsStrictlySortedBy cmp (keys_of es) → AreOf legal kind (pairs_by f es) → AreRising below (pairs_by f es)
unfolding IsStrictlySortedBy
rising cmp f legal below kind orders [] sorted are = tt
rising cmp f legal below kind orders (e ∷ []) sorted are = tt
rising cmp f legal below kind orders (e ∷ (d ∷ es)) sorted are = (
  orders e.0 d.0 are.0 are.3.0 (are.1 ∙ sym are.3.1) ∙ ap is_lt sorted.0.0,
  rising cmp f legal below kind orders (d ∷ es) sorted.1 are.3,
)

above : (o : Ordering) → is_lt o ≡ true → o ≡ Less
above Less is = refl
above Equal is = cc
above Greater is = cc

-- a key that may stand behind all others comes last
pub insert_last : {K : Type 0} (cmp : K → K → Ordering) → IsTotalOrder cmp → (k : K) (n : ℕ) (es : List (K × ℕ)) → AllByRecursion (λ q. cmp q k ≡ Less) (keys_of es) → insert_entry cmp es k n ≡ es ++ (k, n) ∷ []
insert_last cmp total k n [] all = refl
insert_last cmp total k n (e ∷ es) all =
    let is : cmp k e.0 ≡ Greater = total.antisymm k e.0 ∙ ap ordering_reverse all.0 in
    rw is (ap (λ rest. e ∷ rest) (insert_last cmp total k n es all.1))

next_below : {K : Type 0} (cmp : K → K → Ordering) → IsTotalOrder cmp → (k : K) (n : ℕ) (es rest : List (K × ℕ)) → IsStrictlySortedBy cmp (keys_of (es ++ (k, n) ∷ rest)) → AllByRecursion (λ q. cmp q k ≡ Less) (keys_of es)
unfolding IsStrictlySortedBy
next_below cmp total k n [] rest sorted = tt
next_below cmp total k n (e ∷ []) rest sorted = (sorted.0.0, tt)
next_below cmp total k n (e ∷ (d ∷ es)) rest sorted =
    let later = next_below cmp total k n (d ∷ es) rest sorted.1 in
    (total.trans e.0 d.0 k sorted.0.0 later.0, later)

-- the entry that comes next in sorted entries comes last among those before it
pub insert_next : {K : Type 0} (cmp : K → K → Ordering) → IsTotalOrder cmp → (k : K) (n : ℕ) (es rest new all : List (K × ℕ)) → new ≡ insert_entry cmp es k n → es ++ (k, n) ∷ rest ≡ all → IsStrictlySortedBy cmp (keys_of all) → new ++ rest ≡ all
insert_next {K} cmp total k n es rest new all put parts sorted =
    let P : List (K × ℕ) → Type 0 = λ entries. IsStrictlySortedBy cmp (keys_of entries) in
    let below = next_below cmp total k n es rest (subst P (sym parts) sorted) in
    ap (λ entries. entries ++ rest) (put ∙ insert_last cmp total k n es below)
    ∙ (append_assoc es ((k, n) ∷ []) rest ∙ parts)

all_below : {K : Type 0} (cmp : K → K → Ordering) → IsTotalOrder cmp → (f : K → Value) (legal : Value → Type 0) (below : Value → Value → Bool) (kind : Kind) → Orders cmp f legal below → (k : K) → legal (f k) → value_kind (f k) ≡ kind → (e : K × ℕ) (es : List (K × ℕ)) → IsStrictlySortedBy cmp (keys_of (e ∷ es)) → AreOf legal kind (pairs_by f (e ∷ es)) → comes_behind below (last_kept (pairs_by f (e ∷ es))) (f k) ≡ true → AllByRecursion (λ q. cmp q k ≡ Less) (keys_of (e ∷ es))
unfolding IsStrictlySortedBy
all_below cmp total f legal below kind orders k is like e [] sorted are behind =
    (above (cmp e.0 k) (sym (orders e.0 k are.0 is (are.1 ∙ sym like)) ∙ (and_parts _ (below (f e.0) (f k)) behind).1), tt)
all_below cmp total f legal below kind orders k is like e (d ∷ es) sorted are behind =
    let rest = all_below cmp total f legal below kind orders k is like d es sorted.1 are.3 behind in
    (total.trans e.0 d.0 k sorted.0.0 rest.0, rest)

pub come_before : {K : Type 0} (cmp : K → K → Ordering) → IsTotalOrder cmp → (f : K → Value) (legal : Value → Type 0) (below : Value → Value → Bool) (kind : Kind) → Orders cmp f legal below → (k : K) → legal (f k) → value_kind (f k) ≡ kind → (es : List (K × ℕ)) → IsStrictlySortedBy cmp (keys_of es) → AreOf legal kind (pairs_by f es) → comes_behind below (last_kept (pairs_by f es)) (f k) ≡ true → AllByRecursion (λ q. cmp q k ≡ Less) (keys_of es)
come_before cmp total f legal below kind orders k is like [] sorted are behind = tt
come_before cmp total f legal below kind orders k is like (e ∷ es) sorted are behind = all_below cmp total f legal below kind orders k is like e es sorted are behind
