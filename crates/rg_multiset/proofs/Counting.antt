-- How the counts of values change with the entries of a map.
use Rattle.std.proofs.Common.{◌≡◌, ℕ, ◌+◌, ◌<◌, ◌≤◌, Bool, true, false, List, [], ◌∷◌, Some, None, if◌then◌else◌, refl, ap, sym, ◌∙◌, arith}
use Rattle.std.specs.declared.cmp.Ordering.{Ordering}
use Rattle.std.specs.declared.cmp.Ordering.TheVariants.{Less, Equal, Greater}
use Rattle.std.specs.Ordering.{is_eq}
use Rattle.std.specs.BTreeMap.{is_at, insert_entry}
use Rattle.std.specs.Map.{lookup, remove_entry, set_value}
use Rattle.rg_agg.specs.Standing.{counts_sum, count_in}
use Rattle.rg_event.specs.declared.value.Value.{Value}
use Rattle.rg_metric.specs.Same.{same_value}
use Rattle.rg_metric.proofs.Laws.{same_value-true}
use Rattle.rg_event.specs.declared.value.Kind.{Kind}
use Rattle.rg_multiset.specs.Pairs.{pairs_by, once, OneMore, AreOf}
use Rattle.rg_multiset.proofs.Places.{other_way}

-- values are the same where keys are equal
abbrev pub Tells : {K : Type 0} → (K → K → Ordering) → (K → Value) → Type 0
Tells {K} cmp value_of = (first second : K) → same_value (value_of first) (value_of second) ≡ is_eq (cmp first second)

-- a value that is there so often, as another sees it
abbrev often : Value → Value → ℕ → ℕ
often value other n = if same_value value other then n else 0

no_some : {n : ℕ} → Some n ≡ None → ⊥
no_some e = cc

pub some_same : {A : Type 0} {n m : A} → Some n ≡ Some m → n ≡ m
some_same e = cc

pub none_there : {K : Type 0} (cmp : K → K → Ordering) (f : K → Value) → Tells cmp f → (k : K) (es : List (K × ℕ)) → lookup (is_at (cmp k)) es ≡ None → count_in (f k) (pairs_by f es) ≡ 0
none_there cmp f tells k [] none = refl
none_there {K} cmp f tells k (e ∷ es) none = by (is_eq (cmp k e.0)) refl (λ h. none_there cmp f tells k es h)
  where
    by : (b : Bool) → is_eq (cmp k e.0) ≡ b → (lookup (is_at (cmp k)) es ≡ None → count_in (f k) (pairs_by f es) ≡ 0) → count_in (f k) (pairs_by f (e ∷ es)) ≡ 0
    by true is rest = absurd (no_some (rw is at none))
    by false is rest = rw (tells k e.0, is) (rest (rw is at none))

pub some_there : {K : Type 0} (cmp : K → K → Ordering) (f : K → Value) → Tells cmp f → (k : K) (n : ℕ) (es : List (K × ℕ)) → lookup (is_at (cmp k)) es ≡ Some n → count_in (f k) (pairs_by f es) ≡ n
some_there cmp f tells k n [] some = cc
some_there {K} cmp f tells k n (e ∷ es) some = by (is_eq (cmp k e.0)) refl (λ h. some_there cmp f tells k n es h)
  where
    by : (b : Bool) → is_eq (cmp k e.0) ≡ b → (lookup (is_at (cmp k)) es ≡ Some n → count_in (f k) (pairs_by f es) ≡ n) → count_in (f k) (pairs_by f (e ∷ es)) ≡ n
    by true is rest = rw (tells k e.0, is) (some_same (rw is at some))
    by false is rest = rw (tells k e.0, is) (rest (rw is at some))

pub some_most : {K : Type 0} (f : K → Value) (test : K → Bool) (n : ℕ) (es : List (K × ℕ)) → lookup test es ≡ Some n → n ≤ counts_sum (pairs_by f es)
some_most f test n [] some = cc
some_most {K} f test n (e ∷ es) some = by (test e.0) refl (λ h. some_most f test n es h)
  where
    by : (b : Bool) → test e.0 ≡ b → (lookup test es ≡ Some n → n ≤ counts_sum (pairs_by f es)) → n ≤ counts_sum (pairs_by f (e ∷ es))
    by true is rest = let same : e.1 ≡ n = some_same (rw is at some) in omega arith
    by false is rest = let below : n ≤ counts_sum (pairs_by f es) = rest (rw is at some) in omega arith

-- the count of a key that is there is set

pub set_sum : {K : Type 0} (f : K → Value) (test : K → Bool) (n m : ℕ) (es : List (K × ℕ)) → lookup test es ≡ Some n → counts_sum (pairs_by f (set_value test es m)) + n ≡ counts_sum (pairs_by f es) + m
set_sum f test n m [] some = cc
set_sum {K} f test n m (e ∷ es) some = by (test e.0) refl (λ h. set_sum f test n m es h)
  where
    by : (b : Bool) → test e.0 ≡ b → (lookup test es ≡ Some n → counts_sum (pairs_by f (set_value test es m)) + n ≡ counts_sum (pairs_by f es) + m) → counts_sum (pairs_by f (set_value test (e ∷ es) m)) + n ≡ counts_sum (pairs_by f (e ∷ es)) + m
    by true is rest = let same : e.1 ≡ n = some_same (rw is at some) in rw is (omega arith)
    by false is rest = let more : counts_sum (pairs_by f (set_value test es m)) + n ≡ counts_sum (pairs_by f es) + m = rest (rw is at some) in rw is (omega arith)

set_here : (b : Bool) (n m x : ℕ) → (if b then m else x) + (if b then n else 0) ≡ (if b then n else x) + (if b then m else 0)
set_here true n m x = omega arith
set_here false n m x = refl

pub set_counts : {K : Type 0} (cmp : K → K → Ordering) (f : K → Value) → Tells cmp f → (k : K) (v : Value) (n m : ℕ) (es : List (K × ℕ)) → lookup (is_at (cmp k)) es ≡ Some n
    → count_in v (pairs_by f (set_value (is_at (cmp k)) es m)) + often v (f k) n ≡ count_in v (pairs_by f es) + often v (f k) m
set_counts cmp f tells k v n m [] some = cc
set_counts {K} cmp f tells k v n m (e ∷ es) some = by (is_eq (cmp k e.0)) (same_value v (f e.0)) refl refl (λ h. set_counts cmp f tells k v n m es h)
  where
    by : (b c : Bool) → is_eq (cmp k e.0) ≡ b → same_value v (f e.0) ≡ c → (lookup (is_at (cmp k)) es ≡ Some n → count_in v (pairs_by f (set_value (is_at (cmp k)) es m)) + often v (f k) n ≡ count_in v (pairs_by f es) + often v (f k) m) → count_in v (pairs_by f (set_value (is_at (cmp k)) (e ∷ es) m)) + often v (f k) n ≡ count_in v (pairs_by f (e ∷ es)) + often v (f k) m
    by true c is same rest =
        let one : f k ≡ f e.0 = same_value-true (f k) (f e.0) (tells k e.0 ∙ is) in
        let count : e.1 ≡ n = some_same (rw is at some) in
        rw (is, one, count) (set_here (same_value v (f e.0)) n m (count_in v (pairs_by f es)))
    by false true is same rest =
        let other : same_value v (f k) ≡ false = rw (same_value-true v (f e.0) same) (other_way (f k) (f e.0) (tells k e.0 ∙ is)) in
        rw (is, same, other) refl
    by false false is same rest = rw (is, same) (rest (rw is at some))

-- a key that is there is taken out

pub remove_sum : {K : Type 0} (f : K → Value) (test : K → Bool) (n : ℕ) (es : List (K × ℕ)) → lookup test es ≡ Some n → counts_sum (pairs_by f (remove_entry test es)) + n ≡ counts_sum (pairs_by f es)
remove_sum f test n [] some = cc
remove_sum {K} f test n (e ∷ es) some = by (test e.0) refl (λ h. remove_sum f test n es h)
  where
    by : (b : Bool) → test e.0 ≡ b → (lookup test es ≡ Some n → counts_sum (pairs_by f (remove_entry test es)) + n ≡ counts_sum (pairs_by f es)) → counts_sum (pairs_by f (remove_entry test (e ∷ es))) + n ≡ counts_sum (pairs_by f (e ∷ es))
    by true is rest = let same : e.1 ≡ n = some_same (rw is at some) in rw is (omega arith)
    by false is rest = let more : counts_sum (pairs_by f (remove_entry test es)) + n ≡ counts_sum (pairs_by f es) = rest (rw is at some) in rw is (omega arith)

pub remove_counts : {K : Type 0} (cmp : K → K → Ordering) (f : K → Value) → Tells cmp f → (k : K) (v : Value) (n : ℕ) (es : List (K × ℕ)) → lookup (is_at (cmp k)) es ≡ Some n → lookup (is_at (cmp k)) (remove_entry (is_at (cmp k)) es) ≡ None
    → count_in v (pairs_by f (remove_entry (is_at (cmp k)) es)) + often v (f k) n ≡ count_in v (pairs_by f es)
remove_counts cmp f tells k v n [] some none = cc
remove_counts {K} cmp f tells k v n (e ∷ es) some none = by (is_eq (cmp k e.0)) (same_value v (f e.0)) refl refl (λ h i. remove_counts cmp f tells k v n es h i)
  where
    by : (b c : Bool) → is_eq (cmp k e.0) ≡ b → same_value v (f e.0) ≡ c → (lookup (is_at (cmp k)) es ≡ Some n → lookup (is_at (cmp k)) (remove_entry (is_at (cmp k)) es) ≡ None → count_in v (pairs_by f (remove_entry (is_at (cmp k)) es)) + often v (f k) n ≡ count_in v (pairs_by f es)) → count_in v (pairs_by f (remove_entry (is_at (cmp k)) (e ∷ es))) + often v (f k) n ≡ count_in v (pairs_by f (e ∷ es))
    by true true is same more =
        let one : f k ≡ f e.0 = same_value-true (f k) (f e.0) (tells k e.0 ∙ is) in
        let count : e.1 ≡ n = some_same (rw is at some) in
        let gone : count_in (f k) (pairs_by f es) ≡ 0 = none_there cmp f tells k es (rw is at none) in
        let it : v ≡ f k = same_value-true v (f e.0) same ∙ sym one in
        let rest : count_in v (pairs_by f es) ≡ 0 = ap (λ w. count_in w (pairs_by f es)) it ∙ gone in
        rw (is, one, same, rest) (omega (arith, count))
    by true false is same more =
        let one : f k ≡ f e.0 = same_value-true (f k) (f e.0) (tells k e.0 ∙ is) in
        rw (is, one, same) (omega arith)
    by false true is same more =
        let other : same_value v (f k) ≡ false = rw (same_value-true v (f e.0) same) (other_way (f k) (f e.0) (tells k e.0 ∙ is)) in
        rw (is, same, other) (omega arith)
    by false false is same more =
        let left : lookup (is_at (cmp k)) (e ∷ remove_entry (is_at (cmp k)) es) ≡ None = rw is at none in
        rw (is, same) (more (rw is at some) (rw is at left))

-- a key that isn't there comes in

pub insert_sum : {K : Type 0} (cmp : K → K → Ordering) (f : K → Value) (k : K) (n : ℕ) (es : List (K × ℕ)) → lookup (is_at (cmp k)) es ≡ None → counts_sum (pairs_by f (insert_entry cmp es k n)) ≡ counts_sum (pairs_by f es) + n
insert_sum cmp f k n [] none = omega arith
insert_sum {K} cmp f k n (e ∷ es) none = by (cmp k e.0) refl (λ h. insert_sum cmp f k n es h)
  where
    by : (o : Ordering) → cmp k e.0 ≡ o → (lookup (is_at (cmp k)) es ≡ None → counts_sum (pairs_by f (insert_entry cmp es k n)) ≡ counts_sum (pairs_by f es) + n) → counts_sum (pairs_by f (insert_entry cmp (e ∷ es) k n)) ≡ counts_sum (pairs_by f (e ∷ es)) + n
    by Less is rest = rw is (omega arith)
    by Equal is rest = absurd (no_some (rw is at none))
    by Greater is rest = let more : counts_sum (pairs_by f (insert_entry cmp es k n)) ≡ counts_sum (pairs_by f es) + n = rest (rw is at none) in rw is (omega arith)

pub insert_counts : {K : Type 0} (cmp : K → K → Ordering) (f : K → Value) → Tells cmp f → (k : K) (v : Value) (n : ℕ) (es : List (K × ℕ)) → lookup (is_at (cmp k)) es ≡ None
    → count_in v (pairs_by f (insert_entry cmp es k n)) ≡ count_in v (pairs_by f es) + often v (f k) n
insert_counts {K} cmp f tells k v n [] none = by (same_value v (f k)) refl
  where
    by : (b : Bool) → same_value v (f k) ≡ b → count_in v (pairs_by f (insert_entry cmp [] k n)) ≡ 0 + often v (f k) n
    by true is = rw is (omega arith)
    by false is = rw is refl
insert_counts {K} cmp f tells k v n (e ∷ es) none = by (cmp k e.0) (same_value v (f k)) (same_value v (f e.0)) refl refl refl (λ h. insert_counts cmp f tells k v n es h)
  where
    by : (o : Ordering) (b c : Bool) → cmp k e.0 ≡ o → same_value v (f k) ≡ b → same_value v (f e.0) ≡ c → (lookup (is_at (cmp k)) es ≡ None → count_in v (pairs_by f (insert_entry cmp es k n)) ≡ count_in v (pairs_by f es) + often v (f k) n) → count_in v (pairs_by f (insert_entry cmp (e ∷ es) k n)) ≡ count_in v (pairs_by f (e ∷ es)) + often v (f k) n
    by Less true c is same here more =
        let it : v ≡ f k = same_value-true v (f k) same in
        let rest : count_in v (pairs_by f (e ∷ es)) ≡ 0 = ap (λ w. count_in w (pairs_by f (e ∷ es))) it ∙ none_there cmp f tells k (e ∷ es) none in
        rw (is, same, rest) (omega arith)
    by Less false c is same here more = rw (is, same) (omega arith)
    by Equal b c is same here more = absurd (no_some (rw is at none))
    by Greater b true is same here more =
        let other : same_value v (f k) ≡ false = rw (same_value-true v (f e.0) here) (other_way (f k) (f e.0) (tells k e.0 ∙ ap is_eq is)) in
        rw (is, here, other) (omega arith)
    by Greater b false is same here more = rw (is, here) (more (rw is at none))

-- whole steps

once_more : (v w : Value) (a b n : ℕ) → a + often v w n ≡ b + often v w (n + 1) → a ≡ b + once v w
once_more v w a b n = by (same_value v w) refl
  where
    by : (c : Bool) → same_value v w ≡ c → a + often v w n ≡ b + often v w (n + 1) → a ≡ b + once v w
    by true is e = let sums : a + n ≡ b + (n + 1) = rw is at e in rw is (omega arith)
    by false is e = let sums : a + 0 ≡ b + 0 = rw is at e in rw is (omega arith)

pub raised : {K : Type 0} (cmp : K → K → Ordering) (f : K → Value) → Tells cmp f → (k : K) (n : ℕ) (es new : List (K × ℕ)) → lookup (is_at (cmp k)) es ≡ Some n → new ≡ set_value (is_at (cmp k)) es (n + 1) → OneMore (f k) (pairs_by f es) (pairs_by f new)
raised cmp f tells k n es new some is = record {
  size = rw is (omega (arith, set_sum f (is_at (cmp k)) n (n + 1) es some));
  counts = λ v. rw is (once_more v (f k) _ (count_in v (pairs_by f es)) n (set_counts cmp f tells k v n (n + 1) es some));
}

pub lowered : {K : Type 0} (cmp : K → K → Ordering) (f : K → Value) → Tells cmp f → (k : K) (n m : ℕ) (es new : List (K × ℕ)) → lookup (is_at (cmp k)) es ≡ Some n → n ≡ m + 1 → new ≡ set_value (is_at (cmp k)) es m → OneMore (f k) (pairs_by f new) (pairs_by f es)
lowered cmp f tells k n m es new some one is = record {
  size = rw is (omega (arith, set_sum f (is_at (cmp k)) n m es some));
  counts = λ v.
      let e : count_in v (pairs_by f (set_value (is_at (cmp k)) es m)) + often v (f k) (m + 1) ≡ count_in v (pairs_by f es) + often v (f k) m = rw one at (set_counts cmp f tells k v n m es some) in
      rw is (once_more v (f k) (count_in v (pairs_by f es)) _ m (sym e));
}

pub removed : {K : Type 0} (cmp : K → K → Ordering) (f : K → Value) → Tells cmp f → (k : K) (es new : List (K × ℕ)) → lookup (is_at (cmp k)) es ≡ Some 1 → new ≡ remove_entry (is_at (cmp k)) es → lookup (is_at (cmp k)) new ≡ None → OneMore (f k) (pairs_by f new) (pairs_by f es)
removed cmp f tells k es new some is none = record {
  size = rw is (sym (remove_sum f (is_at (cmp k)) 1 es some));
  counts = λ v. rw is (sym (remove_counts cmp f tells k v 1 es some (rw is at none)));
}

pub begun : {K : Type 0} (cmp : K → K → Ordering) (f : K → Value) → Tells cmp f → (k : K) (es new : List (K × ℕ)) → lookup (is_at (cmp k)) es ≡ None → new ≡ insert_entry cmp es k 1 → OneMore (f k) (pairs_by f es) (pairs_by f new)
begun cmp f tells k es new none is = record {
  size = rw is (insert_sum cmp f k 1 es none);
  counts = λ v. rw is (insert_counts cmp f tells k v 1 es none);
}

-- what is set to what it was stays
pub set_same : {K : Type 0} (test : K → Bool) (n : ℕ) (es : List (K × ℕ)) → lookup test es ≡ Some n → set_value test es n ≡ es
set_same test n [] some = refl
set_same {K} test n (e ∷ es) some = by (test e.0) refl (λ h. set_same test n es h)
  where
    by : (b : Bool) → test e.0 ≡ b → (lookup test es ≡ Some n → set_value test es n ≡ es) → set_value test (e ∷ es) n ≡ e ∷ es
    by true is rest = let same : e.1 ≡ n = some_same (rw is at some) in rw (is, ← same) refl
    by false is rest = rw is (ap (λ left. e ∷ left) (rest (rw is at some)))

-- a key whose value is there not once, where each value that is there is there at least once, is not there
pub not_there : {K : Type 0} (cmp : K → K → Ordering) (f : K → Value) → Tells cmp f → (legal : Value → Type 0) (kind : Kind) (k : K) (es : List (K × ℕ)) → AreOf legal kind (pairs_by f es) → count_in (f k) (pairs_by f es) ≡ 0 → lookup (is_at (cmp k)) es ≡ None
not_there cmp f tells legal kind k [] are none = refl
not_there {K} cmp f tells legal kind k (e ∷ es) are none = by (is_eq (cmp k e.0)) refl (λ h. not_there cmp f tells legal kind k es are.3 h)
  where
    by : (b : Bool) → is_eq (cmp k e.0) ≡ b → (count_in (f k) (pairs_by f es) ≡ 0 → lookup (is_at (cmp k)) es ≡ None) → lookup (is_at (cmp k)) (e ∷ es) ≡ None
    by true is rest = let no : e.1 ≡ 0 = rw (tells k e.0, is) at none in absurd (omega (arith, no, are.2))
    by false is rest = rw is (rest (rw (tells k e.0, is) at none))

pub some_above : {K : Type 0} (f : K → Value) (legal : Value → Type 0) (kind : Kind) (test : K → Bool) (n : ℕ) (es : List (K × ℕ)) → AreOf legal kind (pairs_by f es) → lookup test es ≡ Some n → 0 < n
some_above f legal kind test n [] are some = cc
some_above {K} f legal kind test n (e ∷ es) are some = by (test e.0) refl (λ h. some_above f legal kind test n es are.3 h)
  where
    by : (b : Bool) → test e.0 ≡ b → (lookup test es ≡ Some n → 0 < n) → 0 < n
    by true is rest = let same : e.1 ≡ n = some_same (rw is at some) in omega (arith, are.2)
    by false is rest = rest (rw is at some)
