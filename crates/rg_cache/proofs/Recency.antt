-- What the cache's steps do to the list of its places.
use Rattle.std.proofs.Common.{◌≡◌, ◌⊎◌, ◌≤◌, ◌<◌, ◌-◌, ◌+◌, ℕ, zero, suc, true, false, not, cond, List, [], ◌∷◌, ◌++◌, length, take, reverse, filter, slice_get, Option, None, Some, Result, Ok, Err, OnOk, OnErr, nat_eq, is_some, refl, sym, ap, subst, append_assoc, ◌∙◌, inl, inr, arith}
use Rattle.std.proofs.lemmas.Bool.{cases_Bool, eqb-true, eq-eqb}
use Rattle.std.proofs.lemmas.Cmp.{nat_eq_equiv}
use Rattle.std.proofs.lemmas.List.{reverse-append, reverse-reverse, take_all, append-nil, length-take}
use Rattle.std.proofs.lemmas.Map.{lookup-remove_entry}
use Rattle.std.proofs.lemmas.Map.Entries.{length-keys_of}
use Rattle.std.specs.List.{IsDistinct, AllByRecursion}
use Rattle.std.specs.Map.{keys_of, lookup, lookup_entry, remove_entry}
use Rattle.lru.specs.LruCache.{LruCache, lru_cache, promoted, put_entries, IsValid}
use Rattle.rg_cache.specs.Cache.{most_recent, least_recently_used}

abbrev others : ℕ → List ℕ → List ℕ
others p ks = filter (λ q. not (nat_eq p q)) ks

abbrev Apart : ℕ → List ℕ → Type 0
Apart p ks = AllByRecursion (λ q. nat_eq p q ≡ false) ks

others_apart : (p : ℕ) (ks : List ℕ) → Apart p ks → others p ks ≡ ks
others_apart p [] h = refl
others_apart p (k ∷ ks) h = rw h.0 (ap (λ t. k ∷ t) (others_apart p ks h.1))

apart_others : (p : ℕ) (ks : List ℕ) → Apart p (others p ks)
apart_others p [] = tt
apart_others p (k ∷ ks) = elim (cases_Bool (nat_eq p k)) [
  | inl same ↦ rw same (apart_others p ks)
  | inr other ↦ rw other (other, apart_others p ks)
]

apart_filter : (p r : ℕ) (ks : List ℕ) → Apart r ks → Apart r (others p ks)
apart_filter p r [] h = tt
apart_filter p r (k ∷ ks) h = elim (cases_Bool (nat_eq p k)) [
  | inl same ↦ rw same (apart_filter p r ks h.1)
  | inr other ↦ rw other (h.0, apart_filter p r ks h.1)
]

distinct_others : (p : ℕ) (ks : List ℕ) → IsDistinct nat_eq ks → IsDistinct nat_eq (others p ks)
unfolding IsDistinct
distinct_others p [] h = tt
distinct_others p (k ∷ ks) h = elim (cases_Bool (nat_eq p k)) [
  | inl same ↦ rw same (distinct_others p ks h.1)
  | inr other ↦ rw other (apart_filter p k ks h.0, distinct_others p ks h.1)
]

distinct_most_recent : (ps : List ℕ) → IsDistinct nat_eq (most_recent ps)
unfolding IsDistinct
distinct_most_recent [] = tt
distinct_most_recent (p ∷ ps) = (apart_others p (most_recent ps), distinct_others p (most_recent ps) (distinct_most_recent ps))

apart_take : (n p : ℕ) (ks : List ℕ) → Apart p ks → Apart p (take n ks)
apart_take zero p ks h = tt
apart_take (suc n) p [] h = tt
apart_take (suc n) p (k ∷ ks) h = (h.0, apart_take n p ks h.1)

distinct_take : (n : ℕ) (ks : List ℕ) → IsDistinct nat_eq ks → IsDistinct nat_eq (take n ks)
unfolding IsDistinct
distinct_take zero ks h = tt
distinct_take (suc n) [] h = tt
distinct_take (suc n) (k ∷ ks) h = (apart_take n k ks h.0, distinct_take n ks h.1)

-- the places are distinct
pub are_distinct : (cap : ℕ) (touches : List ℕ) → IsDistinct nat_eq (least_recently_used cap touches)
are_distinct cap touches = distinct_take cap (most_recent (reverse touches)) (distinct_most_recent (reverse touches))

within : (cap : ℕ) (touches : List ℕ) → length (least_recently_used cap touches) ≤ cap
within cap touches = omega (arith, length-take cap (most_recent (reverse touches)))

most_recent_distinct : (ks : List ℕ) → IsDistinct nat_eq ks → most_recent ks ≡ ks
unfolding IsDistinct
most_recent_distinct [] h = refl
most_recent_distinct (k ∷ ks) h = rw (most_recent_distinct ks h.1) (ap (λ t. k ∷ t) (others_apart k ks h.0))

-- no touch leaves the places
none_touched : (cap : ℕ) (ks : List ℕ) → IsDistinct nat_eq ks → length ks ≤ cap → least_recently_used cap (reverse ks ++ []) ≡ ks
none_touched cap ks h n = rw (append-nil (reverse ks), reverse-reverse ks, most_recent_distinct ks h) (take_all cap ks n)

-- one touch puts its place first
one_touched : (cap : ℕ) (ks : List ℕ) (p : ℕ) → IsDistinct nat_eq ks → least_recently_used cap (reverse ks ++ p ∷ []) ≡ take cap (p ∷ others p ks)
one_touched cap ks p h = rw (reverse-append (reverse ks) (p ∷ []), reverse-reverse ks, most_recent_distinct ks h) refl

one_key : (p x y : ℕ) → nat_eq p x ≡ true → nat_eq p y ≡ nat_eq x y
one_key p x y t = ap (λ k. nat_eq k y) (eqb-true p x t)

module _ {T : Type 0} (p : ℕ) where
  missed : (es : List (ℕ × T)) → lookup_entry (nat_eq p) es ≡ None → (lookup (nat_eq p) es ≡ None) × Apart p (keys_of es)
  missed [] h = (refl, tt)
  missed (e ∷ es) h = (elim (nat_eq p e.0) as (λ b. nat_eq p e.0 ≡ b → (lookup (nat_eq p) (e ∷ es) ≡ None) × Apart p (keys_of (e ∷ es))) [
    | true ↦ λ t. let h' = rw t at h in absurd cc
    | false ↦ λ f. let m = missed es (rw f at h) in (rw f m.0, (f, m.1))
  ]) refl

  hit : (es : List (ℕ × T)) (e : ℕ × T) → lookup_entry (nat_eq p) es ≡ Some e → (lookup (nat_eq p) es ≡ Some e.1) × (e.0 ≡ p) × (length (remove_entry (nat_eq p) es) + 1 ≡ length es)
  hit [] e h = absurd cc
  hit (f ∷ es) e h = (elim (nat_eq p f.0) as (λ b. nat_eq p f.0 ≡ b → (lookup (nat_eq p) (f ∷ es) ≡ Some e.1) × (e.0 ≡ p) × (length (remove_entry (nat_eq p) (f ∷ es)) + 1 ≡ length (f ∷ es))) [
    | true ↦ λ t. let h' = rw t at h in let same : f ≡ e = cc in (rw (t, same) refl, sym (subst (λ g. p ≡ g.0) same (eqb-true p f.0 t)), rw t (omega arith))
    | false ↦ λ t. let m = hit es e (rw t at h) in (rw t m.0, m.1, rw t (omega (arith, m.2)))
  ]) refl

  keys-remove : (es : List (ℕ × T)) → IsDistinct nat_eq (keys_of es) → keys_of (remove_entry (nat_eq p) es) ≡ others p (keys_of es)
  unfolding IsDistinct
  keys-remove [] h = refl
  keys-remove (e ∷ es) h = elim (cases_Bool (nat_eq p e.0)) [
    | inl same ↦ rw same (sym (others_apart p (keys_of es) (subst (λ k. Apart k (keys_of es)) (sym (eqb-true p e.0 same)) h.0)))
    | inr other ↦ rw other (ap (λ t. e.0 ∷ t) (keys-remove es h.1))
  ]

  stays : (es : List (ℕ × T)) (e : ℕ × T) → IsDistinct nat_eq (keys_of es) → lookup (nat_eq p) es ≡ Some e.1 → e.0 ≡ p
      → (q : ℕ) → cond (nat_eq q e.0) (Some e.1) (lookup (nat_eq q) (remove_entry (nat_eq p) es)) ≡ lookup (nat_eq q) es
  stays es e d found key q = elim (cases_Bool (nat_eq q e.0)) [
    | inl same ↦ let at : q ≡ p = eqb-true q e.0 same ∙ key in rw same (sym (subst (λ k. lookup (nat_eq k) es ≡ Some e.1) (sym at) found))
    | inr other ↦ rw (other, lookup-remove_entry nat_eq_equiv (nat_eq p) (one_key p) q es d)
        (elim (cases_Bool (nat_eq p q)) [
          | inl same ↦ let same' : q ≡ e.0 = sym (eqb-true p q same) ∙ sym key in let t = eq-eqb q e.0 same' in absurd cc
          | inr apart ↦ rw apart refl
        ])
  ]

  promoted_by : (cap : ℕ) (es : List (ℕ × T)) (o : Option (ℕ × T)) → lookup_entry (nat_eq p) es ≡ o → IsDistinct nat_eq (keys_of es) → length es ≤ cap
      → (keys_of (promoted (nat_eq p) es) ≡ least_recently_used cap (reverse (keys_of es) ++ cond (is_some (lookup (nat_eq p) es)) (p ∷ []) []))
      × (length (promoted (nat_eq p) es) ≡ length es)
      × ((q : ℕ) → lookup (nat_eq q) (promoted (nat_eq p) es) ≡ lookup (nat_eq q) es)
  promoted_by cap es None h d n =
      let m = missed es h in
      (rw (h, m.0) (sym (none_touched cap (keys_of es) d (omega (arith, length-keys_of es)))), rw h refl, λ q. rw h refl)
  promoted_by cap es (Some e) h d n =
      let m = hit es e h in
      let keys : e.0 ∷ keys_of (remove_entry (nat_eq p) es) ≡ p ∷ others p (keys_of es) = rw (m.1, keys-remove es d) refl in
      let size : length (p ∷ others p (keys_of es)) ≤ cap = rw (← keys-remove es d, length-keys_of (remove_entry (nat_eq p) es)) (omega (arith, m.2)) in (
        rw (h, m.0) (keys ∙ sym (one_touched cap (keys_of es) p d ∙ take_all cap _ size)),
        rw h (omega (arith, m.2)),
        λ q. rw h (stays es e d m.0 m.1 q),
      )

  no_entry : (es : List (ℕ × T)) → lookup (nat_eq p) es ≡ None → lookup_entry (nat_eq p) es ≡ None
  no_entry [] h = refl
  no_entry (e ∷ es) h = (elim (nat_eq p e.0) as (λ b. nat_eq p e.0 ≡ b → lookup_entry (nat_eq p) (e ∷ es) ≡ None) [
    | true ↦ λ t. let h' = rw t at h in absurd cc
    | false ↦ λ f. rw f (no_entry es (rw f at h))
  ]) refl

keys-take : {T : Type 0} (n : ℕ) (es : List (ℕ × T)) → keys_of (take n es) ≡ take n (keys_of es)
keys-take zero es = refl
keys-take (suc n) [] = refl
keys-take (suc n) (e ∷ es) = ap (λ t. e.0 ∷ t) (keys-take n es)

take-cons : {A : Type 0} (n : ℕ) (x : A) (xs : List A) → 0 < n → x ∷ take (n - 1) xs ≡ take n (x ∷ xs)
take-cons zero x xs h = absurd (omega arith)
take-cons (suc n) x xs h = let e : suc n - 1 ≡ n = omega arith in rw e refl

-- the places of a valid cache stay apart
valid_from : {T : Type 0} (es : List (ℕ × T)) (cap : ℕ) (touches : List ℕ) → keys_of es ≡ least_recently_used cap touches → 0 < cap → (IsDistinct nat_eq (keys_of es)) × (length es ≤ cap) × (0 < cap)
valid_from es cap touches e h =
    (rw e (are_distinct cap touches), (let n : length es ≡ length (least_recently_used cap touches) = sym (length-keys_of es) ∙ ap length e in omega (arith, n, length-take cap (most_recent (reverse touches)))), h)

-- what a valid cache is after a touch
pub record TouchStep {T : Type 0} (c : LruCache ℕ T) (p : ℕ) : Type 0 where
  pub places_are : keys_of (promoted (nat_eq p) c.entries) ≡ least_recently_used c.cap (reverse (keys_of c.entries) ++ cond (is_some (lookup (nat_eq p) c.entries)) (p ∷ []) [])
  pub items_stay : (q : ℕ) → lookup (nat_eq q) (promoted (nat_eq p) c.entries) ≡ lookup (nat_eq q) c.entries
  pub valid : IsValid nat_eq (lru_cache (promoted (nat_eq p) c.entries) c.cap)
  pub miss_stays : lookup (nat_eq p) c.entries ≡ None → promoted (nat_eq p) c.entries ≡ c.entries

miss_stays_by : {T : Type 0} (p : ℕ) (es : List (ℕ × T)) → lookup (nat_eq p) es ≡ None → promoted (nat_eq p) es ≡ es
miss_stays_by p es h = rw (no_entry p es h) refl

pub touch_step : {T : Type 0} (c : LruCache ℕ T) (p : ℕ) → IsValid nat_eq c → TouchStep c p
touch_step c p v =
    let step = promoted_by p c.cap c.entries (lookup_entry (nat_eq p) c.entries) refl v.0 v.1 in
    record { places_are = step.0; items_stay = step.2; miss_stays = miss_stays_by p c.entries; valid = valid_from (promoted (nat_eq p) c.entries) c.cap (reverse (keys_of c.entries) ++ cond (is_some (lookup (nat_eq p) c.entries)) (p ∷ []) []) step.0 v.2 }

-- and after the put of a place that it does not hold
pub record PutStep {T : Type 0} (c : LruCache ℕ T) (p : ℕ) (x : T) : Type 0 where
  pub entries_are : put_entries nat_eq c p x ≡ take c.cap ((p, x) ∷ c.entries)
  pub places_are : keys_of (put_entries nat_eq c p x) ≡ least_recently_used c.cap (reverse (keys_of c.entries) ++ p ∷ [])
  pub valid : IsValid nat_eq (lru_cache (put_entries nat_eq c p x) c.cap)

pub put_step : {T : Type 0} (c : LruCache ℕ T) (p : ℕ) (x : T) → IsValid nat_eq c → lookup (nat_eq p) c.entries ≡ None → PutStep c p x
put_step c p x v h =
    let none = no_entry p c.entries h in
    let entries : put_entries nat_eq c p x ≡ take c.cap ((p, x) ∷ c.entries) = rw none (take-cons c.cap (p, x) c.entries v.2) in
    let ks : keys_of (take c.cap ((p, x) ∷ c.entries)) ≡ least_recently_used c.cap (reverse (keys_of c.entries) ++ p ∷ []) =
    keys-take c.cap ((p, x) ∷ c.entries) ∙ ap (λ t. take c.cap (p ∷ t)) (sym (others_apart p (keys_of c.entries) (missed p c.entries none).1)) ∙ sym (one_touched c.cap (keys_of c.entries) p v.0) in
    let keys = ap keys_of entries ∙ ks in
    record { entries_are = entries; places_are = keys; valid = valid_from (put_entries nat_eq c p x) c.cap (reverse (keys_of c.entries) ++ p ∷ []) keys v.2 }

-- a cache is valid after a put that may fail
pub valid_after : {T R E : Type 0} (r : Result R E) (old new : LruCache ℕ T) (es : List (ℕ × T)) → OnOk r (new ≡ lru_cache es old.cap) → OnErr r (new ≡ old)
    → IsValid nat_eq old → IsValid nat_eq (lru_cache es old.cap) → old.cap ≤ 1024 → IsValid nat_eq new × (new.cap ≤ 1024)
valid_after (Ok x) old new es ok err was is few = rw ok (is, few)
valid_after (Err x) old new es ok err was is few = rw err (was, few)

lookup_take : {T : Type 0} (n q : ℕ) (es : List (ℕ × T)) (y : T) → lookup (nat_eq q) (take n es) ≡ Some y → lookup (nat_eq q) es ≡ Some y
lookup_take zero q es y h = absurd cc
lookup_take (suc n) q [] y h = absurd cc
lookup_take (suc n) q (e ∷ es) y h = (elim (nat_eq q e.0) as (λ b. nat_eq q e.0 ≡ b → lookup (nat_eq q) (e ∷ es) ≡ Some y) [
  | true ↦ λ t. rw t (rw t at h)
  | false ↦ λ f. rw f (lookup_take n q es y (rw f at h))
]) refl

-- the item that was put is held, and each other one was
pub put_shown : {T : Type 0} (cap p : ℕ) (x : T) (es : List (ℕ × T)) → 0 < cap → lookup (nat_eq p) (take cap ((p, x) ∷ es)) ≡ Some x
put_shown zero p x es h = absurd (omega arith)
put_shown (suc n) p x es h = rw (eq-eqb p p refl) refl

pub put_others : {T : Type 0} (cap p : ℕ) (x : T) (es : List (ℕ × T)) (q : ℕ) (y : T) → lookup (nat_eq q) (take cap ((p, x) ∷ es)) ≡ Some y → ((q ≡ p) × (y ≡ x)) ⊎ (lookup (nat_eq q) es ≡ Some y)
put_others zero p x es q y h = absurd cc
put_others (suc n) p x es q y h = (elim (nat_eq q p) as (λ b. nat_eq q p ≡ b → ((q ≡ p) × (y ≡ x)) ⊎ (lookup (nat_eq q) es ≡ Some y)) [
  | true ↦ λ t. let found = rw t at h in inl (eqb-true q p t, cc)
  | false ↦ λ f. inr (lookup_take n q es y (rw f at h))
]) refl

take_twice : (m : ℕ) (ks : List ℕ) → take m (take m ks) ≡ take m ks
take_twice zero ks = refl
take_twice (suc m) [] = refl
take_twice (suc m) (j ∷ ks) = ap (λ t. j ∷ t) (take_twice m ks)

take_others_same : (m n k : ℕ) (ks : List ℕ) → Apart k ks → nat_eq n k ≡ true → take m (others n (take (suc m) (k ∷ ks))) ≡ take m (others n (k ∷ ks))
take_others_same m n k ks d same =
    let apart : Apart n ks = subst (λ j. Apart j ks) (sym (eqb-true n k same)) d in
    rw (same, others_apart n (take m ks) (apart_take m n ks apart), others_apart n ks apart) (take_twice m ks)

take_others : (m n : ℕ) (ks : List ℕ) → IsDistinct nat_eq ks → take m (others n (take (suc m) ks)) ≡ take m (others n ks)
unfolding IsDistinct
take_others m n [] d = refl
take_others zero n (k ∷ ks) d = refl
take_others (suc m) n (k ∷ ks) d = elim (cases_Bool (nat_eq n k)) [
  | inl same ↦ take_others_same (suc m) n k ks d.0 same
  | inr other ↦ rw other (ap (λ t. k ∷ t) (take_others m n ks d.1))
]

-- one touch after others is one touch more
touched_then : (cap n : ℕ) (ts : List ℕ) → least_recently_used cap (reverse (least_recently_used cap ts) ++ n ∷ []) ≡ least_recently_used cap (ts ++ n ∷ [])
touched_then zero n ts = refl
touched_then (suc m) n ts =
    one_touched (suc m) (least_recently_used (suc m) ts) n (are_distinct (suc m) ts)
    ∙ ap (λ t. n ∷ t) (take_others m n (most_recent (reverse ts)) (distinct_most_recent (reverse ts)))
    ∙ sym (ap (λ t. take (suc m) (most_recent t)) (reverse-append ts (n ∷ [])))

-- and so are several
pub touched_further : (cap : ℕ) (first more : List ℕ) → least_recently_used cap (reverse (least_recently_used cap first) ++ more) ≡ least_recently_used cap (first ++ more)
touched_further cap first [] =
    none_touched cap (least_recently_used cap first) (are_distinct cap first) (within cap first) ∙ ap (least_recently_used cap) (sym (append-nil first))
touched_further cap first (n ∷ more) =
    ap (least_recently_used cap) (sym (append_assoc (reverse (least_recently_used cap first)) (n ∷ []) more))
    ∙ sym (touched_further cap (reverse (least_recently_used cap first) ++ n ∷ []) more)
    ∙ ap (λ held. least_recently_used cap (reverse held ++ more)) (touched_then cap n first)
    ∙ touched_further cap (first ++ n ∷ []) more
    ∙ ap (least_recently_used cap) (append_assoc first (n ∷ []) more)

-- the places of a valid cache stay without a touch
pub untouched : {T : Type 0} (c : LruCache ℕ T) → IsValid nat_eq c → least_recently_used c.cap (reverse (keys_of c.entries) ++ []) ≡ keys_of c.entries
untouched c v = none_touched c.cap (keys_of c.entries) v.0 (omega (arith, length-keys_of c.entries, v.1))

-- the place in the first position is held, and is promoted already
first_by : {T : Type 0} (p : ℕ) (es : List (ℕ × T)) → slice_get (keys_of es) 0 ≡ Some p → (true ≡ is_some (lookup (nat_eq p) es)) × (promoted (nat_eq p) es ≡ es)
first_by p [] h = absurd cc
first_by p (e ∷ es) h = let same : p ≡ e.0 = cc in rw (eq-eqb p e.0 same) (refl, refl)

-- the first position has its place
pub first_key : {T : Type 0} (es : List (ℕ × T)) (e : ℕ × T) (p : ℕ) → Some e ≡ slice_get es 0 → e.0 ≡ p → slice_get (keys_of es) 0 ≡ Some p
first_key [] e p h key = absurd cc
first_key (f ∷ es) e p h key = let same : e ≡ f = cc in sym (ap (λ g. Some g.0) same) ∙ ap (λ k. Some k) key

-- its item is the one in the first position
pub first_item : {T : Type 0} (es : List (ℕ × T)) (e : ℕ × T) (p : ℕ) → Some e ≡ slice_get es 0 → e.0 ≡ p → Some e.1 ≡ lookup (nat_eq p) es
first_item [] e p h key = absurd cc
first_item (f ∷ es) e p h key = let same : e ≡ f = cc in let found : p ≡ f.0 = sym key ∙ ap (λ g. g.0) same in rw (eq-eqb p f.0 found) (ap (λ g. Some g.1) same)

-- a touch of the place in the first position moves nothing
pub first_stays : {T : Type 0} (c : LruCache ℕ T) (e : ℕ × T) (p : ℕ) → IsValid nat_eq c → Some e ≡ slice_get c.entries 0 → e.0 ≡ p → keys_of c.entries ≡ least_recently_used c.cap (reverse (keys_of c.entries) ++ p ∷ [])
first_stays c e p v h key =
    let first = first_by p c.entries (first_key c.entries e p h key) in
    ap keys_of (sym first.1) ∙ (touch_step c p v).places_are ∙ ap (λ b. least_recently_used c.cap (reverse (keys_of c.entries) ++ cond b (p ∷ []) [])) (sym first.0)
