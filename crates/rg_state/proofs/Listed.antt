-- Lists of what stands at nodes and keys, rising by node and key.
use Rattle.std.proofs.Common.{◌≡◌, ℕ, zero, suc, ◌==◌, ◌&&◌, cond, Bool, true, false, List, [], ◌∷◌, refl, ap, sym, ◌∙◌, inl, inr, ◌⊎◌, Option, Some, None, subst, arith}
use Rattle.std.specs.Prelude.{bytes_eq}
use Rattle.std.specs.List.{All, Contains}
use Rattle.std.specs.Cmp.{first_so, second_so}
use Rattle.std.specs.Cmp.Lexicographic.{slice_cmp, bytes_decides, nat_list_cmp_total}
use Rattle.std.specs.Ordering.{nat_cmp, is_lt}
use Rattle.std.specs.declared.cmp.Ordering.{Ordering}
use Rattle.std.specs.declared.cmp.Ordering.TheVariants.{Less, Equal, Greater}
use Rattle.std.proofs.lemmas.Bool.Decides.{Decides-eqb}
use Rattle.std.proofs.lemmas.List.Elements.{All-nil, All-cons, All-weaker, Contains-append_left, Contains-append_right}
use Rattle.rg_state.specs.Rows.{At, IsBelow, AreRising, ListsOf, is_at, at_in}

is_less : (order : Ordering) → is_lt order ≡ true → order ≡ Less
is_less Less is = refl
is_less Equal is = cc
is_less Greater is = cc

less_greater : Less ≡ Greater → ⊥
less_greater e = cc

both_so : (a b : Bool) → a ≡ true → b ≡ true → (a && b) ≡ true
both_so true b one two = two
both_so false b one two = one

is_false : (b : Bool) → (b ≡ true → ⊥) → b ≡ false
is_false true never = absurd (never refl)
is_false false never = refl

-- one before another, before a third
pub joined : {X Y Z : Type 0} (a : At X) (b : At Y) (c : At Z) → IsBelow a b → IsBelow b c → IsBelow a c
joined a b c (inl less) (inl more) = inl (omega arith)
joined a b c (inl less) (inr more) = inl (omega (arith, more.0))
joined a b c (inr less) (inl more) = inl (omega (arith, less.0))
joined a b c (inr less) (inr more) = inr (less.0 ∙ more.0, ap is_lt (nat_list_cmp_total.trans a.key b.key c.key (is_less _ less.1) (is_less _ more.1)))

not_less_self : (key : List ℕ) → is_lt (slice_cmp nat_cmp key key) ≡ true → ⊥
not_less_self key less = let is : slice_cmp nat_cmp key key ≡ Less = is_less _ less in less_greater (rw is at (nat_list_cmp_total.antisymm key key))

-- none comes before one at its own node and key
pub not_same : {X Y : Type 0} (a : At X) (b : At Y) → IsBelow a b → a.node ≡ b.node → a.key ≡ b.key → ⊥
not_same a b (inl less) node key = omega (arith, less, node)
not_same a b (inr less) node key = not_less_self b.key (subst (λ (k : List ℕ). is_lt (slice_cmp nat_cmp k b.key) ≡ true) key less.1)

module _ {X : Type 0} where
  first_or : (entry : At X) (entries : List (At X)) (other : At X) → Contains (entry ∷ entries) other → (entry ≡ other) ⊎ Contains entries other
  first_or entry entries other (zero, within, is) = inl is
  first_or entry entries other (suc k, within, is) = inr (k, omega arith, is)

  here : (entry : At X) (entries : List (At X)) → Contains (entry ∷ entries) entry
  here entry entries = Contains-append_left (entry ∷ []) entries entry (0, omega arith, refl)

  there : (entry : At X) (entries : List (At X)) (other : At X) → Contains entries other → Contains (entry ∷ entries) other
  there entry entries other among = Contains-append_right (entry ∷ []) entries other among

  not_self : (a : At X) → IsBelow a a → ⊥
  not_self a less = not_same a a less refl refl

  pub tail_rising : (entry : At X) (entries : List (At X)) → AreRising (entry ∷ entries) → AreRising entries
  tail_rising entry [] rising = tt
  tail_rising entry (next ∷ entries) rising = rising.1

  below_by : (entry next : At X) (entries : List (At X)) (other : At X) → IsBelow entry next → (Contains entries other → IsBelow next other) → (next ≡ other) ⊎ Contains entries other → IsBelow entry other
  below_by entry next entries other less rest (inl same) = subst (IsBelow entry) same less
  below_by entry next entries other less rest (inr among) = joined entry next other less (rest among)

  below_all : (entry : At X) (entries : List (At X)) (other : At X) → AreRising (entry ∷ entries) → Contains entries other → IsBelow entry other
  below_all entry [] other rising among = absurd (omega (arith, among.1))
  below_all entry (next ∷ entries) other rising among = below_by entry next entries other rising.0 (below_all next entries other rising.1) (first_or next entries other among)

  -- the first one comes before all others
  pub rises_above : (entry : At X) (entries : List (At X)) → AreRising (entry ∷ entries) → All (IsBelow entry) entries
  rises_above entry [] rising = All-nil (IsBelow entry)
  rises_above entry (next ∷ entries) rising =
      All-cons (IsBelow entry) next entries rising.0 (All-weaker (IsBelow next) (IsBelow entry) (λ other less. joined entry next other rising.0 less) entries (rises_above next entries rising.1))

  heads : (e f : At X) (es fs : List (At X)) → AreRising (e ∷ es) → AreRising (f ∷ fs) → (f ≡ e) ⊎ Contains fs e → (e ≡ f) ⊎ Contains es f → e ≡ f
  heads e f es fs rising others (inl same) second = sym same
  heads e f es fs rising others (inr among) (inl same) = same
  heads e f es fs rising others (inr among) (inr within) = absurd (not_self e (joined e f e (below_all e es f rising within) (below_all f fs e others among)))

  -- one of the later ones isn't the first
  later : (e f : At X) (es fs : List (At X)) (x : At X) → e ≡ f → AreRising (e ∷ es) → Contains es x → (f ≡ x) ⊎ Contains fs x → Contains fs x
  later e f es fs x same rising among (inl is) = absurd (not_self e (subst (IsBelow e) (sym (same ∙ is)) (below_all e es x rising among)))
  later e f es fs x same rising among (inr within) = within

  one_list : (es fs : List (At X)) → AreRising es → AreRising fs → ((x : At X) → Contains es x → Contains fs x) → ((x : At X) → Contains fs x → Contains es x) → es ≡ fs
  one_list [] [] rising others to from = refl
  one_list [] (f ∷ fs) rising others to from = absurd (omega (arith, (from f (here f fs)).1))
  one_list (e ∷ es) [] rising others to from = absurd (omega (arith, (to e (here e es)).1))
  one_list (e ∷ es) (f ∷ fs) rising others to from =
      let same : e ≡ f = heads e f es fs rising others (first_or f fs e (to e (here e es))) (first_or e es f (from f (here f fs))) in
      ap (λ (l : List (At X)). e ∷ l)
      (one_list es fs (tail_rising e es rising) (tail_rising f fs others)
      (λ x among. later e f es fs x same rising among (first_or f fs x (to x (there e es x among))))
      (λ x among. later f e fs es x (sym same) others among (first_or e es x (from x (there f fs x among)))))
      ∙ ap (λ (x : At X). x ∷ fs) same

  -- what stands at the nodes and keys is in one list
  pub lists_one : (at other : ℕ → List ℕ → Option X) (es fs : List (At X)) → ((node : ℕ) (key : List ℕ) → other node key ≡ at node key) → ListsOf at es → ListsOf other fs → es ≡ fs
  lists_one at other es fs same first second =
      one_list es fs first.rising second.rising
      (λ x among. (second.rows x.node x.key x.held).0 (same x.node x.key ∙ (first.rows x.node x.key x.held).1 among))
      (λ x among. (first.rows x.node x.key x.held).0 (sym (same x.node x.key) ∙ (second.rows x.node x.key x.held).1 among))

  -- an entry by its node and key

  pub place_is : (node : ℕ) (key : List ℕ) (entry : At X) → is_at node key entry ≡ true → (entry.node ≡ node) × (entry.key ≡ key)
  place_is node key entry is = ((Decides-eqb entry.node node).0 (first_so _ _ is), (bytes_decides entry.key key).0 (second_so (entry.node == node) _ is))

  pub is_place : (node : ℕ) (key : List ℕ) (entry : At X) → entry.node ≡ node → entry.key ≡ key → is_at node key entry ≡ true
  is_place node key entry at is = both_so (entry.node == node) (bytes_eq entry.key key) ((Decides-eqb entry.node node).1 at) ((bytes_decides entry.key key).1 is)

  entry_is : (entry : At X) (node : ℕ) (key : List ℕ) (held : X) → entry.node ≡ node → entry.key ≡ key → entry.held ≡ held → entry ≡ record { node = node; key = key; held = held }
  entry_is entry node key held one two three =
      ap (λ (n : ℕ). record { node = n; key = entry.key; held = entry.held }) one ∙ ap (λ (k : List ℕ). record { node = node; key = k; held = entry.held }) two ∙ ap (λ (h : X). record { node = node; key = key; held = h }) three

  found_by : (entry : At X) (entries : List (At X)) (node : ℕ) (key : List ℕ) (held : X) (b : Bool) → is_at node key entry ≡ b → cond b (Some entry.held) (at_in entries node key) ≡ Some held
      → (at_in entries node key ≡ Some held → Contains entries (record { node = node; key = key; held = held })) → Contains (entry ∷ entries) (record { node = node; key = key; held = held })
  found_by entry entries node key held true is found rest =
      let at = place_is node key entry is in
      let same : entry.held ≡ held = cc in
      subst (λ (e : At X). Contains (entry ∷ entries) e) (entry_is entry node key held at.0 at.1 same) (here entry entries)
  found_by entry entries node key held false is found rest = there entry entries _ (rest found)

  pub found_in : (entries : List (At X)) (node : ℕ) (key : List ℕ) (held : X) → at_in entries node key ≡ Some held → Contains entries (record { node = node; key = key; held = held })
  found_in [] node key held found = cc
  found_in (entry ∷ entries) node key held found = found_by entry entries node key held (is_at node key entry) refl found (found_in entries node key held)

  -- another entry is passed over
  pub passed_over : (entry : At X) (entries : List (At X)) (node : ℕ) (key : List ℕ) → (is_at node key entry ≡ true → ⊥) → at_in (entry ∷ entries) node key ≡ at_in entries node key
  passed_over entry entries node key apart = ap (λ b. cond b (Some entry.held) (at_in entries node key)) (is_false (is_at node key entry) apart)

  pub stands_first : (entry : At X) (entries : List (At X)) (node : ℕ) (key : List ℕ) → is_at node key entry ≡ true → at_in (entry ∷ entries) node key ≡ Some entry.held
  stands_first entry entries node key is = ap (λ b. cond b (Some entry.held) (at_in entries node key)) is

  below_apart : (entry other : At X) → IsBelow entry other → is_at other.node other.key entry ≡ true → ⊥
  below_apart entry other less is = let at = place_is other.node other.key entry is in not_same entry other less at.0 at.1

  at_by : (entry : At X) (entries : List (At X)) (other : At X) → AreRising (entry ∷ entries) → (Contains entries other → at_in entries other.node other.key ≡ Some other.held) → (entry ≡ other) ⊎ Contains entries other
      → at_in (entry ∷ entries) other.node other.key ≡ Some other.held
  at_by entry entries other rising rest (inl same) =
      subst (λ (e : At X). at_in (entry ∷ entries) e.node e.key ≡ Some e.held) same (stands_first entry entries entry.node entry.key (is_place entry.node entry.key entry refl refl))
  at_by entry entries other rising rest (inr among) =
      passed_over entry entries other.node other.key (below_apart entry other (below_all entry entries other rising among)) ∙ rest among

  pub at_there : (entries : List (At X)) (other : At X) → AreRising entries → Contains entries other → at_in entries other.node other.key ≡ Some other.held
  at_there [] other rising among = absurd (omega (arith, among.1))
  at_there (entry ∷ entries) other rising among = at_by entry entries other rising (at_there entries other (tail_rising entry entries rising)) (first_or entry entries other among)

  -- a list that rises is that of what stands in it
  pub lists_at : (entries : List (At X)) → AreRising entries → ListsOf (at_in entries) entries
  lists_at entries rising = record {
    rising = rising;
    rows = λ node key held. (λ found. found_in entries node key held found, λ among. at_there entries (record { node = node; key = key; held = held }) rising among);
  }

  none_at : (at : ℕ → List ℕ → Option X) (entries : List (At X)) (node : ℕ) (key : List ℕ) → ListsOf at entries → (row other : Option X) → at node key ≡ row → at_in entries node key ≡ other → row ≡ other
  none_at at entries node key lists None None is there = refl
  none_at at entries node key lists None (Some held) is there =
      let some : at node key ≡ Some held = (lists.rows node key held).1 (found_in entries node key held there) in
      let never : None ≡ Some held = sym is ∙ some in cc
  none_at at entries node key lists (Some held) other is there =
      sym (at_there entries (record { node = node; key = key; held = held }) lists.rising ((lists.rows node key held).0 is)) ∙ there

  -- and what stands at a node and a key is what is in the list of it
  pub at_lists : (at : ℕ → List ℕ → Option X) (entries : List (At X)) (node : ℕ) (key : List ℕ) → ListsOf at entries → at node key ≡ at_in entries node key
  at_lists at entries node key lists = none_at at entries node key lists (at node key) (at_in entries node key) refl refl
