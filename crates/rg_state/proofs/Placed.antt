-- The rows of one key after a write, a new one and a removal.
use Rattle.std.proofs.Common.{◌≡◌, ◌∙◌, ℕ, zero, suc, ◌<◌, ◌==◌, ◌&&◌, not, cond, Bool, true, false, List, [], ◌∷◌, ◌++◌, length, get_or, set, take, drop, refl, ap, sym, subst, arith, true≢false, length-set, drop-cons, drop_of_length-le, ◌+◌, ◌-◌, ◌≤◌}
use Rattle.std.specs.List.{swap_remove}
use Rattle.std.specs.Cmp.{first_so}
use Rattle.std.proofs.lemmas.Bool.Decides.{Decides-eqb}
use Rattle.rg_state.specs.CellLaws.{sound_rest, fair_first}
use Rattle.rg_state.specs.Kepts.{unseen, seen, seen_at, stands_in, is_fair, are_sound, OthersKept, IsKeptSame}
use Rattle.rg_state.specs.declared.key_rows.Kept.{Kept}

abbrev Sound : List Kept → Type 0
Sound ks = are_sound ks ≡ true

is_false : (b : Bool) → (b ≡ true → ⊥) → b ≡ false
is_false true never = absurd (never refl)
is_false false never = refl

eq_true : (n : ℕ) → (n == n) ≡ true
eq_true n = (Decides-eqb n n).1 refl

eq_false : (n m : ℕ) → (n ≡ m → ⊥) → (n == m) ≡ false
eq_false n m apart = is_false (n == m) (λ e. apart ((Decides-eqb n m).0 e))

not_true : (b : Bool) → not b ≡ true → b ≡ false
not_true true is = cc
not_true false is = refl

not_false : (b : Bool) → b ≡ false → not b ≡ true
not_false b is = ap not is

pub alone : (k : Kept) (ks : List Kept) → Sound (k ∷ ks) → stands_in ks k.node ≡ false
alone k ks sound = not_true (stands_in ks k.node) (first_so _ _ sound)

both : (a b c : Bool) → a ≡ true → b ≡ true → c ≡ true → (a && (b && c)) ≡ true
both true true true one two three = refl
both true true false one two three = three
both true false c one two three = two
both false b c one two three = one

sound_with : (k : Kept) (ks : List Kept) → stands_in ks k.node ≡ false → is_fair k ≡ true → Sound ks → Sound (k ∷ ks)
sound_with k ks none fair sound = both _ _ _ (not_false (stands_in ks k.node) none) fair sound

-- what is said of nodes, by a list of rows

skipped : (k : Kept) (ks : List Kept) (n : ℕ) → (k.node ≡ n → ⊥) → seen_at (k ∷ ks) n ≡ seen_at ks n
skipped k ks n apart = ap (λ b. cond b (seen k) (seen_at ks n)) (eq_false k.node n apart)

stands_skipped : (k : Kept) (ks : List Kept) (n : ℕ) → (k.node ≡ n → ⊥) → stands_in (k ∷ ks) n ≡ stands_in ks n
stands_skipped k ks n apart = ap (λ b. cond b true (stands_in ks n)) (eq_false k.node n apart)

pub stands : (k : Kept) (ks : List Kept) → seen_at (k ∷ ks) k.node ≡ seen k
stands k ks = ap (λ b. cond b (seen k) (seen_at ks k.node)) (eq_true k.node)

stands_here : (k : Kept) (ks : List Kept) → stands_in (k ∷ ks) k.node ≡ true
stands_here k ks = ap (λ b. cond b true (stands_in ks k.node)) (eq_true k.node)

unlike : (k : Kept) (ks : List Kept) (n : ℕ) → stands_in (k ∷ ks) n ≡ false → k.node ≡ n → ⊥
unlike k ks n none same = true≢false (sym (stands_here k ks) ∙ ap (stands_in (k ∷ ks)) same ∙ none)

-- nothing is seen of a node of which nothing is kept
pub none_seen : (ks : List Kept) (n : ℕ) → stands_in ks n ≡ false → seen_at ks n ≡ unseen
none_seen [] n none = refl
none_seen (k ∷ ks) n none =
    let apart = unlike k ks n none in
    skipped k ks n apart ∙ none_seen ks n (sym (stands_skipped k ks n apart) ∙ none)

-- the one in a place stands there
there_place : (ks : List Kept) (p : ℕ) (k : Kept) → p < length ks → k ≡ get_or ks p k → stands_in ks k.node ≡ true
there_place [] p k within is = absurd (omega arith)
there_place (x ∷ ks) zero k within is = subst (λ y. stands_in (x ∷ ks) y.node ≡ true) (sym is) (stands_here x ks)
there_place (x ∷ ks) (suc p) k within is = by (x.node == k.node) (there_place ks p k (omega arith) is)
  where
    by : (b : Bool) → stands_in ks k.node ≡ true → cond b true (stands_in ks k.node) ≡ true
    by true rest = refl
    by false rest = rest

-- a later one's node isn't the first one's
apart_from : (x : Kept) (ks : List Kept) (p : ℕ) (k : Kept) → Sound (x ∷ ks) → p < length ks → k ≡ get_or ks p k → x.node ≡ k.node → ⊥
apart_from x ks p k sound within is same = true≢false (sym (there_place ks p k within is) ∙ ap (stands_in ks) (sym same) ∙ alone x ks sound)

-- the one in a place is its node's
pub at_place : (ks : List Kept) (p : ℕ) (k : Kept) → Sound ks → p < length ks → k ≡ get_or ks p k → seen_at ks k.node ≡ seen k
at_place [] p k sound within is = absurd (omega arith)
at_place (x ∷ ks) zero k sound within is = subst (λ y. seen_at (x ∷ ks) y.node ≡ seen y) (sym is) (stands x ks)
at_place (x ∷ ks) (suc p) k sound within is =
    skipped x ks k.node (apart_from x ks p k sound (omega arith) is) ∙ at_place ks p k (sound_rest x ks sound) (omega arith) is

pub fair_at : (ks : List Kept) (p : ℕ) (k : Kept) → Sound ks → p < length ks → k ≡ get_or ks p k → is_fair k ≡ true
fair_at [] p k sound within is = absurd (omega arith)
fair_at (x ∷ ks) zero k sound within is = subst (λ y. is_fair y ≡ true) (sym is) (fair_first x ks sound)
fair_at (x ∷ ks) (suc p) k sound within is = fair_at ks p k (sound_rest x ks sound) (omega arith) is

pub beside_set : (ks : List Kept) (p : ℕ) (old new : Kept) (n : ℕ) → old ≡ get_or ks p old → new.node ≡ old.node → (n ≡ new.node → ⊥) → seen_at (set ks p new) n ≡ seen_at ks n
beside_set [] p old new n is same apart = refl
beside_set (x ∷ ks) zero old new n is same apart =
    skipped new ks n (λ e. apart (sym e)) ∙ sym (skipped x ks n (λ e. apart (sym e ∙ sym (same ∙ ap (λ k. k.node) is))))
beside_set (x ∷ ks) (suc p) old new n is same apart = ap (cond (x.node == n) (seen x)) (beside_set ks p old new n is same apart)

stands_set : (ks : List Kept) (p : ℕ) (old new : Kept) (n : ℕ) → old ≡ get_or ks p old → new.node ≡ old.node → stands_in (set ks p new) n ≡ stands_in ks n
stands_set [] p old new n is same = refl
stands_set (x ∷ ks) zero old new n is same = ap (λ m. cond (m == n) true (stands_in ks n)) (same ∙ ap (λ k. k.node) is)
stands_set (x ∷ ks) (suc p) old new n is same = ap (cond (x.node == n) true) (stands_set ks p old new n is same)

pub sound_set : (ks : List Kept) (p : ℕ) (old new : Kept) → Sound ks → old ≡ get_or ks p old → new.node ≡ old.node → is_fair new ≡ true → Sound (set ks p new)
sound_set [] p old new sound is same fair = refl
sound_set (x ∷ ks) zero old new sound is same fair =
    sound_with new ks (ap (stands_in ks) (same ∙ ap (λ k. k.node) is) ∙ alone x ks sound) fair (sound_rest x ks sound)
sound_set (x ∷ ks) (suc p) old new sound is same fair =
    sound_with x (set ks p new) (stands_set ks p old new x.node is same ∙ alone x ks sound) (fair_first x ks sound) (sound_set ks p old new (sound_rest x ks sound) is same fair)

-- it is read where it was written, also where it isn't worth keeping
pub here_set : (ks : List Kept) (p : ℕ) (old new : Kept) → Sound ks → p < length ks → old ≡ get_or ks p old → new.node ≡ old.node → seen_at (set ks p new) new.node ≡ seen new
here_set [] p old new sound within is same = absurd (omega arith)
here_set (x ∷ ks) zero old new sound within is same = stands new ks
here_set (x ∷ ks) (suc p) old new sound within is same =
    skipped x (set ks p new) new.node (λ e. apart_from x ks p old sound (omega arith) is (e ∙ same)) ∙ here_set ks p old new (sound_rest x ks sound) (omega arith) is same

-- one more

pub here_pushed : (ks : List Kept) (new : Kept) → stands_in ks new.node ≡ false → seen_at (ks ++ new ∷ []) new.node ≡ seen new
here_pushed [] new none = stands new []
here_pushed (k ∷ ks) new none =
    let apart = unlike k ks new.node none in
    skipped k (ks ++ new ∷ []) new.node apart ∙ here_pushed ks new (sym (stands_skipped k ks new.node apart) ∙ none)

pub beside_pushed : (ks : List Kept) (new : Kept) (n : ℕ) → (n ≡ new.node → ⊥) → seen_at (ks ++ new ∷ []) n ≡ seen_at ks n
beside_pushed [] new n apart = skipped new [] n (λ e. apart (sym e))
beside_pushed (k ∷ ks) new n apart = ap (cond (k.node == n) (seen k)) (beside_pushed ks new n apart)

stands_pushed : (ks : List Kept) (new : Kept) (n : ℕ) → (n ≡ new.node → ⊥) → stands_in (ks ++ new ∷ []) n ≡ stands_in ks n
stands_pushed [] new n apart = stands_skipped new [] n (λ e. apart (sym e))
stands_pushed (k ∷ ks) new n apart = ap (cond (k.node == n) true) (stands_pushed ks new n apart)

pub sound_pushed : (ks : List Kept) (new : Kept) → Sound ks → stands_in ks new.node ≡ false → is_fair new ≡ true → Sound (ks ++ new ∷ [])
sound_pushed [] new sound none fair = sound_with new [] refl fair refl
sound_pushed (k ∷ ks) new sound none fair =
    let apart = unlike k ks new.node none in
    sound_with k (ks ++ new ∷ []) (stands_pushed ks new k.node apart ∙ alone k ks sound) (fair_first k ks sound)
    (sound_pushed ks new (sound_rest k ks sound) (sym (stands_skipped k ks new.node apart) ∙ none) fair)

-- one fewer: the last one comes to its place

-- one row in front of another, the other way around
module _ (a b : Kept) (ks : List Kept) where
  turned_stands : (n : ℕ) → stands_in (a ∷ b ∷ ks) n ≡ stands_in (b ∷ a ∷ ks) n
  turned_stands n = by (a.node == n) (b.node == n)
    where
      by : (at_a at_b : Bool) → cond at_a true (cond at_b true (stands_in ks n)) ≡ cond at_b true (cond at_a true (stands_in ks n))
      by true true = refl
      by true false = refl
      by false at_b = refl

  turned_seen : (n : ℕ) → (a.node ≡ b.node → ⊥) → seen_at (a ∷ b ∷ ks) n ≡ seen_at (b ∷ a ∷ ks) n
  turned_seen n apart = by (a.node == n) (b.node == n) refl refl
    where
      by : (at_a at_b : Bool) → (a.node == n) ≡ at_a → (b.node == n) ≡ at_b → cond at_a (seen a) (cond at_b (seen b) (seen_at ks n)) ≡ cond at_b (seen b) (cond at_a (seen a) (seen_at ks n))
      by true true one two = absurd (apart ((Decides-eqb a.node n).0 one ∙ sym ((Decides-eqb b.node n).0 two)))
      by true false one two = refl
      by false at_b one two = refl

  turned_apart : Sound (a ∷ b ∷ ks) → a.node ≡ b.node → ⊥
  turned_apart sound same = unlike b ks a.node (alone a (b ∷ ks) sound) (sym same)

  turned_sound : Sound (a ∷ b ∷ ks) → Sound (b ∷ a ∷ ks)
  turned_sound sound =
      let rest = sound_rest a (b ∷ ks) sound in
      let apart = turned_apart sound in
      let free : stands_in ks a.node ≡ false = sym (stands_skipped b ks a.node (λ e. apart (sym e))) ∙ alone a (b ∷ ks) sound in
      sound_with b (a ∷ ks) (stands_skipped a ks b.node apart ∙ alone b ks rest) (fair_first b ks rest) (sound_with a ks free (fair_first a (b ∷ ks) sound) (sound_rest b ks rest))

-- The rows that are left are, with the one that goes in front of them, of the same nodes as before, and show the same of each.
record Without (k : Kept) (ks gone : List Kept) : Type 0 where
  nodes : (n : ℕ) → stands_in ks n ≡ stands_in (k ∷ gone) n
  rows : (n : ℕ) → seen_at ks n ≡ seen_at (k ∷ gone) n
  sound : Sound (k ∷ gone)

-- behind one more row
without_later : (x k : Kept) (ks gone : List Kept) → Sound (x ∷ ks) → Without k ks gone → Without k (x ∷ ks) (x ∷ gone)
without_later x k ks gone sound without =
    let first : Sound (x ∷ k ∷ gone) = sound_with x (k ∷ gone) (sym (without.nodes x.node) ∙ alone x ks sound) (fair_first x ks sound) without.sound in
    record {
      nodes = λ n. ap (cond (x.node == n) true) (without.nodes n) ∙ turned_stands x k gone n;
      rows = λ n. ap (cond (x.node == n) (seen x)) (without.rows n) ∙ turned_seen x k gone n (turned_apart x k gone first);
      sound = turned_sound x k gone first;
    }

-- the last one goes
without_last : (ks : List Kept) (k : Kept) → Sound (ks ++ k ∷ []) → Without k (ks ++ k ∷ []) ks
without_last [] k sound = record { nodes = λ n. refl; rows = λ n. refl; sound = sound }
without_last (x ∷ ks) k sound = without_later x k (ks ++ k ∷ []) ks sound (without_last ks k (sound_rest x (ks ++ k ∷ []) sound))

-- the first one goes, and the last one comes to its place
without_first : (x k : Kept) (ks gone : List Kept) → Sound (x ∷ ks) → Without k ks gone → Without x (x ∷ ks) (k ∷ gone)
without_first x k ks gone sound without = record {
  nodes = λ n. ap (cond (x.node == n) true) (without.nodes n);
  rows = λ n. ap (cond (x.node == n) (seen x)) (without.rows n);
  sound = sound_with x (k ∷ gone) (sym (without.nodes x.node) ∙ alone x ks sound) (fair_first x ks sound) without.sound;
}

-- a list is all but its last one, and then that
split_last : (y : Kept) (ks : List Kept) (d : Kept) → y ∷ ks ≡ take (length ks) (y ∷ ks) ++ get_or (y ∷ ks) (length ks) d ∷ []
split_last y [] d = refl
split_last y (z ∷ ks) d = ap (λ rest. y ∷ rest) (split_last z ks d)

-- what is left, by the number of rows behind the first one
abbrev moved : Kept → List Kept → ℕ → Kept → List Kept
moved x ks p d = take (length ks) (set (x ∷ ks) p (get_or (x ∷ ks) (length ks) d))

is_moved : (x : Kept) (ks : List Kept) (p : ℕ) (d : Kept) → swap_remove (x ∷ ks) p d ≡ moved x ks p d
is_moved x ks p d =
    let fewer : length (x ∷ ks) - 1 ≡ length ks = omega arith in
    ap (λ n. take n (set (x ∷ ks) p (get_or (x ∷ ks) n d))) fewer

without_moved : (x : Kept) (ks : List Kept) (p : ℕ) (d k : Kept) → Sound (x ∷ ks) → p < length (x ∷ ks) → k ≡ get_or (x ∷ ks) p k → Without k (x ∷ ks) (moved x ks p d)
without_moved x [] zero d k sound within is = subst (λ k. Without k (x ∷ []) []) (sym is) (without_last [] x sound)
without_moved x [] (suc p) d k sound within is = absurd (omega arith)
without_moved x (y ∷ ks) zero d k sound within is =
    let front = take (length ks) (y ∷ ks) in
    let last = get_or (y ∷ ks) (length ks) d in
    let split = split_last y ks d in
    let rest : Without last (y ∷ ks) front = subst (λ l. Without last l front) (sym split) (without_last front last (subst Sound split (sound_rest x (y ∷ ks) sound))) in
    subst (λ k. Without k (x ∷ y ∷ ks) (last ∷ front)) (sym is) (without_first x last (y ∷ ks) front sound rest)
without_moved x (y ∷ ks) (suc p) d k sound within is =
    without_later x k (y ∷ ks) (moved y ks p d) sound (without_moved y ks p d k (sound_rest x (y ∷ ks) sound) (omega arith) is)

without_removed : (ks : List Kept) (p : ℕ) (d k : Kept) → Sound ks → p < length ks → k ≡ get_or ks p k → Without k ks (swap_remove ks p d)
without_removed [] p d k sound within is = absurd (omega arith)
without_removed (x ∷ ks) p d k sound within is = subst (Without k (x ∷ ks)) (sym (is_moved x ks p d)) (without_moved x ks p d k sound within is)

-- what is in front of the place stays
front_moved : (x : Kept) (ks : List Kept) (p : ℕ) (d : Kept) → p < length (x ∷ ks) → take p (moved x ks p d) ≡ take p (x ∷ ks)
front_moved x ks zero d within = refl
front_moved x [] (suc p) d within = absurd (omega arith)
front_moved x (y ∷ ks) (suc p) d within = ap (λ rest. x ∷ rest) (front_moved y ks p d (omega arith))

pub front_removed : (ks : List Kept) (p : ℕ) (d : Kept) → p < length ks → take p (swap_remove ks p d) ≡ take p ks
front_removed [] p d within = absurd (omega arith)
front_removed (x ∷ ks) p d within = ap (take p) (is_moved x ks p d) ∙ front_moved x ks p d within

-- what stood in its place doesn't matter
set_last : (ks : List Kept) (p n : ℕ) (new d : Kept) → take n (set (set ks p new) p (get_or (set ks p new) n d)) ≡ take n (set ks p (get_or ks n d))
set_last [] zero n new d = refl
set_last [] (suc p) n new d = refl
set_last (x ∷ ks) zero zero new d = refl
set_last (x ∷ ks) zero (suc n) new d = refl
set_last (x ∷ ks) (suc p) zero new d = refl
set_last (x ∷ ks) (suc p) (suc n) new d = ap (λ rest. x ∷ rest) (set_last ks p n new d)

pub remove_set : (ks : List Kept) (p : ℕ) (new d : Kept) → swap_remove (set ks p new) p d ≡ swap_remove ks p d
remove_set ks p new d = ap (λ n. take (n - 1) (set (set ks p new) p (get_or (set ks p new) (n - 1) d))) (length-set ks p new) ∙ set_last ks p (length ks - 1) new d

pub beside_removed : (ks : List Kept) (p : ℕ) (d old : Kept) (n : ℕ) → Sound ks → p < length ks → old ≡ get_or ks p old → (n ≡ old.node → ⊥) → seen_at (swap_remove ks p d) n ≡ seen_at ks n
beside_removed ks p d old n sound within is apart =
    sym ((without_removed ks p d old sound within is).rows n ∙ skipped old (swap_remove ks p d) n (λ e. apart (sym e)))

pub here_removed : (ks : List Kept) (p : ℕ) (d old : Kept) → Sound ks → p < length ks → old ≡ get_or ks p old → seen_at (swap_remove ks p d) old.node ≡ unseen
here_removed ks p d old sound within is =
    none_seen (swap_remove ks p d) old.node (alone old (swap_remove ks p d) (without_removed ks p d old sound within is).sound)

pub sound_removed : (ks : List Kept) (p : ℕ) (d old : Kept) → Sound ks → p < length ks → old ≡ get_or ks p old → Sound (swap_remove ks p d)
sound_removed ks p d old sound within is = sound_rest old (swap_remove ks p d) (without_removed ks p d old sound within is).sound

-- the search for a node's place

pub same_default : (ks : List Kept) (p : ℕ) (d e : Kept) → p < length ks → get_or ks p d ≡ get_or ks p e
same_default [] p d e within = absurd (omega arith)
same_default (k ∷ ks) zero d e within = refl
same_default (k ∷ ks) (suc p) d e within = same_default ks p d e (omega arith)

pub found_here : (ks : List Kept) (p : ℕ) (k : Kept) (node : ℕ) → p < length ks → k ≡ get_or ks p k → k.node ≡ node → (other : Kept) → (get_or ks p other).node ≡ node
found_here ks p k node within is same other = ap (λ k. k.node) (same_default ks p other k within ∙ sym is) ∙ same

pub skipped_here : (ks : List Kept) (p : ℕ) (k : Kept) (node : ℕ) → p < length ks → k ≡ get_or ks p k → (k.node ≡ node → ⊥) → stands_in ks node ≡ stands_in (drop p ks) node → stands_in ks node ≡ stands_in (drop (p + 1) ks) node
skipped_here ks p k node within is apart so_far =
    let one : p + 1 ≡ suc p = omega arith in
    let split : drop p ks ≡ k ∷ drop (suc p) ks = drop-cons ks p k within ∙ ap (λ x. x ∷ drop (suc p) ks) (sym is) in
    so_far ∙ ap (λ rest. stands_in rest node) split ∙ stands_skipped k (drop (suc p) ks) node apart ∙ ap (λ n. stands_in (drop n ks) node) (sym one)

pub none_left : (ks : List Kept) (p node : ℕ) → length ks ≤ p → stands_in ks node ≡ stands_in (drop p ks) node → stands_in ks node ≡ false
none_left ks p node past so_far = so_far ∙ ap (λ rest. stands_in rest node) (drop_of_length-le ks past)

pub kept_itself : (ks : List Kept) → IsKeptSame ks ks
kept_itself ks = record { same = λ node. refl; count = refl }

-- what is seen the same is written
same_by : (ks : List Kept) (p : ℕ) (old new : Kept) (n : ℕ) → Sound ks → p < length ks → old ≡ get_or ks p old → new.node ≡ old.node → seen new ≡ seen old → (b : Bool) → (n == new.node) ≡ b → seen_at (set ks p new) n ≡ seen_at ks n
same_by ks p old new n sound within is node same true d =
    let e : n ≡ new.node = (Decides-eqb n new.node).0 d in
    ap (seen_at (set ks p new)) e ∙ here_set ks p old new sound within is node ∙ same ∙ sym (at_place ks p old sound within is) ∙ ap (seen_at ks) (sym (e ∙ node))
same_by ks p old new n sound within is node same false d = beside_set ks p old new n is node (λ e. true≢false (sym ((Decides-eqb n new.node).1 e) ∙ d))

pub kept_set : (ks : List Kept) (p : ℕ) (old new : Kept) → Sound ks → p < length ks → old ≡ get_or ks p old → new.node ≡ old.node → seen new ≡ seen old → IsKeptSame ks (set ks p new)
kept_set ks p old new sound within is node same = record {
  same = λ n. same_by ks p old new n sound within is node same (n == new.node) refl;
  count = length-set ks p new;
}

-- what is read in the place that was found, and what stands there after a write or a removal

abbrev pub IsPlaced : List Kept → ℕ → ℕ → Type 0
IsPlaced ks p node = (p < length ks) × ((other : Kept) → (get_or ks p other).node ≡ node)

pub node_of : (ks : List Kept) (p node : ℕ) (k : Kept) → IsPlaced ks p node → k ≡ get_or ks p k → k.node ≡ node
node_of ks p node k placed is = ap (λ k. k.node) is ∙ placed.1 k

pub read_at : (ks : List Kept) (p node : ℕ) (k : Kept) → Sound ks → IsPlaced ks p node → k ≡ get_or ks p k → seen_at ks node ≡ seen k
read_at ks p node k sound placed is = ap (seen_at ks) (sym (node_of ks p node k placed is)) ∙ at_place ks p k sound placed.0 is

pub written_at : (ks : List Kept) (p node : ℕ) (old new : Kept) → Sound ks → IsPlaced ks p node → old ≡ get_or ks p old → new.node ≡ old.node → seen_at (set ks p new) node ≡ seen new
written_at ks p node old new sound placed is same =
    ap (seen_at (set ks p new)) (sym (same ∙ node_of ks p node old placed is)) ∙ here_set ks p old new sound placed.0 is same

pub others_at : (ks : List Kept) (p node : ℕ) (old new : Kept) → IsPlaced ks p node → old ≡ get_or ks p old → new.node ≡ old.node → OthersKept node ks (set ks p new)
others_at ks p node old new placed is same n apart = beside_set ks p old new n is same (λ e. apart (e ∙ same ∙ node_of ks p node old placed is))

pub gone_at : (ks gone : List Kept) (p node : ℕ) (d old : Kept) → Sound ks → IsPlaced ks p node → old ≡ get_or ks p old → gone ≡ swap_remove ks p d → seen_at gone node ≡ unseen
gone_at ks gone p node d old sound placed is left =
    ap (λ ks. seen_at ks node) left ∙ ap (seen_at (swap_remove ks p d)) (sym (node_of ks p node old placed is)) ∙ here_removed ks p d old sound placed.0 is

pub others_gone : (ks gone : List Kept) (p node : ℕ) (d old : Kept) → Sound ks → IsPlaced ks p node → old ≡ get_or ks p old → gone ≡ swap_remove ks p d → OthersKept node ks gone
others_gone ks gone p node d old sound placed is left n apart =
    ap (λ ks. seen_at ks n) left ∙ beside_removed ks p d old n sound placed.0 is (λ e. apart (e ∙ node_of ks p node old placed is))

pub sound_gone : (ks gone : List Kept) (p : ℕ) (d old : Kept) → Sound ks → p < length ks → old ≡ get_or ks p old → gone ≡ swap_remove ks p d → Sound gone
sound_gone ks gone p d old sound within is left = subst Sound (sym left) (sound_removed ks p d old sound within is)
