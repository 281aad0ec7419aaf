-- What is left of the rows of a key once it is marked.
use Rattle.std.proofs.Common.{◌≡◌, ◌∙◌, ℕ, zero, suc, ◌+◌, ◌<◌, ◌==◌, not, cond, Bool, true, false, List, [], ◌∷◌, length, take, get_or, set, refl, ap, sym, subst, arith, true≢false}
use Rattle.std.specs.List.{All, swap_remove}
use Rattle.std.proofs.lemmas.Bool.Decides.{Decides-eqb}
use Rattle.std.proofs.lemmas.List.Elements.{All-nil, All-cons, All-head, All-tail}
use Rattle.rg_agg.specs.Standing.{size_in}
use Rattle.rg_state.specs.States.{held_of}
use Rattle.rg_state.specs.Cells.{row_at, count_at}
use Rattle.rg_state.specs.Kepts.{unseen, settled, shown, seen, seen_at, are_sound}
use Rattle.rg_state.specs.Clean.{IsClean}
use Rattle.rg_state.specs.declared.key_rows.Kept.{Kept}
use Rattle.rg_state.specs.declared.key_rows.KeyRows.{KeyRows}
use Rattle.rg_state.proofs.Placed.{at_place, here_set, beside_set, here_removed, beside_removed, front_removed}
use Rattle.rg_state.proofs.Stepping.{shown_none}

-- one key

clean_one : (kept : Kept) → IsClean kept → seen kept ≡ settled (seen kept)
clean_one kept clean = ap (λ (b : Bool). record { held = (seen kept).held; named = b; there = kept.there }) clean.named ∙ ap (λ (b : Bool). record { held = (seen kept).held; named = false; there = b }) clean.there

pub clean_all : (ks : List Kept) (node : ℕ) → All IsClean ks → seen_at ks node ≡ settled (seen_at ks node)
clean_all [] node all = refl
clean_all (k ∷ ks) node all = by (k.node == node) (clean_all ks node (All-tail IsClean k ks all))
  where
    by : (b : Bool) → seen_at ks node ≡ settled (seen_at ks node) → cond b (seen k) (seen_at ks node) ≡ settled (cond b (seen k) (seen_at ks node))
    by true rest = clean_one k (All-head IsClean k ks all)
    by false rest = rest

-- slots

pub nothing_kept : (ks : List Kept) (node : ℕ) → length ks ≡ 0 → seen_at ks node ≡ unseen
nothing_kept [] node none = refl
nothing_kept (k ∷ ks) node none = absurd (omega arith)

pub none_kept : (rows : List KeyRows) (slot node : ℕ) → count_at rows slot ≡ 0 → row_at rows slot node ≡ unseen
none_kept [] slot node none = refl
none_kept (r ∷ rows) zero node none = nothing_kept r.kept.items node none
none_kept (r ∷ rows) (suc slot) node none = none_kept rows slot node none

pub unused_count : (n : ℕ) → not (n == 0) ≡ false → n ≡ 0
unused_count n is = by (n == 0) refl
  where
    by : (b : Bool) → (n == 0) ≡ b → n ≡ 0
    by true d = (Decides-eqb n 0).0 d
    by false d = absurd (true≢false (sym (ap not d) ∙ is))

pub used_count : (n : ℕ) → not (n == 0) ≡ true → 0 < n
used_count zero is = cc
used_count (suc n) is = omega arith

-- one row of a key is settled, or dropped

pub clean_set : (ks : List Kept) (p : ℕ) (k : Kept) → p < length ks → IsClean k → All IsClean (take p ks) → All IsClean (take (p + 1) (set ks p k))
clean_set [] p k within clean all = absurd (omega arith)
clean_set (x ∷ ks) zero k within clean all = All-cons IsClean k [] clean (All-nil IsClean)
clean_set (x ∷ ks) (suc p) k within clean all =
    let more : suc (p + 1) ≡ suc p + 1 = omega arith in
    subst (λ n. All IsClean (take n (x ∷ set ks p k))) more (All-cons IsClean x (take (p + 1) (set ks p k)) (All-head IsClean x (take p ks) all) (clean_set ks p k (omega arith) clean (All-tail IsClean x (take p ks) all)))

held_same : (old new : Kept) → new.state ≡ old.state → settled (seen new) ≡ settled (seen old)
held_same old new state = ap (λ st. record { held = shown (held_of st); named = false; there = false }) state

-- the rows where one is forgotten
pub rows_forgotten : (ks : List Kept) (p : ℕ) (old new : Kept) (node : ℕ) → are_sound ks ≡ true → p < length ks → old ≡ get_or ks p old → new.node ≡ old.node → new.state ≡ old.state → settled (seen_at (set ks p new) node) ≡ settled (seen_at ks node)
rows_forgotten ks p old new node sound within is same state = by (node == new.node) refl
  where
    by : (b : Bool) → (node == new.node) ≡ b → settled (seen_at (set ks p new) node) ≡ settled (seen_at ks node)
    by true e =
        let at : node ≡ new.node = (Decides-eqb node new.node).0 e in
        ap (λ n. settled (seen_at (set ks p new) n)) at ∙ ap settled (here_set ks p old new sound within is same) ∙ held_same old new state ∙ sym (ap settled (at_place ks p old sound within is)) ∙ ap (λ n. settled (seen_at ks n)) (sym (at ∙ same))
    by false e = ap settled (beside_set ks p old new node is same (λ at. true≢false (sym ((Decides-eqb node new.node).1 at) ∙ e)))

-- and where one that is gone is dropped
pub rows_dropped : (ks gone : List Kept) (p : ℕ) (d old : Kept) (node : ℕ) → are_sound ks ≡ true → p < length ks → old ≡ get_or ks p old → (size_in (held_of old.state) == 0) ≡ true → gone ≡ swap_remove ks p d → settled (seen_at gone node) ≡ settled (seen_at ks node)
rows_dropped ks gone p d old node sound within is none left = ap (λ l. settled (seen_at l node)) left ∙ by (node == old.node) refl
  where
    by : (b : Bool) → (node == old.node) ≡ b → settled (seen_at (swap_remove ks p d) node) ≡ settled (seen_at ks node)
    by true e =
        let at : node ≡ old.node = (Decides-eqb node old.node).0 e in
        ap (λ n. settled (seen_at (swap_remove ks p d) n)) at ∙ ap settled (here_removed ks p d old sound within is)
        ∙ sym (ap (λ h. record { held = h; named = false; there = false }) (shown_none (held_of old.state) none)) ∙ sym (ap settled (at_place ks p old sound within is)) ∙ ap (λ n. settled (seen_at ks n)) (sym at)
    by false e = ap settled (beside_removed ks p d old node sound within is (λ at. true≢false (sym ((Decides-eqb node old.node).1 at) ∙ e)))

pub clean_dropped : (ks gone : List Kept) (p : ℕ) (d : Kept) → p < length ks → gone ≡ swap_remove ks p d → All IsClean (take p ks) → All IsClean (take p gone)
clean_dropped ks gone p d within left = subst (All IsClean) (sym (ap (take p) left ∙ front_removed ks p d within))
