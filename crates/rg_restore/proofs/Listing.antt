-- Rows that are put into a table one after another.
use Rattle.std.proofs.Common.{◌≡◌, ◌⊎◌, inl, inr, ℕ, zero, suc, ◌<◌, ◌==◌, Bool, true, false, List, [], ◌∷◌, ◌++◌, length, get_or, Option, Some, None, refl, ap, sym, ◌∙◌, arith}
use Rattle.std.specs.Prelude.{⊤, bytes_eq}
use Rattle.std.specs.List.{Contains}
use Rattle.std.specs.Cmp.Lexicographic.{slice_cmp, bytes_decides, nat_list_cmp_total}
use Rattle.std.specs.Ordering.{nat_cmp, is_lt, ordering_reverse}
use Rattle.std.specs.declared.cmp.Ordering.{Ordering}
use Rattle.std.specs.declared.cmp.Ordering.TheVariants.{Less, Equal, Greater}
use Rattle.std.proofs.lemmas.Bool.Decides.{Decides-eqb}
use Rattle.std.proofs.lemmas.List.Elements.{Contains-append_left, Contains-append_right, Contains-append_cases}
use Rattle.rg_agg.specs.Held.{Held}
use Rattle.rg_state.specs.Rows.{Cells, Entry, IsBelow, AreRising, Lists, Others}
use Rattle.rg_engine.proofs.Laws.{none_some, same_some}
use Rattle.rg_restore.specs.Opening.{IsEmpty}

-- Rising rows

less_is : (o : Ordering) → is_lt o ≡ true → o ≡ Less
less_is Less e = refl
less_is Equal e = cc
less_is Greater e = cc

key_less : (a b c : List ℕ) → is_lt (slice_cmp nat_cmp a b) ≡ true → is_lt (slice_cmp nat_cmp b c) ≡ true → is_lt (slice_cmp nat_cmp a c) ≡ true
key_less a b c e f = ap is_lt (nat_list_cmp_total.trans a b c (less_is (slice_cmp nat_cmp a b) e) (less_is (slice_cmp nat_cmp b c) f))

below_later : (a b c : Entry) → IsBelow a b → IsBelow b c → IsBelow a c
below_later a b c (inl less) (inl more) = inl (omega (arith, less, more))
below_later a b c (inl less) (inr same) = inl (omega (arith, less, same.0))
below_later a b c (inr same) (inl more) = inl (omega (arith, same.0, more))
below_later a b c (inr same) (inr alike) = inr (same.0 ∙ alike.0, key_less a.key b.key c.key same.1 alike.1)

not_less : (o : Ordering) → o ≡ ordering_reverse o → is_lt o ≡ true → ⊥
not_less Less e h = cc
not_less Equal e h = cc
not_less Greater e h = cc

-- a row is below none of the same node and key
apart : (a b : Entry) → IsBelow a b → a.node ≡ b.node → a.key ≡ b.key → ⊥
apart a b (inl less) node key = omega (arith, less, node)
apart a b (inr same) node key =
    let less : is_lt (slice_cmp nat_cmp a.key a.key) ≡ true = ap (λ k. is_lt (slice_cmp nat_cmp a.key k)) key ∙ same.1 in
    not_less (slice_cmp nat_cmp a.key a.key) (nat_list_cmp_total.antisymm a.key a.key) less

-- each row in front is below the last one
abbrev AllBelow : List Entry → Entry → Type 0
AllBelow [] last = ⊤
AllBelow (e ∷ entries) last = IsBelow e last × AllBelow entries last

all_below : (entries : List Entry) (last : Entry) → AreRising (entries ++ last ∷ []) → AllBelow entries last
all_below [] last rising = tt
all_below (e ∷ []) last rising = (rising.0, tt)
all_below (e ∷ (next ∷ entries)) last rising =
    let rest = all_below (next ∷ entries) last rising.1 in
    (below_later e next last rising.0 rest.0, rest)

below_at : (entries : List Entry) (last : Entry) (k : ℕ) (d : Entry) → AllBelow entries last → k < length entries → IsBelow (get_or entries k d) last
below_at [] last k d all h = absurd (omega arith)
below_at (e ∷ entries) last zero d all h = all.0
below_at (e ∷ entries) last (suc k) d all h = below_at entries last k d all.1 (omega arith)

pub rising_front : (entries more : List Entry) → AreRising (entries ++ more) → AreRising entries
rising_front [] more rising = tt
rising_front (e ∷ []) more rising = tt
rising_front (e ∷ (next ∷ entries)) more rising = (rising.0, rising_front (next ∷ entries) more rising.1)

-- One row more

not_key : (a b : List ℕ) → bytes_eq a b ≡ false → a ≡ b → ⊥
not_key a b e same = let f = (bytes_decides a b).1 same in cc

not_node : (a b : ℕ) → (a == b) ≡ false → a ≡ b → ⊥
not_node a b e same = let f = (Decides-eqb a b).1 same in cc

only : (last e : Entry) → Contains (last ∷ []) e → last ≡ e
only last e (zero, h, is) = is
only last e (suc k, h, is) = absurd (omega arith)

abbrev entry : ℕ → List ℕ → Held → Entry
entry node key held = record { node = node; key = key; held = held }

module _ (cells : Cells) (entries : List Entry) (last : Entry) (lists : Lists cells entries) (rising : AreRising (entries ++ last ∷ [])) where
  free_by : (row : Option Held) → cells last.node last.key ≡ row → row ≡ None
  free_by None is = refl
  free_by (Some held) is =
      let there = (lists.rows last.node last.key held).0 is in
      let e : get_or entries there.0 (entry last.node last.key held) ≡ entry last.node last.key held = there.2 in
      absurd (apart (get_or entries there.0 (entry last.node last.key held)) last (below_at entries last there.0 (entry last.node last.key held) (all_below entries last rising) there.1)
      (ap (λ (x : Entry). x.node) e) (ap (λ (x : Entry). x.key) e))

  -- it isn't there yet
  pub free : cells last.node last.key ≡ None
  free = free_by (cells last.node last.key) refl

  module _ (cells' : Cells) (there : cells' last.node last.key ≡ Some last.held) (others : Others last.node last.key cells cells') where
    last_is : (node : ℕ) (key : List ℕ) (held : Held) → node ≡ last.node → key ≡ last.key → held ≡ last.held → Contains (entries ++ last ∷ []) (entry node key held)
    last_is node key held n k h =
        let is : entry node key held ≡ last = ap (λ x. entry x key held) n ∙ ap (λ x. entry last.node x held) k ∙ ap (λ x. entry last.node last.key x) h in
        Contains-append_right entries (last ∷ []) (entry node key held) (0, omega arith, sym is)

    found_by : (node : ℕ) (key : List ℕ) (held : Held) → cells' node key ≡ Some held → (b c : Bool) → (node == last.node) ≡ b → bytes_eq key last.key ≡ c → Contains (entries ++ last ∷ []) (entry node key held)
    found_by node key held is true true d e =
        let n : node ≡ last.node = (Decides-eqb node last.node).0 d in
        let k : key ≡ last.key = (bytes_decides key last.key).0 e in
        last_is node key held n k (same_some (sym is ∙ ap (λ x. cells' x key) n ∙ ap (λ x. cells' last.node x) k ∙ there))
    found_by node key held is true false d e =
        Contains-append_left entries (last ∷ []) (entry node key held) ((lists.rows node key held).0 (sym (others node key (λ same. not_key key last.key e same.1)) ∙ is))
    found_by node key held is false c d e =
        Contains-append_left entries (last ∷ []) (entry node key held) ((lists.rows node key held).0 (sym (others node key (λ same. not_node node last.node d same.0)) ∙ is))

    back_by : (node : ℕ) (key : List ℕ) (held : Held) → Contains entries (entry node key held) ⊎ Contains (last ∷ []) (entry node key held) → cells' node key ≡ Some held
    back_by node key held (inl among) =
        let is = (lists.rows node key held).1 among in
        others node key (λ same. none_some (sym free ∙ ap (λ n. cells n last.key) (sym same.0) ∙ ap (λ k. cells node k) (sym same.1) ∙ is)) ∙ is
    back_by node key held (inr among) =
        let e : last ≡ entry node key held = only last (entry node key held) among in
        ap (λ n. cells' n key) (sym (ap (λ (x : Entry). x.node) e)) ∙ ap (λ k. cells' last.node k) (sym (ap (λ (x : Entry). x.key) e)) ∙ there ∙ ap (λ (x : Entry). Some x.held) e

    -- and then it is
    pub one_more : Lists cells' (entries ++ last ∷ [])
    one_more = record {
      rising = rising;
      rows = λ node key held. (
        (λ is. found_by node key held is (node == last.node) (bytes_eq key last.key) refl refl),
        (λ among. back_by node key held (Contains-append_cases entries (last ∷ []) (entry node key held) among)),
      );
    }

-- Without rows

pub none_listed : (cells : Cells) → IsEmpty cells → Lists cells []
none_listed cells empty = record {
  rising = tt;
  rows = λ node key held. (
    (λ is. absurd (none_some (sym (empty node key) ∙ is))),
    (λ among. absurd (omega (arith, among.1))),
  );
}

-- One list of rows is one table

same_by : (cells cells' : Cells) (entries : List Entry) → Lists cells entries → Lists cells' entries → (node : ℕ) (key : List ℕ) → (row row' : Option Held) → cells node key ≡ row → cells' node key ≡ row' → cells' node key ≡ cells node key
same_by cells cells' entries first second node key (Some held) row' is is' = (second.rows node key held).1 ((first.rows node key held).0 is) ∙ sym is
same_by cells cells' entries first second node key None None is is' = is' ∙ sym is
same_by cells cells' entries first second node key None (Some held) is is' =
    absurd (none_some (sym is ∙ (first.rows node key held).1 ((second.rows node key held).0 is')))

pub one_table : (cells cells' : Cells) (entries : List Entry) → Lists cells entries → Lists cells' entries → (node : ℕ) (key : List ℕ) → cells' node key ≡ cells node key
one_table cells cells' entries first second node key = same_by cells cells' entries first second node key (cells node key) (cells' node key) refl refl
