-- What changed since a mark, put in place of the rows at the mark, gives the rows now.
use Rattle.std.proofs.Common.{◌≡◌, inl, inr, ℕ, ◌&&◌, Bool, true, false, List, Option, Some, None, refl, ap, sym, ◌∙◌, true≢false, subst}
use Rattle.std.specs.Prelude.{is_some, bytes_eq, ◌==◌}
use Rattle.std.specs.Cmp.Lexicographic.{bytes_decides}
use Rattle.std.proofs.lemmas.Bool.Decides.{Decides-eqb}
use Rattle.rg_agg.specs.Held.{Held}
use Rattle.rg_state.specs.Changes.{Marks, NoMarks, SameMarks, OtherMarks, IsNamed, was_there, change_of, changes_in, applied, IsSince}
use Rattle.rg_state.specs.Rows.{Cells, Same, Others}

applied_by : (named there : Bool) (row base : Option Held) → (named ≡ false → row ≡ base) → (named ≡ true → there ≡ is_some base) → applied base (change_of named there row) ≡ row
applied_by false there row base same was = sym (same refl)
applied_by true there (Some held) base same was = refl
applied_by true true None base same was = refl
applied_by true false None None same was = refl
applied_by true false None (Some held) same was = let never : false ≡ true = was refl in cc

pub applied_since : (base : Cells) (named there : Marks) (cells : Cells) → IsSince base named there cells → (n : ℕ) (key : List ℕ) → applied (base n key) (changes_in named there cells n key) ≡ cells n key
applied_since base named there cells since n key = applied_by (named n key) (there n key) (cells n key) (base n key) (since.unnamed n key) (since.stood n key)

gone_by : (named there : Bool) (row base : Option Held) → (named ≡ true → there ≡ is_some base) → change_of named there row ≡ Some None → is_some base ≡ true
gone_by false there row base was is = cc
gone_by true there (Some held) base was is = cc
gone_by true true None base was is = sym (was refl)
gone_by true false None base was is = cc

-- a row that is told to be gone was there
pub gone_since : (base : Cells) (named there : Marks) (cells : Cells) → IsSince base named there cells → (n : ℕ) (key : List ℕ) → changes_in named there cells n key ≡ Some None → is_some (base n key) ≡ true
gone_since base named there cells since n key is = gone_by (named n key) (there n key) (cells n key) (base n key) (since.stood n key) is

-- at the mark
pub since_mark : (cells : Cells) (named there : Marks) → NoMarks named → IsSince cells named there cells
since_mark cells named there none = record {
  unnamed = λ n key is. refl;
  stood = λ n key is. absurd (true≢false (sym is ∙ none n key));
}

-- where all stay
pub since_same : (base : Cells) (named there : Marks) (cells : Cells) (named' there' : Marks) (cells' : Cells) → Same cells cells' → SameMarks named named' → SameMarks there there' → IsSince base named there cells → IsSince base named' there' cells'
since_same base named there cells named' there' cells' same marks others since = record {
  unnamed = λ n key is. same n key ∙ since.unnamed n key (sym (marks n key) ∙ is);
  stood = λ n key is. others n key ∙ since.stood n key (sym (marks n key) ∙ is);
}

-- of one row that was named
none_of : (row : Option Held) → is_some row ≡ false → row ≡ None
none_of None is = refl
none_of (Some held) is = cc

unnamed_by : (named there named' there' : Bool) (row row' base : Option Held) → IsNamed named' there' row' → there' ≡ was_there named there row → (named ≡ false → row ≡ base) → (named ≡ true → there ≡ is_some base) → named' ≡ false → row' ≡ base
unnamed_by named there named' there' row row' base (inl is) was same there_is unnamed = absurd (true≢false (sym is ∙ unnamed))
unnamed_by true there named' there' row row' base (inr gone) was same there_is unnamed = gone.1 ∙ sym (none_of base (sym (there_is refl) ∙ sym was ∙ gone.0))
unnamed_by false there named' there' row row' base (inr gone) was same there_is unnamed = gone.1 ∙ sym (sym (same refl) ∙ none_of row (sym was ∙ gone.0))

there_by : (named there there' : Bool) (row base : Option Held) → there' ≡ was_there named there row → (named ≡ false → row ≡ base) → (named ≡ true → there ≡ is_some base) → there' ≡ is_some base
there_by true there there' row base was same there_is = was ∙ there_is refl
there_by false there there' row base was same there_is = was ∙ ap is_some (same refl)

module _ (base : Cells) (named there : Marks) (cells : Cells) (named' there' : Marks) (cells' : Cells) (node : ℕ) (key : List ℕ) (since : IsSince base named there cells) where
  both_so : (a b : Bool) → (a ≡ true) → (b ≡ true) → (a && b) ≡ true
  both_so true b one two = two
  both_so false b one two = one

  apart_by : (n : ℕ) (k : List ℕ) → ((n == node) && bytes_eq k key) ≡ false → (n ≡ node) × (k ≡ key) → ⊥
  apart_by n k off same = true≢false (sym (both_so (n == node) (bytes_eq k key) ((Decides-eqb n node).1 same.0) ((bytes_decides k key).1 same.1)) ∙ off)

  first_of : (a b : Bool) → (a && b) ≡ true → a ≡ true
  first_of true b is = refl
  first_of false b is = is

  second_of : (a b : Bool) → (a && b) ≡ true → b ≡ true
  second_of true b is = is
  second_of false b is = cc

  -- where a row is named
  pub since_named : IsNamed (named' node key) (there' node key) (cells' node key) → there' node key ≡ was_there (named node key) (there node key) (cells node key) → Others node key cells cells' → OtherMarks node key named named' → OtherMarks node key there there'
      → IsSince base named' there' cells'
  since_named is was others other_named other_there = record {
    unnamed = λ n k off. unnamed_at n k ((n == node) && bytes_eq k key) refl off;
    stood = λ n k on. there_at n k ((n == node) && bytes_eq k key) refl on;
  }
    where
      here : (P : ℕ → List ℕ → Type 0) (n : ℕ) (k : List ℕ) → ((n == node) && bytes_eq k key) ≡ true → P node key → P n k
      here P n k same holds =
          let one : n ≡ node = (Decides-eqb n node).0 (first_of _ _ same) in
          let two : k ≡ key = (bytes_decides k key).0 (second_of (n == node) _ same) in
          subst (λ (m : ℕ). P m k) (sym one) (subst (λ (l : List ℕ). P node l) (sym two) holds)

      unnamed_at : (n : ℕ) (k : List ℕ) (b : Bool) → ((n == node) && bytes_eq k key) ≡ b → named' n k ≡ false → cells' n k ≡ base n k
      unnamed_at n k true same off = here (λ m l. named' m l ≡ false → cells' m l ≡ base m l) n k same (λ off. unnamed_by (named node key) (there node key) (named' node key) (there' node key) (cells node key) (cells' node key) (base node key) is was (since.unnamed node key) (since.stood node key) off) off
      unnamed_at n k false same off = others n k (apart_by n k same) ∙ since.unnamed n k (sym (other_named n k (apart_by n k same)) ∙ off)

      there_at : (n : ℕ) (k : List ℕ) (b : Bool) → ((n == node) && bytes_eq k key) ≡ b → named' n k ≡ true → there' n k ≡ is_some (base n k)
      there_at n k true same on = here (λ m l. there' m l ≡ is_some (base m l)) n k same (there_by (named node key) (there node key) (there' node key) (cells node key) (base node key) was (since.unnamed node key) (since.stood node key))
      there_at n k false same on = other_there n k (apart_by n k same) ∙ since.stood n k (sym (other_named n k (apart_by n k same)) ∙ on)
