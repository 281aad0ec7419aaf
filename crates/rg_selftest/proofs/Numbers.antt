-- The numbers of a trial.
use Rattle.std.proofs.Common.{◌≡◌, ◌∙◌, ℕ, ◌<◌, ◌≤◌, ◌^◌, List, [], ◌∷◌, ◌++◌, Option, Some, None, sym, arith}
use Rattle.std.specs.Prelude.{decimal}
use Rattle.rg_config.specs.Plans.{Planned}
use Rattle.rg_selftest.specs.Trials.{text_for, count_for}
use Rattle.rg_selftest.proofs.Texts.{front_of, ends_with_count}

-- what is found of any text that ends with a number
abbrev pub Finds : List ℕ → Option ℕ → Type 0
Finds text found = (front : List ℕ) (number : ℕ) → number < 2 ^ 64 → text ≡ front ++ (32 ∷ (decimal number ++ 10 ∷ [])) → found ≡ Some number

-- the number of the events is found
pub found_is : (asks : Planned) (input text : List ℕ) (found : Option ℕ) → Finds text found → text ≡ text_for asks input → count_for asks input ≤ 2 ^ 40 → found ≡ Some (count_for asks input)
found_is asks input text found finds is few = finds (front_of asks input) (count_for asks input) (omega (arith, few)) (is ∙ ends_with_count asks input)

pub some_is : (asks : Planned) (input text : List ℕ) (found : Option ℕ) (number : ℕ) → Finds text found → found ≡ Some number → text ≡ text_for asks input → count_for asks input ≤ 2 ^ 40 → number ≡ count_for asks input
some_is asks input text found number finds some is few = let same : Some number ≡ Some (count_for asks input) = sym some ∙ found_is asks input text found finds is few in cc

pub not_none : (asks : Planned) (input text : List ℕ) (found : Option ℕ) → Finds text found → found ≡ None → text ≡ text_for asks input → count_for asks input ≤ 2 ^ 40 → ⊥
not_none asks input text found finds none is few = let same : None ≡ Some (count_for asks input) = sym none ∙ found_is asks input text found finds is few in absurd cc
