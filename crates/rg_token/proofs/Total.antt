-- Every text has tokens.
use Rattle.std.proofs.Common.{◌≡◌, ℕ, zero, suc, ◌+◌, ◌≤◌, ◌<◌, List, [], ◌∷◌, length, drop, Option, Some, None, refl, sym, arith, length-drop}
use Rattle.std.proofs.lemmas.List.Sums.{prefix_len-le-length}
use Rattle.rg_token.specs.declared.piece.Piece.{Piece}
use Rattle.rg_token.specs.declared.automaton.Found.{Found}
use Rattle.rg_token.specs.declared.automaton.Mode.TheVariants.{Start}
use Rattle.rg_token.specs.Automaton.{best_of}
use Rattle.rg_token.specs.Lexing.{is_blank, skip, IsNext, Lexes}
use Rattle.rg_token.proofs.Longest.{longest_found, if_none, if_within}

-- tokens from a place on, within the text
pub record LexesFrom (text : List ℕ) (at : ℕ) : Type 0 where
  pub pieces : List Piece
  pub end : ℕ
  pub lexes : Lexes text at pieces end
  pub within : end ≤ length text

skip_within : (text : List ℕ) (at : ℕ) → at ≤ length text → (at ≤ skip text at) × (skip text at ≤ length text)
skip_within text at l = (omega arith, omega (arith, l, prefix_len-le-length is_blank (drop at text), length-drop at text))

-- a token that was found is the next one
next_from : (text : List ℕ) (at : ℕ) (found : Found) → best_of Start (drop (skip text at) text) (skip text at) None ≡ Some found
    → IsNext text at (record { start = skip text at; end = found.end; shape = found.shape })
next_from text at found is =
    let longest = longest_found (drop (skip text at) text) (skip text at) found is in
    record { size = longest.0; start = refl; end = longest.1; longest = longest.2 }

end_here : (text : List ℕ) (at : ℕ) → at ≤ length text → best_of Start (drop (skip text at) text) (skip text at) None ≡ None → LexesFrom text at
end_here text at l is = record {
  pieces = [];
  end = skip text at;
  lexes = (refl, if_none (drop (skip text at) text) (skip text at) None (sym is));
  within = (skip_within text at l).1;
}

-- the next token, and those behind it
one_more :
    (text : List ℕ) (at : ℕ) → at ≤ length text → (best : Option Found) → best_of Start (drop (skip text at) text) (skip text at) None ≡ best
    → ((found : Found) → at < found.end → found.end ≤ length text → LexesFrom text found.end) → LexesFrom text at
one_more text at l None is go = end_here text at l is
one_more text at l (Some found) is go =
    let before = skip_within text at l in
    let inside = if_within text (skip text at) before.1 (Some found) (sym is) in
    let more = go found (omega (arith, before.0, inside.0)) inside.1 in
    record {
      pieces = record { start = skip text at; end = found.end; shape = found.shape } ∷ more.pieces;
      end = more.end;
      lexes = (next_from text at found is, more.lexes);
      within = more.within;
    }

-- at most `left` bytes are behind the place
from_here : (left : ℕ) (text : List ℕ) (at : ℕ) → at ≤ length text → length text ≤ at + left → LexesFrom text at
from_here zero text at l few = one_more text at l _ refl (λ found above within. absurd (omega (arith, few, above, within)))
from_here (suc left) text at l few = one_more text at l _ refl (λ found above within. from_here left text found.end within (omega (arith, few, above)))

pub lexes_whole : (text : List ℕ) → LexesFrom text 0
lexes_whole text = from_here (length text) text 0 (omega arith) (omega arith)
