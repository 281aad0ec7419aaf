-- One token more.
use Rattle.std.proofs.Common.{◌≡◌, ℕ, List, [], ◌∷◌, ◌++◌, All, sym, subst, append_assoc}
use Rattle.std.proofs.lemmas.List.Elements.{All-push}
use Rattle.rg_token.specs.declared.piece.Piece.{Piece}
use Rattle.rg_token.specs.Lexing.{IsNext, Lexes}

pub all_more : (P : Piece → Type 0) (pieces more : List Piece) (piece : Piece) → more ≡ pieces ++ piece ∷ [] → All P pieces → P piece → All P more
all_more P pieces more piece e h p = subst (λ (ps : List Piece). All P ps) (sym e) (All-push P pieces piece h p)

abbrev SoFar : List ℕ → List Piece → ℕ → Type 0
SoFar text pieces at = (more : List Piece) (end : ℕ) → Lexes text at more end → Lexes text 0 (pieces ++ more) end

pub so_far_more :
    (text : List ℕ) (at : ℕ) (pieces more : List Piece) (piece : Piece) → more ≡ pieces ++ piece ∷ []
    → SoFar text pieces at → IsNext text at piece → SoFar text more piece.end
so_far_more text at pieces more piece e h next rest end l =
    let whole : Lexes text 0 (pieces ++ (piece ∷ rest)) end = h (piece ∷ rest) end (next, l) in
    let whole2 : Lexes text 0 ((pieces ++ (piece ∷ [])) ++ rest) end = subst (λ (ps : List Piece). Lexes text 0 ps end) (sym (append_assoc pieces (piece ∷ []) rest)) whole in
    subst (λ (ps : List Piece). Lexes text 0 (ps ++ rest) end) (sym e) whole2
