use Rattle.std.proofs.Common.{◌≤◌, ◌-◌, ◌++◌, ℕ, List, length, All}
use Rattle.rg_token.specs.declared.piece.Piece.{Piece}
use Rattle.rg_token.specs.Lexing.{Lexes, IsInside, IsToken}
use Rattle.rg_token.proofs.lex.pieces.Given as goal

abbrev pub invariant-tokens : goal.invariant-tokens
invariant-tokens l = record {
  within : l.at ≤ length l.text;
  inside : All (IsInside l.text) l.pieces;
  spelled : All (IsToken l.text) l.pieces;
  so_far : (more : List Piece) (end : ℕ) → Lexes l.text l.at more end → Lexes l.text 0 (l.pieces ++ more) end;
}

abbrev pub decreases-tokens : goal.decreases-tokens
decreases-tokens l = length l.text - l.at
