-- What reading the tokens of a text gives.
use Rattle.std.specs.Prelude.{◌≡◌, ℕ, List, drop, Result, Ok, Err, ⊤}
use Rattle.rg_grammar.specs.Grammar.{Token}
use Rattle.rg_grammar.specs.Machine.{Outcome, read, stops, nests}
use Rattle.rg_token.specs.declared.piece.Piece.{Piece}
use Rattle.rg_parse.specs.declared.syntax.Raw.{Raw}
use Rattle.rg_parse.specs.declared.parse.SyntaxFault.{SyntaxFault}
use Rattle.rg_parse.specs.declared.parse.SyntaxFault.TheVariants.{At, TooDeep, Memory}
use Rattle.rg_parse.specs.Views.{raw}
use Rattle.rg_parse.specs.Tokens.{tokens_of}
use Rattle.rg_parse.specs.Texts.{place_of}

-- the machine stops with so many tokens behind it, and the place is that of the rest
pub record Stopped (text : List ℕ) (pieces : List Piece) (end place : ℕ) (outcome : Outcome) : Type 0 where
  pub number : ℕ
  pub placed : place ≡ place_of (drop number pieces) end
  pub stopped : outcome ≡ stops (tokens_of text (drop number pieces))

pub record Nested (outcome : Outcome) : Type 0 where
  pub rest : List Token
  pub nested : outcome ≡ nests rest

-- the answer is the machine's, but for want of memory
abbrev pub Answers : List ℕ → List Piece → ℕ → Result Raw SyntaxFault → Outcome → Type 0
Answers text pieces end (Ok r) outcome = outcome ≡ read (raw text r)
Answers text pieces end (Err (At place)) outcome = Stopped text pieces end place outcome
Answers text pieces end (Err TooDeep) outcome = Nested outcome
Answers text pieces end (Err Memory) outcome = ⊤
