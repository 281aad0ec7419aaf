-- From the tokens of a text to what the text is.
use Rattle.std.proofs.Common.{◌≡◌, ℕ, ◌<◌, List, length, take, drop, All, Err, refl, sym, subst, inl, inr}
use Rattle.std.proofs.lemmas.List.{take-append-drop}
use Rattle.rg_grammar.specs.Grammar.{Query, NestsIn}
use Rattle.rg_grammar.specs.Machine.{run, read, at_start}
use Rattle.rg_grammar.proofs.Laws.{sound, exact, exact_depth_in}
use Rattle.rg_token.specs.declared.piece.Piece.{Piece}
use Rattle.rg_token.specs.Lexing.{Lexes, IsInside, IsToken}
use Rattle.rg_parse.specs.Tokens.{tokens_of}
use Rattle.rg_parse.specs.Texts.{IsQueryText, IsSyntaxAt, IsTooDeep, ReadsAs}
use Rattle.rg_parse.specs.Parts.{IsPiece}
use Rattle.rg_parse.specs.declared.parse.SyntaxFault.{SyntaxFault}
use Rattle.rg_parse.specs.declared.parse.SyntaxFault.TheVariants.{At, TooDeep, Memory}
use Rattle.rg_parse.specs.Outcomes.{Stopped, Nested, Answers}

-- each piece is a part of the text
pub pieces_are_parts : (text : List ℕ) (pieces : List Piece) → All (IsInside text) pieces → All (IsToken text) pieces → All (IsPiece text) pieces
pieces_are_parts text pieces inside spelled = λ k d lt. record { not_empty = (inside k d lt).0; inside = (inside k d lt).1; spelled = spelled k d lt }

module _ (text : List ℕ) (pieces : List Piece) (end : ℕ) (lexes : Lexes text 0 pieces end) where
  pub stopped_at : (place : ℕ) → Stopped text pieces end place (run 32 at_start (tokens_of text pieces)) → IsSyntaxAt text place
  stopped_at place s = record {
    pieces = pieces;
    end = end;
    lexes = lexes;
    cause = inl (record {
      front = take s.number pieces;
      rest = drop s.number pieces;
      split = sym (take-append-drop s.number pieces);
      stops = exact 32 (tokens_of text pieces) (tokens_of text (drop s.number pieces)) s.stopped;
      placed = s.placed;
    });
  }

  pub nested_so : Nested (run 32 at_start (tokens_of text pieces)) → IsTooDeep text
  nested_so n =
      let deep : NestsIn 32 (tokens_of text pieces) n.rest = exact_depth_in 32 (tokens_of text pieces) n.rest n.nested in
      record { pieces = pieces; end = end; lexes = lexes; token = deep.token; more = deep.more; nests = deep.nests }

  pub goes_on_at : (q : Query) → run 32 at_start (tokens_of text pieces) ≡ read q → end < length text → IsSyntaxAt text end
  goes_on_at q e h = record {
    pieces = pieces;
    end = end;
    lexes = lexes;
    cause = inr (record { query = q; found = sound 32 (tokens_of text pieces) q e; before_end = h; placed = refl });
  }

pub query_text : (text : List ℕ) (pieces : List Piece) (end : ℕ) → Lexes text 0 pieces end → (q : Query) → run 32 at_start (tokens_of text pieces) ≡ read q → end ≡ length text → IsQueryText text q
query_text text pieces end lexes q e whole = record { pieces = pieces; lexes = subst (λ (n : ℕ). Lexes text 0 pieces n) whole lexes; found = sound 32 (tokens_of text pieces) q e }

pub fault_reads : (text : List ℕ) (pieces : List Piece) (end : ℕ) → Lexes text 0 pieces end → (fault : SyntaxFault) → Answers text pieces end (Err fault) (run 32 at_start (tokens_of text pieces)) → ReadsAs text (Err fault)
fault_reads text pieces end lexes (At place) h = stopped_at text pieces end lexes place h
fault_reads text pieces end lexes TooDeep h = nested_so text pieces end lexes h
fault_reads text pieces end lexes Memory h = tt
