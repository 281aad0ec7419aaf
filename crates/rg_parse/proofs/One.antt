-- A text is one thing only.
use Rattle.std.proofs.Common.{◌≡◌, ℕ, ◌-◌, List, ◌∷◌, ◌++◌, length, drop, nat_lt, true, false, if◌then◌else◌, ap, sym, ◌∙◌, arith, inl, inr, ◌⊎◌}
use Rattle.std.proofs.lemmas.Bool.{lt-ltb, le-ltb}
use Rattle.std.proofs.lemmas.List.{length-map, length-append}
use Rattle.std.proofs.Math.Seq.{drop-append_seam}
use Rattle.rg_grammar.specs.Grammar.{Query}
use Rattle.rg_grammar.specs.Machine.{Outcome, run, read, stops, nests, at_start}
use Rattle.rg_grammar.proofs.Laws.{found_reads, exact_only, exact_depth_only}
use Rattle.rg_token.specs.declared.piece.Piece.{Piece}
use Rattle.rg_token.specs.Lexing.{Lexes}
use Rattle.rg_parse.specs.Tokens.{tokens_of, token_of}
use Rattle.rg_parse.specs.Texts.{place_of, Syntax, parsed, stops_at, too_deep, Reads, IsQueryText, StopsBefore, GoesOn}

-- what the tokens and the machine's outcome make of a text
abbrev answer : List ℕ → List Piece → ℕ → Outcome → Syntax
answer text pieces end (read q) = if nat_lt end (length text) then stops_at end else parsed q
answer text pieces end (stops rest) = stops_at (place_of (drop (length pieces - length rest) pieces) end)
answer text pieces end (nests rest) = too_deep

abbrev answered : List ℕ → List Piece → ℕ → Syntax
answered text pieces end = answer text pieces end (run 32 at_start (tokens_of text pieces))

record Answered (text : List ℕ) (syntax : Syntax) : Type 0 where
  pieces : List Piece
  end : ℕ
  lexes : Lexes text 0 pieces end
  is : syntax ≡ answered text pieces end

rest_again : (text : List ℕ) (front rest : List Piece) → drop (length (front ++ rest) - length (tokens_of text rest)) (front ++ rest) ≡ rest
rest_again text front rest =
    let n : length (front ++ rest) - length (tokens_of text rest) ≡ length front = omega (arith, length-append front rest, length-map rest (token_of text)) in
    ap (λ k. drop k (front ++ rest)) n ∙ drop-append_seam front rest

syntax_stops : (text : List ℕ) (pieces : List Piece) (end place : ℕ) → StopsBefore text pieces end place → stops_at place ≡ answered text pieces end
syntax_stops text pieces end place s =
    let outcome : run 32 at_start (tokens_of text pieces) ≡ stops (tokens_of text s.rest) = exact_only 32 (tokens_of text pieces) (tokens_of text s.rest) s.stops in
    let rest : drop (length pieces - length (tokens_of text s.rest)) pieces ≡ s.rest = ap (λ (ps : List Piece). drop (length ps - length (tokens_of text s.rest)) ps) s.split ∙ rest_again text s.front s.rest in
    ap stops_at (s.placed ∙ ap (λ (ps : List Piece). place_of ps end) (sym rest)) ∙ ap (answer text pieces end) (sym outcome)

syntax_goes_on : (text : List ℕ) (pieces : List Piece) (end place : ℕ) → GoesOn text pieces end place → stops_at place ≡ answered text pieces end
syntax_goes_on text pieces end place g =
    let outcome : run 32 at_start (tokens_of text pieces) ≡ read g.query = found_reads 32 (tokens_of text pieces) g.query g.found in
    let before : nat_lt end (length text) ≡ true = lt-ltb end (length text) g.before_end in
    ap stops_at g.placed ∙ ap (λ b. if b then stops_at end else parsed g.query) (sym before) ∙ ap (answer text pieces end) (sym outcome)

syntax_at : (text : List ℕ) (pieces : List Piece) (end place : ℕ) → StopsBefore text pieces end place ⊎ GoesOn text pieces end place → stops_at place ≡ answered text pieces end
syntax_at text pieces end place (inl s) = syntax_stops text pieces end place s
syntax_at text pieces end place (inr g) = syntax_goes_on text pieces end place g

query_answered : (text : List ℕ) (query : Query) (h : IsQueryText text query) → parsed query ≡ answered text h.pieces (length text)
query_answered text query h =
    let outcome : run 32 at_start (tokens_of text h.pieces) ≡ read query = found_reads 32 (tokens_of text h.pieces) query h.found in
    let whole : nat_lt (length text) (length text) ≡ false = le-ltb (length text) (length text) (omega arith) in
    ap (λ b. if b then stops_at (length text) else parsed query) (sym whole) ∙ ap (answer text h.pieces (length text)) (sym outcome)

as_answered : (text : List ℕ) (syntax : Syntax) → Reads text syntax → Answered text syntax
as_answered text (parsed query) h = record { pieces = h.pieces; end = length text; lexes = h.lexes; is = query_answered text query h }
as_answered text (stops_at place) h = record { pieces = h.pieces; end = h.end; lexes = h.lexes; is = syntax_at text h.pieces h.end place h.cause }
as_answered text too_deep h =
    let outcome : run 32 at_start (tokens_of text h.pieces) ≡ nests (h.token ∷ h.more) = exact_depth_only 32 (tokens_of text h.pieces) h.token h.more h.nests in
    record { pieces = h.pieces; end = h.end; lexes = h.lexes; is = ap (answer text h.pieces h.end) (sym outcome) }

pub one_syntax : (text : List ℕ) → ((pieces more : List Piece) (end also : ℕ) → Lexes text 0 pieces end → Lexes text 0 more also → (pieces ≡ more) × (end ≡ also)) → (syntax other : Syntax) → Reads text syntax → Reads text other → syntax ≡ other
one_syntax text one syntax other h k =
    let a : Answered text syntax = as_answered text syntax h in
    let b : Answered text other = as_answered text other k in
    let same : (a.pieces ≡ b.pieces) × (a.end ≡ b.end) = one a.pieces b.pieces a.end b.end a.lexes b.lexes in
    a.is ∙ ap (λ (ps : List Piece). answered text ps a.end) same.0 ∙ ap (λ n. answered text b.pieces n) same.1 ∙ sym b.is
