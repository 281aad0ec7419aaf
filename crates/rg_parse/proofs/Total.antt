-- Every text says something: what the tokens of the text and the machine's outcome make of it.
use Rattle.std.proofs.Common.{◌≡◌, ◌∙◌, sym, refl, ap, ℕ, zero, suc, ◌≤◌, List, [], ◌∷◌, length, drop, nat_lt, Bool, true, false, arith}
use Rattle.std.proofs.lemmas.Bool.{ltb-true, ltb-false}
use Rattle.std.proofs.lemmas.List.{drop-map}
use Rattle.rg_grammar.specs.Grammar.{Query, Token}
use Rattle.rg_grammar.specs.Machine.{State, Step, goes, no_query, too_deep as deep_step, after_window, at_end, Outcome, run, read, stops, nests, at_start, step, finish, after_step}
use Rattle.rg_token.specs.declared.piece.Piece.{Piece}
use Rattle.rg_token.specs.Lexing.{Lexes}
use Rattle.rg_token.proofs.Laws.{LexesFrom, lexes_whole}
use Rattle.rg_parse.specs.Tokens.{tokens_of, token_of}
use Rattle.rg_parse.specs.Texts.{place_of, Syntax, parsed, stops_at, too_deep, Reads}
use Rattle.rg_parse.proofs.Reading.{stopped_at, nested_so, goes_on_at, query_text}

-- the tokens from which on the machine stops are the last ones

record AreLast (tokens rest : List Token) : Type 0 where
  number : ℕ
  is : rest ≡ drop number tokens

none_left : (s : State) (rest : List Token) → finish s ≡ stops rest → rest ≡ []
none_left (after_window g length) rest is = absurd (cc is)
none_left (at_end q) rest is = absurd (cc is)
none_left _ rest is = cc is

behind_step :
    (s : Step) (t : Token) (ts rest : List Token) (go : State → Outcome) → ((next : State) → go next ≡ stops rest → AreLast ts rest)
    → after_step s (t ∷ ts) go ≡ stops rest → AreLast (t ∷ ts) rest
behind_step (goes next) t ts rest go more is = let last = more next is in record { number = suc last.number; is = last.is }
behind_step no_query t ts rest go more is = record { number = 0; is = cc is }
behind_step deep_step t ts rest go more is = absurd (cc is)

are_last : (s : State) (ts rest : List Token) → run 32 s ts ≡ stops rest → AreLast ts rest
are_last s [] rest is = record { number = 0; is = none_left s rest is }
are_last s (t ∷ ts) rest is = behind_step (step 32 s t) t ts rest (λ next. run 32 next ts) (λ next same. are_last next ts rest same) is

module _ (text : List ℕ) (pieces : List Piece) (end : ℕ) (lexes : Lexes text 0 pieces end) (within : end ≤ length text) where
  at_read : (q : Query) → run 32 at_start (tokens_of text pieces) ≡ read q → (before : Bool) → nat_lt end (length text) ≡ before → (syntax : Syntax) × Reads text syntax
  at_read q is true less = (stops_at end, goes_on_at text pieces end lexes q is (ltb-true _ _ less))
  at_read q is false more = (parsed q, query_text text pieces end lexes q is (omega (arith, within, ltb-false _ _ more)))

  by_outcome : (outcome : Outcome) → run 32 at_start (tokens_of text pieces) ≡ outcome → (syntax : Syntax) × Reads text syntax
  by_outcome (read q) is = at_read q is (nat_lt end (length text)) refl
  by_outcome (stops rest) is =
      let last = are_last at_start (tokens_of text pieces) rest is in
      let rest_is : rest ≡ tokens_of text (drop last.number pieces) = last.is ∙ drop-map (token_of text) last.number pieces in
      let place : ℕ = place_of (drop last.number pieces) end in
      (stops_at place, stopped_at text pieces end lexes place (record { number = last.number; placed = refl; stopped = is ∙ ap stops rest_is }))
  by_outcome (nests rest) is = (too_deep, nested_so text pieces end lexes (record { rest = rest; nested = is }))

pub some_syntax : (text : List ℕ) → (syntax : Syntax) × Reads text syntax
some_syntax text =
    let lexed = lexes_whole text in
    by_outcome text lexed.pieces lexed.end lexed.lexes lexed.within (run 32 at_start (tokens_of text lexed.pieces)) refl
