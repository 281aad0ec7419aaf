-- What is printed of a query that was read is read as that query again.
use Rattle.std.proofs.Common.{◌≡◌, ℕ, zero, suc, List, [], ◌∷◌, length, Result, Ok, Err, IfOk, refl, ap, sym, ◌∙◌, subst}
use Rattle.std.proofs.lemmas.List.Elements.{All-head, All-tail}
use Rattle.std.specs.List.{All}
use Rattle.rg_event.specs.Shapes.{Shape, IsSchema}
use Rattle.rg_keywords.specs.declared.func.Func.{Func}
use Rattle.rg_grammar.specs.Grammar as syntax
use Rattle.rg_grammar.specs.Grammar.{Token, Found, tokens_of}
use Rattle.rg_grammar.specs.Erase.{erase_query}
use Rattle.rg_grammar.proofs.Laws.{one_query, found_again, found_writable, written_found}
use Rattle.rg_metric.specs.Queries.{Asked, asked}
use Rattle.rg_metric.specs.declared.query.Query.{Query}
use Rattle.rg_metric.specs.declared.query.Agg.{Agg}
use Rattle.rg_parse.specs.Tokens as parse
use Rattle.rg_token.specs.declared.piece.Piece.{Piece}
use Rattle.rg_token.specs.Layout.{placed}
use Rattle.rg_token.specs.Lexing.{Lexes}
use Rattle.rg_token.proofs.Laws.{laid, one_lexing}
use Rattle.rg_query.specs.declared.fault.QueryFault.{QueryFault}
use Rattle.rg_query.specs.Legal.{IsOperand, IsLegalAgg, AreLegalAggs, IsLegalQuery}
use Rattle.rg_query.specs.Printing.{query_text}
use Rattle.rg_query.specs.Resolving.{resolved}
use Rattle.rg_query.specs.Saying.{Means, Tells}
use Rattle.rg_query.specs.Spacing.{opened, spaced}
use Rattle.rg_query.specs.Written.{length_of, delay_of, syntax_of, written}
use Rattle.rg_query.proofs.Asking.{IsAsked, is_asked, asked_is, legal, same_shape}
use Rattle.rg_query.proofs.AskedAgain.{can_write, length_again, delay_again, asked_again}
use Rattle.rg_query.proofs.Laying.{text, IsCall, AreCalls, query_shown}
use Rattle.rg_query.proofs.Places.{asked_alike}
use Rattle.rg_query.proofs.PlainQuery.{plain_query}
use Rattle.rg_query.proofs.Spacing.{ArePlain, laid_out, read_back}

are_calls : (shape : Shape) (aggs : List Agg) → All (IsLegalAgg shape) aggs → AreCalls aggs
are_calls shape [] h = tt
are_calls shape (agg ∷ aggs) h = (is_call agg.func agg.field (All-head (IsLegalAgg shape) agg aggs h), are_calls shape aggs (All-tail (IsLegalAgg shape) agg aggs h))
  where
    is_call : (func : Func) (column : ℕ) → IsOperand shape func column → IsCall func column
    is_call func zero g = g
    is_call func (suc n) g = tt

-- the text is that of the written tokens
text_shown : (shape : Shape) (q : Asked) (aggs : List Agg) → q.aggs ≡ aggs → AreLegalAggs shape aggs → text opened (tokens_of (written shape q)) ≡ query_text shape q
text_shown shape q [] e h = absurd h
text_shown shape q (agg ∷ aggs) e h = query_shown shape q agg aggs e (are_calls shape (agg ∷ aggs) h)

-- what is written for a query that was found is found
written_is : (shape : Shape) (q : Asked) (ts : List Token) (query : syntax.Query) → Found 32 ts query → IsAsked shape query q → IsLegalQuery shape q → Found 32 (tokens_of (written shape q)) (syntax_of shape q)
written_is shape q ts query found is h =
    written_found 32 ts query (syntax_of shape q) (length_of q.window.length) (delay_of q.window.delay) found (can_write shape q h) (same_shape shape query q is)
    (length_again q.window.length h.length).writable (delay_again q.window.delay h.delay).writable

-- a text that is laid out as these tokens is a query that asks the same
laid_query : (shape : Shape) (q : Asked) → IsSchema shape → IsLegalQuery shape q → Found 32 (tokens_of (written shape q)) (syntax_of shape q) → Means shape (text opened (tokens_of (written shape q))) (Ok q)
laid_query shape q schema h found =
    let ts : List Token = tokens_of (written shape q) in
    let plain : ArePlain ts = plain_query shape q schema h in
    let lexes : Lexes (text opened ts) 0 (placed 0 (spaced opened ts)) (length (text opened ts)) = laid [] (spaced opened ts) (laid_out opened ts plain) in
    let read : (again : syntax.Query) × Found 32 (parse.tokens_of (text opened ts) (placed 0 (spaced opened ts))) again × (erase_query again ≡ erase_query (syntax_of shape q)) =
    found_again 32 ts (parse.tokens_of (text opened ts) (placed 0 (spaced opened ts))) (syntax_of shape q) (read_back ts plain) found in
    record {
      syntax = read.0;
      derives = record { pieces = placed 0 (spaced opened ts); lexes = lexes; found = read.1 };
      means = asked_is shape read.0 q (asked_alike shape read.0 (syntax_of shape q) q read.2 (asked_again shape q h));
    }

-- what a text means as a query is legal
meant_legal : (shape : Shape) (q : Asked) (said : List ℕ) → Means shape said (Ok q) → IsLegalQuery shape q
meant_legal shape q said m = legal shape m.syntax q (found_writable 32 (parse.tokens_of said m.derives.pieces) m.syntax m.derives.found) (is_asked shape m.syntax q m.means)

pub told_legal : (shape : Shape) (said : List ℕ) (r : Result Query QueryFault) → Tells shape said r → IfOk r (λ query. IsLegalQuery shape (asked query))
told_legal shape said (Ok query) tells = meant_legal shape (asked query) said tells.1
told_legal shape said (Err why) tells = tt

pub again : (shape : Shape) (q : Asked) (said : List ℕ) → IsSchema shape → Means shape said (Ok q) → Means shape (query_text shape q) (Ok q)
again shape q said schema m =
    let is : IsAsked shape m.syntax q = is_asked shape m.syntax q m.means in
    let h : IsLegalQuery shape q = meant_legal shape q said m in
    let found : Found 32 (tokens_of (written shape q)) (syntax_of shape q) = written_is shape q (parse.tokens_of said m.derives.pieces) m.syntax m.derives.found is h in
    subst (λ (xs : List ℕ). Means shape xs (Ok q)) (text_shown shape q q.aggs refl h.aggs) (laid_query shape q schema h found)

-- a text means one thing
pub one_meaning : (shape : Shape) (bytes : List ℕ) (said other : Result Asked QueryFault) → Means shape bytes said → Means shape bytes other → said ≡ other
one_meaning shape bytes said other m n =
    let same : (m.derives.pieces ≡ n.derives.pieces) × (length bytes ≡ length bytes) = one_lexing bytes 0 m.derives.pieces n.derives.pieces (length bytes) (length bytes) m.derives.lexes n.derives.lexes in
    let found : Found 32 (parse.tokens_of bytes m.derives.pieces) n.syntax = subst (λ (ps : List Piece). Found 32 (parse.tokens_of bytes ps) n.syntax) (sym same.0) n.derives.found in
    sym m.means ∙ ap (resolved shape) (one_query 32 32 (parse.tokens_of bytes m.derives.pieces) m.syntax n.syntax m.derives.found found) ∙ n.means

pub differ : (shape : Shape) (q other : Asked) (said more : List ℕ) → IsSchema shape → Means shape said (Ok q) → Means shape more (Ok other) → query_text shape q ≡ query_text shape other → q ≡ other
differ shape q other said more schema m n same =
    let a : Means shape (query_text shape q) (Ok q) = again shape q said schema m in
    let b : Means shape (query_text shape other) (Ok other) = again shape other more schema n in
    let c : Means shape (query_text shape q) (Ok other) = subst (λ (xs : List ℕ). Means shape xs (Ok other)) (sym same) b in
    let e : ◌≡◌ {A = Result Asked QueryFault} (Ok q) (Ok other) = one_meaning shape (query_text shape q) (Ok q) (Ok other) a c in
    cc (e)
