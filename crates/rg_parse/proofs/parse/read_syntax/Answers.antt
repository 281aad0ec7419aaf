use Rattle.std.proofs.Common.{◌≡◌, ℕ, List, sym, subst, arith}
use Rattle.rg_token.specs.declared.piece.Piece.{Piece}
use Rattle.rg_token.specs.Lexing.{Lexes}
use Rattle.rg_parse.proofs.Reading.{goes_on_at, query_text, fault_reads}
use Rattle.rg_parse.proofs.One.{one_syntax}
use Rattle.rg_parse.proofs.Total.{some_syntax}
use Rattle.rg_parse.proofs.parse.read_syntax.Goals as goal

lexes_slice : (text : List ℕ) (pieces slice : List Piece) (end : ℕ) → slice ≡ pieces → Lexes text 0 pieces end → Lexes text 0 slice end
lexes_slice text pieces slice end same lexes = subst (λ (ps : List Piece). Lexes text 0 ps end) (sym same) lexes

pub returns-in-Err-clause-unambiguous : goal.returns-in-Err-clause-unambiguous
returns-in-Err-clause-unambiguous c = one_syntax c.args.text.now c.pieces.ensures.one

pub returns-then-lexed-text-clause-unambiguous : goal.returns-then-lexed-text-clause-unambiguous
returns-then-lexed-text-clause-unambiguous c = one_syntax c.args.text.now c.pieces.ensures.one

pub returns-in-Ok-read-clause-unambiguous : goal.returns-in-Ok-read-clause-unambiguous
returns-in-Ok-read-clause-unambiguous c = one_syntax c.args.text.now c.pieces.ensures.one

pub returns-clause-unambiguous : goal.returns-clause-unambiguous
returns-clause-unambiguous c = one_syntax c.args.text.now c.pieces.ensures.one

pub returns-then-lexed-text-clause-sound : goal.returns-then-lexed-text-clause-sound
returns-then-lexed-text-clause-sound c =
    let lexes = lexes_slice c.args.text.now c.in-Ok.lexed.pieces c.as_slice.result.now c.in-Ok.lexed.end c.as_slice.ensures c.in-Ok.ensures.lexes in
    goes_on_at c.args.text.now c.as_slice.result.now c.in-Ok.lexed.end lexes _ c.in-Ok-read.ensures.answers c.if-lexed-text.true

pub returns-in-Ok-read-clause-sound : goal.returns-in-Ok-read-clause-sound
returns-in-Ok-read-clause-sound c =
    let lexes = lexes_slice c.args.text.now c.in-Ok.lexed.pieces c.as_slice.result.now c.in-Ok.lexed.end c.as_slice.ensures c.in-Ok.ensures.lexes in
    query_text c.args.text.now c.as_slice.result.now c.in-Ok.lexed.end lexes _ c.in-Ok-read.ensures.answers (omega (arith, c.in-Ok.ensures.end, c.if-lexed-text.false))

pub returns-clause-sound : goal.returns-clause-sound
returns-clause-sound c =
    let lexes = lexes_slice c.args.text.now c.in-Ok.lexed.pieces c.as_slice.result.now c.in-Ok.lexed.end c.as_slice.ensures c.in-Ok.ensures.lexes in
    fault_reads c.args.text.now c.as_slice.result.now c.in-Ok.lexed.end lexes c.in-Err-read.fault c.in-Err-read.ensures.answers

pub returns-in-Err-clause-says : goal.returns-in-Err-clause-says
returns-in-Err-clause-says c = some_syntax

pub returns-then-lexed-text-clause-says : goal.returns-then-lexed-text-clause-says
returns-then-lexed-text-clause-says c = some_syntax

pub returns-in-Ok-read-clause-says : goal.returns-in-Ok-read-clause-says
returns-in-Ok-read-clause-says c = some_syntax

pub returns-clause-says : goal.returns-clause-says
returns-clause-says c = some_syntax
