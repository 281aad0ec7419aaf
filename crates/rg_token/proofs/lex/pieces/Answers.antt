use Rattle.std.proofs.Common.{[]}
use Rattle.rg_token.specs.declared.piece.Piece.{Piece}
use Rattle.rg_token.specs.Lexing.{IsInside, IsToken}
use Rattle.rg_token.proofs.Steps.{all_more, so_far_more}
use Rattle.rg_token.proofs.Unique.{one_lexing, lexes_end}
use Rattle.rg_token.proofs.lex.pieces.Goals as goal

pub tokens-preserved : goal.tokens-preserved
tokens-preserved c =
    let text = c.args.text.now in
    let piece : Piece = record { start = c.skip-start.result; end = c.in-Some.found.end; shape = c.in-Some.found.shape } in
    record {
      within = c.in-Some.ensures.within.1;
      inside = all_more (IsInside text) c.tokens.pieces c.push.new.self piece c.in_ok-push-in-Some.ensures.ok c.tokens.invariant.inside c.in-Some.ensures.within;
      spelled = all_more (IsToken text) c.tokens.pieces c.push.new.self piece c.in_ok-push-in-Some.ensures.ok c.tokens.invariant.spelled c.in-Some.ensures.spelled;
      so_far = so_far_more text c.tokens.at c.tokens.pieces c.push.new.self piece c.in_ok-push-in-Some.ensures.ok c.tokens.invariant.so_far (record {
        size = c.in-Some.ensures.found.0;
        start = c.skip-start.ensures.place;
        end = c.in-Some.ensures.found.1;
        longest = c.in-Some.ensures.found.2;
      });
    }

pub returns-in-None-clause-lexes : goal.returns-in-None-clause-lexes
returns-in-None-clause-lexes c = lexes_end c.args.text.now c.tokens.pieces c.skip-start.result (c.tokens.invariant.so_far [] c.skip-start.result (c.skip-start.ensures.place, c.in-None.ensures.none))

pub returns-in-None-clause-one : goal.returns-in-None-clause-one
returns-in-None-clause-one c = one_lexing c.args.text.now 0

pub returns-in_err-push-in-Some-clause-one : goal.returns-in_err-push-in-Some-clause-one
returns-in_err-push-in-Some-clause-one c = one_lexing c.args.text.now 0
