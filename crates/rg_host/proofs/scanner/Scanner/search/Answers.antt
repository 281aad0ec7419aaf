use Rattle.std.proofs.Common.{subst, arith, ap, refl, Ok, Err, true, false, Bool}
use Rattle.rg_host.specs.Lines.{HasNoLf}
use Rattle.rg_host.specs.Scan.{Scan}
use Rattle.rg_host.proofs.Nexts.{takes_then, asks_from, loads_found, loads_finished, next_refused}
use Rattle.rg_host.proofs.scanner.Scanner.search.Goals as goal

pub lines-preserved : goal.lines-preserved
lines-preserved g c =
    let asks = asks_from c.find.new.self c.lines.self _ _ _ (Ok true) _ c.in_default.ensures.same (ap (λ (more : Bool). Ok more) c.in-Ok-true.field-0-test) c.in-Ok-true.ensures.asks in
    record {
      takes = takes_then _ c.lines.self.reading _ _ _ _ c.lines.invariant.takes asks.0;
      limit = asks.2;
      later = omega (arith, c.lines.invariant.later, c.in-Ok-true.ensures.later);
      held = λ some. absurd (some (subst (λ (x : Scan). HasNoLf x.reading.pending) (c.lines.invariant.held some).0 c.in_default.ensures.none));
    }

pub returns-in-Some-clause-next : goal.returns-in-Some-clause-next
returns-in-Some-clause-next g c = loads_found _ _ _ _ _ _ c.in-Some.found c.lines.invariant.takes c.lines.invariant.limit c.requires.going.not_ended c.in-Some.ensures.line

pub returns-in-Err-clause-next : goal.returns-in-Err-clause-next
returns-in-Err-clause-next g c =
    let asks = asks_from c.find.new.self c.lines.self _ _ _ (Err c.in-Err.fault) _ c.in_default.ensures.same refl c.in-Err.ensures.asks in
    next_refused _ c.lines.self.reading _ _ _ _ c.in-Err.fault c.lines.invariant.takes c.lines.invariant.limit c.requires.going.not_ended c.in_default.ensures.none asks

pub returns-in-Ok-false-clause-next : goal.returns-in-Ok-false-clause-next
returns-in-Ok-false-clause-next g c =
    let asks = asks_from c.find.new.self c.lines.self _ _ _ (Ok false) _ c.in_default.ensures.same (ap (λ (more : Bool). Ok more) c.in-Ok-false.field-0-test) c.in-Ok-false.ensures.asks in
    loads_finished _ c.ask.new.self.reading _ _ _ _ c.finish.result (takes_then _ c.lines.self.reading _ _ _ _ c.lines.invariant.takes asks.0) asks.1
    c.requires.going.all_spent c.requires.going.not_ended asks.3 c.finish.ensures.line c.finish.ensures.all_spent c.finish.ensures.end

pub returns-in-Some-clause-held : goal.returns-in-Some-clause-held
returns-in-Some-clause-held g c = λ some. (c.lines.invariant.held some).1

pub returns-in-Err-clause-held : goal.returns-in-Err-clause-held
returns-in-Err-clause-held g c = λ some. absurd (some (subst (λ (x : Scan). HasNoLf x.reading.pending) (c.lines.invariant.held some).0 c.in_default.ensures.none))

pub returns-in-Ok-false-clause-held : goal.returns-in-Ok-false-clause-held
returns-in-Ok-false-clause-held g c = λ some. absurd (some (subst (λ (x : Scan). HasNoLf x.reading.pending) (c.lines.invariant.held some).0 c.in_default.ensures.none))
