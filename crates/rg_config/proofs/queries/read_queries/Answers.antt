use Rattle.std.proofs.Common.{arith}
use Rattle.std.proofs.lemmas.List.Elements.{All-nil}
use Rattle.rg_query.specs.Legal.{IsLegalQuery}
use Rattle.rg_config.proofs.Taken.{pushed, printed, few, refusal, whole}
use Rattle.rg_config.proofs.Legal.{none_excess, legal_pushed}
use Rattle.rg_config.proofs.queries.read_queries.Goals as goal

pub texts-init : goal.texts-init
texts-init c = rw c.new-2.ensures.items (record { taken = tt; printed = c.new.ensures; legal = All-nil (IsLegalQuery c.args.schema.now) })

pub read_query-requires : goal.read_query-requires
read_query-requires c = record { at_most = few _ c.args.texts.now c.texts.number _ (omega (arith, c.texts-test.true)) c.texts.invariant.taken }

pub returns-in-Err-clause-reads : goal.returns-in-Err-clause-reads
returns-in-Err-clause-reads c = refusal _ c.args.texts.now c.texts.number _ _ _ (omega (arith, c.texts-test.true)) c.texts.invariant.taken c.in-Err.ensures.reads

pub returns-clause-reads : goal.returns-clause-reads
returns-clause-reads c = whole _ c.args.texts.now c.texts.number _ (omega (arith, c.texts-test.false, c.texts.auto.number-end)) c.texts.invariant.taken

pub returns-clause-printed : goal.returns-clause-printed
returns-clause-printed c = c.texts.invariant.printed

pub returns-clause-legal : goal.returns-clause-legal
returns-clause-legal c = c.texts.invariant.legal

pub returns-clause-within : goal.returns-clause-within
returns-clause-within c = none_excess c.args.schema.now _ _ (returns-clause-reads c)

pub texts-preserved : goal.texts-preserved
texts-preserved c = record {
  taken = pushed c.args.schema.now c.args.texts.now c.texts.number _ c.texts.queries.parsed.items _ c.in-Ok.query (omega (arith, c.texts-test.true))
      c.in-Ok-push.ensures.parsed c.texts.invariant.taken c.in-Ok.ensures.reads;
  printed = printed c.args.schema.now c.texts.queries.parsed.items _ c.in-Ok.query _ _ c.in-Ok-push.ensures.parsed c.in-Ok-push.ensures.printed c.texts.invariant.printed;
  legal = legal_pushed c.args.schema.now c.texts.queries.parsed.items _ c.in-Ok.query c.in-Ok-push.ensures.parsed c.texts.invariant.legal c.in-Ok.ensures.legal;
}
