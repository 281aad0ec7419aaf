use Rattle.std.proofs.Common.{◌≡◌, true, false, inl, inr, rules, arith}
use Rattle.rg_chunk.specs.Heads.{is_head_of}
use Rattle.rg_chunk.proofs.Chunks.{chunk_no_head, chunk_no_events, chunk_tested, taken}
use Rattle.rg_chunk.proofs.chunk.take_chunk.Goals as goal

pub returns-in-Err-clause-agrees : goal.returns-in-Err-clause-agrees
returns-in-Err-clause-agrees c = inl (chunk_no_head _ _ c.in-Err.fault c.in-Err.ensures.agrees)

pub returns-in-Err-take_laid-clause-agrees : goal.returns-in-Err-take_laid-clause-agrees
returns-in-Err-take_laid-clause-agrees c = elim c.in-Err-take_laid.ensures.agrees [
  | inl stops ↦ inl (chunk_no_events _ _ c.in-Ok.said.0 c.in-Ok.said.1 c.take_head.new.from c.in-Err-take_laid.fault c.in-Ok.ensures.agrees stops)
  | inr memory ↦ inr memory
]

pub returns-then-not-is_head_of-clause-agrees : goal.returns-then-not-is_head_of-clause-agrees
returns-then-not-is_head_of-clause-agrees c =
    let differs : is_head_of c.in-Ok.said.1 c.in-Ok-take_laid.events ≡ false = search rules in
    inl (chunk_tested _ _ c.in-Ok.said.0 c.in-Ok.said.1 c.take_head.new.from c.in-Ok-take_laid.events c.take_laid.new.from false c.in-Ok.ensures.agrees c.in-Ok-take_laid.ensures.agrees differs)

pub returns-clause-agrees : goal.returns-clause-agrees
returns-clause-agrees c =
    let same : is_head_of c.in-Ok.said.1 c.in-Ok-take_laid.events ≡ true = search rules in
    chunk_tested _ _ c.in-Ok.said.0 c.in-Ok.said.1 c.take_head.new.from c.in-Ok-take_laid.events c.take_laid.new.from true c.in-Ok.ensures.agrees c.in-Ok-take_laid.ensures.agrees same

pub returns-clause-ok : goal.returns-clause-ok
returns-clause-ok c =
    let same : is_head_of c.in-Ok.said.1 c.in-Ok-take_laid.events ≡ true = search rules in
    (c.in-Ok.said.0, taken _ _ c.in-Ok.said.0 c.in-Ok.said.1 c.take_head.new.from c.in-Ok-take_laid.events c.take_laid.new.from c.in-Ok.ensures.ok c.in-Ok-take_laid.ensures.ok same)

pub returns-clause-legal : goal.returns-clause-legal
returns-clause-legal c = record {
  legal = c.in-Ok-take_laid.ensures.legal;
  rising = c.in-Ok-take_laid.ensures.rising;
  some = omega (arith, c.in-Ok-take_laid.ensures.count, c.in-Ok.ensures.legal.some);
  few = omega (arith, c.in-Ok-take_laid.ensures.count, c.in-Ok.ensures.legal.few);
}
