use Rattle.rg_parse.proofs.condition.take_operand.Goals as goal

pub returns-clause-made : goal.returns-clause-made
returns-clause-made c = λ text h o. record {
  head = h.head;
  outer = h.outer;
  either = h.here.either;
  last = c.in_ok-last.ensures.made text h.here.both (c.in_ok-operand.ensures.made text o);
}
