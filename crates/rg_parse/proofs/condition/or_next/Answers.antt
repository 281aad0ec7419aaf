use Rattle.rg_parse.proofs.condition.or_next.Goals as goal

pub returns-in-Ok-clause-made : goal.returns-in-Ok-clause-made
returns-in-Ok-clause-made c = λ text h. record { head = h.head; outer = h.outer; here = record { either = c.in-Ok.ensures.made text h.either h.last; both = tt } }
