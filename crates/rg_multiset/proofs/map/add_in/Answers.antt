use Rattle.rg_multiset.proofs.map.add_in.Goals as goal

pub returns-then-raise-clause-kept : goal.returns-then-raise-clause-kept
returns-then-raise-clause-kept g c = λ legal. c.raise.ensures.kept _
