use Rattle.rg_serve_spec.proofs.Reading.{texts_law, lines_law, lines_all}
use Rattle.rg_serve_spec.proofs.law_frames.Goals as goal

pub returns-clause-texts : goal.returns-clause-texts
returns-clause-texts c = texts_law

pub returns-clause-lines : goal.returns-clause-lines
returns-clause-lines c = lines_law

pub returns-clause-all : goal.returns-clause-all
returns-clause-all c = lines_all
