use Rattle.rg_frame.proofs.Gates.{reaches-start}
use Rattle.rg_frame.proofs.log.FrameLog.new.Goals as goal

pub returns-clause-reaches : goal.returns-clause-reaches
returns-clause-reaches c = λ now going w told. reaches-start (w c.args.file)
