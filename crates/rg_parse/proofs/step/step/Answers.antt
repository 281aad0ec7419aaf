use Rattle.rg_parse.proofs.step.step.Goals as goal

pub returns-in-Start-clause-made : goal.returns-in-Start-clause-made
returns-in-Start-clause-made c = c.step_start.ensures.made c.args.text.now

pub returns-in-Open-clause-made : goal.returns-in-Open-clause-made
returns-in-Open-clause-made c = c.step_open.ensures.made c.args.text.now (rw c.in-Open.is at c.requires.state)

pub returns-in-Field-clause-made : goal.returns-in-Field-clause-made
returns-in-Field-clause-made c = c.step_field.ensures.made c.args.text.now c.requires.token (rw c.in-Field.is at c.requires.state)

pub returns-in-Close-clause-made : goal.returns-in-Close-clause-made
returns-in-Close-clause-made c = let h = rw c.in-Close.is at c.requires.state in c.step_close.ensures.made c.args.text.now h.0 h.1

pub returns-in-Pct-clause-made : goal.returns-in-Pct-clause-made
returns-in-Pct-clause-made c = c.step_pct.ensures.made c.args.text.now (rw c.in-Pct.is at c.requires.state)

pub returns-in-Comma-clause-made : goal.returns-in-Comma-clause-made
returns-in-Comma-clause-made c = let h = rw c.in-Comma.is at c.requires.state in c.step_comma.ensures.made c.args.text.now h.0 h.1

pub returns-in-PctField-clause-made : goal.returns-in-PctField-clause-made
returns-in-PctField-clause-made c = let h = rw c.in-PctField.is at c.requires.state in c.step_pct_field.ensures.made c.args.text.now c.requires.token h.0 h.1

pub returns-in-AfterCall-clause-made : goal.returns-in-AfterCall-clause-made
returns-in-AfterCall-clause-made c = c.step_after_call.ensures.made c.args.text.now (rw c.in-AfterCall.is at c.requires.state)

pub returns-in-Stream-clause-made : goal.returns-in-Stream-clause-made
returns-in-Stream-clause-made c = c.step_stream.ensures.made c.args.text.now c.requires.token (rw c.in-Stream.is at c.requires.state)
