use Rattle.std.proofs.Common.{rules, sym, ◌∙◌}
use Rattle.rg_pipe.proofs.Takings.{few_taken, more_taken}
use Rattle.rg_pipe.proofs.buffer.fill_request.Goals as goal

pub returns-in-Err-clause-takes : goal.returns-in-Err-clause-takes
returns-in-Err-clause-takes c = few_taken _ _ _ _ c.fill-head.ensures.count c.fill-head.ensures.taken (search rules)

pub returns-in-Ok-clause-takes : goal.returns-in-Ok-clause-takes
returns-in-Ok-clause-takes c =
    more_taken _ c.fill-head.new.bytes.items c.u32.new.self _ _ _ c.in-Ok.said c.size_for.result _ c.fill-head.ensures.count c.fill-head.ensures.taken c.requires.sized
    (sym c.deref.ensures.value ∙ sym c.new-reader.ensures ∙ c.in-Ok.ensures.ok) (search rules) c.size_for.ensures.size c.fill-more.ensures.count c.fill-more.ensures.taken
