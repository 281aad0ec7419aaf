use Rattle.std.proofs.Common.{◌∙◌, Some}
use Rattle.rg_key_index.proofs.Holding.{others_stay}
use Rattle.rg_key_index.proofs.index.SlotIndex.put_overflowed.Goals as goal

pub returns-clause-others : goal.returns-clause-others
returns-clause-others c = λ k apart.
    others_stay c.args.self.now.overflow c.insert.new.self c.in_ok-copy.copy (Some c.args.slot) c.in_ok-insert.ensures.updates k (λ e. apart (e ∙ c.in_ok-copy.ensures))
