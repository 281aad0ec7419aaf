use Rattle.std.proofs.Common.{◌∙◌, sym, subst}
use Rattle.std.specs.Prelude.{All}
use Rattle.rg_plan.specs.Offsets.{IsMeasured}
use Rattle.rg_plan.proofs.plan.timed_of.Goals as goal

pub offsets_of-requires : goal.offsets_of-requires
offsets_of-requires c =
    subst (All IsMeasured) (sym (c.deref.ensures.value ∙ c.in_ok-windows.ensures)) c.requires
