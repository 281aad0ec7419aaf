use Rattle.std.proofs.Common.{◌∙◌, Vec, ℕ, List, ap}
use Rattle.std.specs.declared.alloc.Global.{Global}
use Rattle.rg_host.specs.Files.{bytes_at}
use Rattle.rg_host.proofs.Kept.{kept-none}
use Rattle.rg_host.proofs.call_trace.CallTrace.new.Goals as goal

pub invariant_of-result : goal.invariant_of-result
invariant_of-result c =
    kept-none _ _ _ _ c.new-2.ensures.items c.new.ensures.items c.into_files-first.ensures.few c.in_ok-files.ensures.eight
    (λ file. c.in_ok-files.ensures.same file ∙ ap (λ (l : List (Vec ℕ Global)). bytes_at l file) c.deref.ensures.value) c.in_ok-files.ensures.small
