use Rattle.std.proofs.Common.{◌∙◌, ℕ, Vec, ap, arith, length, length-append}
use Rattle.std.specs.declared.alloc.Global.{Global}
use Rattle.rg_host.specs.Files.{files_of}
use Rattle.rg_host.proofs.FileLists.{files_of-missing}
use Rattle.rg_host.proofs.image.add_missing.Goals as goal

pub missing-preserved : goal.missing-preserved
missing-preserved c =
    let items = c.in_ok-push.ensures.items in
    record {
      same = ap files_of items ∙ files_of-missing c.missing.files.items c.new.result c.new.ensures.items (omega arith) ∙ c.missing.invariant.same;
      few = omega (arith, ap length items, length-append {A = Vec ℕ Global});
    }
