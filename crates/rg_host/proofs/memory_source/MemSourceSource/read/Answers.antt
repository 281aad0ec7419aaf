use Rattle.std.proofs.Common.{◌∙◌, sym, ap, Some}
use Rattle.rg_host.specs.MemSource.{Supply}
use Rattle.rg_host.proofs.Taking.{drop-read}
use Rattle.rg_host.proofs.memory_source.MemSourceSource.read.Goals as goal

pub returns-clause-bytes : goal.returns-clause-bytes
returns-clause-bytes c =
    let same = rw c.deref-2.ensures.value at c.copy_prefix-count.ensures.bytes in
    let read = drop-read c.self.inside.bytes.items c.copy_prefix-count.new.to c.self.inside.at c.copy_prefix-count.result same in
    ap (λ v. Some v) (ap (λ (s : Supply). s.left) (sym c.self.view_is) ∙ read)
