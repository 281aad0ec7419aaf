use Rattle.std.proofs.Common.{◌≡◌, ◌∙◌, Vec, ℕ, List, arith, sym, ap}
use Rattle.std.proofs.lemmas.Grind.{common_steps}
use Rattle.std.specs.declared.alloc.Global.{Global}
use Rattle.rg_host.specs.Files.{bytes_at}
use Rattle.rg_host.specs.Effects.{with_file}
use Rattle.rg_host.proofs.FileLists.{bytes_at-get, bytes_at-set}
use Rattle.rg_host.proofs.replay.settle.Goals as goal

pub returns-clause-ok : goal.returns-clause-ok
returns-clause-ok c = λ f.
    let now = c.args.now.now in
    let content = c.index-now-file.result in
    let is : bytes_at now c.args.file ≡ content.items = bytes_at-get now c.args.file content c.requires.now ∙ ap (λ (v : Vec ℕ Global). v.items) (sym c.index-now-file.is) in
    let copied : c.in_ok-copy.copy.items ≡ content.items = grind (arith, common_steps) in
    bytes_at-set c.args.left.now.items c.args.file c.in_ok-copy.copy c.requires.left f
    ∙ ap (λ (l : List ℕ). with_file c.args.file l (bytes_at c.args.left.now.items) f) (copied ∙ sym is)
