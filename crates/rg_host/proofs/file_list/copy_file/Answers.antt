use Rattle.std.proofs.Common.{◌≡◌, ◌∙◌, Vec, ℕ, sym, ap, arith, rules}
use Rattle.std.proofs.lemmas.Grind.{common_steps}
use Rattle.std.specs.declared.alloc.Global.{Global}
use Rattle.rg_host.specs.Files.{bytes_at}
use Rattle.rg_host.proofs.FileLists.{bytes_at-get, bytes_at-beyond}
use Rattle.rg_host.proofs.file_list.copy_file.Goals as goal

pub returns-then-i-files-clause-same : goal.returns-then-i-files-clause-same
returns-then-i-files-clause-same c = search (rules, sym (bytes_at-beyond c.args.files.now c.args.i c.if-i-files.true))

pub returns-clause-same : goal.returns-clause-same
returns-clause-same c =
    let content = c.index-files-i.result in
    let is : bytes_at c.args.files.now c.args.i ≡ content.items = bytes_at-get c.args.files.now c.args.i content c.if-i-files.false ∙ ap (λ (v : Vec ℕ Global). v.items) (sym c.index-files-i.is) in
    let copied : c.in_ok-copy.copy.items ≡ content.items = grind (arith, common_steps) in
    copied ∙ sym is
