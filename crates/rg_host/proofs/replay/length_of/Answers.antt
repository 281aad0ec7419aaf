use Rattle.std.proofs.Common.{◌≡◌, ◌∙◌, Vec, ℕ, length, arith, sym, ap}
use Rattle.std.specs.declared.alloc.Global.{Global}
use Rattle.rg_host.specs.Files.{bytes_at}
use Rattle.rg_host.proofs.FileLists.{bytes_at-get}
use Rattle.rg_host.proofs.replay.length_of.Goals as goal

pub returns : goal.returns
returns c =
    let files = c.args.files.now in
    let content = c.index-files-file.result in
    let is : bytes_at files c.args.file ≡ content.items = bytes_at-get files c.args.file content c.requires ∙ ap (λ (v : Vec ℕ Global). v.items) (sym c.index-files-file.is) in
    omega (arith, ap length is, content.ok.0, c.len.ensures)
