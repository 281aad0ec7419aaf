use Rattle.std.proofs.Common.{◌≡◌, ◌∙◌, Vec, ℕ, length, arith, sym, ap}
use Rattle.std.specs.declared.alloc.Global.{Global}
use Rattle.rg_host.specs.Files.{bytes_at}
use Rattle.rg_host.specs.CallTrace.{Trace, now_of}
use Rattle.rg_host.proofs.FileLists.{bytes_at-get}
use Rattle.rg_host.proofs.call_trace.CallTrace.file.Goals as goal

pub returns-clause-bytes : goal.returns-clause-bytes
returns-clause-bytes c =
    let content = c.index-content.result.now in
    let is : bytes_at c.self.inside.files.items c.args.file ≡ content.items = bytes_at-get c.self.inside.files.items c.args.file content (omega (arith, c.self.invariant.eight, c.requires)) ∙ ap (λ (v : Vec ℕ Global). v.items) (sym c.index-content.ensures) in
    c.as_slice.ensures.value ∙ sym is ∙ c.self.invariant.now c.args.file ∙ ap (λ (t : Trace). now_of t c.args.file) c.self.view_is

pub returns-clause-limit : goal.returns-clause-limit
returns-clause-limit c =
    let content = c.index-content.result.now in
    let is : bytes_at c.self.inside.files.items c.args.file ≡ content.items = bytes_at-get c.self.inside.files.items c.args.file content (omega (arith, c.self.invariant.eight, c.requires)) ∙ ap (λ (v : Vec ℕ Global). v.items) (sym c.index-content.ensures) in
    omega (arith, c.self.invariant.small c.args.file, ap length (c.as_slice.ensures.value ∙ sym is))
