use Rattle.std.proofs.Common.{◌≡◌, ℕ, List, length, set, Vec, arith, sym, ◌∙◌, ap}
use Rattle.std.specs.declared.alloc.Global.{Global}
use Rattle.rg_host.specs.Files.{bytes_at}
use Rattle.rg_host.specs.Effects.{with_file, written}
use Rattle.rg_host.proofs.FileLists.{bytes_at-get, bytes_at-set, with_same}
use Rattle.rg_host.proofs.Results.{on_err}
use Rattle.rg_host.specs.EffectLaws.{written-within}
use Rattle.rg_host.proofs.file_list.write_in.Goals as goal

pub overwrite-requires : goal.overwrite-requires
overwrite-requires c =
    let content = c.index_mut-content.result.now in
    let is : bytes_at c.args.files.now.items c.args.file ≡ content.items = bytes_at-get c.args.files.now.items c.args.file content c.requires.file ∙ ap (λ (v : Vec ℕ Global). v.items) (sym c.index_mut-content.ensures.value) in
    omega (arith, ap length is, content.ok.0, c.requires.within)

pub returns-in_err-overwrite-clause-err : goal.returns-in_err-overwrite-clause-err
returns-in_err-overwrite-clause-err c =
    let files = c.args.files.now.items in
    let content = c.index_mut-content.result.now in
    let is : bytes_at files c.args.file ≡ content.items = bytes_at-get files c.args.file content c.requires.file ∙ ap (λ (v : Vec ℕ Global). v.items) (sym c.index_mut-content.ensures.value) in
    let same : (f : ℕ) → bytes_at (set files c.args.file c.overwrite.new.content) f ≡ bytes_at files f = λ f.
    bytes_at-set files c.args.file c.overwrite.new.content c.requires.file f ∙ with_same c.args.file _ (bytes_at files) f (c.in_err-overwrite.ensures.err ∙ sym is) in
    on_err _ _ same

pub returns-clause-ok : goal.returns-clause-ok
returns-clause-ok c = λ f.
    let files = c.args.files.now.items in
    let content = c.index_mut-content.result.now in
    let is : bytes_at files c.args.file ≡ content.items = bytes_at-get files c.args.file content c.requires.file ∙ ap (λ (v : Vec ℕ Global). v.items) (sym c.index_mut-content.ensures.value) in
    bytes_at-set files c.args.file c.overwrite.new.content c.requires.file f
    ∙ ap (λ (l : List ℕ). with_file c.args.file l (bytes_at files) f)
    (c.in_ok-overwrite.ensures.ok ∙ sym (written-within c.args.at c.args.bytes.now content.items (omega (arith, ap length is, c.requires.within))) ∙ ap (λ (l : List ℕ). written c.args.at c.args.bytes.now l) (sym is))
