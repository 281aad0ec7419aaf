use Rattle.std.proofs.Common.{◌≡◌, ◌≤◌, ◌^◌, ◌∙◌, Vec, ℕ, List, inl, inr, length, sym, ap, subst, arith, length-append}
use Rattle.std.specs.declared.alloc.Global.{Global}
use Rattle.std.proofs.lemmas.Bool.{cases_lt}
use Rattle.rg_host.specs.Files.{bytes_at}
use Rattle.rg_host.proofs.FileLists.{each_push, bytes_at-beyond}
use Rattle.rg_host.proofs.file_list.copy_files.Goals as goal

pub each_file-preserved : goal.each_file-preserved
each_file-preserved c =
    let inv = c.each_file.invariant in
    let items = c.in_ok-push.ensures.items in
    let files = c.each_file.copies.items in
    record {
      size = omega (arith, ap length items, length-append {A = Vec ℕ Global}, inv.size);
      same = λ f below. subst (λ (l : List (Vec ℕ Global)). bytes_at l f ≡ bytes_at c.args.files.now f) (sym items)
          (each_push (λ l. l ≡ bytes_at c.args.files.now f) files c.in_ok-copy.copy f
          (λ here. c.in_ok-copy.ensures.same ∙ ap (bytes_at c.args.files.now) (sym (here ∙ inv.size)))
          (λ other. inv.same f (omega (arith, below, other, inv.size))));
      small = λ f. subst (λ (l : List (Vec ℕ Global)). length (bytes_at l f) ≤ 2 ^ 62) (sym items)
          (each_push (λ l. length l ≤ 2 ^ 62) files c.in_ok-copy.copy f (λ here. c.in_ok-copy.ensures.small) (λ other. inv.small f));
    }

pub returns-clause-same : goal.returns-clause-same
returns-clause-same c = λ f. elim (cases_lt f 8) [
  | inl below ↦ c.each_file.invariant.same f (omega (arith, below, c.each_file-test.false))
  | inr beyond ↦ bytes_at-beyond c.each_file.copies.items f (omega (arith, c.each_file.invariant.size, c.each_file.auto.i-end, beyond)) ∙ sym (bytes_at-beyond c.args.files.now f (omega (arith, beyond, c.requires)))
]
