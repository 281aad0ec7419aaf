-- The order of texts is one, and ties those alone that are equal.
use Rattle.std.specs.Prelude.{◌≡◌, ℕ, Bool, true, false, List, length, bytes_eq, refl}
use Rattle.std.proofs.Common.{ap, sym, ◌∙◌, subst}
use Rattle.std.proofs.lemmas.Cmp.{nat_cmp_total, nat_list_cmp_total, on_total, then_total, tied_itself}
use Rattle.std.proofs.lemmas.Map.Text.{is_eq-slice_cmp}
use Rattle.std.proofs.lemmas.Slice.Eq.{bytes_eq-Decides}
use Rattle.std.specs.Cmp.{IsTotalOrder}
use Rattle.std.specs.Cmp.Lexicographic.{slice_cmp}
use Rattle.std.specs.Ordering.{nat_cmp, ordering_then, is_eq, eq_by_cmp}
use Rattle.std.specs.declared.cmp.Ordering.{Ordering}
use Rattle.std.specs.declared.cmp.Ordering.TheVariants.{Less, Equal, Greater}
use Rattle.rg_event.specs.Words.{word_cmp}

pub word_total : IsTotalOrder word_cmp
word_total = then_total (on_total length nat_cmp_total) nat_list_cmp_total

pub word_ties : (first second : List ℕ) → bytes_eq first second ≡ eq_by_cmp word_cmp first second
word_ties first second = by (bytes_eq first second) refl
  where
    untied : (order : Ordering) → bytes_eq first second ≡ false → false ≡ is_eq (ordering_then order (slice_cmp nat_cmp first second))
    untied Less other = refl
    untied Equal other = sym (is_eq-slice_cmp first second ∙ other)
    untied Greater other = refl

    by : (b : Bool) → bytes_eq first second ≡ b → b ≡ eq_by_cmp word_cmp first second
    by true same =
        let tie : word_cmp first second ≡ Equal = subst (λ text. word_cmp first text ≡ Equal) ((bytes_eq-Decides first second).0 same) (tied_itself word_total first) in
        sym (ap is_eq tie)
    by false other = untied (nat_cmp (length first) (length second)) other
