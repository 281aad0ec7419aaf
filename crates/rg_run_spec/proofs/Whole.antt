-- The laws of whole runs.
use Rattle.std.proofs.Common.{◌≡◌, ℕ, zero, suc, ◌+◌, ◌-◌, ◌≤◌, ◌<◌, max, nat_le, Bool, true, false, List, [], ◌++◌, length, take, drop, get_or, Some, None, refl, ap, sym, ◌∙◌, subst, arith, append_assoc, length-append, cond}
use Rattle.std.proofs.lemmas.List.{take_all, take-append-drop, length-take-le}
use Rattle.std.proofs.lemmas.Bool.{leb-true, leb-false, lt-ltb}
use Rattle.rg_event.specs.declared.event.Event.{Event}
use Rattle.rg_event.specs.Rising.{next_offset, IsRising}
use Rattle.rg_run_spec.specs.Verdicts.{line_verdict}
use Rattle.rg_run_spec.specs.Accepted.{events_before, events_after}
use Rattle.rg_run_spec.specs.Output.{turn_lines, put_at, put_before, out, end_lines, unstopped, Terms}
use Rattle.rg_run_spec.specs.Ahead.{events_from, put_from, out_from}
use Rattle.rg_run_spec.specs.Laws.{IsPrefixOf, IsSuffixOf, MayLeave, below}
use Rattle.rg_run_spec.proofs.Steps.{Item}
use Rattle.rg_run_spec.proofs.Folds.{goes-append, puts-append, grown, accepted-goes, puts-goes, accepted-all, puts-all, out-is}
use Rattle.rg_run_spec.proofs.Resuming.{Resumed, resumed, puts-below, all_passed}
use Rattle.rg_run_spec.proofs.Orders.{rising-goes, count-goes, below-prefix, below-is_prefix}

module _ (terms : Terms) (held : List Event) (first : ℕ) where
  -- More lines.

  pub accepted_more : (front back : List Item) → events_after terms.basis held first (front ++ back) ≡ events_from terms.basis (events_after terms.basis held first front) (first + length front) back
  accepted_more front back = accepted-all terms held first (front ++ back) ∙ goes-append terms held first front back
      ∙ ap (λ es. events_from terms.basis es (first + length front) back) (sym (accepted-all terms held first front))

  pub accepted_begins : (front back : List Item) → IsPrefixOf (events_after terms.basis held first front) (events_after terms.basis held first (front ++ back))
  accepted_begins front back =
      let g = grown terms (events_after terms.basis held first front) (first + length front) back in
      (g.added, sym (accepted_more front back ∙ g.is))

  pub out_more : (front back : List Item) → out terms held first (front ++ back) ≡ put_before terms held first front (length front) ++ out_from terms (events_after terms.basis held first front) (first + length front) back
  out_more front back =
      let puts = put_from terms held first front in
      let es = events_from terms.basis held first front in
      let more = put_from terms es (first + length front) back in
      let n : first + length (front ++ back) ≡ first + length front + length back = omega (arith, length-append front back) in
      out-is terms held first (front ++ back)
      ∙ ap (λ l. l ++ end_lines (first + length (front ++ back)) (events_from terms.basis held first (front ++ back))) (puts-append terms held first front back)
      ∙ append_assoc puts more (end_lines (first + length (front ++ back)) (events_from terms.basis held first (front ++ back)))
      ∙ ap (λ k. puts ++ (more ++ end_lines k (events_from terms.basis held first (front ++ back)))) n
      ∙ ap (λ l. puts ++ (more ++ end_lines (first + length front + length back) l)) (goes-append terms held first front back)
      ∙ ap (λ l. l ++ out_from terms es (first + length front) back) (sym (puts-all terms held first front))
      ∙ ap (λ l. put_before terms held first front (length front) ++ out_from terms l (first + length front) back) (sym (accepted-all terms held first front))

  pub out_begins : (front back : List Item) → IsPrefixOf (put_before terms held first front (length front)) (out terms held first (front ++ back))
  out_begins front back = (out_from terms (events_after terms.basis held first front) (first + length front) back, sym (out_more front back))

  -- The first of the lines.

  pub first_lines : (lines : List Item) (i : ℕ) → i ≤ length lines → IsPrefixOf (events_before terms.basis held first lines i) (events_after terms.basis held first lines)
  first_lines lines i within =
      let g = grown terms (events_from terms.basis held first (take i lines)) (first + length (take i lines)) (drop i lines) in (
        g.added,
        sym (accepted-all terms held first lines ∙ ap (λ l. events_from terms.basis held first l) (sym (take-append-drop i lines)) ∙ goes-append terms held first (take i lines) (drop i lines) ∙ g.is
            ∙ ap (λ l. l ++ g.added) (sym (accepted-goes terms held first lines i within))),
      )

  pub held_begins : (lines : List Item) → IsPrefixOf held (events_after terms.basis held first lines)
  held_begins lines = let g = grown terms held first lines in (g.added, sym (accepted-all terms held first lines ∙ g.is))

  -- What is still to come.

  pub accepted_ahead : (lines : List Item) (i : ℕ) → i ≤ length lines → events_after terms.basis held first lines ≡ events_from terms.basis (events_before terms.basis held first lines i) (first + i) (drop i lines)
  accepted_ahead lines i within =
      let n : first + length (take i lines) ≡ first + i = omega (arith, length-take-le i lines within) in
      accepted-all terms held first lines ∙ ap (λ l. events_from terms.basis held first l) (sym (take-append-drop i lines)) ∙ goes-append terms held first (take i lines) (drop i lines)
      ∙ ap (λ k. events_from terms.basis (events_from terms.basis held first (take i lines)) k (drop i lines)) n
      ∙ ap (λ es. events_from terms.basis es (first + i) (drop i lines)) (sym (accepted-goes terms held first lines i within))

  pub out_ahead : (lines : List Item) (i : ℕ) → i ≤ length lines → out terms held first lines ≡ put_before terms held first lines i ++ out_from terms (events_before terms.basis held first lines i) (first + i) (drop i lines)
  out_ahead lines i within =
      let front = take i lines in
      let n : first + length front ≡ first + i = omega (arith, length-take-le i lines within) in
      let puts : put_before terms held first front (length front) ≡ put_before terms held first lines i = puts-all terms held first front ∙ sym (puts-goes terms held first lines i within) in
      let es : events_after terms.basis held first front ≡ events_before terms.basis held first lines i = accepted-all terms held first front ∙ sym (accepted-goes terms held first lines i within) in
      ap (λ l. out terms held first l) (sym (take-append-drop i lines))
      ∙ out_more front (drop i lines)
      ∙ ap (λ l. l ++ out_from terms (events_after terms.basis held first front) (first + length front) (drop i lines)) puts
      ∙ ap (λ l. put_before terms held first lines i ++ out_from terms l (first + length front) (drop i lines)) es
      ∙ ap (λ k. put_before terms held first lines i ++ out_from terms (events_before terms.basis held first lines i) k (drop i lines)) n

  -- Nothing is put for lines below the next offset of the store.
  nothing_before : (lines : List Item) (i : ℕ) → first + i ≤ next_offset held → put_before terms held first lines i ≡ []
  nothing_before lines zero within = refl
  nothing_before lines (suc i) within =
      ap (λ l. l ++ put_at terms held first lines i) (nothing_before lines i (omega (arith, within)))
      ∙ ap (λ b. turn_lines terms (events_before terms.basis held first lines i) (first + i) (cond b None (Some (line_verdict terms.basis (events_before terms.basis held first lines i) (first + i) (get_or lines i None))))) (lt-ltb (first + i) (next_offset held) (omega (arith, within)))

  -- What a run may leave.

  module _ (lines : List Item) (left : List Event) (leaves : MayLeave terms.basis held first lines left) where
    goes_on : Resumed terms held left first lines
    goes_on = resumed terms held left first lines leaves.keeps.0 leaves.begins.0 leaves.keeps.1 (leaves.begins.1 ∙ accepted-all terms held first lines)

    pub accepted_again : events_after terms.basis left first lines ≡ events_after terms.basis held first lines
    accepted_again = accepted-all terms left first lines ∙ goes_on.same ∙ sym (accepted-all terms held first lines)

    abbrev count : ℕ
    count = next_offset left - first

    far : (b : Bool) → nat_le count (length lines) ≡ b → put_from terms held first (take count lines) ≡ put_before terms held first lines count
    far true within = sym (puts-goes terms held first lines count (leb-true _ _ within))
    far false beyond =
        let more : length lines < next_offset left - first = leb-false _ _ beyond in
        let above : first + (next_offset left - first) ≤ next_offset held = omega (arith, more, goes_on.within) in
        ap (λ l. put_from terms held first l) (take_all count lines (omega (arith, more)) ∙ sym (take_all (next_offset held - first) lines (omega (arith, more, above))))
        ∙ puts-below terms held first lines
        ∙ sym (nothing_before lines count above)

    pub out_again : out terms held first lines ≡ put_before terms held first lines (next_offset left - first) ++ out terms left first lines
    out_again =
        let ends = end_lines (first + length lines) (events_from terms.basis held first lines) in
        let rest = put_from terms left first lines in
        out-is terms held first lines
        ∙ ap (λ l. l ++ ends) goes_on.text
        ∙ append_assoc (put_from terms held first (take count lines)) rest ends
        ∙ ap (λ l. l ++ (rest ++ ends)) (far (nat_le count (length lines)) refl)
        ∙ ap (λ es. put_before terms held first lines count ++ (rest ++ end_lines (first + length lines) es)) (sym goes_on.same)
        ∙ ap (λ l. put_before terms held first lines count ++ l) (sym (out-is terms left first lines))

  -- Going on from the events after the first of the lines.
  pub accepted_splits : (front back : List Item) → events_after terms.basis (events_after terms.basis held first front) first (front ++ back) ≡ events_after terms.basis held first (front ++ back)
  accepted_splits front back = accepted_again (front ++ back) (events_after terms.basis held first front) (record { keeps = held_begins front; begins = accepted_begins front back })

  -- Order and number.

  pub accepted_rises : (lines : List Item) → IsRising held → IsRising (events_after terms.basis held first lines)
  accepted_rises lines rising = subst IsRising (sym (accepted-all terms held first lines)) (rising-goes terms held first lines rising)

  pub accepted_count : (lines : List Item) → length (events_after terms.basis held first lines) ≤ max (length held) terms.basis.most
  accepted_count lines = omega (arith, ap length (accepted-all terms held first lines), count-goes terms held first lines)

  -- The events below their next offset are what a run may leave.
  pub may_leave : (lines : List Item) (left : List Event) → IsRising held → IsPrefixOf held left → left ≡ below (next_offset left) (events_after terms.basis held first lines) → MayLeave terms.basis held first lines left
  may_leave lines left rising keeps is =
      let front = below-prefix (next_offset left) (events_after terms.basis held first lines) (accepted_rises lines rising) in
      record { keeps = keeps; begins = (front.0, ap (λ l. l ++ front.0) is ∙ front.1) }

  -- And what a run may leave is the events below their next offset.
  pub left_below : (lines : List Item) (left : List Event) → IsRising held → MayLeave terms.basis held first lines left → left ≡ below (next_offset left) (events_after terms.basis held first lines)
  left_below lines left rising leaves =
      let both : IsRising (left ++ leaves.begins.0) = subst IsRising (sym leaves.begins.1) (accepted_rises lines rising) in
      sym (below-is_prefix left leaves.begins.0 both) ∙ ap (λ l. below (next_offset left) l) leaves.begins.1

  -- A run over what a run may leave may leave nothing else.
  pub leaves_again : (lines : List Item) (left more : List Event) → MayLeave terms.basis held first lines left → MayLeave terms.basis left first lines more → MayLeave terms.basis held first lines more
  leaves_again lines left more one two = record {
    keeps = (one.keeps.0 ++ two.keeps.0, sym (append_assoc held one.keeps.0 two.keeps.0) ∙ ap (λ l. l ++ two.keeps.0) one.keeps.1 ∙ two.keeps.1);
    begins = (two.begins.0, two.begins.1 ∙ accepted_again lines left one);
  }

  -- Lines below the next offset of the store may be left out.

  pub accepted_without : (front back : List Item) → first + length front ≤ next_offset held → events_after terms.basis held (first + length front) back ≡ events_after terms.basis held first (front ++ back)
  accepted_without front back low =
      let p = all_passed terms held first front low in
      accepted-all terms held (first + length front) back
      ∙ ap (λ es. events_from terms.basis es (first + length front) back) (sym p.same)
      ∙ sym (goes-append terms held first front back)
      ∙ sym (accepted-all terms held first (front ++ back))

  pub out_without : (front back : List Item) → first + length front ≤ next_offset held → out terms held (first + length front) back ≡ out terms held first (front ++ back)
  out_without front back low =
      let p = all_passed terms held first front low in
      let es : events_after terms.basis held first front ≡ held = accepted-all terms held first front ∙ p.same in
      out-is terms held (first + length front) back
      ∙ ap (λ l. l ++ out_from terms held (first + length front) back) (sym p.nothing ∙ sym (puts-all terms held first front))
      ∙ ap (λ l. put_before terms held first front (length front) ++ out_from terms l (first + length front) back) (sym es)
      ∙ sym (out_more front back)

-- the resume law
pub resumes : (terms : Terms) (lines : List Item) (held : List Event) → held ≡ below (next_offset held) (events_after terms.basis [] 0 lines) → IsSuffixOf (out terms held 0 lines) (unstopped terms lines)
resumes terms lines held is = (put_before terms [] 0 lines (next_offset held - 0), sym (out_again terms [] 0 lines held (may_leave terms [] 0 lines held tt (held, refl) is)))
