-- What the texts of a stopped run and of the next one cover together.
use Rattle.std.proofs.Common.{◌≡◌, ◌⊎◌, inl, inr, ℕ, zero, suc, ◌+◌, ◌-◌, ◌≤◌, ◌<◌, List, [], ◌∷◌, ◌++◌, length, take, drop, ap, sym, ◌∙◌, subst, arith, append_assoc}
use Rattle.std.proofs.lemmas.List.{append-nil, append_cancel_left, take-append-drop, length-take-le}
use Rattle.rg_event.specs.declared.event.Event.{Event}
use Rattle.rg_event.specs.Rising.{next_offset}
use Rattle.rg_run_spec.specs.Accepted.{events_before, events_after}
use Rattle.rg_run_spec.specs.Output.{put_at, put_before, out, end_lines, Terms}
use Rattle.rg_run_spec.specs.Ahead.{events_from}
use Rattle.rg_run_spec.specs.Laws.{IsPrefixOf, MayLeave, Overlaps, OneAhead}
use Rattle.rg_run_spec.proofs.Offsets.{AreFrom, from_prefix, next_behind}
use Rattle.rg_run_spec.proofs.Steps.{Item}
use Rattle.rg_run_spec.proofs.Folds.{goes-append, grown, accepted-goes, accepted-all}
use Rattle.rg_run_spec.proofs.Resuming.{Resumed, resumed, left_behind}
use Rattle.rg_run_spec.proofs.Whole.{out_again, first_lines}
use Rattle.rg_run_spec.proofs.Prefixes.{prefixes}

module _ (terms : Terms) (held : List Event) (first : ℕ) (lines : List Item) where
  put_more : (i d : ℕ) → IsPrefixOf (put_before terms held first lines i) (put_before terms held first lines (i + d))
  put_more i zero = let n : i ≡ i + zero = omega arith in ([], append-nil (put_before terms held first lines i) ∙ ap (λ m. put_before terms held first lines m) n)
  put_more i (suc d) =
      let more = put_more i d in
      let next = put_at terms held first lines (i + d) in
      let n : suc (i + d) ≡ i + suc d = omega arith in
      (more.0 ++ next, sym (append_assoc (put_before terms held first lines i) more.0 next) ∙ ap (λ l. l ++ next) more.1 ∙ ap (λ m. put_before terms held first lines m) n)

  pub put_prefix : (i : ℕ) → i ≤ length lines → IsPrefixOf (put_before terms held first lines i) (out terms held first lines)
  put_prefix i within =
      let ends = end_lines (first + length lines) (events_after terms.basis held first lines) in
      let more = put_more i (length lines - i) in
      let n : i + (length lines - i) ≡ length lines = omega (arith, within) in
      (more.0 ++ ends, sym (append_assoc (put_before terms held first lines i) more.0 ends) ∙ ap (λ l. l ++ ends) (more.1 ∙ ap (λ m. put_before terms held first lines m) n))

  module _ (left : List Event) (leaves : MayLeave terms.basis held first lines left) where
    abbrev at : ℕ
    at = next_offset left - first

    -- the lines of the first `count` lines were put, all below the next offset among them
    pub overlaps : (count : ℕ) → count ≤ length lines → next_offset left ≤ first + count → Overlaps (put_before terms held first lines at) (put_before terms held first lines count) (out terms left first lines) (out terms held first lines)
    overlaps count within below =
        let more = put_more at (count - at) in
        let n : at + (count - at) ≡ count = omega (arith, below) in
        let again : put_before terms held first lines at ++ more.0 ≡ put_before terms held first lines count = more.1 ∙ ap (λ m. put_before terms held first lines m) n in
        let rest = put_prefix count within in
        record {
          again = more.0;
          rest = rest.0;
          first_is = sym again;
          second_is = append_cancel_left (put_before terms held first lines at) (out terms left first lines) (more.0 ++ rest.0)
              (sym (out_again terms held first lines left leaves) ∙ sym rest.1 ∙ ap (λ l. l ++ rest.0) (sym again) ∙ append_assoc (put_before terms held first lines at) more.0 rest.0);
          whole_is = sym rest.1;
        }

    -- all but those of the line that the last stored event came with
    pub but_one : (count : ℕ) → next_offset left ≡ first + (count + 1) → out terms held first lines ≡ (put_before terms held first lines count ++ put_at terms held first lines count) ++ out terms left first lines
    but_one count next =
        let n : at ≡ suc count = omega (arith, next) in
        out_again terms held first lines left leaves ∙ ap (λ m. put_before terms held first lines m ++ out terms left first lines) n

    left_prefix : (i : ℕ) → i ≤ length lines → next_offset left ≤ first + i → (front : List Event) × (left ++ front ≡ events_from terms.basis held first (take i lines))
    left_prefix i within below =
        let g = grown terms (events_from terms.basis held first (take i lines)) (first + length (take i lines)) (drop i lines) in
        let all : left ++ leaves.begins.0 ≡ events_from terms.basis held first (take i lines) ++ g.added =
        leaves.begins.1 ∙ accepted-all terms held first lines ∙ ap (λ l. events_from terms.basis held first l) (sym (take-append-drop i lines)) ∙ goes-append terms held first (take i lines) (drop i lines) ∙ g.is in
        left_by i within below g.added all g.from (prefixes left (events_from terms.basis held first (take i lines)) leaves.begins.0 g.added all)
      where
        left_by : (i : ℕ) → i ≤ length lines → next_offset left ≤ first + i → (added : List Event) → left ++ leaves.begins.0 ≡ events_from terms.basis held first (take i lines) ++ added → AreFrom (first + length (take i lines)) added →
            ((c : List Event) × (left ++ c ≡ events_from terms.basis held first (take i lines))) ⊎ ((x : Event) × (c : List Event) × (left ≡ events_from terms.basis held first (take i lines) ++ x ∷ c)) →
            (front : List Event) × (left ++ front ≡ events_from terms.basis held first (take i lines))
        left_by i within below added all from (inl h) = h
        left_by i within below added all from (inr (x, c, is)) =
            let es = events_from terms.basis held first (take i lines) in
            let same : (x ∷ c) ++ leaves.begins.0 ≡ added = append_cancel_left es ((x ∷ c) ++ leaves.begins.0) added (sym (append_assoc es (x ∷ c) leaves.begins.0) ∙ ap (λ l. l ++ leaves.begins.0) (sym is) ∙ all) in
            let behind : AreFrom (first + length (take i lines)) (x ∷ c) = from_prefix (first + length (take i lines)) (x ∷ c) leaves.begins.0 (subst (λ l. AreFrom (first + length (take i lines)) l) (sym same) from) in
            absurd (omega (arith, next_behind (first + length (take i lines)) es x c behind, ap next_offset is, length-take-le i lines within, below))

    -- from there on both runs stand alike
    pub accepted_alike : (i : ℕ) → i ≤ length lines → next_offset left ≤ first + i → events_before terms.basis left first lines i ≡ events_before terms.basis held first lines i
    accepted_alike i within below =
        let front = left_prefix i within below in
        accepted-goes terms left first lines i within
        ∙ (resumed terms held left first (take i lines) leaves.keeps.0 front.0 leaves.keeps.1 front.1).same
        ∙ sym (accepted-goes terms held first lines i within)

  -- What a store lacks whose last event came with one of the first `reach` lines.
  module _ (left : List Event) (reach : ℕ) (within : reach ≤ length lines) (keeps : IsPrefixOf held left) (begins : IsPrefixOf left (events_before terms.basis held first lines reach)) (more : next_offset held < next_offset left) where
    near : Resumed terms held left first (take reach lines)
    near = resumed terms held left first (take reach lines) keeps.0 begins.0 keeps.1 (begins.1 ∙ accepted-goes terms held first lines reach within)

    may : MayLeave terms.basis held first lines left
    may =
        let all = first_lines terms held first lines reach within in
        record { keeps = keeps; begins = (begins.0 ++ all.0, sym (append_assoc left begins.0 all.0) ∙ ap (λ l. l ++ all.0) begins.1 ∙ all.1) }

    above : (behind rest : List Event) → held ++ behind ≡ left → left ++ rest ≡ events_from terms.basis held first (take reach lines) → first < next_offset left
    above [] rest is all = absurd (omega (arith, more, ap next_offset (sym (append-nil held) ∙ is)))
    above (x ∷ behind) rest is all =
        let from = left_behind terms held first (take reach lines) x behind rest (ap (λ l. l ++ rest) is ∙ all) in
        omega (arith, next_behind first held x behind from, ap next_offset is)

    pub one_ahead : OneAhead terms held first lines left reach
    one_ahead =
        let low = above keeps.0 begins.0 keeps.1 (begins.1 ∙ accepted-goes terms held first lines reach within) in
        let high : next_offset left ≤ first + reach = omega (arith, near.within, more, length-take-le reach lines within) in
        let line = next_offset left - first - 1 in
        let is : next_offset left ≡ first + (line + 1) = omega (arith, low) in
        record {
          line = line;
          next = is;
          within = omega (arith, high, is);
          before = λ count reached.
              let behind = put_more line (count - line) in
              let n : line + (count - line) ≡ count = omega (arith, high, is, reached) in
              (behind.0, behind.1 ∙ ap (λ m. put_before terms held first lines m) n);
          whole = but_one left may line is;
        }
