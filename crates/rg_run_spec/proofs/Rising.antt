-- The numbers of what is stored never fall from line to line, so the last one says it all.
use Rattle.std.proofs.Common.{◌≡◌, inl, inr, ℕ, zero, suc, ◌+◌, ◌^◌, ◌<◌, ◌≤◌, List, [], ◌∷◌, ◌++◌, length, take, get_or, None, refl, ap, sym, ◌∙◌, subst, arith, append_assoc}
use Rattle.std.proofs.lemmas.List.{append-nil, append_cancel_left}
use Rattle.std.proofs.lemmas.List.Elements.{Contains-append_cases, Contains-append_left, Contains-append_right}
use Rattle.std.specs.List.{Contains}
use Rattle.rg_event.specs.declared.event.Event.{Event}
use Rattle.rg_event.specs.Rising.{next_offset}
use Rattle.rg_reply.specs.Texts.{mark_line}
use Rattle.rg_reply.specs.declared.mark.Mark.TheVariants.{Stored}
use Rattle.rg_run_spec.specs.Accepted.{verdict_from, events_before, events_after}
use Rattle.rg_run_spec.specs.Output.{put_at, put_before, end_lines, out, Terms}
use Rattle.rg_run_spec.specs.Ahead.{events_from}
use Rattle.rg_run_spec.specs.Laws.{IsPrefixOf}
use Rattle.rg_run_spec.specs.Acknowledged.{SaysStored, SaysLast, HoldsBelow, HoldsStored}
use Rattle.rg_run_spec.proofs.Steps.{Item}
use Rattle.rg_run_spec.proofs.Folds.{goes-append, next_within, accepted-goes, take_next}
use Rattle.rg_run_spec.proofs.Prefixes.{prefixes}
use Rattle.rg_run_spec.proofs.Marks.{contains_one, contains_none, stored_injective, turn_stored, end_stored, next_small}

-- no number of `front` is above one of `back`
record Parted (front back : List (List ℕ)) (top : ℕ) : Type 0 where
  m : ℕ
  up : (n : ℕ) → n < 2 ^ 64 → SaysStored front n → n ≤ m
  from : (n : ℕ) → n < 2 ^ 64 → SaysStored back n → m ≤ n
  below : m ≤ top

parted_none : (a b : List (List ℕ)) → a ++ b ≡ [] → Parted a b 0
parted_none [] b is = record { m = 0; up = λ n small says. absurd (contains_none (mark_line (Stored n)) says); from = λ n small says. omega arith; below = omega arith }
parted_none (x ∷ a) b is = absurd (cc)

-- lines that all say one number, no less than those before
parted_more : (xs ys : List (List ℕ)) (top t : ℕ) → top ≤ t → ((a b : List (List ℕ)) → a ++ b ≡ xs → Parted a b top) → ((n : ℕ) → n < 2 ^ 64 → SaysStored ys n → n ≡ t) → (a b : List (List ℕ)) → a ++ b ≡ xs ++ ys → Parted a b t
parted_more xs ys top t grows first all a b is = elim (prefixes a xs b ys is) [
  | inl h ↦
      let p = first a h.0 h.1 in
      let back : b ≡ h.0 ++ ys = append_cancel_left a b (h.0 ++ ys) (is ∙ ap (λ l. l ++ ys) (sym h.1) ∙ append_assoc a h.0 ys) in
      record {
        m = p.m;
        up = p.up;
        from = λ n small says. elim (Contains-append_cases h.0 ys (mark_line (Stored n)) (subst (λ (l : List (List ℕ)). Contains l (mark_line (Stored n))) back says)) [
          | inl old ↦ p.from n small old
          | inr new ↦ omega (arith, all n small new, p.below, grows)
        ];
        below = omega (arith, p.below, grows);
      }
  | inr h ↦
      let p = first xs [] (append-nil xs) in
      let part = h.0 ∷ h.1 in
      let rest : part ++ b ≡ ys = append_cancel_left xs (part ++ b) ys (sym (append_assoc xs part b) ∙ ap (λ l. l ++ b) (sym h.2) ∙ is) in
      record {
        m = t;
        up = λ n small says. elim (Contains-append_cases xs part (mark_line (Stored n)) (subst (λ (l : List (List ℕ)). Contains l (mark_line (Stored n))) h.2 says)) [
          | inl old ↦ omega (arith, p.up n small old, p.below, grows)
          | inr new ↦ omega (arith, all n small (subst (λ (l : List (List ℕ)). Contains l (mark_line (Stored n))) rest (Contains-append_left part b (mark_line (Stored n)) new)))
        ];
        from = λ n small says. omega (arith, all n small (subst (λ (l : List (List ℕ)). Contains l (mark_line (Stored n))) rest (Contains-append_right part b (mark_line (Stored n)) says)));
        below = omega arith;
      }
]

module _ (terms : Terms) (held : List Event) (first : ℕ) (lines : List Item) (small : first + length lines < 2 ^ 63) (low : next_offset held < 2 ^ 63) where
  next_on : (i : ℕ) → i < length lines → next_offset (events_before terms.basis held first lines i) ≤ next_offset (events_before terms.basis held first lines (suc i))
  next_on i within =
      let so_far = events_from terms.basis held first (take i lines) in
      let item = get_or lines i None in
      let more = next_within terms so_far (first + length (take i lines)) (item ∷ []) in
      let next : events_before terms.basis held first lines (suc i) ≡ events_from terms.basis so_far (first + length (take i lines)) (item ∷ []) =
      accepted-goes terms held first lines (suc i) (omega (arith, within)) ∙ ap (λ l. events_from terms.basis held first l) (take_next lines i within) ∙ goes-append terms held first (take i lines) (item ∷ []) in
      omega (arith, more.0, ap next_offset next, ap next_offset (accepted-goes terms held first lines i (omega (arith, within))))

  parted : (i : ℕ) → i ≤ length lines → (a b : List (List ℕ)) → a ++ b ≡ put_before terms held first lines i → Parted a b (next_offset (events_before terms.basis held first lines i))
  parted zero within a b is =
      let p = parted_none a b is in
      record { m = p.m; up = p.up; from = p.from; below = omega (arith, p.below) }
  parted (suc i) within a b is =
      let events = events_before terms.basis held first lines i in
      parted_more (put_before terms held first lines i) (put_at terms held first lines i) (next_offset events) (next_offset (events_before terms.basis held first lines (suc i))) (next_on i (omega (arith, within))) (parted i (omega (arith, within)))
      (λ n k says. turn_stored terms events (first + i) (verdict_from terms.basis (next_offset held) events (first + i) (get_or lines i None)) n (omega (arith, small, within)) (next_small terms held first lines small low (suc i) within) k says) a b is

  out_parted : (a b : List (List ℕ)) → a ++ b ≡ out terms held first lines → Parted a b (next_offset (events_after terms.basis held first lines))
  out_parted = parted_more (put_before terms held first lines (length lines)) (end_lines (first + length lines) (events_after terms.basis held first lines)) (next_offset (events_after terms.basis held first lines)) (next_offset (events_after terms.basis held first lines)) (omega arith)
      (parted (length lines) (omega arith))
      (λ n k says. end_stored (first + length lines) (events_after terms.basis held first lines) n (next_small terms held first lines small low (length lines) (omega arith)) k says)

  -- the last number of some first lines is the greatest
  pub last_greatest : (put : List (List ℕ)) (n m : ℕ) → IsPrefixOf put (out terms held first lines) → n < 2 ^ 64 → m < 2 ^ 64 → SaysLast put n → SaysStored put m → m ≤ n
  last_greatest put n m begins k l last says =
      elim (Contains-append_cases last.front (mark_line (Stored n) ∷ last.back) (mark_line (Stored m)) (subst (λ (v : List (List ℕ)). Contains v (mark_line (Stored m))) last.is says)) [
        | inl old ↦
            let behind = mark_line (Stored n) ∷ last.back in
            let p = out_parted last.front (behind ++ begins.0) (sym (append_assoc last.front behind begins.0) ∙ ap (λ v. v ++ begins.0) (sym last.is) ∙ begins.1) in
            omega (arith, p.up m l old, p.from n k (0, omega arith, refl))
        | inr new ↦ elim (contains_one (mark_line (Stored n)) (mark_line (Stored m)) last.back new) [
          | inl same ↦ omega (arith, stored_injective n m k l same)
          | inr none ↦ absurd (last.last m l none)
        ]
      ]

  -- so what holds all below the last number holds all that the lines say
  pub last_holds : (put : List (List ℕ)) (n : ℕ) (accepted events : List Event) → IsPrefixOf put (out terms held first lines) → n < 2 ^ 64 → SaysLast put n → HoldsBelow n accepted events → HoldsStored put accepted events
  last_holds put n accepted events begins k last holds m l says e has below = holds e has (omega (arith, below, last_greatest put n m begins k l last says))
