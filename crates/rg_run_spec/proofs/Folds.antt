-- A run from one line to the next: the events after some lines, and the lines put for them.
use Rattle.std.proofs.Common.{◌≡◌, ℕ, zero, suc, ◌+◌, ◌≤◌, ◌<◌, max, nat_lt, Bool, true, false, List, [], ◌∷◌, ◌++◌, length, take, get_or, Some, None, refl, ap, sym, ◌∙◌, arith, append_assoc, add-one, cond}
use Rattle.std.proofs.lemmas.List.{append-nil, take_more, take_all, length-take-le}
use Rattle.std.proofs.lemmas.Bool.{lt-ltb, le-ltb, ltb-true, ltb-false}
use Rattle.rg_event.specs.declared.event.Event.{Event}
use Rattle.rg_event.specs.Rising.{next_offset}
use Rattle.rg_run_spec.specs.Verdicts.{line_verdict}
use Rattle.rg_run_spec.specs.Accepted.{verdict_from, after_turn, events_before, events_after}
use Rattle.rg_run_spec.specs.Output.{turn_lines, put_at, put_before, out, end_lines, Terms}
use Rattle.rg_run_spec.specs.Ahead.{after_line, lines_for, events_from, put_from}
use Rattle.rg_event.proofs.Laws.{next_offset-push}
use Rattle.rg_run_spec.proofs.Offsets.{AreFrom, from_less}
use Rattle.rg_run_spec.proofs.Steps.{Item, Adds, added}
use Rattle.rg_run_spec.proofs.Steps.Adds.{none_below, none, one}

-- Two runs of lines, one after the other.

pub goes-append : (terms : Terms) (events : List Event) (offset : ℕ) (front back : List Item) → events_from terms.basis events offset (front ++ back) ≡ events_from terms.basis (events_from terms.basis events offset front) (offset + length front) back
goes-append terms events offset [] back = ap (λ n. events_from terms.basis events n back) (omega arith)
goes-append terms events offset (item ∷ front) back =
    let n : offset + 1 + length front ≡ offset + length (item ∷ front) = omega arith in
    goes-append terms (after_line terms.basis events offset item) (offset + 1) front back
    ∙ ap (λ k. events_from terms.basis (events_from terms.basis (after_line terms.basis events offset item) (offset + 1) front) k back) n

pub puts-append : (terms : Terms) (events : List Event) (offset : ℕ) (front back : List Item) →
    put_from terms events offset (front ++ back) ≡ put_from terms events offset front ++ put_from terms (events_from terms.basis events offset front) (offset + length front) back
puts-append terms events offset [] back = ap (λ n. put_from terms events n back) (omega arith)
puts-append terms events offset (item ∷ front) back =
    let n : offset + 1 + length front ≡ offset + length (item ∷ front) = omega arith in
    let next = after_line terms.basis events offset item in
    let mid = events_from terms.basis next (offset + 1) front in
    ap (λ l. lines_for terms events offset item ++ l) (puts-append terms next (offset + 1) front back ∙ ap (λ k. put_from terms next (offset + 1) front ++ put_from terms mid k back) n)
    ∙ sym (append_assoc (lines_for terms events offset item) (put_from terms next (offset + 1) front) (put_from terms mid (offset + length (item ∷ front)) back))

-- What some lines add.

pub record Grown (terms : Terms) (events : List Event) (offset : ℕ) (items : List Item) : Type 0 where
  pub added : List Event
  pub is : events_from terms.basis events offset items ≡ events ++ added
  pub from : AreFrom offset added

grown_by : (terms : Terms) (events : List Event) (offset : ℕ) (item : Item) (items : List Item) → Adds terms events offset item → Grown terms (after_line terms.basis events offset item) (offset + 1) items → Grown terms events offset (item ∷ items)
grown_by terms events offset item items (none_below _ stays _) more = record {
  added = more.added;
  is = more.is ∙ ap (λ l. l ++ more.added) stays;
  from = from_less offset (offset + 1) more.added (omega arith) more.from;
}
grown_by terms events offset item items (none _ stays) more = record {
  added = more.added;
  is = more.is ∙ ap (λ l. l ++ more.added) stays;
  from = from_less offset (offset + 1) more.added (omega arith) more.from;
}
grown_by terms events offset item items (one e _ a is) more = record {
  added = e ∷ more.added;
  is = more.is ∙ ap (λ l. l ++ more.added) is ∙ append_assoc events (e ∷ []) more.added;
  from = (omega (arith, a.at), from_less offset (offset + 1) more.added (omega arith) more.from);
}

pub grown : (terms : Terms) (events : List Event) (offset : ℕ) (items : List Item) → Grown terms events offset items
grown terms events offset [] = record { added = []; is = sym (append-nil events); from = tt }
grown terms events offset (item ∷ items) = grown_by terms events offset item items (added terms events offset item) (grown terms (after_line terms.basis events offset item) (offset + 1) items)

-- How far the next offset events_from.

pub low_by : (terms : Terms) (events : List Event) (offset : ℕ) (item : Item) → Adds terms events offset item → (next_offset events ≤ next_offset (after_line terms.basis events offset item)) × (next_offset (after_line terms.basis events offset item) ≤ max (next_offset events) (offset + 1))
low_by terms events offset item (none_below _ stays _) = let same = ap next_offset stays in (omega (arith, same), omega (arith, same))
low_by terms events offset item (none _ stays) = let same = ap next_offset stays in (omega (arith, same), omega (arith, same))
low_by terms events offset item (one e after a is) = let same = ap next_offset is ∙ next_offset-push events e in (omega (arith, same, after, a.at), omega (arith, same, a.at))

pub next_within : (terms : Terms) (events : List Event) (offset : ℕ) (items : List Item) →
    (next_offset events ≤ next_offset (events_from terms.basis events offset items)) × (next_offset (events_from terms.basis events offset items) ≤ max (next_offset events) (offset + length items))
next_within terms events offset [] = (omega arith, omega arith)
next_within terms events offset (item ∷ items) =
    let one = low_by terms events offset item (added terms events offset item) in
    let more = next_within terms (after_line terms.basis events offset item) (offset + 1) items in
    (omega (arith, one.0, more.0), omega (arith, one.1, more.1))

-- Lines below the next offset of the store are those below the next offset of the events so far.

pub same_test : (offset held next : ℕ) → held ≤ next → next ≤ max held offset → (b : Bool) → nat_lt offset held ≡ b → nat_lt offset next ≡ nat_lt offset held
same_test offset held next low high true t = lt-ltb offset next (omega (arith, low, ltb-true _ _ t)) ∙ sym t
same_test offset held next low high false t = le-ltb offset next (omega (arith, high, ltb-false _ _ t)) ∙ sym t

verdict_same : (terms : Terms) (held events : List Event) (offset : ℕ) (item : Item) → next_offset held ≤ next_offset events → next_offset events ≤ max (next_offset held) offset →
    verdict_from terms.basis (next_offset held) events offset item ≡ verdict_from terms.basis (next_offset events) events offset item
verdict_same terms held events offset item low high =
    ap (λ b. cond b None (Some (line_verdict terms.basis events offset item))) (sym (same_test offset (next_offset held) (next_offset events) low high (nat_lt offset (next_offset held)) refl))

pub take_next : (lines : List Item) (i : ℕ) → i < length lines → take (suc i) lines ≡ take i lines ++ get_or lines i None ∷ []
take_next lines i within = ap (λ n. take n lines) (sym (add-one i)) ∙ take_more lines i None within

module _ (terms : Terms) (held : List Event) (first : ℕ) (lines : List Item) where
  -- the events so far, and the verdict on the next line
  abbrev so_far : ℕ → List Event
  so_far i = events_from terms.basis held first (take i lines)

  verdict_next : (i : ℕ) → i < length lines → verdict_from terms.basis (next_offset held) (so_far i) (first + i) (get_or lines i None) ≡ verdict_from terms.basis (next_offset (so_far i)) (so_far i) (first + i) (get_or lines i None)
  verdict_next i within =
      let far = next_within terms held first (take i lines) in
      verdict_same terms held (so_far i) (first + i) (get_or lines i None) far.0 (omega (arith, far.1, length-take-le i lines (omega arith)))

  at_next : (i : ℕ) → i < length lines → first + length (take i lines) ≡ first + i
  at_next i within = omega (arith, length-take-le i lines (omega arith))

  pub accepted-goes : (i : ℕ) → i ≤ length lines → events_before terms.basis held first lines i ≡ so_far i
  accepted-goes zero within = refl
  accepted-goes (suc i) within =
      ap (λ es. after_turn es (verdict_from terms.basis (next_offset held) es (first + i) (get_or lines i None))) (accepted-goes i (omega arith))
      ∙ ap (λ v. after_turn (so_far i) v) (verdict_next i within)
      ∙ ap (λ n. after_line terms.basis (so_far i) n (get_or lines i None)) (sym (at_next i within))
      ∙ sym (goes-append terms held first (take i lines) (get_or lines i None ∷ []))
      ∙ ap (λ l. events_from terms.basis held first l) (sym (take_next lines i within))

  said_next : (i : ℕ) → i < length lines → put_at terms held first lines i ≡ put_from terms (so_far i) (first + length (take i lines)) (get_or lines i None ∷ [])
  said_next i within =
      ap (λ es. turn_lines terms es (first + i) (verdict_from terms.basis (next_offset held) es (first + i) (get_or lines i None))) (accepted-goes i (omega arith))
      ∙ ap (λ v. turn_lines terms (so_far i) (first + i) v) (verdict_next i within)
      ∙ ap (λ n. lines_for terms (so_far i) n (get_or lines i None)) (sym (at_next i within))
      ∙ sym (append-nil (lines_for terms (so_far i) (first + length (take i lines)) (get_or lines i None)))

  pub puts-goes : (i : ℕ) → i ≤ length lines → put_before terms held first lines i ≡ put_from terms held first (take i lines)
  puts-goes zero within = refl
  puts-goes (suc i) within =
      ap (λ l. l ++ put_at terms held first lines i) (puts-goes i (omega arith))
      ∙ ap (λ l. put_from terms held first (take i lines) ++ l) (said_next i within)
      ∙ sym (puts-append terms held first (take i lines) (get_or lines i None ∷ []))
      ∙ ap (λ l. put_from terms held first l) (sym (take_next lines i within))

  pub accepted-all : events_after terms.basis held first lines ≡ events_from terms.basis held first lines
  accepted-all = accepted-goes (length lines) (omega arith) ∙ ap (λ l. events_from terms.basis held first l) (take_all (length lines) lines (omega arith))

  pub puts-all : put_before terms held first lines (length lines) ≡ put_from terms held first lines
  puts-all = puts-goes (length lines) (omega arith) ∙ ap (λ l. put_from terms held first l) (take_all (length lines) lines (omega arith))

  pub out-is : out terms held first lines ≡ put_from terms held first lines ++ end_lines (first + length lines) (events_from terms.basis held first lines)
  out-is = ap (λ l. l ++ end_lines (first + length lines) (events_after terms.basis held first lines)) puts-all
      ∙ ap (λ es. put_from terms held first lines ++ end_lines (first + length lines) es) accepted-all
