-- A run over what an earlier run left events_from on as that one would have.
use Rattle.std.proofs.Common.{◌≡◌, ℕ, zero, suc, ◌+◌, ◌-◌, ◌≤◌, ◌<◌, max, List, [], ◌∷◌, ◌++◌, length, take, refl, ap, sym, ◌∙◌, subst, arith, append_assoc, length-append}
use Rattle.std.proofs.lemmas.List.{append-nil, append_cancel_left, nil_from_length}
use Rattle.rg_event.specs.declared.event.Event.{Event}
use Rattle.rg_event.specs.Rising.{next_offset}
use Rattle.rg_run_spec.proofs.Offsets.{AreFrom, from_prefix, next_behind}
use Rattle.rg_run_spec.specs.Output.{Terms}
use Rattle.rg_run_spec.specs.Ahead.{after_line, lines_for, events_from, put_from}
use Rattle.rg_run_spec.proofs.Steps.{Item, Adds, added, passed_over}
use Rattle.rg_run_spec.proofs.Steps.Adds.{none_below, none, one}
use Rattle.rg_run_spec.proofs.Folds.{grown, low_by}

-- the run over `left` accepts the same events, and put_from just what the other one put_from behind the lines below its next offset
pub record Resumed (terms : Terms) (events left : List Event) (offset : ℕ) (items : List Item) : Type 0 where
  pub same : events_from terms.basis left offset items ≡ events_from terms.basis events offset items
  pub text : put_from terms events offset items ≡ put_from terms events offset (take (next_offset left - offset) items) ++ put_from terms left offset items
  pub within : next_offset left ≤ max (next_offset events) (offset + length items)

take-none : (n : ℕ) → take {A = Item} n [] ≡ []
take-none zero = refl
take-none (suc n) = refl

below_by : (terms : Terms) (events : List Event) (offset : ℕ) (item : Item) (items : List Item) (n : ℕ) → next_offset events - offset ≡ n → put_from terms events (offset + 1) (take (next_offset events - (offset + 1)) items) ≡ [] → put_from terms events offset (take n (item ∷ items)) ≡ []
below_by terms events offset item items zero is more = refl
below_by terms events offset item items (suc n) is more =
    let p = passed_over terms events offset item (omega (arith, is)) in
    let k : n ≡ next_offset events - (offset + 1) = omega (arith, is) in
    ap (λ l. l ++ put_from terms (after_line terms.basis events offset item) (offset + 1) (take n items)) p.nothing
    ∙ ap (λ es. put_from terms es (offset + 1) (take n items)) p.stays
    ∙ ap (λ m. put_from terms events (offset + 1) (take m items)) k
    ∙ more

-- nothing is put for lines below the next offset
pub puts-below : (terms : Terms) (events : List Event) (offset : ℕ) (items : List Item) → put_from terms events offset (take (next_offset events - offset) items) ≡ []
puts-below terms events offset [] = ap (λ l. put_from terms events offset l) (take-none (next_offset events - offset))
puts-below terms events offset (item ∷ items) = below_by terms events offset item items (next_offset events - offset) refl (puts-below terms events (offset + 1) items)

same_left : (terms : Terms) (events left : List Event) (offset : ℕ) (items : List Item) → events ≡ left → Resumed terms events left offset items
same_left terms events left offset items is = subst (λ l. Resumed terms events l offset items) is (record { same = refl; text = ap (λ l. l ++ put_from terms events offset items) (sym (puts-below terms events offset items)); within = omega arith })

-- one line below the next offset of what was left
left_next : (terms : Terms) (events left : List Event) (offset : ℕ) (item : Item) (items : List Item) → offset < next_offset left → Resumed terms (after_line terms.basis events offset item) left (offset + 1) items → Resumed terms events left offset (item ∷ items)
left_next terms events left offset item items below more =
    let p = passed_over terms left offset item below in
    let k : next_offset left - offset ≡ suc (next_offset left - (offset + 1)) = omega (arith, below) in
    let next = after_line terms.basis events offset item in
    let front = put_from terms next (offset + 1) (take (next_offset left - (offset + 1)) items) in
    record {
      same = ap (λ es. events_from terms.basis es (offset + 1) items) p.stays ∙ more.same;
      text = ap (λ l. lines_for terms events offset item ++ l) more.text
          ∙ sym (append_assoc (lines_for terms events offset item) front (put_from terms left (offset + 1) items))
          ∙ ap (λ l. (lines_for terms events offset item ++ front) ++ l)
          (ap (λ es. put_from terms es (offset + 1) items) (sym p.stays) ∙ ap (λ l. l ++ put_from terms (after_line terms.basis left offset item) (offset + 1) items) (sym p.nothing))
          ∙ ap (λ n. put_from terms events offset (take n (item ∷ items)) ++ put_from terms left offset (item ∷ items)) (sym k);
      within = omega (arith, more.within, (low_by terms events offset item (added terms events offset item)).1);
    }

-- what was left has more events than these: they are of these lines
pub left_behind : (terms : Terms) (events : List Event) (offset : ℕ) (items : List Item) (x : Event) (more rest : List Event) → (events ++ x ∷ more) ++ rest ≡ events_from terms.basis events offset items → AreFrom offset (x ∷ more)
left_behind terms events offset items x more rest is =
    let g = grown terms events offset items in
    let same : (x ∷ more) ++ rest ≡ g.added = append_cancel_left events ((x ∷ more) ++ rest) g.added (sym (append_assoc events (x ∷ more) rest) ∙ is ∙ g.is) in
    from_prefix offset (x ∷ more) rest (subst (λ l. AreFrom offset l) (sym same) g.from)

none_left : (events more rest : List Event) → (events ++ more) ++ rest ≡ events → more ≡ []
none_left events more rest is = nil_from_length more (omega (arith, length-append (events ++ more) rest, length-append events more, ap length is))

-- the event that a line adds is the first of those left
record FirstLeft (e x : Event) (events more : List Event) : Type 0 where
  is : events ++ x ∷ more ≡ (events ++ e ∷ []) ++ more

first_left : (terms : Terms) (events : List Event) (offset : ℕ) (items : List Item) (e x : Event) (more rest : List Event) → (events ++ x ∷ more) ++ rest ≡ events_from terms.basis (events ++ e ∷ []) offset items → FirstLeft e x events more
first_left terms events offset items e x more rest is =
    let g = grown terms (events ++ e ∷ []) offset items in
    let same : (x ∷ more) ++ rest ≡ e ∷ g.added = append_cancel_left events ((x ∷ more) ++ rest) (e ∷ g.added) (sym (append_assoc events (x ∷ more) rest) ∙ is ∙ g.is ∙ append_assoc events (e ∷ []) g.added) in
    let one : x ≡ e = cc in
    record { is = ap (λ y. events ++ y ∷ more) one ∙ sym (append_assoc events (e ∷ []) more) }

next_by : (terms : Terms) (events left : List Event) (offset : ℕ) (item : Item) (items : List Item) (x : Event) (more rest : List Event) → events ++ x ∷ more ≡ left → left ++ rest ≡ events_from terms.basis (after_line terms.basis events offset item) (offset + 1) items →
    ((behind : List Event) → after_line terms.basis events offset item ++ behind ≡ left → Resumed terms (after_line terms.basis events offset item) left (offset + 1) items) → Adds terms events offset item → Resumed terms (after_line terms.basis events offset item) left (offset + 1) items
next_by terms events left offset item items x more rest keeps begins ih (none_below _ stays _) = ih (x ∷ more) (ap (λ l. l ++ x ∷ more) stays ∙ keeps)
next_by terms events left offset item items x more rest keeps begins ih (none _ stays) = ih (x ∷ more) (ap (λ l. l ++ x ∷ more) stays ∙ keeps)
next_by terms events left offset item items x more rest keeps begins ih (one e _ _ is) =
    let f = first_left terms events (offset + 1) items e x more rest (ap (λ l. l ++ rest) keeps ∙ begins ∙ ap (λ es. events_from terms.basis es (offset + 1) items) is) in
    ih more (ap (λ l. l ++ more) is ∙ sym f.is ∙ keeps)

pub resumed : (terms : Terms) (events left : List Event) (offset : ℕ) (items : List Item) (more rest : List Event) → events ++ more ≡ left → left ++ rest ≡ events_from terms.basis events offset items → Resumed terms events left offset items
resumed terms events left offset [] more rest keeps begins = same_left terms events left offset [] (sym (append-nil events) ∙ ap (λ l. events ++ l) (sym (none_left events more rest (ap (λ l. l ++ rest) keeps ∙ begins))) ∙ keeps)
resumed terms events left offset (item ∷ items) [] rest keeps begins = same_left terms events left offset (item ∷ items) (sym (append-nil events) ∙ keeps)
resumed terms events left offset (item ∷ items) (x ∷ more) rest keeps begins =
    left_next terms events left offset item items
    (subst (λ l. offset < next_offset l) keeps (next_behind offset events x more (left_behind terms events offset (item ∷ items) x more rest (ap (λ l. l ++ rest) keeps ∙ begins))))
    (next_by terms events left offset item items x more rest keeps begins
    (λ behind is. resumed terms (after_line terms.basis events offset item) left (offset + 1) items behind rest is begins)
    (added terms events offset item))

-- Lines below the next offset are passed over, all of them.
pub record AllPassed (terms : Terms) (events : List Event) (offset : ℕ) (items : List Item) : Type 0 where
  pub same : events_from terms.basis events offset items ≡ events
  pub nothing : put_from terms events offset items ≡ []

pub all_passed : (terms : Terms) (events : List Event) (offset : ℕ) (items : List Item) → offset + length items ≤ next_offset events → AllPassed terms events offset items
all_passed terms events offset [] below = record { same = refl; nothing = refl }
all_passed terms events offset (item ∷ items) below =
    let p = passed_over terms events offset item (omega (arith, below)) in
    let more = all_passed terms events (offset + 1) items (omega (arith, below)) in
    record {
      same = ap (λ es. events_from terms.basis es (offset + 1) items) p.stays ∙ more.same;
      nothing = ap (λ l. l ++ put_from terms (after_line terms.basis events offset item) (offset + 1) items) p.nothing ∙ ap (λ es. put_from terms es (offset + 1) items) p.stays ∙ more.nothing;
    }
