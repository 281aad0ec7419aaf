-- What is acknowledged is held.
use Rattle.std.proofs.Common.{◌≡◌, ◌⊎◌, inl, inr, ℕ, suc, ◌^◌, ◌<◌, ◌≤◌, List, [], ◌∷◌, ◌++◌, refl, sym, subst, arith}
use Rattle.std.proofs.lemmas.List.Elements.{Contains-append_cases}
use Rattle.std.specs.List.{Contains}
use Rattle.rg_event.specs.declared.event.Event.{Event}
use Rattle.rg_event.specs.Rising.{next_offset, IsRising}
use Rattle.rg_reply.specs.Texts.{mark_line}
use Rattle.rg_reply.specs.declared.mark.Mark.TheVariants.{Stored}
use Rattle.rg_run_spec.specs.Laws.{IsPrefixOf}
use Rattle.rg_run_spec.specs.Acknowledged.{IsAcknowledged, HoldsBelow, HoldsStored}
use Rattle.rg_run_spec.proofs.Offsets.{AreFrom}
use Rattle.rg_run_spec.proofs.Orders.{rising_back}
use Rattle.rg_run_spec.proofs.Marks.{contains_one, contains_none}

from_contains : (n : ℕ) (xs : List Event) (e : Event) → AreFrom n xs → Contains xs e → n ≤ e.offset
from_contains n [] e from has = absurd (contains_none e has)
from_contains n (x ∷ xs) e from has = elim (contains_one x e xs has) [
  | inl is ↦ subst (λ (y : Event). n ≤ y.offset) is from.0
  | inr more ↦ from_contains n xs e from.1 more
]

behind_by : (front back : List Event) (e : Event) → AreFrom (next_offset front) back → e.offset < next_offset front → Contains front e ⊎ Contains back e → Contains front e
behind_by front back e from below (inl has) = has
behind_by front back e from below (inr has) = absurd (omega (arith, below, from_contains (next_offset front) back e from has))

-- events that begin the accepted ones hold all below their next offset
pub holds_below : (events accepted : List Event) (n : ℕ) → IsRising accepted → IsPrefixOf events accepted → n ≤ next_offset events → HoldsBelow n accepted events
holds_below events accepted n rising begins within e has below =
    let both : IsRising (events ++ begins.0) = subst IsRising (sym begins.1) rising in
    let among : Contains (events ++ begins.0) e = subst (λ (l : List Event). Contains l e) (sym begins.1) has in
    behind_by events begins.0 e (rising_back events begins.0 both) (omega (arith, below, within)) (Contains-append_cases events begins.0 e among)

at_line : (front : List (List ℕ)) (line : List ℕ) (back : List (List ℕ)) → Contains (front ++ line ∷ back) line
at_line [] line back = (0, omega arith, refl)
at_line (x ∷ front) line back = let m = at_line front line back in (suc m.0, omega (arith, m.1), m.2)

pub line_among : (lines front back : List (List ℕ)) (line : List ℕ) → lines ≡ front ++ line ∷ back → Contains lines line
line_among lines front back line is = subst (λ (l : List (List ℕ)). Contains l line) (sym is) (at_line front line back)

-- what is held by the lines is held by the last of them
pub acknowledged : (start : ℕ) (lines : List (List ℕ)) (accepted events : List Event) (n : ℕ) → n < 2 ^ 64 → HoldsStored lines accepted events → HoldsBelow start accepted events → IsAcknowledged start lines n → HoldsBelow n accepted events
acknowledged start lines accepted events n small stored begun (inl last) = stored n small (line_among lines last.front last.back (mark_line (Stored n)) last.is)
acknowledged start lines accepted events n small stored begun (inr none) = subst (λ (m : ℕ). HoldsBelow m accepted events) (sym none.0) begun
