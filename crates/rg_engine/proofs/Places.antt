-- Where an edge stands that has gone all its way.
use Rattle.std.proofs.Common.{◌≡◌, ℕ, ◌≤◌, ◌+◌, List, [], ◌∷◌, ◌++◌, length, get_or, Some, ap, sym, subst, ◌∙◌, arith}
use Rattle.std.specs.Prelude.{slice_get}
use Rattle.std.proofs.lemmas.Option.{get_or_from_slice_get}
use Rattle.rg_event.specs.declared.event.Event.{Event}
use Rattle.rg_event.specs.Rising.{last_time, IsRising}
use Rattle.rg_window.specs.Passing.{passing, passed, Reaches}
use Rattle.rg_engine.specs.Windows.{position}
use Rattle.rg_engine.specs.Standing.{IsAtPosition}
use Rattle.rg_engine.proofs.Slices.{TimesFrom, rising_times, times_front, passing_drop, passing_later, position_passing}

first_last : (x : Event) (events : List Event) → IsRising (x ∷ events) → x.time ≤ last_time (x ∷ events)
first_last x [] h = omega arith
first_last x (y ∷ events) h = let k = first_last y events h.2 in omega (arith, h.1)

-- the last time of a front isn't above that of the whole
pub front_earlier : (front more : List Event) → IsRising (front ++ more) → last_time front ≤ last_time (front ++ more)
front_earlier [] more h = omega arith
front_earlier (x ∷ []) more h = first_last x more h
front_earlier (x ∷ (y ∷ front)) more h = front_earlier (y ∷ front) more h.2

-- from its position at the last time of a front to that at time t
place_reached : (front more : List Event) (t : ℕ) (offsets old new : List ℕ) (edge offset : ℕ) → TimesFrom 0 (front ++ more) → last_time front ≤ t → slice_get offsets edge ≡ Some offset →
    IsAtPosition front old edge offset → Reaches (front ++ more) t offsets old new edge → get_or new edge 0 ≡ position (front ++ more) t offset
place_reached front more t offsets old new edge offset times later there stood reaches =
    let o : get_or offsets edge 0 ≡ offset = get_or_from_slice_get offsets edge offset 0 there in
    let p : get_or old edge 0 ≡ length (passing offset (last_time front) front) = stood ∙ position_passing offset (last_time front) 0 front (times_front 0 front more times) in
    let l : get_or old edge 0 ≤ length (passing offset t (front ++ more)) = omega (arith, p, passing_later offset (last_time front) t front more later) in
    reaches
    ∙ ap (λ v. get_or old edge 0 + length (passed (front ++ more) t v (get_or old edge 0))) o
    ∙ passing_drop offset t (front ++ more) (get_or old edge 0) l
    ∙ sym (position_passing offset t 0 (front ++ more) times)

-- from its position in a front to that in all events
pub place_after : (events front more : List Event) (t : ℕ) (offsets old new : List ℕ) (edge offset : ℕ) → events ≡ front ++ more → last_time events ≡ t → IsRising events → slice_get offsets edge ≡ Some offset →
    IsAtPosition front old edge offset → Reaches events t offsets old new edge → IsAtPosition events new edge offset
place_after events front more t offsets old new edge offset e last ordered there stood reaches =
    let ordered' : IsRising (front ++ more) = subst IsRising e ordered in
    let later : last_time front ≤ t = omega (arith, front_earlier front more ordered', ap last_time e, last) in
    subst (λ u. get_or new edge 0 ≡ position events u offset) (sym last)
    (subst (λ all. get_or new edge 0 ≡ position all t offset) (sym e)
    (place_reached front more t offsets old new edge offset (rising_times (front ++ more) ordered') later there stood (subst (λ all. Reaches all t offsets old new edge) e reaches)))
