-- The last one of some events.
use Rattle.std.proofs.Common.{◌≡◌, ◌+◌, ◌-◌, ◌∙◌, Bool, true, false, ℕ, zero, suc, List, [], ◌∷◌, length, get_or, refl, sym, arith}
use Rattle.std.specs.Prelude.{◌==◌}
use Rattle.rg_event.specs.declared.event.Event.{Event}
use Rattle.rg_event.specs.Rising.{next_offset, last_time}

-- the offset behind it, and its time
pub last_at : (events : List Event) (i : ℕ) (d : Event) → i + 1 ≡ length events → (next_offset events ≡ (get_or events i d).offset + 1) × (last_time events ≡ (get_or events i d).time)
last_at [] i d e = absurd (omega arith)
last_at (x ∷ []) zero d e = (refl, refl)
last_at (x ∷ []) (suc i) d e = absurd (omega arith)
last_at (x ∷ (y ∷ events)) zero d e = absurd (omega arith)
last_at (x ∷ (y ∷ events)) (suc i) d e = last_at (y ∷ events) i d (omega arith)

-- where there are some, the number of the last one and 1 are their count
pub not_empty : (events : List Event) (told : Bool) → told ≡ (length events == 0) → told ≡ false → (length events - 1) + 1 ≡ length events
not_empty [] told is e = absurd (let f : true ≡ false = sym is ∙ e in cc)
not_empty (x ∷ events) told is e = omega arith
