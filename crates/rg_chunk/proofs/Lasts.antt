-- The last event of a list.
use Rattle.std.proofs.Common.{◌≡◌, suc, ◌-◌, ◌<◌, List, [], ◌∷◌, length, get_or, refl, arith}
use Rattle.rg_event.specs.declared.event.Event.{Event}
use Rattle.rg_chunk.specs.Heads.{last_stamp}

pub last_at : (events : List Event) (d : Event) → 0 < length events → last_stamp events ≡ ((get_or events (length events - 1) d).offset, (get_or events (length events - 1) d).time)
last_at [] d some = absurd (omega arith)
last_at (x ∷ []) d some = refl
last_at (x ∷ (y ∷ events)) d some =
    let rest = last_at (y ∷ events) d (omega arith) in
    let e : length (x ∷ (y ∷ events)) - 1 ≡ suc (length (y ∷ events) - 1) = omega arith in
    rw e rest

pub last_none : (events : List Event) → length events ≡ 0 → last_stamp events ≡ (0, 0)
last_none [] none = refl
last_none (x ∷ events) none = absurd (omega arith)
