-- The next offset of lists of events.
use Rattle.std.proofs.Common.{ℕ, ◌≤◌, ◌<◌, List, [], ◌∷◌, ◌++◌, arith}
use Rattle.std.specs.Bool.{⊤}
use Rattle.rg_event.specs.declared.event.Event.{Event}
use Rattle.rg_event.specs.Rising.{next_offset}

-- each of these has at least that offset
abbrev pub AreFrom : ℕ → List Event → Type 0
AreFrom n [] = ⊤
AreFrom n (x ∷ xs) = (n ≤ x.offset) × AreFrom n xs

pub from_less : (m n : ℕ) (events : List Event) → m ≤ n → AreFrom n events → AreFrom m events
from_less m n [] below from = tt
from_less m n (x ∷ xs) below from = (omega (arith, below, from.0), from_less m n xs below from.1)

pub from_prefix : (n : ℕ) (front back : List Event) → AreFrom n (front ++ back) → AreFrom n front
from_prefix n [] back from = tt
from_prefix n (x ∷ xs) back from = (from.0, from_prefix n xs back from.1)

pub from_back : (n : ℕ) (front back : List Event) → AreFrom n (front ++ back) → AreFrom n back
from_back n [] back from = from
from_back n (x ∷ xs) back from = from_back n xs back from.1

next_above : (n : ℕ) (x : Event) (xs : List Event) → AreFrom n (x ∷ xs) → n < next_offset (x ∷ xs)
next_above n x [] from = omega (arith, from.0)
next_above n x (y ∷ xs) from = next_above n y xs from.1

-- the next offset is above those of the last events
pub next_behind : (n : ℕ) (events : List Event) (x : Event) (xs : List Event) → AreFrom n (x ∷ xs) → n < next_offset (events ++ x ∷ xs)
next_behind n [] x xs from = next_above n x xs from
next_behind n (e ∷ []) x xs from = next_above n x xs from
next_behind n (e ∷ (f ∷ events)) x xs from = next_behind n (f ∷ events) x xs from
