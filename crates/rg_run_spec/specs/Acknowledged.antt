-- What the lines that were put promise of the store.
use Rattle.std.specs.Prelude.{◌≡◌, ◌⊎◌, ℕ, ◌<◌, ◌^◌, List, ◌∷◌, ◌++◌}
use Rattle.std.specs.List.{Contains}
use Rattle.rg_event.specs.declared.event.Event.{Event}
use Rattle.rg_reply.specs.Texts.{mark_line}
use Rattle.rg_reply.specs.declared.mark.Mark.TheVariants.{Stored, Saved}

-- one of the lines says that all events below n are stored
abbrev pub SaysStored : List (List ℕ) → ℕ → Type 0
SaysStored lines n = Contains lines (mark_line (Stored n))

-- one of the lines says that a checkpoint of so many events is saved
abbrev pub SaysSaved : List (List ℕ) → ℕ → Type 0
SaysSaved lines count = Contains lines (mark_line (Saved count))

-- the events hold each accepted one below n
abbrev pub HoldsBelow : ℕ → List Event → List Event → Type 0
HoldsBelow n accepted events = (e : Event) → Contains accepted e → e.offset < n → Contains events e

-- the events hold all that the lines say is stored
abbrev pub HoldsStored : List (List ℕ) → List Event → List Event → Type 0
HoldsStored lines accepted events = (n : ℕ) → n < 2 ^ 64 → SaysStored lines n → HoldsBelow n accepted events

-- no line says what is stored
abbrev pub SaysNothing : List (List ℕ) → Type 0
SaysNothing lines = (n : ℕ) → n < 2 ^ 64 → SaysStored lines n → ⊥

-- n is the number in the last line that says what is stored
pub record SaysLast (lines : List (List ℕ)) (n : ℕ) : Type 0 where
  pub front : List (List ℕ)
  pub back : List (List ℕ)
  pub is : lines ≡ front ++ mark_line (Stored n) ∷ back
  pub last : SaysNothing back

-- n is that number, or what the run began with where no line says it
abbrev pub IsAcknowledged : ℕ → List (List ℕ) → ℕ → Type 0
IsAcknowledged start lines n = SaysLast lines n ⊎ ((n ≡ start) × SaysNothing lines)

-- so many events are in the last checkpoint that a line says is saved
pub record SavesLast (lines : List (List ℕ)) (count : ℕ) : Type 0 where
  pub front : List (List ℕ)
  pub back : List (List ℕ)
  pub is : lines ≡ front ++ mark_line (Saved count) ∷ back
  pub last : (n : ℕ) → n < 2 ^ 64 → SaysSaved back n → ⊥

-- these lines say nothing of the store
pub record SayNothing (lines : List (List ℕ)) : Type 0 where
  pub not_stored : (n : ℕ) → n < 2 ^ 64 → SaysStored lines n → ⊥
  pub not_saved : (count : ℕ) → count < 2 ^ 64 → SaysSaved lines count → ⊥
