-- How far edges came, before a fault too.
use Rattle.std.specs.Prelude.{ℕ, ◌<◌, List, [], Result, Ok, Err, length}
use Rattle.rg_event.specs.declared.event.Event.{Event}
use Rattle.rg_window.specs.Chain.{Went, Refused, Halfway, Halted}
use Rattle.rg_window.specs.declared.edges.MoveFault.{MoveFault}
use Rattle.rg_window.specs.declared.edges.MoveFault.TheVariants.{Past, Visit}

-- one edge: the past's fault came after some visits, the visitor's is the answer of the last one
abbrev pub StopsAt : {V F : Type 0} (step : V → ℕ → Event → Result Unit F → V → Type 0) (edge : ℕ) (before after : V) (old new : ℕ) (told : Type 0) (all : List Event) → MoveFault F → Type 0
StopsAt step edge before after old new told all (Past fault) = (rest : List Event) × Went step edge before after old new told all rest
StopsAt step edge before after old new told all (Visit fault) = Refused step edge before after old new told all fault

-- one edge's move: it went all its way, or it stopped on it
abbrev pub Goes : {V F : Type 0} (step : V → ℕ → Event → Result Unit F → V → Type 0) (edge : ℕ) (before after : V) (old new : ℕ) (told : Type 0) (all : List Event) → Result Unit (MoveFault F) → Type 0
Goes step edge before after old new told all (Ok done) = Went step edge before after old new told all []
Goes step edge before after old new told all (Err fault) = StopsAt step edge before after old new told all fault

-- all edges, in the same way
abbrev pub HaltsAt : {V F : Type 0} (step : V → ℕ → Event → Result Unit F → V → Type 0) (before after : V) (offsets : List ℕ) (t : ℕ) (old new : List ℕ) (told : ℕ → Type 0) (events : List Event) → MoveFault F → Type 0
HaltsAt step before after offsets t old new told events (Past fault) = (end : ℕ) × (end < length offsets) × Halfway step before after offsets t old new told events end
HaltsAt step before after offsets t old new told events (Visit fault) = (end : ℕ) × (end < length offsets) × Halted step before after offsets t old new told events end fault
