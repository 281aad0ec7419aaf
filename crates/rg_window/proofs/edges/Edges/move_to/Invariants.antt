use Rattle.std.proofs.Common.{◌≡◌, ◌≤◌, ◌<◌, ℕ, length}
use Rattle.std.specs.List.{slice_index_or}
use Rattle.rg_past.specs.Keeping.{Kept}
use Rattle.rg_window.specs.Chain.{Moved}
use Rattle.rg_window.specs.Placed.{AreWithin, IsSpelledAt, numbers_of}
use Rattle.rg_window.proofs.edges.Edges.move_to.Given as goal

abbrev pub invariant-edges : goal.invariant-edges
invariant-edges g l = record {
  offsets : l.self-inside.offsets ≡ l.initial.self-inside.offsets;
  moved : Moved g.V.Visit.step l.fn.visit l.visit l.initial.self-inside.offsets.items l.t (numbers_of l.initial.self-inside.spots.items) (numbers_of l.self-inside.spots.items) (λ edge. g.P.Past.sound l.fn.past × IsSpelledAt (g.P.Past.spells l.fn.past) l.initial.self-inside.spots.items edge) (g.P.Past.events l.fn.past) l.edge;
  still : (i : ℕ) → l.edge ≤ i → slice_index_or (numbers_of l.self-inside.spots.items) i 0 ≡ slice_index_or (numbers_of l.initial.self-inside.spots.items) i 0;
  same : length l.self-inside.spots.items ≡ length l.initial.self-inside.spots.items;
  within : AreWithin l.self-inside.spots.items (length (g.P.Past.events l.fn.past));
  spells : g.P.Past.sound l.fn.past → (edge : ℕ) → IsSpelledAt (g.P.Past.spells l.fn.past) l.initial.self-inside.spots.items edge → IsSpelledAt (g.P.Past.spells l.past) l.self-inside.spots.items edge;
  asks : (edge : ℕ) → IsSpelledAt (g.P.Past.asks_illegal l.fn.past) l.initial.self-inside.spots.items edge → (l.edge ≤ edge) × IsSpelledAt (g.P.Past.asks_illegal l.past) l.self-inside.spots.items edge;
  events : g.P.Past.events l.past ≡ g.P.Past.events l.fn.past;
  room : g.P.Past.has_room l.fn.past → g.P.Past.has_room l.past;
  past : Kept g.P.Past.goes g.P.Past.sound g.P.Past.ended g.P.Past.faults l.fn.past l.past;
  running : 0 < l.edge → g.P.Past.ended l.fn.past → ⊥;
  unvisited : g.P.Past.ended l.fn.past → l.visit ≡ l.fn.visit;
}
