use Rattle.std.proofs.Common.{◌≡◌, ◌≤◌, ◌-◌, length}
use Rattle.rg_past.specs.Keeping.{Kept}
use Rattle.rg_window.specs.Passing.{passed}
use Rattle.rg_window.specs.Chain.{Went}
use Rattle.rg_window.proofs.edges.move_edge.Given as goal

abbrev pub invariant-edge : goal.invariant-edge
invariant-edge g l = record {
  went : Went g.V.Visit.step l.edge l.fn.visit l.visit l.fn.spot.number l.spot.number (g.P.Past.sound l.fn.past × g.P.Past.spells l.fn.past l.fn.spot) (passed (g.P.Past.events l.fn.past) l.t l.offset l.fn.spot.number) (passed (g.P.Past.events l.fn.past) l.t l.offset l.spot.number);
  within : l.spot.number ≤ length (g.P.Past.events l.fn.past);
  spells : g.P.Past.sound l.fn.past → g.P.Past.spells l.fn.past l.fn.spot → g.P.Past.spells l.past l.spot;
  asks : g.P.Past.asks_illegal l.fn.past l.fn.spot → g.P.Past.asks_illegal l.past l.spot;
  events : g.P.Past.events l.past ≡ g.P.Past.events l.fn.past;
  room : g.P.Past.has_room l.fn.past → g.P.Past.has_room l.past;
  past : Kept g.P.Past.goes g.P.Past.sound g.P.Past.ended g.P.Past.faults l.fn.past l.past;
  unvisited : g.P.Past.ended l.fn.past → l.visit ≡ l.fn.visit;
}

abbrev pub decreases-edge : goal.decreases-edge
decreases-edge g l = length (g.P.Past.events l.fn.past) - l.spot.number
