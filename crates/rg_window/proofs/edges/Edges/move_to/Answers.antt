use Rattle.std.proofs.Common.{◌≢◌, ◌≤◌, ◌<◌, ◌∙◌, ap, arith, length, get_or}
use Rattle.std.proofs.lemmas.List.{length-set}
use Rattle.std.proofs.lemmas.List.Elements.{All-set}
use Rattle.rg_past.specs.declared.past.Spot.{Spot}
use Rattle.rg_past.proofs.Laws.{kept-then, cause-within}
use Rattle.rg_window.proofs.Chains.{ok_err}
use Rattle.rg_window.proofs.Runs.{Moved-more, HaltsAt-next, still-more, Next-edge, no_spot, Reaches-from_Moved, rises_moved, rises_halted}
use Rattle.rg_window.proofs.Spelled.{spelled_of, spelled_here, spelled_set, spelled_within}
use Rattle.rg_window.proofs.edges.Edges.move_to.Goals as goal

pub edges-preserved : goal.edges-preserved
edges-preserved g c =
    let i = c.edges.invariant in
    let w = c.in-Ok.ensures in
    let edge = c.edges.edge in
    let spots = c.edges.self-inside.spots.items in
    let offsets = c.self.inside.offsets.items in
    let spot = c.index.result.now in
    let new = c.move_edge-moved.new.spot in
    let events = g.P.Past.events c.args.past.now in
    let below : edge < length spots = omega (arith, c.edges-test.true, i.same, c.len-edge-end.ensures) in
    let within : edge < length offsets = omega (arith, below, i.same, c.self.invariant.same) in
    let n = Next-edge _ _ offsets c.self.inside.spots.items spots c.args.t edge c.index-offset.result.now spot new i.events i.same below within c.index.ensures (c.index-offset.ensures ∙ ap (λ v. get_or v.items edge c.index-offset.result.now) i.offsets) i.still in
    let low : new.number ≤ length events = omega (arith, w.keeps.within, ap length i.events) in
    record {
      offsets = i.offsets;
      moved = Moved-more _ _ _ _ _ c.args.t _ _ _ _ _ _ edge _ _ _ i.moved w.goes (λ s. (i.past.sound s.0, spelled_of _ spots edge spot c.index.ensures (i.spells s.0 edge s.1))) n;
      still = λ k l. still-more _ spots edge k new i.still l;
      same = length-set spots edge new ∙ i.same;
      within = All-set (λ (spot : Spot). spot.number ≤ length events) spots edge new low i.within;
      spells = λ s k e. spelled_set (g.P.Past.spells c.edges.past) (g.P.Past.spells c.move_edge-moved.new.past) spots edge k new below
          (λ spot spelled. g.met.P.Past.stays_spelled _ _ spot w.keeps.past.goes (i.past.sound s) spelled)
          (λ here. w.keeps.spells (i.past.sound s) (spelled_of _ spots edge spot c.index.ensures (rw here at (i.spells s k e))))
          (i.spells s k e);
      asks = λ k e.
          let s = i.asks k e in
          let other : k ≢ edge = λ same. w.refuses.legal (spelled_of (g.P.Past.asks_illegal c.edges.past) spots edge spot c.index.ensures (rw same at s.1)) in
          (omega (arith, s.0, other), spelled_set (g.P.Past.asks_illegal c.edges.past) (g.P.Past.asks_illegal c.move_edge-moved.new.past) spots edge k new below (λ spot asks. g.met.P.Past.stays_asking _ _ spot w.keeps.past.goes asks) (λ same. absurd (other same)) s.1);
      events = w.keeps.same ∙ i.events;
      room = λ r. w.keeps.room (i.room r);
      past = kept-then _ _ _ _ _ _ _ g.met.P.Past.transitive i.past w.keeps.past;
      running = λ l e. ok_err (w.refuses.ended (i.past.ended.1 e));
      unvisited = λ e. absurd (ok_err (w.refuses.ended (i.past.ended.1 e)));
    }

pub returns-clause-reached : goal.returns-clause-reached
returns-clause-reached g c = rw (← c.self.view_is) (λ s k e.
    let within : k < c.edges.edge = omega (arith, c.edges-test.false, c.len-edge-end.ensures, spelled_within _ c.self.inside.spots.items k e) in
    Reaches-from_Moved _ _ _ _ _ _ _ _ _ _ k c.edges.invariant.moved within (s, e))

pub returns-clause-legal : goal.returns-clause-legal
returns-clause-legal g c = rw (← c.self.view_is) (λ k spot is asks.
    let s = c.edges.invariant.asks k (spot, is, asks) in
    absurd (omega (arith, c.edges-test.false, c.len-edge-end.ensures, c.edges.invariant.same, s.0, spelled_within _ c.edges.self-inside.spots.items k s.1)))

pub returns-clause-rises : goal.returns-clause-rises
returns-clause-rises g c = rw (← c.self.view_is) (λ k. rises_moved _ _ _ _ _ _ _ _ _ _ k c.edges.invariant.moved)

pub returns-in-Err-clause-within : goal.returns-in-Err-clause-within
returns-in-Err-clause-within g c =
    let i = c.edges.invariant in
    let keeps = c.in-Err.ensures.keeps in
    let low : c.move_edge-moved.new.spot.number ≤ length (g.P.Past.events c.args.past.now) = omega (arith, keeps.within, ap length i.events) in
    rw (keeps.same, i.events) (All-set (λ (spot : Spot). spot.number ≤ length (g.P.Past.events c.args.past.now)) c.edges.self-inside.spots.items c.edges.edge c.move_edge-moved.new.spot low i.within)

pub returns-in-Err-clause-spells : goal.returns-in-Err-clause-spells
returns-in-Err-clause-spells g c = rw (← c.self.view_is) (λ s k e.
    let i = c.edges.invariant in
    let keeps = c.in-Err.ensures.keeps in
    let edge = c.edges.edge in
    let spots = c.edges.self-inside.spots.items in
    let below : edge < length spots = omega (arith, c.edges-test.true, i.same, c.len-edge-end.ensures) in
    spelled_set (g.P.Past.spells c.edges.past) (g.P.Past.spells c.move_edge-moved.new.past) spots edge k c.move_edge-moved.new.spot below
    (λ spot spelled. g.met.P.Past.stays_spelled _ _ spot keeps.past.goes (i.past.sound s) spelled)
    (λ here. keeps.spells (i.past.sound s) (spelled_of _ spots edge c.index.result.now c.index.ensures (rw here at (i.spells s k e))))
    (i.spells s k e))

pub returns-in-Err-clause-halted : goal.returns-in-Err-clause-halted
returns-in-Err-clause-halted g c = rw (← c.self.view_is) (
    let i = c.edges.invariant in
    let edge = c.edges.edge in
    let spots = c.edges.self-inside.spots.items in
    let offsets = c.self.inside.offsets.items in
    let spot = c.index.result.now in
    let below : edge < length spots = omega (arith, c.edges-test.true, i.same, c.len-edge-end.ensures) in
    let within : edge < length offsets = omega (arith, below, i.same, c.self.invariant.same) in
    let n = Next-edge _ _ offsets c.self.inside.spots.items spots c.args.t edge c.index-offset.result.now spot c.move_edge-moved.new.spot i.events i.same below within c.index.ensures (c.index-offset.ensures ∙ ap (λ v. get_or v.items edge c.index-offset.result.now) i.offsets) i.still in
    HaltsAt-next _ _ _ _ _ c.args.t _ _ _ _ _ _ edge _ _ _ c.in-Err.fault i.moved c.in-Err.ensures.goes (λ s. (i.past.sound s.0, spelled_of _ spots edge spot c.index.ensures (i.spells s.0 edge s.1))) n within)

pub returns-in-Err-clause-rises : goal.returns-in-Err-clause-rises
returns-in-Err-clause-rises g c = λ k. rises_halted _ _ _ _ _ _ _ _ _ k c.in-Err.fault (returns-in-Err-clause-halted g c)

pub returns-in-Err-clause-cause : goal.returns-in-Err-clause-cause
returns-in-Err-clause-cause g c = λ fault is.
    let i = c.edges.invariant in
    cause-within _ ⊥ _ ⊥ _ _ _ _ fault i.past.later (λ full. full) (λ ended. i.past.ended.0 ended) (c.in-Err.ensures.refuses.cause fault is)

pub returns-in-Err-clause-never_damaged : goal.returns-in-Err-clause-never_damaged
returns-in-Err-clause-never_damaged g c = rw (← c.self.view_is) (λ place sound all is.
    let i = c.edges.invariant in
    let edge = c.edges.edge in
    let start = c.self.inside.spots.items in
    let below : edge < length start = omega (arith, c.edges-test.true, c.len-edge-end.ensures) in
    let here = i.spells sound edge (spelled_here (g.P.Past.spells c.args.past.now) start edge no_spot below (all edge no_spot below)) in
    c.in-Err.ensures.refuses.never_damaged place (i.past.sound sound, spelled_of _ c.edges.self-inside.spots.items edge c.index.result.now c.index.ensures here) is)
