use Rattle.std.proofs.Common.{Err, rules, ◌≡◌, ◌∙◌, ◌++◌, ℕ, List, length, ap, sym}
use Rattle.std.proofs.lemmas.Option.{slice_get_within}
use Rattle.rg_event.specs.Rising.{last_time}
use Rattle.rg_event.specs.declared.event.Event.{Event}
use Rattle.rg_plan.specs.Plans.{Tasks}
use Rattle.rg_window.specs.Placed.{numbers_of}
use Rattle.rg_engine.specs.Standing.{IsTold, NodeStands}
use Rattle.rg_engine.specs.declared.fault.EngineFault.TheVariants.{Past}
use Rattle.rg_restore.specs.Opening.{CanStand}
use Rattle.rg_restore.proofs.Asked.{refused-of, unmade-of}
use Rattle.rg_restore.proofs.Placing.{are_at, spelled_in, all_later, node_stands, node_told}
use Rattle.rg_restore.proofs.Standing.{stands}
use Rattle.rg_restore.proofs.going.go_on.Goals as goal

pub returns-clause-gone : goal.returns-clause-gone
returns-clause-gone g c =
    let went = rw (c.in-Ok.ensures.plan, c.in-Ok.ensures.spots, c.in-Ok.ensures.table) at c.in-Ok-replay.ensures.stands in
    let placed = rw (c.in-Ok.ensures.plan, c.in-Ok.ensures.spots) at c.in-Ok-replay.ensures.places in
    let passed = rw (c.in-Ok.ensures.plan, c.in-Ok.ensures.spots) at c.in-Ok-replay.ensures.passed in
    let spelled = rw (c.in-Ok.ensures.spots) at c.in-Ok-replay.ensures.edges.spells in
    let plan = c.args.plan in
    let spots = c.args.spots.now in
    let Spells = g.P.Past.spells c.args.past.now in
    let Later = g.P.Past.spells c.replay.new.past in
    let events = g.P.Past.events c.args.past.now in
    let then = g.P.Past.events c.replay.new.past in
    let engine = c.replay.new.self in
    let cells = g.T.Table.cell c.args.table in
    let after = g.T.Table.cell engine.table in
    let same = c.in-Ok-replay.ensures.plan ∙ c.in-Ok.ensures.plan in
    let many : length engine.spots ≡ length plan.offsets = c.spots-spots.ensures.same ∙ ap (λ (p : Tasks). length p.offsets) same in
    let node : (n : ℕ) (front more : List Event) → CanStand (g.P.Past.sound c.args.past.now) (g.T.Table.tells c.args.table) plan events → last_time events ≡ c.args.last → events ≡ front ++ more → IsTold plan n Spells spots →
    NodeStands plan n front cells (numbers_of spots) → NodeStands plan n then after (numbers_of engine.spots) =
    λ n front more can last is told stood. went n front last (record { sound = can.sound; spelled = told; tells = can.tells; fed = can.fed; more = more; begins = is; stood = stood }) in
    record {
      stands = λ front more can last is rows at.
          stands Later plan then after engine.spots many
          (λ n. node n front more can last is (node_told Spells plan front spots at n) (node_stands Spells plan front cells spots rows at n))
          (λ edge offset there. placed edge offset front more can.sound (spelled_in Spells plan front spots at edge (slice_get_within plan.offsets edge offset there)) is last there (are_at Spells plan front spots at edge offset there))
          (λ edge offset there. spelled can.sound edge (spelled_in Spells plan front spots at edge (slice_get_within plan.offsets edge offset there)));
      node = λ n last stood. node n stood.front stood.more stood.can last stood.is stood.told stood.stands;
      told = λ n sound told edge offset there has. spelled sound edge (told edge offset there has);
      spelled = λ sound all. all_later Spells Later spots engine.spots (many ∙ sym c.requires.same) (spelled sound) all;
      ticks = rw (c.in-Ok.ensures.plan, c.in-Ok.ensures.spots) at c.in-Ok-replay.ensures.ticks;
      passed = λ front more sound last is at. passed front more sound at.spelled is last (are_at Spells plan front spots at);
      engine_goes = record { plan_is = same; going = c.in-Ok-replay.ensures.ends; within = c.replay.ensures.edges.within };
      since = rw (c.in-Ok.ensures.table) at c.replay.ensures.since;
      table_kept = rw (c.in-Ok.ensures.table) at c.replay.ensures.rows;
    }

pub returns-in-Err-replay-clause-cause : goal.returns-in-Err-replay-clause-cause
returns-in-Err-replay-clause-cause g c =
    let bad = rw (c.in-Ok.ensures.plan, c.in-Ok.ensures.spots, c.in-Ok.ensures.table) at c.in-Err-replay.ensures.bad in
    let never = rw (c.in-Ok.ensures.spots) at c.in-Err-replay.ensures.never_damaged in
    let table = rw (c.in-Ok.ensures.table) at c.in-Err-replay.ensures.table in
    unmade-of _ _ _ c.in-Err-replay.fault
    (λ cause is. refused-of _ _ _ _ _ cause (c.in-Err-replay.ensures.cause cause (ap Err is)) (λ place sound same. never place sound.0 sound.1 (ap Err (is ∙ ap (λ f. Past f) same))))
    (λ n is stood. bad n stood.front (ap Err is) (record { sound = stood.can.sound; spelled = stood.told; tells = stood.can.tells; fed = stood.can.fed; more = stood.more; begins = stood.is; stood = stood.stands }))
    (λ is. search (rules, is))
    (λ is. search (rules, table (ap Err is)))
