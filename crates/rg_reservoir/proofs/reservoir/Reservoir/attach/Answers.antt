use Rattle.std.proofs.Common.{rules, ◌≡◌, ◌∙◌, ◌⊎◌, ap, sym, subst, refl, ℕ, List, [], Err, false}
use Rattle.rg_host.specs.Image.{Becomes}
use Rattle.rg_host.specs.Moments.{LeavesAll}
use Rattle.rg_event.specs.declared.event.Event.{Event}
use Rattle.rg_event.specs.Shapes.{Shape}
use Rattle.rg_cache.specs.Cache.{Cache, item_at, places}
use Rattle.rg_frame.specs.Calls.{Writes}
use Rattle.rg_log.specs.Filled.{HasEventsFor}
use Rattle.rg_log.specs.Log.{HasEvents}
use Rattle.rg_reservoir.specs.declared.fault.ReservoirFault.{ReservoirFault}
use Rattle.rg_reservoir.specs.declared.fault.ReservoirFault.TheVariants.{Damaged, SchemaDiffers}
use Rattle.rg_reservoir.specs.declared.kept.Kept.{Kept}
use Rattle.rg_reservoir.specs.Attached.{LogOpens, Opens, IsOpened, IsForeign, IsBadFrame, OpensView}
use Rattle.rg_reservoir.specs.Kept.{Base, all_events, IsSoundIn}
use Rattle.rg_reservoir.specs.Views.{seen_from}
use Rattle.rg_reservoir.proofs.Firsts.{quiet}
use Rattle.rg_reservoir.proofs.Legal.{other_not_bad, for_not_bad, foreign_not_for}
use Rattle.rg_reservoir.proofs.Attaching.{events_then, attached, refused}
use Rattle.rg_reservoir.proofs.reservoir.Reservoir.attach.Goals as goal

pub returns-in-Err-clause-writes : goal.returns-in-Err-clause-writes
returns-in-Err-clause-writes g c =
    let leaves : LeavesAll g.H.Host.now g.H.Host.may g.H.Host.clock g.H.Host.since g.H.Host.said c.args.host.now c.args.host.now = search rules in
    quiet g.H.Host.now g.H.Host.may g.H.Host.clock g.H.Host.since g.H.Host.said c.args.schema.now c.args.defaults.now _ _ leaves

pub returns-in-Ok-open_log-clause-writes : goal.returns-in-Ok-open_log-clause-writes
returns-in-Ok-open_log-clause-writes g c =
    subst (λ (s : Shape). Writes g.H.Host.now g.H.Host.may g.H.Host.clock g.H.Host.since g.H.Host.said 2 (LogOpens s c.args.defaults.now) c.args.host.now c.open_log.new.host) c.in-Ok.ensures.taken.schema c.open_log.ensures.writes.writes

pub returns-in-Err-open_log-clause-writes : goal.returns-in-Err-open_log-clause-writes
returns-in-Err-open_log-clause-writes g c =
    subst (λ (s : Shape). Writes g.H.Host.now g.H.Host.may g.H.Host.clock g.H.Host.since g.H.Host.said 2 (LogOpens s c.args.defaults.now) c.args.host.now c.open_log.new.host) c.in-Ok.ensures.taken.schema c.open_log.ensures.writes.writes

pub returns-in-Err-open_log-clause-differs : goal.returns-in-Err-open_log-clause-differs
returns-in-Err-open_log-clause-differs g c = λ e v told.
    let same : c.in-Err-open_log.fault ≡ SchemaDiffers = cc in
    subst (λ (s : Shape). IsForeign s c.args.defaults.now (v 2)) c.in-Ok.ensures.taken.schema (c.in-Err-open_log.ensures.stops.differs (ap (λ (f : ReservoirFault). Err f) same) v told)

pub returns-in-Ok-open_log-clause-sound : goal.returns-in-Ok-open_log-clause-sound
returns-in-Ok-open_log-clause-sound g c = λ v events told settled has0.
    let t = c.in-Ok-open_log.ensures.opened.opens.told v told in
    let w = t.0 in
    let opened = c.in-Ok-open_log.opened in
    let shape = c.in-Ok.taken.schema in
    let o : IsOpened (seen_from shape opened.growths) opened.first opened.log.end opened.tally (w 2) = c.in-Ok-open_log.ensures.opened.opened w t.1 in
    let defaults = c.args.defaults.now in
    let has : HasEventsFor shape defaults events (v 2) = subst (λ (s : Shape). HasEventsFor s defaults events (v 2)) (sym c.in-Ok.ensures.taken.schema) has0 in
    let then = events_then shape defaults opened.growths opened.first opened.log.end opened.tally events (v 2) (w 2) has t.2 o in
    let file = c.in-Ok-open_log.ensures.opened.log.0 in
    let b : Base = record { shape = shape; growths = opened.growths; file = opened.log.file; first = opened.first; end = opened.log.end; ended = false; committed = opened.tally.count; limit = c.args.room.limit } in
    let at : (P : List ℕ → Type 0) → P (w 2) → P (w opened.log.file) = λ P p. subst (λ (f : ℕ). P (w f)) (sym file) p in
    let s0 = attached w (g.H.Host.may c.open_log.new.host) b opened.tally c.in-Ok.taken.cache events (at (λ l. IsOpened (seen_from shape opened.growths) opened.first opened.log.end opened.tally l) o) (at (λ l. HasEvents shape events l) then) refl
    (λ q. ap (λ (k : Cache Kept). item_at q k) c.in-Ok.ensures.taken.cache) (λ u left. subst (λ (f : ℕ). u f ≡ w f) (sym file) (c.in-Ok-open_log.ensures.opened.settled settled w t.1 u left)) in
    let none = c.in-Ok.ensures.taken.opened.0 in (
      (w, t.1, subst (λ (l : List Event). IsSoundIn w (g.H.Host.may c.open_log.new.host) b l opened.tally.next opened.tally.time c.in-Ok.taken.cache) (sym none) s0.0),
      ap (λ (l : List Event). all_events (g.H.Host.now c.open_log.new.host) b l) none ∙ ap (λ o. all_events o b []) t.1 ∙ s0.1,
    )

pub returns-in-Ok-open_log-clause-view : goal.returns-in-Ok-open_log-clause-view
returns-in-Ok-open_log-clause-view g c = λ v told.
    subst (λ (s : Shape). OpensView s c.args.defaults.now (seen_from c.in-Ok.taken.schema c.in-Ok-open_log.opened.growths) (v 2)) c.in-Ok.ensures.taken.schema (c.in-Ok-open_log.ensures.opened.view v told)

pub returns-in-Ok-open_log-clause-exact : goal.returns-in-Ok-open_log-clause-exact
returns-in-Ok-open_log-clause-exact g c = λ v told why.
    let shape = c.in-Ok.taken.schema in
    let opened = c.in-Ok-open_log.opened in
    let t = c.in-Ok-open_log.ensures.opened.opens.told v told in
    let defaults = c.args.defaults.now in
    refused shape defaults opened.growths opened.first opened.log.end opened.tally (v 2) (t.0 2) t.2 (c.in-Ok-open_log.ensures.opened.opened t.0 t.1)
    (subst (λ (s : Shape). IsForeign s defaults (v 2) ⊎ ((p : ℕ) × IsBadFrame p (v 2))) (sym c.in-Ok.ensures.taken.schema) why)

pub returns-in-Err-open_log-clause-other : goal.returns-in-Err-open_log-clause-other
returns-in-Err-open_log-clause-other g c = λ v p told other e.
    let same : c.in-Err-open_log.fault ≡ Damaged p = cc in
    other_not_bad c.args.schema.now p (v 2) other (c.in-Err-open_log.ensures.stops.damaged p (ap (λ (f : ReservoirFault). Err f) same) v told)

pub returns-in-Err-open_log-clause-legal : goal.returns-in-Err-open_log-clause-legal
returns-in-Err-open_log-clause-legal g c = λ v events p told has e.
    let same : c.in-Err-open_log.fault ≡ Damaged p = cc in
    for_not_bad c.args.schema.now c.args.defaults.now events p (v 2) has (c.in-Err-open_log.ensures.stops.damaged p (ap (λ (f : ReservoirFault). Err f) same) v told)

pub returns-in-Err-open_log-clause-legal_ours : goal.returns-in-Err-open_log-clause-legal_ours
returns-in-Err-open_log-clause-legal_ours g c = λ v events told has e.
    let same : c.in-Err-open_log.fault ≡ SchemaDiffers = cc in
    foreign_not_for c.args.schema.now c.args.defaults.now events (v 2) has (subst (λ (s : Shape). IsForeign s c.args.defaults.now (v 2)) c.in-Ok.ensures.taken.schema (c.in-Err-open_log.ensures.stops.differs (ap (λ (f : ReservoirFault). Err f) same) v told))

pub returns-in-Ok-open_log-clause-opens : goal.returns-in-Ok-open_log-clause-opens
returns-in-Ok-open_log-clause-opens g c =
    let opened = c.in-Ok-open_log.opened in
    subst (λ (s : Shape). Becomes (g.H.Host.now c.args.host.now) (g.H.Host.now c.open_log.new.host) (λ v w. Opens s c.args.defaults.now opened.first opened.log.end (v 2) (w 2))) c.in-Ok.ensures.taken.schema c.in-Ok-open_log.ensures.opened.opens

pub returns-in-Ok-open_log-clause-empty : goal.returns-in-Ok-open_log-clause-empty
returns-in-Ok-open_log-clause-empty g c =
    let same = c.in-Ok.ensures.taken.cache in
    (c.in-Ok.ensures.taken.opened.0, c.in-Ok.ensures.taken.opened.1, ap (λ (k : Cache Kept). places k) same, ap (λ (k : Cache Kept). k.cap) same, refl)
