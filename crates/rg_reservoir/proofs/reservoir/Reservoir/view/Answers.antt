use Rattle.std.proofs.Common.{◌≡◌, ◌∙◌, ◌⊎◌, ap, sym, subst, refl, ℕ, List, [], Err, false, arith}
use Rattle.rg_event.specs.declared.event.Event.{Event}
use Rattle.rg_event.specs.Shapes.{Shape}
use Rattle.rg_cache.specs.Cache.{Cache, item_at, places}
use Rattle.rg_log.specs.Log.{HasEvents}
use Rattle.rg_reservoir.specs.declared.fault.ReservoirFault.{ReservoirFault}
use Rattle.rg_reservoir.specs.declared.fault.ReservoirFault.TheVariants.{Damaged, SchemaDiffers}
use Rattle.rg_reservoir.specs.declared.kept.Kept.{Kept}
use Rattle.rg_reservoir.specs.Attached.{IsOpened, IsOther, IsBadFrame, HasView}
use Rattle.rg_reservoir.specs.Kept.{Base, all_events, IsSoundIn}
use Rattle.rg_reservoir.specs.Views.{seen_from}
use Rattle.rg_reservoir.proofs.Firsts.{opened_view}
use Rattle.rg_reservoir.proofs.Legal.{unframed, legal_not_bad, legal_not_other}
use Rattle.rg_reservoir.proofs.Listing.{listed}
use Rattle.rg_reservoir.proofs.Attaching.{no_events, attached, opened_ours}
use Rattle.rg_reservoir.proofs.Reaching.{first_reached}
use Rattle.rg_reservoir.proofs.reservoir.Reservoir.view.Goals as goal

pub returns-in-Ok-Some-clause-sound : goal.returns-in-Ok-Some-clause-sound
returns-in-Ok-Some-clause-sound g c = λ v events told settled has0.
    let leaves = c.read_log.ensures.leaves.leaves in
    let opened = c.in-Ok-Some.opened in
    let shape = c.in-Ok.taken.schema in
    let o : IsOpened (seen_from shape opened.growths) opened.first opened.log.end opened.tally (v 2) = (rw c.in-Ok-Some.field-0-is at c.in-Ok-Some.ensures.read.opened) v told in
    let has : HasEvents shape events (v 2) = subst (λ (s : Shape). HasEvents s events (v 2)) (sym c.in-Ok.ensures.taken.schema) has0 in
    let file = (rw c.in-Ok-Some.field-0-is at c.in-Ok-Some.ensures.read.log).0 in
    let b : Base = record { shape = shape; growths = opened.growths; file = opened.log.file; first = opened.first; end = opened.log.end; ended = false; committed = opened.tally.count; limit = c.args.room.limit } in
    let at : (P : List ℕ → Type 0) → P (v 2) → P (v opened.log.file) = λ P p. subst (λ (f : ℕ). P (v f)) (sym file) p in
    let s0 = attached v (g.H.Host.may c.read_log.new.host) b opened.tally c.in-Ok.taken.cache events (at (λ l. IsOpened (seen_from shape opened.growths) opened.first opened.log.end opened.tally l) o) (at (λ l. HasEvents shape events l) has) refl
    (λ q. ap (λ (k : Cache Kept). item_at q k) c.in-Ok.ensures.taken.cache) (λ u left. subst (λ (f : ℕ). u f ≡ v f) (sym file) (settled v told u (leaves.may_stays.no_more u left))) in
    let then : g.H.Host.now c.read_log.new.host ≡ _ = leaves.now_stays ∙ told in
    let none = c.in-Ok.ensures.taken.opened.0 in (
      (v, then, subst (λ (l : List Event). IsSoundIn v (g.H.Host.may c.read_log.new.host) b l opened.tally.next opened.tally.time c.in-Ok.taken.cache) (sym none) s0.0),
      ap (λ (l : List Event). all_events (g.H.Host.now c.read_log.new.host) b l) none ∙ ap (λ o. all_events o b []) then ∙ s0.1,
    )

pub returns-in-Ok-Some-clause-view : goal.returns-in-Ok-Some-clause-view
returns-in-Ok-Some-clause-view g c = λ v told.
    let opened = c.in-Ok-Some.opened in
    let shape = c.in-Ok.taken.schema in
    subst (λ (s : Shape). HasView s (seen_from shape opened.growths) (v 2)) c.in-Ok.ensures.taken.schema
    (opened_view shape opened.growths opened.first opened.log.end opened.tally (v 2) ((rw c.in-Ok-Some.field-0-is at c.in-Ok-Some.ensures.read.opened) v told))

pub returns-in-Ok-None-clause-empty_log : goal.returns-in-Ok-None-clause-empty_log
returns-in-Ok-None-clause-empty_log g c = λ v events told has. no_events c.args.schema.now events (v 2) has (listed [] 0 (v 2) ((rw c.in-Ok-None.field-0-is at c.in-Ok-None.ensures.read.none) v told) (omega arith))

pub returns-in-Ok-None-clause-none : goal.returns-in-Ok-None-clause-none
returns-in-Ok-None-clause-none g c = λ v told. listed [] 0 (v 2) ((rw c.in-Ok-None.field-0-is at c.in-Ok-None.ensures.read.none) v told) (omega arith)

pub returns-in-Ok-Some-clause-exact : goal.returns-in-Ok-Some-clause-exact
returns-in-Ok-Some-clause-exact g c = λ v told why.
    let opened = c.in-Ok-Some.opened in
    opened_ours c.in-Ok.taken.schema opened.growths opened.first opened.log.end opened.tally (v 2) ((rw c.in-Ok-Some.field-0-is at c.in-Ok-Some.ensures.read.opened) v told)
    (subst (λ (s : Shape). IsOther s (v 2) ⊎ ((p : ℕ) × IsBadFrame p (v 2))) (sym c.in-Ok.ensures.taken.schema) why)

pub returns-in-Err-read_log-clause-differs : goal.returns-in-Err-read_log-clause-differs
returns-in-Err-read_log-clause-differs g c = λ e v told.
    let same : c.in-Err-read_log.fault ≡ SchemaDiffers = cc in
    subst (λ (s : Shape). IsOther s (v 2)) c.in-Ok.ensures.taken.schema (c.in-Err-read_log.ensures.stops.differs (ap (λ (f : ReservoirFault). Err f) same) v told)

pub returns-in-Err-read_log-clause-legal : goal.returns-in-Err-read_log-clause-legal
returns-in-Err-read_log-clause-legal g c = λ v events p told has e.
    let same : c.in-Err-read_log.fault ≡ Damaged p = cc in
    legal_not_bad c.args.schema.now events p (v 2) has (c.in-Err-read_log.ensures.stops.damaged p (ap (λ (f : ReservoirFault). Err f) same) v told)

pub returns-in-Err-read_log-clause-legal_ours : goal.returns-in-Err-read_log-clause-legal_ours
returns-in-Err-read_log-clause-legal_ours g c = λ v events told has e.
    let same : c.in-Err-read_log.fault ≡ SchemaDiffers = cc in
    legal_not_other c.args.schema.now events (v 2) has (subst (λ (s : Shape). IsOther s (v 2)) c.in-Ok.ensures.taken.schema (c.in-Err-read_log.ensures.stops.differs (ap (λ (f : ReservoirFault). Err f) same) v told))

pub returns-in-Ok-Some-clause-empty : goal.returns-in-Ok-Some-clause-empty
returns-in-Ok-Some-clause-empty g c =
    let same = c.in-Ok.ensures.taken.cache in
    (c.in-Ok.ensures.taken.opened.0, c.in-Ok.ensures.taken.opened.1, ap (λ (k : Cache Kept). places k) same, ap (λ (k : Cache Kept). k.cap) same, refl)

pub returns-in-Ok-None-clause-exact : goal.returns-in-Ok-None-clause-exact
returns-in-Ok-None-clause-exact g c = λ v told why. unframed c.args.schema.now (v 2) (listed [] 0 (v 2) ((rw c.in-Ok-None.field-0-is at c.in-Ok-None.ensures.read.none) v told) (omega arith)) why

pub returns-in-Ok-Some-clause-reached : goal.returns-in-Ok-Some-clause-reached
returns-in-Ok-Some-clause-reached g c = λ v told.
    let leaves = c.read_log.ensures.leaves.leaves in
    let opened = c.in-Ok-Some.opened in
    let shape = c.in-Ok.taken.schema in
    let o : IsOpened (seen_from shape opened.growths) opened.first opened.log.end opened.tally (v 2) = (rw c.in-Ok-Some.field-0-is at c.in-Ok-Some.ensures.read.opened) v told in
    let file = (rw c.in-Ok-Some.field-0-is at c.in-Ok-Some.ensures.read.log).0 in
    let b : Base = record { shape = shape; growths = opened.growths; file = opened.log.file; first = opened.first; end = opened.log.end; ended = false; committed = opened.tally.count; limit = c.args.room.limit } in
    first_reached (g.H.Host.now c.read_log.new.host) v b c.in-Ok.taken.cache opened.tally (leaves.now_stays ∙ told) (subst (λ (f : ℕ). IsOpened (seen_from shape opened.growths) opened.first opened.log.end opened.tally (v f)) (sym file) o)
    (λ q. ap (λ (k : Cache Kept). item_at q k) c.in-Ok.ensures.taken.cache)
