use Rattle.std.proofs.Common.{◌≡◌, ◌∙◌, ap, sym, subst, refl, inr, ℕ, List, [], Err, false, arith}
use Rattle.rg_event.specs.declared.event.Event.{Event}
use Rattle.rg_event.specs.Shapes.{Shape}
use Rattle.rg_cache.specs.Cache.{Cache, cache as the_cache, item_at, places}
use Rattle.rg_log.specs.Log.{HasEvents}
use Rattle.rg_log.specs.Entries.{unread}
use Rattle.rg_reservoir.specs.declared.fault.ReservoirFault.{ReservoirFault}
use Rattle.rg_reservoir.specs.declared.fault.ReservoirFault.TheVariants.{Damaged}
use Rattle.rg_reservoir.specs.declared.kept.Kept.{Kept}
use Rattle.rg_reservoir.specs.Attached.{IsOpened}
use Rattle.rg_reservoir.specs.Kept.{Base, all_events, IsSoundIn}
use Rattle.rg_reservoir.specs.Views.{seen_from}
use Rattle.rg_reservoir.proofs.Legal.{not_bad, legal_not_bad}
use Rattle.rg_reservoir.proofs.Listing.{listed}
use Rattle.rg_reservoir.proofs.Attaching.{attached, opened_ours, opened_schema}
use Rattle.rg_reservoir.proofs.reservoir.Reservoir.read.Goals as goal

pub returns-in-Ok-Some-clause-sound : goal.returns-in-Ok-Some-clause-sound
returns-in-Ok-Some-clause-sound g c = λ v shape events told settled has0.
    let leaves = c.find_log.ensures.leaves.leaves in
    let found = c.in-Ok-Some.field-0-0 in
    let opened = found.opened in
    let cache = c.in-Ok.cache in
    let empty : cache ≡ the_cache [] c.args.room.cache = c.in-Ok.ensures in
    let o : IsOpened (seen_from found.schema opened.growths) opened.first opened.log.end opened.tally (v 2) = (rw c.in-Ok-Some.field-0-is at c.in-Ok-Some.ensures.found.opened) v told in
    let known : found.schema ≡ shape = opened_schema found.schema shape opened.growths opened.first opened.log.end opened.tally events (v 2) o has0 in
    let has : HasEvents found.schema events (v 2) = subst (λ (s : Shape). HasEvents s events (v 2)) (sym known) has0 in
    let file = (rw c.in-Ok-Some.field-0-is at c.in-Ok-Some.ensures.found.log).0 in
    let b : Base = record { shape = found.schema; growths = opened.growths; file = opened.log.file; first = opened.first; end = opened.log.end; ended = false; committed = opened.tally.count; limit = c.args.room.limit } in
    let at : (P : List ℕ → Type 0) → P (v 2) → P (v opened.log.file) = λ P p. subst (λ (f : ℕ). P (v f)) (sym file) p in
    let s0 = attached v (g.H.Host.may c.find_log.new.host) b opened.tally cache events (at (λ l. IsOpened (seen_from found.schema opened.growths) opened.first opened.log.end opened.tally l) o) (at (λ l. HasEvents found.schema events l) has) refl
    (λ q. ap (λ (k : Cache Kept). item_at q k) empty) (λ u left. subst (λ (f : ℕ). u f ≡ v f) (sym file) (settled v told u (leaves.may_stays.no_more u left))) in
    let then : g.H.Host.now c.find_log.new.host ≡ _ = leaves.now_stays ∙ told in
    let none = c.in-Ok-new.ensures.empty in (
      (v, then, subst (λ (l : List Event). IsSoundIn v (g.H.Host.may c.find_log.new.host) b l opened.tally.next opened.tally.time cache) (sym none) s0.0),
      known,
      ap (λ (l : List Event). all_events (g.H.Host.now c.find_log.new.host) b l) none ∙ ap (λ o. all_events o b []) then ∙ s0.1,
    )

pub returns-in-Ok-None-clause-none : goal.returns-in-Ok-None-clause-none
returns-in-Ok-None-clause-none g c = λ v told. listed [] 0 (v 2) ((rw c.in-Ok-None.field-0-is at c.in-Ok-None.ensures.found.none) v told) (omega arith)

pub returns-in-Ok-Some-clause-exact : goal.returns-in-Ok-Some-clause-exact
returns-in-Ok-Some-clause-exact g c = λ v p told bad.
    let found = c.in-Ok-Some.field-0-0 in
    let opened = found.opened in
    opened_ours found.schema opened.growths opened.first opened.log.end opened.tally (v 2) ((rw c.in-Ok-Some.field-0-is at c.in-Ok-Some.ensures.found.opened) v told) (inr (p, bad))

pub returns-in-Ok-None-clause-exact : goal.returns-in-Ok-None-clause-exact
returns-in-Ok-None-clause-exact g c = λ v p told bad. not_bad [] unread p (v 2) (listed [] 0 (v 2) ((rw c.in-Ok-None.field-0-is at c.in-Ok-None.ensures.found.none) v told) (omega arith)) refl bad

pub returns-in-Err-find_log-clause-legal : goal.returns-in-Err-find_log-clause-legal
returns-in-Err-find_log-clause-legal g c = λ v shape events p told has e.
    let same : c.in-Err-find_log.fault ≡ Damaged p = cc in
    legal_not_bad shape events p (v 2) has (c.in-Err-find_log.ensures.stops.damaged p (ap (λ (f : ReservoirFault). Err f) same) v told)

pub returns-in-Ok-Some-clause-empty : goal.returns-in-Ok-Some-clause-empty
returns-in-Ok-Some-clause-empty g c =
    let same = c.in-Ok.ensures in
    (c.in-Ok-new.ensures.empty, c.in-Ok-new.ensures.cap, ap (λ (k : Cache Kept). places k) same, ap (λ (k : Cache Kept). k.cap) same, refl)
