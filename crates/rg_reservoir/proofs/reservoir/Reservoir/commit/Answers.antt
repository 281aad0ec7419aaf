use Rattle.std.proofs.Common.{◌≡◌, ◌∙◌, ◌+◌, ◌≤◌, ℕ, List, [], length, Some, true, false, ap, sym, subst, refl, rules, arith}
use Rattle.rg_host.proofs.Laws.{moments-weaker}
use Rattle.rg_event.specs.declared.event.Event.{Event}
use Rattle.rg_frame.specs.LogState.{LogState}
use Rattle.rg_frame.specs.Steps.{Leaves, From, Grown}
use Rattle.rg_chunk.specs.Chunks.{chunk_bytes}
use Rattle.rg_reservoir.specs.Kept.{Base, base, all_events, IsSoundIn, Spells, Adds}
use Rattle.rg_reservoir.proofs.Committed.{grown, grown_is, committed, all_new, spells_on, ends_at, left_events, failed_sound}
use Rattle.rg_reservoir.proofs.Adding.{adds_some, none_added, some_added, none_left}
use Rattle.rg_reservoir.proofs.reservoir.Reservoir.commit.Goals as goal

pub returns-clause-sound : goal.returns-clause-sound
returns-clause-sound g c = λ sound.
    let self = c.args.self.now in
    let v = sound.0 in
    let told : g.H.Host.now c.args.host.now ≡ Some v = sound.1 in
    let opened = self.open.events in
    let none : c.replace-closed.new.dest.events ≡ [] = search rules in
    let right = sound.2.right c.if-self.false in
    let written : c.deref.result.now ≡ chunk_bytes self.schema.fields opened = search rules in
    let became = c.in-Ok-append.ensures.appended.told v told in
    let w = became.0 in
    let step : Grown (chunk_bytes self.schema.fields opened) (v self.log.file) (w self.log.file) = subst (λ (p : List ℕ). Grown p (v self.log.file) (w self.log.file)) written
    (became.2.there (ends_at v (g.H.Host.may c.args.host.now) (base self) opened self.next_offset self.last_time self.cache right)).0 in
    let end_is : c.append.new.self.end ≡ self.log.end + 9 + length (chunk_bytes self.schema.fields opened) = ap (λ (l : LogState). l.end) c.in-Ok-append.ensures.ok ∙ ap (λ (p : List ℕ). self.log.end + 9 + length p) written in
    let some : 1 ≤ length opened = omega (arith, c.count-count.ensures.count, c.if-count-eq0.false) in
    let few : length opened ≤ 4096 = omega (arith, c.count-count.ensures.count, c.count-count.ensures.few) in
    let count : self.committed + c.from.result ≡ self.committed + length opened = search rules in
    let same = grown_is (base self) c.append.new.self.file c.append.new.self.end (self.committed + c.from.result) (length opened) self.ended (ap (λ (l : LogState). l.file) c.in-Ok-append.ensures.ok) refl count in
    let s0 = committed v w (g.H.Host.may c.args.host.now) (g.H.Host.may c.append.new.host) (base self) opened self.next_offset self.last_time self.cache right c.append.new.self.end some few step end_is (λ u left. c.in-Ok-append.ensures.pending w became.1 u left) in
    let s1 = subst (λ (b : Base). IsSoundIn w (g.H.Host.may c.append.new.host) b [] self.next_offset self.last_time self.cache) (sym same) s0 in
    (w, became.1, subst (λ (l : List Event). IsSoundIn w (g.H.Host.may c.append.new.host) (record { shape = self.schema; growths = self.growths; file = c.append.new.self.file; first = self.first; end = c.append.new.self.end; ended = self.ended; committed = self.committed + c.from.result; limit = self.limit }) l self.next_offset self.last_time self.cache) (sym none) s1)

pub returns-clause-list : goal.returns-clause-list
returns-clause-list g c = λ sound.
    let self = c.args.self.now in
    let v = sound.0 in
    let told : g.H.Host.now c.args.host.now ≡ Some v = sound.1 in
    let opened = self.open.events in
    let none : c.replace-closed.new.dest.events ≡ [] = search rules in
    let right = sound.2.right c.if-self.false in
    let written : c.deref.result.now ≡ chunk_bytes self.schema.fields opened = search rules in
    let became = c.in-Ok-append.ensures.appended.told v told in
    let w = became.0 in
    let step : Grown (chunk_bytes self.schema.fields opened) (v self.log.file) (w self.log.file) = subst (λ (p : List ℕ). Grown p (v self.log.file) (w self.log.file)) written
    (became.2.there (ends_at v (g.H.Host.may c.args.host.now) (base self) opened self.next_offset self.last_time self.cache right)).0 in
    let end_is : c.append.new.self.end ≡ self.log.end + 9 + length (chunk_bytes self.schema.fields opened) = ap (λ (l : LogState). l.end) c.in-Ok-append.ensures.ok ∙ ap (λ (p : List ℕ). self.log.end + 9 + length p) written in
    let some : 1 ≤ length opened = omega (arith, c.count-count.ensures.count, c.if-count-eq0.false) in
    let few : length opened ≤ 4096 = omega (arith, c.count-count.ensures.count, c.count-count.ensures.few) in
    let count : self.committed + c.from.result ≡ self.committed + length opened = search rules in
    let same = grown_is (base self) c.append.new.self.file c.append.new.self.end (self.committed + c.from.result) (length opened) self.ended (ap (λ (l : LogState). l.file) c.in-Ok-append.ensures.ok) refl count in
    ap (λ (l : List Event). all_events (g.H.Host.now c.append.new.host) (record { shape = self.schema; growths = self.growths; file = c.append.new.self.file; first = self.first; end = c.append.new.self.end; ended = self.ended; committed = self.committed + c.from.result; limit = self.limit }) l) none
    ∙ ap (λ (b : Base). all_events (g.H.Host.now c.append.new.host) b []) same ∙ ap (λ o. all_events o (grown (base self) c.append.new.self.end (length opened)) []) became.1
    ∙ all_new v w (g.H.Host.may c.args.host.now) (g.H.Host.may c.append.new.host) (base self) opened self.next_offset self.last_time self.cache right c.append.new.self.end some few step end_is ∙ ap (λ o. all_events o (base self) opened) (sym told)

pub returns-clause-spelled : goal.returns-clause-spelled
returns-clause-spelled g c = λ sound spot spells.
    let self = c.args.self.now in
    let v = sound.0 in
    let told : g.H.Host.now c.args.host.now ≡ Some v = sound.1 in
    let opened = self.open.events in
    let none : c.replace-closed.new.dest.events ≡ [] = search rules in
    let right = sound.2.right c.if-self.false in
    let written : c.deref.result.now ≡ chunk_bytes self.schema.fields opened = search rules in
    let became = c.in-Ok-append.ensures.appended.told v told in
    let w = became.0 in
    let step : Grown (chunk_bytes self.schema.fields opened) (v self.log.file) (w self.log.file) = subst (λ (p : List ℕ). Grown p (v self.log.file) (w self.log.file)) written
    (became.2.there (ends_at v (g.H.Host.may c.args.host.now) (base self) opened self.next_offset self.last_time self.cache right)).0 in
    let end_is : c.append.new.self.end ≡ self.log.end + 9 + length (chunk_bytes self.schema.fields opened) = ap (λ (l : LogState). l.end) c.in-Ok-append.ensures.ok ∙ ap (λ (p : List ℕ). self.log.end + 9 + length p) written in
    let some : 1 ≤ length opened = omega (arith, c.count-count.ensures.count, c.if-count-eq0.false) in
    let few : length opened ≤ 4096 = omega (arith, c.count-count.ensures.count, c.count-count.ensures.few) in
    let count : self.committed + c.from.result ≡ self.committed + length opened = search rules in
    let same = grown_is (base self) c.append.new.self.file c.append.new.self.end (self.committed + c.from.result) (length opened) self.ended (ap (λ (l : LogState). l.file) c.in-Ok-append.ensures.ok) refl count in
    let s0 = spells_on v w (g.H.Host.may c.args.host.now) (g.H.Host.may c.append.new.host) (base self) opened self.next_offset self.last_time self.cache right c.append.new.self.end some few step end_is (g.H.Host.now c.args.host.now) (g.H.Host.now c.append.new.host) spot told became.1 spells in
    let s1 = subst (λ (b : Base). Spells (g.H.Host.now c.append.new.host) b [] spot) (sym same) s0 in
    subst (λ (l : List Event). Spells (g.H.Host.now c.append.new.host) (record { shape = self.schema; growths = self.growths; file = c.append.new.self.file; first = self.first; end = c.append.new.self.end; ended = self.ended; committed = self.committed + c.from.result; limit = self.limit }) l spot) (sym none) s1

-- nothing is written

pub returns-then-self-clause-leaves : goal.returns-then-self-clause-leaves
returns-then-self-clause-leaves g c = none_left g.H.Host.now g.H.Host.may g.H.Host.clock g.H.Host.since g.H.Host.said c.args.self.now.schema.fields _ _ c.args.host.now (λ t u m le left. g.met.H.Host.sinks c.args.host.now t u m le left) (λ m left. g.met.H.Host.only_now c.args.host.now m left)

pub returns-then-count-eq0-clause-leaves : goal.returns-then-count-eq0-clause-leaves
returns-then-count-eq0-clause-leaves g c = none_left g.H.Host.now g.H.Host.may g.H.Host.clock g.H.Host.since g.H.Host.said c.args.self.now.schema.fields _ _ c.args.host.now (λ t u m le left. g.met.H.Host.sinks c.args.host.now t u m le left) (λ m left. g.met.H.Host.only_now c.args.host.now m left)

pub returns-in-Err-clause-leaves : goal.returns-in-Err-clause-leaves
returns-in-Err-clause-leaves g c = none_left g.H.Host.now g.H.Host.may g.H.Host.clock g.H.Host.since g.H.Host.said c.args.self.now.schema.fields _ _ c.args.host.now (λ t u m le left. g.met.H.Host.sinks c.args.host.now t u m le left) (λ m left. g.met.H.Host.only_now c.args.host.now m left)

pub returns-then-count-eq0-clause-events : goal.returns-then-count-eq0-clause-events
returns-then-count-eq0-clause-events g c = λ sound going.
    let self = c.args.self.now in
    let few : length self.open.events ≤ 4096 = omega (arith, c.count-count.ensures.count, c.count-count.ensures.few) in
    let leaves = none_left g.H.Host.now g.H.Host.may g.H.Host.clock g.H.Host.since g.H.Host.said c.args.self.now.schema.fields self.log.end self.open.events c.args.host.now (λ t u m le left. g.met.H.Host.sinks c.args.host.now t u m le left) (λ m left. g.met.H.Host.only_now c.args.host.now m left) in
    moments-weaker g.H.Host.clock g.H.Host.since _ _ _ _ leaves.moments
    (λ m has. left_events sound.0 (g.H.Host.may c.args.host.now) (base self) self.open.events self.next_offset self.last_time self.cache (sound.2.right going) (g.H.Host.now c.args.host.now) sound.1 few m.image
    (subst (λ (f : ℕ). Leaves f (From self.log.end (Adds self.schema.fields self.open.events)) (g.H.Host.now c.args.host.now) (g.H.Host.may c.args.host.now) m.image) (sym self.file) has.0))

pub returns-in-Err-clause-events : goal.returns-in-Err-clause-events
returns-in-Err-clause-events g c = λ sound going.
    let self = c.args.self.now in
    let few : length self.open.events ≤ 4096 = omega (arith, c.count-count.ensures.count, c.count-count.ensures.few) in
    let leaves = none_left g.H.Host.now g.H.Host.may g.H.Host.clock g.H.Host.since g.H.Host.said c.args.self.now.schema.fields self.log.end self.open.events c.args.host.now (λ t u m le left. g.met.H.Host.sinks c.args.host.now t u m le left) (λ m left. g.met.H.Host.only_now c.args.host.now m left) in
    moments-weaker g.H.Host.clock g.H.Host.since _ _ _ _ leaves.moments
    (λ m has. left_events sound.0 (g.H.Host.may c.args.host.now) (base self) self.open.events self.next_offset self.last_time self.cache (sound.2.right going) (g.H.Host.now c.args.host.now) sound.1 few m.image
    (subst (λ (f : ℕ). Leaves f (From self.log.end (Adds self.schema.fields self.open.events)) (g.H.Host.now c.args.host.now) (g.H.Host.may c.args.host.now) m.image) (sym self.file) has.0))

-- the append

pub returns-in-Err-append-clause-leaves : goal.returns-in-Err-append-clause-leaves
returns-in-Err-append-clause-leaves g c =
    let self = c.args.self.now in
    let written : c.deref.result.now ≡ chunk_bytes self.schema.fields self.open.events = search rules in
    let some : 1 ≤ length self.open.events = omega (arith, c.count-count.ensures.count, c.if-count-eq0.false) in
    adds_some g.H.Host.now g.H.Host.may g.H.Host.clock g.H.Host.since g.H.Host.said self.schema.fields self.log.file self.log.end self.open.events c.deref.result.now _ _ self.file some written c.append.ensures.leaves

pub returns-clause-leaves : goal.returns-clause-leaves
returns-clause-leaves g c =
    let self = c.args.self.now in
    let written : c.deref.result.now ≡ chunk_bytes self.schema.fields self.open.events = search rules in
    let some : 1 ≤ length self.open.events = omega (arith, c.count-count.ensures.count, c.if-count-eq0.false) in
    adds_some g.H.Host.now g.H.Host.may g.H.Host.clock g.H.Host.since g.H.Host.said self.schema.fields self.log.file self.log.end self.open.events c.deref.result.now _ _ self.file some written c.append.ensures.leaves

pub returns-in-Err-append-clause-events : goal.returns-in-Err-append-clause-events
returns-in-Err-append-clause-events g c = λ sound going.
    let self = c.args.self.now in
    let written : c.deref.result.now ≡ chunk_bytes self.schema.fields self.open.events = search rules in
    let some : 1 ≤ length self.open.events = omega (arith, c.count-count.ensures.count, c.if-count-eq0.false) in
    let few : length self.open.events ≤ 4096 = omega (arith, c.count-count.ensures.count, c.count-count.ensures.few) in
    let leaves = adds_some g.H.Host.now g.H.Host.may g.H.Host.clock g.H.Host.since g.H.Host.said self.schema.fields self.log.file self.log.end self.open.events c.deref.result.now _ _ self.file some written c.append.ensures.leaves in
    moments-weaker g.H.Host.clock g.H.Host.since _ _ _ _ leaves.moments
    (λ m has. left_events sound.0 (g.H.Host.may c.args.host.now) (base self) self.open.events self.next_offset self.last_time self.cache (sound.2.right going) (g.H.Host.now c.args.host.now) sound.1 few m.image
    (subst (λ (f : ℕ). Leaves f (From self.log.end (Adds self.schema.fields self.open.events)) (g.H.Host.now c.args.host.now) (g.H.Host.may c.args.host.now) m.image) (sym self.file) has.0))

pub returns-clause-events : goal.returns-clause-events
returns-clause-events g c = λ sound going.
    let self = c.args.self.now in
    let written : c.deref.result.now ≡ chunk_bytes self.schema.fields self.open.events = search rules in
    let some : 1 ≤ length self.open.events = omega (arith, c.count-count.ensures.count, c.if-count-eq0.false) in
    let few : length self.open.events ≤ 4096 = omega (arith, c.count-count.ensures.count, c.count-count.ensures.few) in
    let leaves = adds_some g.H.Host.now g.H.Host.may g.H.Host.clock g.H.Host.since g.H.Host.said self.schema.fields self.log.file self.log.end self.open.events c.deref.result.now _ _ self.file some written c.append.ensures.leaves in
    moments-weaker g.H.Host.clock g.H.Host.since _ _ _ _ leaves.moments
    (λ m has. left_events sound.0 (g.H.Host.may c.args.host.now) (base self) self.open.events self.next_offset self.last_time self.cache (sound.2.right going) (g.H.Host.now c.args.host.now) sound.1 few m.image
    (subst (λ (f : ℕ). Leaves f (From self.log.end (Adds self.schema.fields self.open.events)) (g.H.Host.now c.args.host.now) (g.H.Host.may c.args.host.now) m.image) (sym self.file) has.0))

pub returns-then-count-eq0-clause-grown : goal.returns-then-count-eq0-clause-grown
returns-then-count-eq0-clause-grown g c = none_added c.args.self.now.schema.fields c.args.self.now.open.events c.args.self.now.log.end c.args.self.now.log.end (g.H.Host.now c.args.host.now) (omega (arith, c.count-count.ensures.count, c.if-count-eq0.true))

pub returns-clause-grown : goal.returns-clause-grown
returns-clause-grown g c =
    let self = c.args.self.now in
    let written : c.deref.result.now ≡ chunk_bytes self.schema.fields self.open.events = search rules in
    let some : 1 ≤ length self.open.events = omega (arith, c.count-count.ensures.count, c.if-count-eq0.false) in
    some_added self.schema.fields self.log.file self.log.end c.append.new.self.end self.open.events c.deref.result.now (g.H.Host.now c.args.host.now) (g.H.Host.now c.append.new.host) self.file some written c.in-Ok-append.ensures.appended

pub returns-clause-pending : goal.returns-clause-pending
returns-clause-pending g c = λ settled v told u left. subst (λ (f : ℕ). u f ≡ v f) c.args.self.now.file (c.in-Ok-append.ensures.pending v told u left)

pub returns-in-Err-append-clause-sound_disk : goal.returns-in-Err-append-clause-sound_disk
returns-in-Err-append-clause-sound_disk g c = λ sound failed w new_told.
    let self = c.args.self.now in
    let going : self.ended ≡ false = c.if-self.false in
    let written : c.deref.result.now ≡ chunk_bytes self.schema.fields self.open.events = search rules in
    let some : 1 ≤ length self.open.events = omega (arith, c.count-count.ensures.count, c.if-count-eq0.false) in
    let few : length self.open.events ≤ 4096 = omega (arith, c.count-count.ensures.count, c.count-count.ensures.few) in
    let leaves = adds_some g.H.Host.now g.H.Host.may g.H.Host.clock g.H.Host.since g.H.Host.said self.schema.fields self.log.file self.log.end self.open.events c.deref.result.now _ _ self.file some written c.append.ensures.leaves in
    let state = c.in-Err-append.ensures.err in
    let s0 = failed_sound sound.0 (g.H.Host.may c.args.host.now) (base self) self.open.events self.next_offset self.last_time self.cache (sound.2.right going) (g.H.Host.now c.args.host.now) w (g.H.Host.may c.append.new.host) sound.1 few
    (λ u left. subst (λ (f : ℕ). Leaves f (From self.log.end (Adds self.schema.fields self.open.events)) (g.H.Host.now c.args.host.now) (g.H.Host.may c.args.host.now) u) (sym self.file) (leaves.left u left)) (g.met.H.Host.now_may c.append.new.host w new_told) in
    (w, new_told, subst (λ (l : LogState). IsSoundIn w (g.H.Host.may c.append.new.host) (record { shape = self.schema; growths = self.growths; file = l.file; first = self.first; end = l.end; ended = true; committed = self.committed; limit = self.limit }) self.open.events self.next_offset self.last_time self.cache) (sym state) s0)
