use Rattle.std.proofs.Common.{sym, subst, ℕ, refl, rules}
use Rattle.rg_frame.specs.Frames.{HasPayloads}
use Rattle.rg_reservoir.specs.Heads.{IsBadFrame}
use Rattle.rg_reservoir.proofs.Naming.{none_left, none_unspelled, no_bad}
use Rattle.rg_reservoir.proofs.Peeking.{sound_stays}
use Rattle.rg_reservoir.proofs.reservoir.Reservoir.names.Goals as goal

pub returns-in-Ok-clause-named : goal.returns-in-Ok-clause-named
returns-in-Ok-clause-named g c = λ v payloads told has.
    none_left payloads c.args.self.now.committed c.in-Ok.left c.args.spots.now (c.in-Ok.ensures.counts.counted v told payloads has) (search rules)

pub returns-in-Ok-clause-spelled : goal.returns-in-Ok-clause-spelled
returns-in-Ok-clause-spelled g c = λ sound.
    none_unspelled (g.H.Host.now c.args.host.now) (g.H.Host.may c.args.host.now) c.args.self.now sound c.if-self.false c.requires.empty c.in-Ok.left c.args.spots.now
    (λ payloads has. c.in-Ok.ensures.counts.counted sound.0 sound.1 payloads (subst (λ (f : ℕ). HasPayloads payloads (sound.0 f)) c.args.self.now.file has))

pub returns-in-Ok-clause-sound : goal.returns-in-Ok-clause-sound
returns-in-Ok-clause-sound g c =
    sound_stays (g.H.Host.now c.args.host.now) (g.H.Host.now c.count_unnamed.new.host) (g.H.Host.may c.args.host.now) (g.H.Host.may c.count_unnamed.new.host) c.args.self.now c.args.self.now c.count_unnamed.ensures.leaves.leaves.now_stays c.count_unnamed.ensures.leaves.leaves.may_stays
    (record { base = refl; opened = refl; room = refl; next = refl; time = refl; log = refl; cap = refl }) (λ v told cached. cached) (λ inside. inside)

pub returns-in-Err-clause-sound : goal.returns-in-Err-clause-sound
returns-in-Err-clause-sound g c =
    sound_stays (g.H.Host.now c.args.host.now) (g.H.Host.now c.count_unnamed.new.host) (g.H.Host.may c.args.host.now) (g.H.Host.may c.count_unnamed.new.host) c.args.self.now c.args.self.now c.count_unnamed.ensures.leaves.leaves.now_stays c.count_unnamed.ensures.leaves.leaves.may_stays
    (record { base = refl; opened = refl; room = refl; next = refl; time = refl; log = refl; cap = refl }) (λ v told cached. cached) (λ inside. inside)

pub returns-in-Err-clause-legal : goal.returns-in-Err-clause-legal
returns-in-Err-clause-legal g c = λ sound p e.
    no_bad (g.H.Host.now c.args.host.now) (g.H.Host.may c.args.host.now) c.args.self.now sound c.if-self.false c.requires.empty p (subst (λ (f : ℕ). IsBadFrame p (sound.0 f)) (sym c.args.self.now.file) (c.in-Err.ensures.stops.damaged p (search rules) sound.0 sound.1))
