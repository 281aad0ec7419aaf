use Rattle.std.proofs.Common.{◌≡◌, ◌+◌, ◌≤◌, ◌∙◌, refl, arith, length, ap, sym, Err, inl, inr, ◌∷◌, []}
use Rattle.rg_cache.specs.Cache.{Cache}
use Rattle.rg_reservoir.specs.declared.kept.Kept.{Kept}
use Rattle.rg_reservoir.specs.Kept.{base}
use Rattle.rg_reservoir.specs.GoingLaws.{all_long}
use Rattle.rg_past.specs.declared.past.PastFault.{PastFault}
use Rattle.rg_past.specs.declared.past.PastFault.TheVariants as past
use Rattle.rg_reservoir.specs.declared.fault.ReservoirFault.{ReservoirFault}
use Rattle.rg_reservoir.specs.declared.fault.ReservoirFault.TheVariants.{Ended}
use Rattle.rg_reservoir.specs.Faults.{to_past}
use Rattle.rg_reservoir.proofs.Causes.{past_full, past_ended, append_fault, append_same}
use Rattle.rg_reservoir.proofs.Peeking.{sound_append, goes_append, true_false, err_is}
use Rattle.rg_reservoir.proofs.stored.StoredPast.append.Goals as goal

pub returns-in-Ok-clause-below : goal.returns-in-Ok-clause-below
returns-in-Ok-clause-below g c = omega (arith, c.in-Ok.ensures.below, all_long (g.H.Host.now c.args.self.now.host.now) (base c.args.self.now.reservoir.now) c.args.self.now.reservoir.now.open.events)

pub past_fault-requires : goal.past_fault-requires
past_fault-requires g c = append_same c.in-Err.fault c.in-Err.ensures.faults

pub returns-in-Err-clause-full : goal.returns-in-Err-clause-full
returns-in-Err-clause-full g c = λ e.
    let is = past_full c.in-Err.fault c.past_fault.result c.past_fault.ensures (err_is c.past_fault.result past.Full e) in
    let h : c.args.self.now.reservoir.now.limit ≤ c.args.self.now.reservoir.now.committed + length c.args.self.now.reservoir.now.open.events = c.in-Err.ensures.full (ap (λ (f : ReservoirFault). Err f) is) in
    omega (arith, h, all_long (g.H.Host.now c.args.self.now.host.now) (base c.args.self.now.reservoir.now) c.args.self.now.reservoir.now.open.events)

pub returns-in-Err-clause-ended : goal.returns-in-Err-clause-ended
returns-in-Err-clause-ended g c = (
  λ e. c.in-Err.ensures.ended.0 (ap (λ (f : ReservoirFault). Err f) (past_ended c.in-Err.fault c.past_fault.result c.past_fault.ensures (err_is c.past_fault.result past.Ended e))),
  λ e. ap (λ (f : PastFault). Err f) (c.past_fault.ensures ∙ ap to_past (err_is c.in-Err.fault Ended (c.in-Err.ensures.ended.1 e))),
)

pub returns-in-Err-clause-no_disk : goal.returns-in-Err-clause-no_disk
returns-in-Err-clause-no_disk g c = λ e.
    let is = err_is c.past_fault.result past.Disk e in
    elim (append_fault c.in-Err.fault c.past_fault.result c.in-Err.ensures.faults c.past_fault.ensures) [
      | inl ended ↦ (let k : past.Ended ≡ past.Disk = sym ended ∙ is in cc)
      | inr full ↦ (let k : past.Full ≡ past.Disk = sym full ∙ is in cc)
    ]

pub returns-in-Err-clause-no_damage : goal.returns-in-Err-clause-no_damage
returns-in-Err-clause-no_damage g c = λ p e.
    let is = err_is c.past_fault.result (past.Damaged p) e in
    elim (append_fault c.in-Err.fault c.past_fault.result c.in-Err.ensures.faults c.past_fault.ensures) [
      | inl ended ↦ (let k : past.Ended ≡ past.Damaged p = sym ended ∙ is in cc)
      | inr full ↦ (let k : past.Full ≡ past.Damaged p = sym full ∙ is in cc)
    ]

pub returns-in-Ok-clause-sound : goal.returns-in-Ok-clause-sound
returns-in-Ok-clause-sound g c = λ sound.
    sound_append (g.H.Host.now c.args.self.now.host.now) (g.H.Host.may c.args.self.now.host.now) c.args.self.now.reservoir.now c.append.new.self c.args.event (λ going. c.requires.follows sound (λ e. true_false (sym e ∙ going))) c.requires.fits c.append.ensures.base c.append.ensures.cache.0
    c.in-Ok.ensures.ok.0 c.in-Ok.ensures.ok.1 c.in-Ok.ensures.ok.2 c.append.ensures.few sound

pub returns-in-Ok-clause-goes : goal.returns-in-Ok-clause-goes
returns-in-Ok-clause-goes g c =
    goes_append g.H.Host.now g.H.Host.may g.H.Host.clock g.H.Host.since g.H.Host.said g.H.Host.out_faults g.met.H.Host.only_now g.met.H.Host.sinks c.args.self.now.reservoir c.args.self.now.host _ c.args.self.now.host refl refl refl c.append.ensures.base c.append.ensures.room
    c.append.ensures.cache.0
    (c.args.event ∷ []) c.in-Ok.ensures.ok.0 (returns-in-Ok-clause-sound g c)
