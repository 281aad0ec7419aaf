use Rattle.std.proofs.Common.{refl, rules}
use Rattle.rg_reservoir.specs.Ahead.{all_ahead}
use Rattle.rg_reservoir.specs.Kept.{base}
use Rattle.rg_reservoir.proofs.Loading.{only_sound, some_none}
use Rattle.rg_reservoir.proofs.reservoir.Reservoir.ahead.Goals as goal

pub returns-then-self-clause-touched : goal.returns-then-self-clause-touched
returns-then-self-clause-touched g c = λ v told was.
    let self = c.args.self.now in
    some_none (all_ahead (base self) (v self.log.file) c.args.spots.now) self.cache self.cache self.loads self.loads refl refl

pub returns-in-Ok-clause-sound : goal.returns-in-Ok-clause-sound
returns-in-Ok-clause-sound g c = λ sound.
    let still = only_sound c.args.self.now c.load_each.new.self c.args.host.now c.load_each.new.host c.load_each.ensures.only sound in
    (sound.0, still.0, still.1)

pub returns-in-Err-clause-sound : goal.returns-in-Err-clause-sound
returns-in-Err-clause-sound g c = λ sound.
    let still = only_sound c.args.self.now c.load_each.new.self c.args.host.now c.load_each.new.host c.load_each.ensures.only sound in
    (sound.0, still.0, still.1)

pub returns-in-Err-clause-never_damaged : goal.returns-in-Err-clause-never_damaged
returns-in-Err-clause-never_damaged g c = λ p sound spells e. c.in-Err.ensures.touches.never_damaged sound spells p (search rules)
