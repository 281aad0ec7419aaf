use Rattle.std.proofs.Common.{◌≡◌, ◌∙◌, [], Err, true, refl, ap, sym, subst, arith}
use Rattle.std.proofs.lemmas.List.{append-nil}
use Rattle.rg_past.specs.Keeping.{HasCause}
use Rattle.rg_past.specs.declared.past.PastFault.TheVariants as past
use Rattle.rg_reservoir.specs.declared.fault.ReservoirFault.{ReservoirFault}
use Rattle.rg_reservoir.proofs.Laws.{err_is, look_fault}
use Rattle.rg_reservoir.specs.Kept.{base, opened}
use Rattle.rg_reservoir.specs.GoingLaws.{all_long}
use Rattle.rg_restore.specs.Naming.{IsDamagedIn}
use Rattle.rg_restore.proofs.Naming.{names_by, names_cause, damaged_names}
use Rattle.rg_restore.proofs.stored_names.StoredNames.names.Goals as goal

pub returns-in-Ok-clause-names : goal.returns-in-Ok-clause-names
returns-in-Ok-clause-names g c = λ listed.
    let p = c.args.self.now in
    names_by (g.H.Host.now p.host.now) (base p.reservoir.now) (opened p.reservoir.now) c.args.spots.now c.in-Ok.named c.requires.ready.0 c.requires.ready.1 listed c.in-Ok.ensures.named

pub returns-in-Ok-clause-within : goal.returns-in-Ok-clause-within
returns-in-Ok-clause-within g c = λ yes k d lt.
    let p = c.args.self.now in
    omega (arith, c.in-Ok.ensures.within yes k d lt, all_long (g.H.Host.now p.host.now) (base p.reservoir.now) (opened p.reservoir.now))

pub past_fault-requires : goal.past_fault-requires
past_fault-requires g c = (look_fault c.in-Err.fault c.in-Err.ensures.faults).0

pub returns-in-Err-clause-never_damaged : goal.returns-in-Err-clause-never_damaged
returns-in-Err-clause-never_damaged g c = λ place sound is.
    let found = damaged_names c.in-Err.fault place c.in-Err.ensures.faults (sym c.past_fault.ensures ∙ err_is c.past_fault.result (past.Damaged place) is) in
    c.in-Err.ensures.legal sound found.0 (ap (λ (f : ReservoirFault). Err f) found.1)

pub returns-in-Err-clause-cause : goal.returns-in-Err-clause-cause
returns-in-Err-clause-cause g c = λ fault is.
    let p = c.args.self.now in
    let now = g.H.Host.now p.host.now in
    let then = g.H.Host.now c.names.new.host in
    let b = base p.reservoir.now in
    let before = g.H.Host.disk_faults p.host.now in
    let after = g.H.Host.disk_faults c.names.new.host in
    subst (HasCause (λ place. IsDamagedIn then b place) ⊥ (b.ended ≡ true) before after) (sym c.past_fault.ensures ∙ err_is c.past_fault.result fault is)
    (names_cause c.in-Err.fault now then b (b.ended ≡ true) before after c.in-Err.ensures.faults c.names.ensures.leaves.now_stays (λ e. c.in-Err.ensures.disk (ap (λ (f : ReservoirFault). Err f) e))
    (λ place e. c.in-Err.ensures.damaged place (ap (λ (f : ReservoirFault). Err f) e)) (λ e. c.in-Err.ensures.ended.0 (ap (λ (f : ReservoirFault). Err f) e)))

pub returns-in-Ok-clause-past : goal.returns-in-Ok-clause-past
returns-in-Ok-clause-past g c = record {
  goes = record {
    same_reservoir = refl;
    same_host = refl;
    cached = λ v told cached. cached;
    base = refl;
    room = refl;
    cap = refl;
    leaves = c.names.ensures.leaves;
    outs_stay = c.names.ensures.out_faults;
    added = ([], sym (append-nil (opened c.args.self.now.reservoir.now)));
    sound = c.names.ensures.sound;
  };
  sound = c.names.ensures.sound;
  ended = (λ ended. ended, λ ended. ended);
  later = c.names.ensures.disk_faults;
}
