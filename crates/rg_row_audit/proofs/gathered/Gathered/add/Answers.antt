use Rattle.std.proofs.Common.{◌≡◌, ap, refl, rules, subst, ◌∙◌}
use Rattle.std.specs.Prelude.{Err, IfErr, Result}
use Rattle.rg_agg.proofs.Laws.{kept_own}
use Rattle.rg_agg.specs.Sharing.{kept_as}
use Rattle.rg_agg.specs.Standing.{func_of}
use Rattle.rg_keywords.specs.declared.func.Func.{Func}
use Rattle.rg_metric.specs.Admitted.{IsAdmitted}
use Rattle.rg_row_audit.proofs.Kept.{was_spoilt, not_taken, not_fit, was_added}
use Rattle.rg_state.specs.States.{held_of}
use Rattle.rg_state.specs.Stepping.{LacksRoom}
use Rattle.rg_state.specs.declared.one.Refusal.{Refusal}
use Rattle.rg_state.specs.declared.one.Refusal.TheVariants.{Unfit}
use Rattle.rg_row_audit.proofs.gathered.Gathered.add.Goals as goal

pub returns-then-self : goal.returns-then-self
returns-then-self c = λ func values holds. was_spoilt func c.args.self.now c.args.self.now values c.args.value.now refl holds (search rules)

pub returns-then-not-is_admitted : goal.returns-then-not-is_admitted
returns-then-not-is_admitted c = λ func values holds. not_taken func c.args.self.now _ values c.args.value.now refl holds (subst (λ (f : Func). IsAdmitted f c.args.value.now → ⊥) c.func-func.ensures (c.is_admitted.ensures.refused (search rules)))

pub returns-in-Ok : goal.returns-in-Ok
returns-in-Ok c = λ func values holds.
    let old = held_of c.args.self.now.state in
    let own : func_of (held_of c.add_fit.new.self) ≡ func_of old = c.in-Ok.ensures.own ∙ ap kept_as c.func-func.ensures ∙ kept_own old in
    was_added func c.args.self.now _ values c.args.value.now own holds refl c.in-Ok.ensures.ok

pub returns-in-Err-Unfit : goal.returns-in-Err-Unfit
returns-in-Err-Unfit c = λ func values holds.
    let old = held_of c.args.self.now.state in
    let same : func_of old ≡ kept_as c.func-func.result = search rules in
    let is : c.add_fit.result ≡ Err Unfit = search rules in
    let room : LacksRoom c.func-func.result c.args.value.now old Unfit = subst (λ (result : Result Unit Refusal). IfErr result (LacksRoom c.func-func.result c.args.value.now old)) is c.add_fit.ensures.room in
    not_fit func c.args.self.now _ values c.args.value.now (ap func_of c.in-Err-Unfit.ensures.err) holds (room same)
