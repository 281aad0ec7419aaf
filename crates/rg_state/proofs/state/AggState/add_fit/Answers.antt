use Rattle.std.proofs.Common.{◌≡◌, rules, subst, sym, ◌∙◌}
use Rattle.rg_agg.specs.Sharing.{kept_as}
use Rattle.rg_agg.specs.Standing.{func_of}
use Rattle.rg_state.specs.States.{held_of}
use Rattle.rg_agg.proofs.Laws.{admitted_kept, kept_own}
use Rattle.rg_metric.specs.Admitted.{IsAdmitted}
use Rattle.rg_state.proofs.Stepping.{comes_as, other_refused}
use Rattle.rg_state.proofs.state.AggState.add_fit.Goals as goal

pub returns-then-ne : goal.returns-then-ne
returns-then-ne c =
    let other : func_of (held_of c.args.self.now) ≡ kept_as c.args.func → ⊥ = search rules in
    other_refused c.args.func c.args.value.now (held_of c.args.self.now) other

pub returns : goal.returns
returns c =
    let own : func_of (held_of c.args.self.now) ≡ kept_as c.args.func = search rules in
    comes_as (func_of (held_of c.args.self.now)) c.args.func c.args.value.now (held_of c.args.self.now) (held_of c.add_with_room.new.self) c.add_with_room.result (kept_own (held_of c.args.self.now) ∙ own) c.add_with_room.ensures

pub add_with_room-requires : goal.add_with_room-requires
add_with_room-requires c =
    let own : func_of (held_of c.args.self.now) ≡ kept_as c.args.func = search rules in
    subst (λ func. IsAdmitted func c.args.value.now) (sym own) (admitted_kept c.args.func c.args.value.now c.requires)
