-- A moment between two lines, after chunks were loaded ahead.
use Rattle.std.proofs.Common.{◌≡◌, ℕ, List, [], ◌++◌, Option, sym, ◌∙◌, subst}
use Rattle.rg_host.specs.Moments.{Moments, LeavesAll}
use Rattle.rg_event.specs.declared.event.Event.{Event}
use Rattle.rg_config.specs.Plans.{Planned}
use Rattle.rg_run_spec.specs.Stores.{Course, StaysOnCourse}
use Rattle.rg_run_spec.specs.Turns.{IsBetween}
use Rattle.rg_run_spec.proofs.Laws.{Item}
use Rattle.rg_task.specs.Terms.{terms_of}
use Rattle.rg_task.specs.View.{View}
use Rattle.rg_run.specs.Turning.{IsGathered, IsAwaiting, IsHeld}
use Rattle.rg_run.proofs.Gathering.{between_fewer, awaiting_held, held_still, quiet_moments}

module _ {K : Type 0} (view : View K) (plan : Planned) (course : Course) (offset : ℕ) (items : List Item)
    (old loaded : K) (gathered : List ℕ) (a : IsAwaiting view plan course offset items old gathered) (leaves : LeavesAll view.now view.may view.clock view.since view.said old loaded) where
  held : IsHeld view plan course old gathered
  held = awaiting_held view plan course offset old gathered items a

  pub load_moments : Moments view.clock view.since old loaded (StaysOnCourse (view.store plan) course [])
  load_moments = quiet_moments view plan course old loaded gathered held leaves

  pub load_held : IsHeld view plan course loaded gathered
  load_held = held_still view plan course old loaded gathered held leaves

  module _ (running : view.runs plan loaded)
      (events : (view.at loaded).events ≡ (view.at old).events) (stored : (view.at loaded).stored ≡ (view.at old).stored) (keep : (view.at loaded).keep ≡ (view.at old).keep) where
    between_then : IsBetween (view.store plan) (terms_of plan) course (view.at loaded).events offset items (view.at loaded).stored (view.at loaded).keep (view.may loaded) (a.put ++ gathered)
    between_then =
        let said_then = a.put ++ gathered in
        subst (λ (es : List Event). IsBetween (view.store plan) (terms_of plan) course es offset items (view.at loaded).stored (view.at loaded).keep (view.may loaded) said_then) (sym events)
        (subst (λ (es : List Event). IsBetween (view.store plan) (terms_of plan) course (view.at old).events offset items es (view.at loaded).keep (view.may loaded) said_then) (sym stored)
        (subst (λ (k : Option ℕ). IsBetween (view.store plan) (terms_of plan) course (view.at old).events offset items (view.at old).stored k (view.may loaded) said_then) (sym keep)
        (between_fewer a.between leaves.may_stays.no_more)))

    pub load_awaits : IsAwaiting view plan course offset items loaded gathered
    load_awaits = record {
      running = running;
      put = a.put;
      told = leaves.said_stays ∙ a.told;
      between = between_then;
      apart = subst (λ (es : List Event). IsGathered course es a.put gathered) (sym stored) a.apart;
    }
