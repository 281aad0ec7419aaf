-- One node's rows, and all of them.
use Rattle.std.proofs.Common.{◌≡◌, ◌∙◌, ℕ, ◌<◌, Bool, List, length, Option, Some, None, sym, subst}
use Rattle.std.specs.Prelude.{◌↔◌, IsTrue, IfNone}
use Rattle.std.specs.BTreeMap.{BTreeMap}
use Rattle.rg_event.specs.Rising.{last_time}
use Rattle.rg_event.specs.declared.event.Event.{Event}
use Rattle.rg_plan.specs.Named.{Node, node_at}
use Rattle.rg_plan.specs.Plans.{Tasks}
use Rattle.rg_plan.specs.Whole.{IsWhole}
use Rattle.rg_restore.specs.Truthful.{AreRowsFor}
use Rattle.rg_state.specs.Rows.{Entry, AreRising}
use Rattle.rg_engine.specs.Standing.{RowIs}
use Rattle.rg_row_audit.specs.Gathering.{AreGathered}
use Rattle.rg_row_audit.specs.Keeping.{AreSuited, AreKept}
use Rattle.rg_row_audit.specs.Rows.{row_in, AreRight, AreAllRight, AreServed}
use Rattle.rg_row_audit.specs.declared.gathered.Gathered.{Gathered}
use Rattle.rg_row_audit.proofs.Listed.{all_right}
use Rattle.rg_row_audit.proofs.Suited.{suited}

-- a plan has the nodes below the number of its aggregators
pub never_none : (plan : Tasks) (n : ℕ) → IsWhole plan → n < length plan.aggs → node_at plan n ≡ None → ⊥
never_none plan n whole there none = let node = whole.nodes n there in let e : None ≡ Some node.0 = sym none ∙ node.1 in cc

pub is_right : (rows : List Entry) (plan : Tasks) (events : List Event) (n : ℕ) (node : Node) (time : ℕ) (map : BTreeMap (List ℕ) Gathered) (are : Bool) → node_at plan n ≡ Some node → time ≡ last_time events
    → AreServed plan events → AreGathered node time events map
    → ((at : Node) (time : ℕ) (events : List Event) → AreSuited at time events → AreGathered at time events map → IsTrue are ↔ AreKept rows n at time events) → IsTrue are ↔ AreRight rows plan events n
is_right rows plan events n node time map are there now served gathered told =
    let kept = told node time events (suited plan events n node time served there) gathered in (
      (λ is key. subst (λ o. RowIs o key (last_time events) events (row_in rows n key)) (sym there) (subst (λ t. RowIs (Some node) key t events (row_in rows n key)) now (kept.0 is key))),
      (λ right. kept.1 (λ key. subst (λ t. RowIs (Some node) key t events (row_in rows n key)) (sym now) (subst (λ o. RowIs o key (last_time events) events (row_in rows n key)) there (right key)))),
    )

-- none is found exactly where the list stands for the events
pub none_found : (rows : List Entry) (plan : Tasks) (events : List Event) (found : Option ℕ) → AreRising rows → IfNone found (AreAllRight rows plan events) → IfNone found (AreRowsFor rows plan events)
none_found rows plan events None rising right = (all_right rows plan events rising).0 right
none_found rows plan events (Some n) rising right = tt
