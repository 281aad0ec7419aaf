-- What a move of edges is told of what it lends, and of its faults.
use Rattle.std.proofs.Common.{◌≡◌, ◌∙◌, ap, sym, subst}
use Rattle.std.specs.Prelude.{Result, Ok, Err, IsErrOf}
use Rattle.rg_past.specs.declared.past.PastFault.{PastFault}
use Rattle.rg_past.specs.declared.past.PastFault.TheVariants as past
use Rattle.rg_state.specs.declared.table.TableFault.{TableFault}
use Rattle.rg_window.specs.declared.edges.MoveFault.{MoveFault}
use Rattle.rg_window.specs.declared.edges.MoveFault.TheVariants.{Past, Visit}
use Rattle.rg_engine.specs.Faults.{move_fault_of}
use Rattle.rg_engine.specs.declared.fault.EngineFault.{EngineFault}
use Rattle.rg_engine.specs.declared.fault.EngineFault.TheVariants as fault

-- what holds of a value holds of one that is equal to it, and so of two
pub moved : {A : Type 0} (a : A) (P : A → Type 0) (then : A) → then ≡ a → P a → P then
moved a P then same here = subst P (sym same) here

pub both_moved : {A B : Type 0} (a : A) (b : B) (P : A → B → Type 0) (then : A) (after : B) → then ≡ a → after ≡ b → P a b → P then after
both_moved a b P then after first second here = subst (λ x. P x after) (sym first) (subst (λ y. P a y) (sym second) here)

pub not_err : {A E : Type 0} {x : A} {e : E} → IsErrOf (Ok x) e → ⊥
not_err is = cc

pub two_faults : {fault : MoveFault TableFault} {visit : TableFault} {past : PastFault} → fault ≡ Visit visit → fault ≡ Past past → ⊥
two_faults e f = cc

-- an end of the past is called so
pub ended_called : {A : Type 0} {cause : MoveFault TableFault} {result : EngineFault} → cause ≡ Past past.Ended → result ≡ move_fault_of cause → IsErrOf {T = A} (Err result) (fault.Past past.Ended)
ended_called is called = ap Err (called ∙ ap move_fault_of is)
