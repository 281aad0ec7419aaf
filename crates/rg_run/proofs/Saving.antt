-- What a save of all events leaves.
use Rattle.std.proofs.Common.{◌≡◌, ℕ, List, [], ◌++◌, length, Option, refl, sym, ◌∙◌, subst}
use Rattle.std.proofs.lemmas.List.{append-nil}
use Rattle.rg_host.specs.Image.{Image}
use Rattle.rg_event.specs.declared.event.Event.{Event}
use Rattle.rg_config.specs.Plans.{Planned}
use Rattle.rg_run_spec.specs.Stores.{Course}
use Rattle.rg_run_spec.specs.Steps.{IsAtRest}
use Rattle.rg_run_spec.proofs.Laws.{after_save, Item}
use Rattle.rg_task.specs.Stepping.{IsStored, IsAllSaved}
use Rattle.rg_task.specs.View.{View}
use Rattle.rg_run.specs.Turning.{IsMidTurn}
use Rattle.rg_run.proofs.Gathering.{put_apart}
use Rattle.rg_run.proofs.Stepping.{at_rest_after}

-- what was saved before is in the slot that is kept too, where that one has all events
module _ {K : Type 0} (view : View K) (plan : Planned) (t : K) (saved : IsAllSaved (view.store plan) (view.may t) (view.at t)) where
  stored_in_slot : (v : Image) → view.may t v → (view.store plan).HasSaved saved.slot (length (view.at t).stored) v
  stored_in_slot v left = subst (λ (l : List Event). (view.store plan).HasSaved saved.slot (length l) v) (sym saved.all_stored) (saved.has v left)

  pub rest_saved : (course : Course) (lines : List (List ℕ)) (keep : Option ℕ) → IsAtRest (view.store plan) course lines (view.at t).stored keep (view.may t) → IsAtRest (view.store plan) course lines (view.at t).stored (view.at t).keep (view.may t)
  rest_saved course lines keep at_rest =
      subst (λ (k : Option ℕ). IsAtRest (view.store plan) course lines (view.at t).stored k (view.may t)) (sym saved.kept)
      (after_save Image (view.store plan) course lines (view.at t).stored keep saved.slot (view.may t) (view.may t) at_rest (λ v left. record { from = v; left = left; truthful = λ is. is; schema = λ is. is; grown = λ is. is; events = λ es has. has; saved = stored_in_slot v left }))

-- what was due is saved
module _ {K : Type 0} (view : View K) (plan : Planned) (course : Course) (offset : ℕ) (item : Item) (items : List Item) where
  pub due_saved : (start old new : K) (m : IsMidTurn view plan course offset item items start old [])
      → view.runs plan new → view.said new ≡ view.said old
      → IsStored (view.store plan) (view.at old).keep (view.at old).chunk (view.at old).stored (view.at new).stored (view.may old) (view.may new)
      → (view.at new).events ≡ (view.at old).events → IsAllSaved (view.store plan) (view.may new) (view.at new)
      → IsMidTurn view plan course offset item items start new []
  due_saved start old new m running said_stays done same saved =
      let b = m.between in
      let at_rest = rest_saved view plan new saved course b.lines (view.at old).keep
      (at_rest_after view plan course offset item items (view.at start).events (view.at start).stored (view.at start).keep (view.at old).keep (view.at old).keep (view.may start) (view.may new) (view.may old) (m.put ++ []) (view.at old).stored (view.at old).chunk (view.at new).stored (view.at new).chunk b m.at_rest done (view.whole new ∙ same ∙ m.follows) refl) in
      record {
        running = running;
        put = m.put;
        told = said_stays ∙ m.told;
        between = b;
        at_rest = at_rest;
        apart = put_apart course (view.at new).stored m.put b.lines b.are_lines (sym (append-nil m.put) ∙ b.said_is) at_rest.near;
        follows = same ∙ m.follows;
      }
