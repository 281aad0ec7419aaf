-- A serve between two requests, within one, and stopped.
use Rattle.std.specs.Prelude.{◌≡◌, ℕ, List, [], ◌∷◌, ◌++◌, length, Some}
use Rattle.rg_host.specs.Image.{Image}
use Rattle.rg_config.specs.Plans.{Planned}
use Rattle.rg_pipe.specs.Handing.{Given}
use Rattle.rg_run_spec.specs.Laws.{IsPrefixOf}
use Rattle.rg_run_spec.specs.Output.{open_line}
use Rattle.rg_run_spec.specs.Pieces.{AreLines}
use Rattle.rg_run_spec.specs.Stores.{IsNear, IsKeptInStore}
use Rattle.rg_run_spec.specs.Steps.{IsAtRest}
use Rattle.rg_task.specs.Terms.{terms_of}
use Rattle.rg_task.specs.View.{View}
use Rattle.rg_serve_spec.specs.Frames.{Reply, frames_of, lines_in, AreSmall}
use Rattle.rg_serve_spec.specs.Replies.{events_all, replies_to}
use Rattle.rg_serve_spec.specs.Errands.{Errand, replies_of, course_of}

-- Of these replies the first are put, and the rest are gathered, to be put together.
pub record IsSplit (e : Errand) (replies first rest : List Reply) (gathered : List ℕ) : Type 0 where
  pub whole : first ++ rest ≡ replies
  pub gathered_is : gathered ≡ frames_of rest
  pub of_replies : IsPrefixOf replies (replies_of e)
  pub small : AreSmall replies
  pub lines : AreLines (lines_in replies)

module _ {K : Type 0} (view : View K) where
  -- Whole replies were put, and others are gathered: whatever image is left is kept, however many of these are put.
  pub record IsHeld (plan : Planned) (e : Errand) (t : K) (gathered : List ℕ) : Type 0 where
    pub replies : List Reply
    pub first : List Reply
    pub rest : List Reply
    pub split : IsSplit e replies first rest gathered
    pub told : view.said t ≡ Some (e.said ++ frames_of first)
    pub kept : (v : Image) → view.may t v → (some : List Reply) → IsPrefixOf some rest → IsKeptInStore (view.store plan) (course_of e) (lines_in (first ++ some)) v
    pub grown : (v : Image) → view.may t v → (view.store plan).IsGrown v

  -- Within a request: these replies are put or gathered; the stored events came with at most one request more than was put, and all events
  -- with at most one more than was answered.
  pub record IsWithin (plan : Planned) (e : Errand) (replies : List Reply) (t : K) (gathered : List ℕ) : Type 0 where
    pub running : view.runs plan t
    pub first : List Reply
    pub rest : List Reply
    pub split : IsSplit e replies first rest gathered
    pub told : view.said t ≡ Some (e.said ++ frames_of first)
    pub at_rest : IsAtRest (view.store plan) (course_of e) (lines_in replies) (view.at t).stored (view.at t).keep (view.may t)
    pub near : IsNear (course_of e) (lines_in first) (view.at t).stored
    pub begins : IsPrefixOf (view.at t).events (course_of e).accepted
    pub near_events : IsNear (course_of e) (lines_in replies) (view.at t).events

  -- Between two requests: the first are answered, and these are still to come.
  pub record IsAwaiting (plan : Planned) (e : Errand) (ahead : List Given) (t : K) (gathered : List ℕ) : Type 0 where
    pub terms : e.terms ≡ terms_of plan
    pub done : List Given
    pub given : e.given ≡ done ++ ahead
    pub events : (view.at t).events ≡ events_all e.terms.basis e.held done
    pub within : IsWithin plan e ((open_line e.held e.from ∷ []) ∷ replies_to e.terms e.held done) t gathered

  -- The serve stopped where only whole replies were put, and whatever image is left keeps what they say.
  pub record HasHalted (plan : Planned) (e : Errand) (t : K) : Type 0 where
    pub replies : List Reply
    pub of_replies : IsPrefixOf replies (replies_of e)
    pub told : view.said t ≡ Some (e.said ++ frames_of replies)
    pub kept : (v : Image) → view.may t v → IsKeptInStore (view.store plan) (course_of e) (lines_in replies) v
    pub grown : (v : Image) → view.may t v → (view.store plan).IsGrown v

  -- All replies were put, and each image that might be left has all accepted events under the plan's schema, and a checkpoint of them.
  pub record HasServed (plan : Planned) (e : Errand) (t : K) : Type 0 where
    pub told : view.said t ≡ Some (e.said ++ frames_of (replies_of e))
    pub truthful : (v : Image) → view.may t v → (view.store plan).IsTruthful v
    pub grown : (v : Image) → view.may t v → (view.store plan).IsGrown v
    pub has : (v : Image) → view.may t v → (view.store plan).HasEvents (course_of e).accepted v
    pub saved : (v : Image) → view.may t v → (slot : ℕ) × (view.store plan).HasSaved slot (length (course_of e).accepted) v

  -- A store was opened for a serve, and nothing is put or gathered yet: the task has the store's events, all of them stored.
  pub record IsToOpen (plan : Planned) (e : Errand) (from : ℕ) (t : K) : Type 0 where
    pub terms : e.terms ≡ terms_of plan
    pub running : view.runs plan t
    pub told : view.said t ≡ Some e.said
    pub events : (view.at t).events ≡ e.held
    pub stored : (view.at t).stored ≡ e.held
    pub from_is : from ≡ e.from
    pub at_rest : IsAtRest (view.store plan) (course_of e) [] (view.at t).stored (view.at t).keep (view.may t)
