-- A run over a new store in memory.
use Rattle.std.proofs.Common.{◌≡◌, ◌⊎◌, inl, inr, ℕ, zero, suc, List, [], replicate, Option, Some, None, refl, ap, sym, ◌∙◌, subst, arith}
use Rattle.std.specs.Prelude.{OnOk, Result}
use Rattle.rg_event.specs.Shapes.{Shape, IsSchema}
use Rattle.rg_event.specs.declared.event.Event.{Event}
use Rattle.rg_host.specs.Image.{Image}
use Rattle.rg_host.specs.Files.{image_of}
use Rattle.rg_host.specs.MemHost.{Ledger, begun, now_in, may_in, said_in}
use Rattle.rg_host.specs.Lines.{ended, lines_of}
use Rattle.rg_frame.specs.Frames.{HasPayloads}
use Rattle.rg_frame.proofs.Laws.{none-empty}
use Rattle.rg_log.specs.Log.{HasEvents}
use Rattle.rg_log.proofs.Laws.{few_for}
use Rattle.rg_checkpoint.specs.declared.base.Checkpoint.{Checkpoint}
use Rattle.rg_checkpoint.specs.Slots.{HasNoSlot, IsSlot}
use Rattle.rg_checkpoint.proofs.Laws.{none_slot}
use Rattle.rg_config.specs.Plans.{Planned}
use Rattle.rg_run_spec.specs.Output.{text_of_run}
use Rattle.rg_open.specs.Opening.{IsFromIn}
use Rattle.rg_open.specs.Stores.{Has, IsOfPlan, store_of}
use Rattle.rg_restore.specs.Slots.{slot_in, IsFrom}
use Rattle.rg_open.specs.Truth.{texts_of, IsTruthfulImage}
use Rattle.rg_task.specs.Terms.{terms_of}
use Rattle.rg_recover.specs.Ready.{IsReadyRun, begun_by}
use Rattle.rg_run.specs.Begun.{course_for}
use Rattle.rg_run.specs.UnderWay.{HasFinishedIn}
use Rattle.rg_run.specs.declared.fault.RunFault.{RunFault}
use Rattle.rg_run.specs.declared.fault.RunFault.TheVariants as run
use Rattle.rg_run_spec.specs.Accepted.{events_after}
use Rattle.rg_host.specs.EffectLaws.{now_may_leave}
use Rattle.rg_host.specs.Effects.{now_after}
use Rattle.std.proofs.lemmas.Result.{on_ok_weaker}
use Rattle.rg_recover.specs.Anew.{HasRun, MayMeet}

-- no file has a byte
abbrev pub bare : Image
bare = image_of (replicate 8 [])

pub bare_is : (n i : ℕ) → image_of (replicate n []) i ≡ []
bare_is zero i = refl
bare_is (suc n) zero = refl
bare_is (suc n) (suc i) = bare_is n i

pub no_payload : (i : ℕ) → HasPayloads [] (bare i)
no_payload i = subst (HasPayloads []) (sym (bare_is 8 i)) (none-empty [] (omega arith))

pub no_slot : (i : ℕ) → HasNoSlot (bare i)
no_slot i = none_slot (bare i) (no_payload i)

pub bare_truthful : IsTruthfulImage bare
bare_truthful = record { log = inl (no_payload 2); slots = λ i below checkpoint slot. absurd (no_slot i checkpoint slot) }

-- a new store has no event
pub bare_has : (shape : Shape) → IsSchema shape → HasEvents shape [] (bare 2)
bare_has shape schema =
    ([], record { schema = schema; payloads = []; has = no_payload 2; log = refl; rising = tt; few = omega arith }, refl)

abbrev pub new_host : Ledger
new_host = begun (replicate 8 []) []

abbrev pub ready_anew : (plan : Planned) → IsSchema plan.shape → IsReadyRun plan (now_in new_host) (may_in new_host) (said_in new_host)
ready_anew plan schema = record {
  openable = record { image = bare; told = refl; truthful = λ u may. subst IsTruthfulImage (sym may) bare_truthful; schema = inl (inl (no_payload 2)) };
  put = [];
  told = refl;
  held = [];
  has = inl (bare_has plan.shape schema);
}

-- it goes on from no checkpoint
slots_none : (i : ℕ) (slot : Option Checkpoint) → IsSlot (bare i) slot → slot ≡ None
slots_none i None is = refl
slots_none i (Some checkpoint) is = absurd (no_slot i checkpoint is)

from_none : (plan : Planned) (from : ℕ) → IsFromIn plan bare from → from ≡ 0
from_none plan from is = by_keep is.keep is.is
  where
    none : (i : ℕ) → slot_in is.saved i ≡ None
    none zero = slots_none 0 is.saved.first is.slots.first
    none (suc zero) = slots_none 1 is.saved.second is.slots.second
    none (suc (suc i)) = refl

    by_keep : (keep : Option ℕ) → IsFrom (λ (c : Checkpoint). c.queries ≡ texts_of plan.shape plan.queries) (slot_in is.saved) keep from → from ≡ 0
    by_keep None f = f.1
    by_keep (Some i) f = let there = sym (none i) ∙ f.1.there in absurd cc

-- what a run over it put, once it came to its end
finished_anew : (plan : Planned) (schema : IsSchema plan.shape) (from : ℕ) (input : List ℕ) (h : Ledger) → IsFromIn plan bare from ⊎ (said_in h ≡ Some [])
    → HasFinishedIn (store_of plan) (course_for plan (begun_by (ready_anew plan schema) from 0 input)) (may_in h) (said_in h) → HasRun plan input (said_in h)
finished_anew plan schema from input h is_from finished =
    let put_is : said_in h ≡ Some (ended (text_of_run (terms_of plan) [] from 0 (lines_of input))) = finished.told ∙ ap (λ (put : List ℕ). Some put) finished.done.said_is in
    let zero_from : from ≡ 0 = by_from is_from put_is in
    let events : List Event = events_after (terms_of plan).basis [] 0 (lines_of input) in
    let has : Has plan events (now_after (image_of h.first) h.effects) = finished.done.has (now_after (image_of h.first) h.effects) (now_may_leave (image_of h.first) h.effects _ refl) in
    record {
      put = put_is ∙ ap (λ n. Some (ended (text_of_run (terms_of plan) [] n 0 (lines_of input)))) zero_from;
      few = few_for plan.shape plan.defaults events (now_after (image_of h.first) h.effects 2) has;
    }
  where
    by_from : IsFromIn plan bare from ⊎ (said_in h ≡ Some []) → said_in h ≡ Some (ended (text_of_run (terms_of plan) [] from 0 (lines_of input))) → from ≡ 0
    by_from (inl is) put_is = from_none plan from is
    by_from (inr same) put_is = let empty : Some (ended (text_of_run (terms_of plan) [] from 0 (lines_of input))) ≡ Some [] = sym put_is ∙ same in absurd cc

-- What a run promises over a store that is ready, of a host.
abbrev pub Runs : Planned → List ℕ → Ledger → Ledger → Result Unit RunFault → Type 0
Runs plan input h h' result =
    (ready : IsReadyRun plan (now_in h) (may_in h) (said_in h)) → (from : ℕ) × (IsFromIn plan ready.openable.image from ⊎ (said_in h' ≡ said_in h))
    × OnOk result (HasFinishedIn (store_of plan) (course_for plan (begun_by ready from 0 input)) (may_in h') (said_in h'))

pub ran_anew : (plan : Planned) (input : List ℕ) (h h' : Ledger) (result : Result Unit RunFault) → IsSchema plan.shape → h ≡ new_host → Runs plan input h h' result → OnOk result (HasRun plan input (said_in h'))
ran_anew plan input h h' result schema is runs =
    let went = subst (λ (g : Ledger). Runs plan input g h' result) is runs (ready_anew plan schema) in
    on_ok_weaker result (λ finished. finished_anew plan schema went.0 input h' went.1 finished) went.2

-- a new host is ready
pub ready_new : (plan : Planned) (h : Ledger) → IsSchema plan.shape → h ≡ new_host → IsReadyRun plan (now_in h) (may_in h) (said_in h)
ready_new plan h schema is = subst (λ (g : Ledger). IsReadyRun plan (now_in g) (may_in g) (said_in g)) (sym is) (ready_anew plan schema)

pub may_meet : (fault : RunFault) → ((p : ℕ) → fault ≡ run.Damaged p → ⊥) → (fault ≡ run.SchemaDiffers → ⊥) → ((n : ℕ) → fault ≡ run.BadState n → ⊥) → ((n : ℕ) → fault ≡ run.Gap n → ⊥) → MayMeet fault
may_meet (run.Damaged p) damaged differs bad gap = damaged p refl
may_meet run.SchemaDiffers damaged differs bad gap = differs refl
may_meet (run.BadState n) damaged differs bad gap = bad n refl
may_meet (run.Gap n) damaged differs bad gap = gap n refl
may_meet run.Disk damaged differs bad gap = tt
may_meet run.Read damaged differs bad gap = tt
may_meet run.Limit damaged differs bad gap = tt
may_meet run.Memory damaged differs bad gap = tt
may_meet run.Write damaged differs bad gap = tt
