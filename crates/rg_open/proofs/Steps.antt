-- What the steps on the disk leave, as steps of the store of a plan.
use Rattle.std.proofs.Common.{◌≡◌, ◌≢◌, ◌∙◌, ◌⊎◌, inl, inr, ⊎_elim, ℕ, zero, suc, ◌≤◌, ◌<◌, List, [], ◌∷◌, ◌++◌, Option, Some, None, true, refl, sym, ap, subst, arith}
use Rattle.std.proofs.lemmas.Bool.{cases_eq}
use Rattle.std.proofs.lemmas.List.{append-nil}
use Rattle.std.specs.Prelude.{is_some}
use Rattle.std.specs.Option.{ForSome}
use Rattle.rg_host.specs.Image.{Image}
use Rattle.rg_event.specs.Shapes.{Shape, IsSchema}
use Rattle.rg_event.specs.declared.event.Event.{Event}
use Rattle.rg_growth.specs.Filling.{growth_to}
use Rattle.rg_frame.specs.Frames.{HasPayloads}
use Rattle.rg_frame.specs.Steps.{Leaves, Grows, Grown}
use Rattle.rg_frame.proofs.Laws.{payloads_one}
use Rattle.rg_log.specs.Filled.{HasEventsFor, IsOfSchemaFor}
use Rattle.rg_log.specs.Log.{schema_payload, IsChunkOf, HasEvents, IsInForce}
use Rattle.rg_log.specs.Stages.{chunk as chunk_stage, growth as growth_stage}
use Rattle.rg_log.proofs.Laws.{own_events, unframed_events, growth_said, grows_for, schema_for, adds_log, added_log, begins_log, has-push}
use Rattle.rg_config.specs.Plans.{Planned}
use Rattle.rg_checkpoint.specs.declared.base.Checkpoint.{Checkpoint}
use Rattle.rg_checkpoint.specs.declared.sizes.SlotSizes.{SlotSizes}
use Rattle.rg_checkpoint.specs.Sizes.{OfSizes}
use Rattle.rg_checkpoint.specs.Slots.{HasSlot, HasNoSlot, AreSizes, Lengthens, Lengthened, other_of, IsKeep}
use Rattle.rg_checkpoint.specs.Updates.{Applies}
use Rattle.rg_checkpoint.proofs.Laws.{kept_apart, slot_is_one}
use Rattle.rg_reservoir.specs.Attached.{IsToGrow, growth_payload}
use Rattle.rg_reservoir.proofs.Laws.{in_force_by, to_grow_in_force}
use Rattle.rg_run_spec.specs.Steps.{IsMidStep, IsStepped, IsSavedTo}
use Rattle.rg_open.specs.Truth.{texts_of, IsTrueOf, IsTruthfulImage, MayGrow}
use Rattle.rg_open.specs.Opened.{IsToExtend}
use Rattle.rg_open.specs.Stores.{HasSaved, IsOfPlan, Has, store_of}
use Rattle.rg_open.proofs.GrownTruth.{grows}
use Rattle.rg_open.proofs.Images.{below_apart, commits, begins, writes, same_image}
use Rattle.rg_open.proofs.ToGrow.{framed_in, framed_of}
use Rattle.rg_open.proofs.Truths.{grown_grows, no_schema}

some_is : (w x : Image) → Some w ≡ Some x → w ≡ x
some_is w x e = cc

pub for_some : (w : Image) (P : Image → Type 0) → P w → ForSome (Some w) P
for_some w P here = λ x told. subst P (some_is w x told) here

-- the slot that is written is one of the two, and neither the kept one nor the log
pub other_below : (keep : Option ℕ) → IsKeep keep → other_of keep < 2
other_below None is = omega arith
other_below (Some zero) is = omega arith
other_below (Some (suc zero)) is = omega arith
other_below (Some (suc (suc i))) is = absurd (omega (arith, is))

pub log_apart : (keep : Option ℕ) → IsKeep keep → 2 ≢ other_of keep
log_apart keep legal e = absurd (omega (arith, other_below keep legal, e))

-- a checkpoint in a slot stays where another file was written
pub saved_stays : (plan : Planned) (slot count file : ℕ) (u v : Image) → slot ≢ file → ((f : ℕ) → f ≢ file → v f ≡ u f) → HasSaved plan slot count u → HasSaved plan slot count v
saved_stays plan slot count file u v apart others has = record {
  below = has.below;
  checkpoint = has.checkpoint;
  complete = subst (λ (bytes : List ℕ). HasSlot bytes has.checkpoint) (sym (others slot apart)) has.complete;
  texts = has.texts;
  most = has.most;
}

saved_behind : (plan : Planned) (slot count : ℕ) (u v : Image) → ((f : ℕ) → f ≢ 2 → v f ≡ u f) → HasSaved plan slot count u → HasSaved plan slot count v
saved_behind plan slot count u v others has = saved_stays plan slot count 2 u v (below_apart slot has.below) others has

-- where no file was written
pub stays_mid : (plan : Planned) (keep : Option ℕ) (chunk : List Event) (may : Image → Type 0) (u v : Image) → may u → ((f : ℕ) → v f ≡ u f) → IsMidStep (store_of plan) keep chunk may v
stays_mid plan keep chunk may u v left same = record {
  from = u;
  left = left;
  truthful = same_image u v same;
  schema = λ is. subst (IsOfSchemaFor plan.shape plan.defaults) (sym (same 2)) is;
  grown = λ is. subst (IsInForce plan.shape) (sym (same 2)) is;
  events = λ es has. inl (subst (HasEventsFor plan.shape plan.defaults es) (sym (same 2)) has);
  slots = λ slot count is has. saved_behind plan slot count u v (λ f apart. same f) has;
}

pub stays_stepped : (plan : Planned) (keep : Option ℕ) (chunk : List Event) (may : Image → Type 0) (u v : Image) → chunk ≡ [] → may u → ((f : ℕ) → v f ≡ u f) → IsStepped (store_of plan) keep chunk may v
stays_stepped plan keep chunk may u v none left same = record {
  from = u;
  left = left;
  truthful = same_image u v same;
  schema = λ is. subst (IsOfSchemaFor plan.shape plan.defaults) (sym (same 2)) is;
  grown = λ is. subst (IsInForce plan.shape) (sym (same 2)) is;
  events = λ es has. subst (λ (l : List Event). Has plan l v) (sym (append-nil es) ∙ ap (λ (l : List Event). es ++ l) (sym none)) (subst (HasEventsFor plan.shape plan.defaults es) (sym (same 2)) has);
  slots = λ slot count is has. saved_behind plan slot count u v (λ f apart. same f) has;
}

module _ (plan : Planned) (schema : IsSchema plan.shape) where
  -- A chunk comes behind the log.
  module _ (keep : Option ℕ) (payload : List ℕ) (chunk : List Event) (may : Image → Type 0) (u v : Image) (left : may u) (others : (f : ℕ) → f ≢ 2 → v f ≡ u f) (fits : MayGrow plan.shape chunk (u 2)) (said : IsChunkOf plan.shape payload chunk) where
    grows_of : (es : List Event) → HasEvents plan.shape es (u 2) → Grows payload (u 2) (v 2) → IsInForce plan.shape (v 2) × (HasEvents plan.shape es (v 2) ⊎ HasEvents plan.shape (es ++ chunk) (v 2))
    grows_of es has step = adds_log payloads_one plan.shape es chunk payload (u 2) (v 2) fits.framed has said (fits.rises es has) (fits.fits es has) step

    abbrev first : List ℕ
    first = fits.framed.0

    abbrev rest : List (List ℕ)
    rest = fits.framed.1

    -- the schema stays in force
    framed_by : HasPayloads (first ∷ rest) (v 2) ⊎ HasPayloads (first ∷ (rest ++ payload ∷ [])) (v 2) → IsInForce plan.shape (v 2)
    framed_by (inl same) = (first, rest, fits.framed.2, same, fits.framed.4)
    framed_by (inr more) = (first, rest ++ payload ∷ [], fits.framed.2 ++ chunk_stage chunk ∷ [], more, has-push plan.shape first rest fits.framed.2 payload (chunk_stage chunk) fits.framed.4 said)

    -- since it is in force, the events for the plan are the log's own
    own : (es : List Event) → Has plan es u → HasEvents plan.shape es (u 2)
    own es has = own_events payloads_one plan.shape plan.defaults es (u 2) fits.framed has

    for_plan : (es : List Event) → HasEvents plan.shape es (v 2) ⊎ HasEvents plan.shape (es ++ chunk) (v 2) → Has plan es v ⊎ Has plan (es ++ chunk) v
    for_plan es (inl same) = inl (inl same)
    for_plan es (inr more) = inr (inl more)

    -- at a moment of it
    pub commit_mid : Grows payload (u 2) (v 2) → IsMidStep (store_of plan) keep chunk may v
    commit_mid step = record {
      from = u;
      left = left;
      truthful = commits plan.shape payload chunk u v schema fits said step others;
      schema = λ _. inl (inr (framed_by (step (first ∷ rest) fits.framed.3)));
      grown = λ _. framed_by (step (first ∷ rest) fits.framed.3);
      events = λ es has. for_plan es (grows_of es (own es has) step).1;
      slots = λ slot count is has. saved_behind plan slot count u v others has;
    }

    -- after it
    pub commit_stepped : Grown payload (u 2) (v 2) → IsStepped (store_of plan) keep chunk may v
    commit_stepped step = record {
      from = u;
      left = left;
      truthful = commits plan.shape payload chunk u v schema fits said (grown_grows payload (u 2) (v 2) step) others;
      schema = λ _. inl (inr (framed_by (inr (step (first ∷ rest) fits.framed.3))));
      grown = λ _. framed_by (inr (step (first ∷ rest) fits.framed.3));
      events = λ es has.
          let here = own es has in
          inl (added_log payloads_one plan.shape es chunk payload (u 2) (v 2) fits.framed here said (fits.rises es here) (fits.fits es here) step).1;
      slots = λ slot count is has. saved_behind plan slot count u v others has;
    }

  -- The schema's frame comes behind a log without a frame.
  module _ (keep : Option ℕ) (may : Image → Type 0) (u v : Image) (left : may u) (others : (f : ℕ) → f ≢ 2 → v f ≡ u f) (none : HasPayloads [] (u 2)) (step : Grows (schema_payload plan.shape) (u 2) (v 2)) where
    begun : (HasPayloads [] (v 2) ⊎ IsInForce plan.shape (v 2)) × HasEvents plan.shape [] (v 2)
    begun = begins_log plan.shape (u 2) (v 2) schema none step

    no_events : (es : List Event) → Has plan es u → es ≡ []
    no_events es has = unframed_events payloads_one plan.shape plan.defaults es (u 2) none has

    pub first_mid : IsMidStep (store_of plan) keep [] may v
    first_mid = record {
      from = u;
      left = left;
      truthful = begins plan.shape u v schema none step others;
      schema = λ _. inl begun.0;
      grown = λ is. absurd (no_schema plan.shape (u 2) none is);
      events = λ es has. inl (subst (λ (l : List Event). Has plan l v) (sym (no_events es has)) (inl begun.1));
      slots = λ slot count is has. saved_behind plan slot count u v others has;
    }

    pub first_stepped : IsStepped (store_of plan) keep [] may v
    first_stepped = record {
      from = u;
      left = left;
      truthful = begins plan.shape u v schema none step others;
      schema = λ _. inl begun.0;
      grown = λ is. absurd (no_schema plan.shape (u 2) none is);
      events = λ es has. subst (λ (l : List Event). Has plan l v) (sym (append-nil es ∙ no_events es has)) (inl begun.1);
      slots = λ slot count is has. saved_behind plan slot count u v others has;
    }

-- One growth to the plan's schema by its defaults comes behind the log.
module _ (plan : Planned) (keep : Option ℕ) (may : Image → Type 0) (u v : Image) (left : may u) (others : (f : ℕ) → f ≢ 2 → v f ≡ u f) (g : IsToGrow plan.shape plan.defaults (u 2)) (step : Grows (growth_payload plan.shape g.values) (u 2) (v 2)) where
  still_true : IsTruthfulImage u → IsTruthfulImage v
  still_true is = grows g.from (growth_to plan.shape g.values) (growth_payload plan.shape g.values) u v (framed_in plan.shape plan.defaults (u 2) g is.log) (record { is = refl; of = g.fills.of }) step others is

  still_of : IsOfPlan plan u → IsOfPlan plan v
  still_of is = schema_for g.from plan.shape plan.defaults g.values (u 2) (v 2) g.fills (framed_of plan.shape plan.defaults (u 2) g is) step

  still_has : (es : List Event) → Has plan es u → Has plan es v
  still_has es has = grows_for payloads_one g.from plan.shape plan.defaults g.values es (u 2) (v 2) g.fills (to_grow_in_force plan.shape plan.defaults es (u 2) g has) has step

  -- where it was in force already
  still_grown : IsInForce plan.shape (u 2) → IsInForce plan.shape (v 2)
  still_grown is = by (step (here.0 ∷ here.1) here.3)
    where
      here : IsInForce g.from (u 2)
      here = framed_of plan.shape plan.defaults (u 2) g (inl (inr is))

      payload : List ℕ
      payload = growth_payload plan.shape g.values

      by : HasPayloads (here.0 ∷ here.1) (v 2) ⊎ HasPayloads (here.0 ∷ (here.1 ++ payload ∷ [])) (v 2) → IsInForce plan.shape (v 2)
      by (inl same) = subst (λ (s : Shape). IsInForce s (v 2)) (sym (in_force_by plan.shape plan.defaults plan.shape (u 2) g is)) (here.0, here.1, here.2, same, here.4)
      by (inr more) = (here.0, here.1 ++ payload ∷ [], here.2 ++ growth_stage (growth_to plan.shape g.values) ∷ [], more, has-push g.from here.0 here.1 here.2 payload (growth_stage (growth_to plan.shape g.values)) here.4 (growth_said g.from plan.shape plan.defaults g.values g.fills))

  pub growth_mid : IsMidStep (store_of plan) keep [] may v
  growth_mid = record {
    from = u;
    left = left;
    truthful = still_true;
    schema = still_of;
    grown = still_grown;
    events = λ es has. inl (still_has es has);
    slots = λ slot count is has. saved_behind plan slot count u v others has;
  }

  pub growth_stepped : IsStepped (store_of plan) keep [] may v
  growth_stepped = record {
    from = u;
    left = left;
    truthful = still_true;
    schema = still_of;
    grown = still_grown;
    events = λ es has. subst (λ (l : List Event). Has plan l v) (sym (append-nil es)) (still_has es has);
    slots = λ slot count is has. saved_behind plan slot count u v others has;
  }

-- A checkpoint is written into the slot that isn't kept.
module _ (plan : Planned) (keep : Option ℕ) (legal : IsKeep keep) (checkpoint : Checkpoint) (may : Image → Type 0) (u v : Image) (left : may u) (others : (f : ℕ) → f ≢ other_of keep → v f ≡ u f) (true_of : IsTrueOf (u 2) checkpoint) where
  -- what is written in it, from what it was in that image
  pub step_from : (w : Image) → u (other_of keep) ≡ w (other_of keep) → (v (other_of keep) ≡ w (other_of keep)) ⊎ (HasNoSlot (v (other_of keep)) ⊎ HasSlot (v (other_of keep)) checkpoint)
      → (v (other_of keep) ≡ u (other_of keep)) ⊎ (HasNoSlot (v (other_of keep)) ⊎ HasSlot (v (other_of keep)) checkpoint)
  step_from w same (inl stays) = inl (stays ∙ sym same)
  step_from w same (inr rest) = inr rest

  log_same : v 2 ≡ u 2
  log_same = others 2 (log_apart keep legal)

  -- at a moment of it
  pub save_mid : (v (other_of keep) ≡ u (other_of keep)) ⊎ (HasNoSlot (v (other_of keep)) ⊎ HasSlot (v (other_of keep)) checkpoint) → IsMidStep (store_of plan) keep [] may v
  save_mid step = record {
    from = u;
    left = left;
    truthful = writes (other_of keep) u v checkpoint (other_below keep legal) others step true_of;
    schema = λ is. subst (IsOfSchemaFor plan.shape plan.defaults) (sym log_same) is;
    grown = λ is. subst (IsInForce plan.shape) (sym log_same) is;
    events = λ es has. inl (subst (HasEventsFor plan.shape plan.defaults es) (sym log_same) has);
    slots = λ slot count is has. saved_stays plan slot count (other_of keep) u v (kept_apart keep slot legal is) others has;
  }

  -- after it
  pub save_done : (count : ℕ) → checkpoint.queries ≡ texts_of plan.shape plan.queries → count ≤ checkpoint.count → HasSlot (v (other_of keep)) checkpoint → IsSavedTo (store_of plan) (other_of keep) count may v
  save_done count texts most has = record {
    from = u;
    left = left;
    truthful = writes (other_of keep) u v checkpoint (other_below keep legal) others (inr (inr has)) true_of;
    schema = λ is. subst (IsOfSchemaFor plan.shape plan.defaults) (sym log_same) is;
    grown = λ is. subst (IsInForce plan.shape) (sym log_same) is;
    events = λ es has. subst (HasEventsFor plan.shape plan.defaults es) (sym log_same) has;
    saved = record { below = other_below keep legal; checkpoint = checkpoint; complete = has; texts = texts; most = most };
  }

-- a file is of the sizes that are known of it, so a step that asks for them is taken
pub of_sizes : (known : Option SlotSizes) (Step : List ℕ → List ℕ → Type 0) (old new : List ℕ) → is_some known ≡ true → AreSizes old known → OfSizes known Step old new → Step old new
of_sizes None Step old new some are step = absurd cc
of_sizes (Some sizes) Step old new some are step = step sizes refl are.0

-- Changes come behind the checkpoint of a slot.
module _ (plan : Planned) (slot : ℕ) (below : slot < 2) (payload : List ℕ) (before after : Checkpoint) (applies : Applies payload before after) (may : Image → Type 0) (u v : Image) (left : may u) (others : (f : ℕ) → f ≢ slot → v f ≡ u f)
    (has : HasSlot (u slot) before) (true_of : IsTrueOf (u 2) after) where
  same_log : v 2 ≡ u 2
  same_log = others 2 (λ e. absurd (omega (arith, below, e)))

  truthful_by : HasSlot (v slot) before ⊎ HasSlot (v slot) after → IsTruthfulImage u → IsTruthfulImage v
  truthful_by (inl old) is = writes slot u v before below others (inr (inr old)) (is.slots slot below before has) is
  truthful_by (inr new) is = writes slot u v after below others (inr (inr new)) true_of is

  -- the slot still counts as many
  still_saved : HasSlot (v slot) before ⊎ HasSlot (v slot) after → (count : ℕ) → HasSaved plan slot count u → HasSaved plan slot count v
  still_saved step count is = by step
    where
      one : is.checkpoint ≡ before
      one = slot_is_one (u slot) is.checkpoint before is.complete has

      texts : before.queries ≡ texts_of plan.shape plan.queries
      texts = subst (λ (c : Checkpoint). c.queries ≡ texts_of plan.shape plan.queries) one is.texts

      most : count ≤ before.count
      most = subst (λ (c : Checkpoint). count ≤ c.count) one is.most

      by : HasSlot (v slot) before ⊎ HasSlot (v slot) after → HasSaved plan slot count v
      by (inl old) = record { below = below; checkpoint = before; complete = old; texts = texts; most = most }
      by (inr new) = record { below = below; checkpoint = after; complete = new; texts = applies.updated.queries ∙ texts; most = omega (arith, most, applies.updated.grows, applies.updated.count) }

  -- at a moment of it
  pub extend_mid : (keep : Option ℕ) → HasSlot (v slot) before ⊎ HasSlot (v slot) after → IsMidStep (store_of plan) keep [] may v
  extend_mid keep step = record {
    from = u;
    left = left;
    truthful = truthful_by step;
    schema = λ is. subst (IsOfSchemaFor plan.shape plan.defaults) (sym same_log) is;
    grown = λ is. subst (IsInForce plan.shape) (sym same_log) is;
    events = λ es is. inl (subst (HasEventsFor plan.shape plan.defaults es) (sym same_log) is);
    slots = λ i count kept is. ⊎_elim (λ same. subst (λ (n : ℕ). HasSaved plan n count v) (sym same) (still_saved step count (subst (λ (n : ℕ). HasSaved plan n count u) same is))) (λ apart. saved_stays plan i count slot u v apart others is) (cases_eq i slot);
  }

  -- after it
  pub extend_done : after.queries ≡ texts_of plan.shape plan.queries → HasSlot (v slot) after → IsSavedTo (store_of plan) slot after.count may v
  extend_done texts new = record {
    from = u;
    left = left;
    truthful = truthful_by (inr new);
    schema = λ is. subst (IsOfSchemaFor plan.shape plan.defaults) (sym same_log) is;
    grown = λ is. subst (IsInForce plan.shape) (sym same_log) is;
    events = λ es is. subst (HasEventsFor plan.shape plan.defaults es) (sym same_log) is;
    saved = record { below = below; checkpoint = after; complete = new; texts = texts; most = omega arith };
  }

-- What a call that adds changes to a slot may leave, where the slot can be extended so.
module _ (plan : Planned) (now : Option Image) (may : Image → Type 0) (slot : ℕ) (sizes : Option SlotSizes) (payload : List ℕ) (before after : Checkpoint) (to : IsToExtend plan now may slot sizes payload before after) (u : Image) where
  -- the step that the slot's file took, from what it is in the image that the others come from
  step_in : (Step : List ℕ → List ℕ → Type 0) → (left : Leaves slot (OfSizes sizes Step) now may u) → Step (left.0.0 slot) (u slot)
  step_in Step left =
      let w = left.0.0 in
      let same : w slot ≡ to.image slot = to.settled to.image to.told w left.0.1 in
      of_sizes sizes Step (w slot) (u slot) to.known (to.sizes_are w left.0.1) (subst (λ (bytes : List ℕ). OfSizes sizes Step bytes (u slot)) (sym same) (left.1 to.settled to.image to.told))

  pub extends : (keep : Option ℕ) → Leaves slot (OfSizes sizes (Lengthens payload)) now may u → IsMidStep (store_of plan) keep [] may u
  extends keep left =
      let w = left.0.0 in
      let has = to.has w left.0.1 in
      extend_mid plan slot to.below payload before after to.applies may w u left.0.1 left.0.2 has (to.true_of w left.0.1) keep (step_in (Lengthens payload) left before after has to.applies)

  pub extended : Leaves slot (OfSizes sizes (Lengthened payload)) now may u → IsSavedTo (store_of plan) slot after.count may u
  extended left =
      let w = left.0.0 in
      let has = to.has w left.0.1 in
      extend_done plan slot to.below payload before after to.applies may w u left.0.1 left.0.2 has (to.true_of w left.0.1) to.texts (step_in (Lengthened payload) left before after has to.applies)
