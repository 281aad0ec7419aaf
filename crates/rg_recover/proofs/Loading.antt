-- A session whose reservoir loads chunks, and whatever else stays.
use Rattle.std.proofs.Common.{◌≡◌, ◌⊎◌, inl, inr, ◌≤◌, ℕ, List, Option, refl, sym, ◌∙◌, ap, subst}
use Rattle.std.specs.Option.{ForSome}
use Rattle.std.specs.Prelude.{All}
use Rattle.rg_host.specs.Image.{Image, SameOutcomes}
use Rattle.rg_host.proofs.Laws.{nothing_pending-kept}
use Rattle.rg_event.specs.declared.event.Event.{Event}
use Rattle.rg_config.specs.Plans.{Planned}
use Rattle.rg_plan.specs.Plans.{plan_for}
use Rattle.rg_state.specs.Changes.{Marks}
use Rattle.rg_state.specs.Rows.{Cells}
use Rattle.rg_checkpoint.specs.Slots.{sizes_in}
use Rattle.rg_engine.specs.Seen.{Seen}
use Rattle.rg_restore.specs.Truthful.{EngineStands, NodeGoes}
use Rattle.rg_reservoir.specs.Chain.{IsIllegalBy}
use Rattle.rg_reservoir.specs.Kept.{Base, base, view_of, opened, stored, all_events, IsSound, Spells, Stays}
use Rattle.rg_reservoir.specs.declared.fault.ReservoirFault.{ReservoirFault}
use Rattle.rg_reservoir.specs.declared.fault.ReservoirFault.TheVariants as reservoir
use Rattle.rg_reservoir.specs.declared.reservoir.Reservoir.{Reservoir}
use Rattle.rg_open.specs.Opened.{IsOpenedFor}
use Rattle.rg_open.specs.Blame.{NodeRuns, IsPlaced}
use Rattle.rg_recover.specs.Faults.{of_reservoir}
use Rattle.rg_recover.specs.Sessions.{Sitting, IsRunning}
use Rattle.rg_recover.specs.declared.fault.TaskFault.TheVariants.{Disk, Damaged, Memory, Ended}
use Rattle.rg_recover.proofs.Stays.{kept_on, slots_quiet}

-- the session with another reservoir
abbrev pub with_reservoir : {T : Type 0} → Reservoir → Sitting T → Sitting T
with_reservoir r s = record { reservoir = r; engine = s.engine; texts = s.texts; grace = s.grace; slots = s.slots; keep = s.keep; saved = s.saved; ended = s.ended }

module _ (now then : Option Image) (old new : Reservoir) (same : then ≡ now) (stays : Stays old new) where
  -- what is said of the image, of what a commit changes, and of the open chunk
  carried : (P : Option Image → Base → List Event → Type 0) → P now (base old) (opened old) → P then (base new) (opened new)
  carried P here = subst (λ (o : Option Image). P o (base new) (opened new)) (sym same) (subst (λ (b : Base). P now b (opened new)) (sym stays.base) (subst (λ (l : List Event). P now (base old) l) (sym stays.opened) here))

  pub events_still : all_events then (base new) (opened new) ≡ all_events now (base old) (opened old)
  events_still =
      ap (λ (o : Option Image). all_events o (base new) (opened new)) same ∙ ap (λ (b : Base). all_events now b (opened new)) stays.base ∙ ap (λ (l : List Event). all_events now (base old) l) stays.opened

  pub stored_still : stored then (base new) ≡ stored now (base old)
  stored_still = ap (λ (o : Option Image). stored o (base new)) same ∙ ap (λ (b : Base). stored now b) stays.base

  pub illegal_still : (p : ℕ) → ForSome now (λ v. IsIllegalBy (view_of (base old)) p (v (base old).file)) → ForSome then (λ v. IsIllegalBy (view_of (base new)) p (v (base new).file))
  illegal_still p = carried (λ o b l. ForSome o (λ (v : Image). IsIllegalBy (view_of b) p (v b.file)))

  module _ (may after : Image → Type 0) (outcomes : SameOutcomes may after) (sound : IsSound now may old → IsSound then after new) (plan : Planned) where
    opened_still : IsOpenedFor plan now may old → IsOpenedFor plan then after new
    opened_still is = record {
      sound = sound is.sound;
      going = ap (λ (b : Base). b.ended) stays.base ∙ is.going;
      file = ap (λ (b : Base). b.file) stays.base ∙ is.file;
      shape = ap (λ (b : Base). b.shape) stays.base ∙ is.shape;
    }

    module _ {T : Type 0} (Tells : T → Type 0) (cell : T → Cells) (named there : T → Marks) where
      pub running_ahead : (s : Sitting T) → IsRunning plan now may Tells cell named there (with_reservoir old s) → IsRunning plan then after Tells cell named there (with_reservoir new s)
      running_ahead s r =
          let fewer = outcomes.no_more in
          let step = r.ready.in_step in
          record {
            ready = record {
              in_step = record {
                reservoir = opened_still step.reservoir;
                said = step.said;
                truthful = λ u left. step.truthful u (fewer u left);
                stands = carried (λ o b l. EngineStands (Spells o b l) (plan_for plan.queries) (all_events o b l) (cell s.engine.table) s.engine.spots) step.stands;
                texts_are = step.texts_are;
              };
              tells = r.ready.tells;
              serves = r.ready.serves;
              plan_is = r.ready.plan_is;
            };
            limit_is = ap (λ (b : Base). b.limit) stays.base ∙ r.limit_is;
            grace_is = r.grace_is;
            going = r.going;
            first_settled = nothing_pending-kept 0 now then may after same fewer r.first_settled;
            second_settled = nothing_pending-kept 1 now then may after same fewer r.second_settled;
            kept = λ slot keep.
                let k = r.kept slot keep in
                record { below = k.below; stored = subst (λ (b : Base). s.saved ≤ b.committed) (sym stays.base) k.stored; has = λ u left. k.has u (fewer u left) };
            since = λ slot keep.
                let e = s.engine.table in
                kept_on may after slot s.saved s.texts (sizes_in s.slots slot) (named e) (there e) (named e) (there e) (cell e) (cell e) (r.kept slot keep).below (slots_quiet now then may after same fewer).left (λ rows is. is) (r.since slot keep);
          }

    module _ {T : Type 0} (told : Type 0) (cells : Cells) where
      pub node_ahead : (n : ℕ) (engine : Seen T) → NodeRuns plan n now may told cells old engine → NodeRuns plan n then after told cells new engine
      node_ahead n engine runs = record {
        reservoir = opened_still runs.reservoir;
        goes = carried (λ o b l. NodeGoes (Spells o b l) (plan_for plan.queries) n (all_events o b l) cells engine.spots) runs.goes;
        tells = runs.tells;
        serves = runs.serves;
        plan_is = runs.plan_is;
      }

    pub placed_ahead : {T : Type 0} (engine : Seen T) → IsPlaced plan now may old engine → IsPlaced plan then after new engine
    placed_ahead engine is = record {
      reservoir = opened_still is.reservoir;
      spots = carried (λ o b l. All (Spells o b l) engine.spots) is.spots;
    }

-- The faults of a load, and what they are to a session.
abbrev IsOfLoad : ReservoirFault → Type 0
IsOfLoad fault = (fault ≡ reservoir.Disk) ⊎ ((fault ≡ reservoir.Memory) ⊎ (((p : ℕ) × (fault ≡ reservoir.Damaged p)) ⊎ (fault ≡ reservoir.Ended)))

pub damaged_load : (fault : ReservoirFault) (p : ℕ) → IsOfLoad fault → of_reservoir fault ≡ Damaged p → fault ≡ reservoir.Damaged p
damaged_load reservoir.Disk p which is = absurd cc
damaged_load (reservoir.Damaged q) p which is = let e : q ≡ p = cc in ap (λ (m : ℕ). reservoir.Damaged m) e
damaged_load reservoir.SchemaDiffers p (inl which) is = absurd cc
damaged_load reservoir.SchemaDiffers p (inr (inl which)) is = absurd cc
damaged_load reservoir.SchemaDiffers p (inr (inr (inl which))) is = let e = which.1 in absurd cc
damaged_load reservoir.SchemaDiffers p (inr (inr (inr which))) is = absurd cc
damaged_load reservoir.Full p which is = absurd cc
damaged_load reservoir.Memory p which is = absurd cc
damaged_load reservoir.Ended p which is = absurd cc

pub disk_load : (fault : ReservoirFault) → of_reservoir fault ≡ Disk → fault ≡ reservoir.Disk
disk_load reservoir.Disk is = refl
disk_load (reservoir.Damaged q) is = absurd cc
disk_load reservoir.SchemaDiffers is = absurd cc
disk_load reservoir.Full is = absurd cc
disk_load reservoir.Memory is = absurd cc
disk_load reservoir.Ended is = absurd cc

pub ended_load : (fault : ReservoirFault) → IsOfLoad fault → of_reservoir fault ≡ Ended → fault ≡ reservoir.Ended
ended_load reservoir.Disk which is = absurd cc
ended_load (reservoir.Damaged q) which is = absurd cc
ended_load reservoir.SchemaDiffers which is = absurd cc
ended_load reservoir.Full (inl which) is = absurd cc
ended_load reservoir.Full (inr (inl which)) is = absurd cc
ended_load reservoir.Full (inr (inr (inl which))) is = let e = which.1 in absurd cc
ended_load reservoir.Full (inr (inr (inr which))) is = absurd cc
ended_load reservoir.Memory which is = absurd cc
ended_load reservoir.Ended which is = refl

pub load_faults : (fault : ReservoirFault) → IsOfLoad fault → (of_reservoir fault ≡ Disk) ⊎ ((of_reservoir fault ≡ Memory) ⊎ ((of_reservoir fault ≡ Ended) ⊎ ((p : ℕ) × (of_reservoir fault ≡ Damaged p))))
load_faults fault (inl is) = inl (ap of_reservoir is)
load_faults fault (inr (inl is)) = inr (inl (ap of_reservoir is))
load_faults fault (inr (inr (inl is))) = inr (inr (inr (is.0, ap of_reservoir is.1)))
load_faults fault (inr (inr (inr is))) = inr (inr (inl (ap of_reservoir is)))

-- what a load is never refused for
pub never_load : (fault : ReservoirFault) → IsOfLoad fault → (fault ≡ reservoir.SchemaDiffers → ⊥) × (fault ≡ reservoir.Full → ⊥)
never_load fault (inl is) = (λ e. absurd (let t : ◌≡◌ {A = ReservoirFault} reservoir.Disk reservoir.SchemaDiffers = sym is ∙ e in cc), λ e. absurd (let t : ◌≡◌ {A = ReservoirFault} reservoir.Disk reservoir.Full = sym is ∙ e in cc))
never_load fault (inr (inl is)) = (λ e. absurd (let t : ◌≡◌ {A = ReservoirFault} reservoir.Memory reservoir.SchemaDiffers = sym is ∙ e in cc), λ e. absurd (let t : ◌≡◌ {A = ReservoirFault} reservoir.Memory reservoir.Full = sym is ∙ e in cc))
never_load fault (inr (inr (inl is))) = (λ e. absurd (let t : ◌≡◌ {A = ReservoirFault} (reservoir.Damaged is.0) reservoir.SchemaDiffers = sym is.1 ∙ e in cc), λ e. absurd (let t : ◌≡◌ {A = ReservoirFault} (reservoir.Damaged is.0) reservoir.Full = sym is.1 ∙ e in cc))
never_load fault (inr (inr (inr is))) = (λ e. absurd (let t : ◌≡◌ {A = ReservoirFault} reservoir.Ended reservoir.SchemaDiffers = sym is ∙ e in cc), λ e. absurd (let t : ◌≡◌ {A = ReservoirFault} reservoir.Ended reservoir.Full = sym is ∙ e in cc))
