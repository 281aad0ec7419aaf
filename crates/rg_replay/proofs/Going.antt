-- One event more is shown and answered.
use Rattle.std.proofs.Common.{◌≡◌, ◌∙◌, ◌≤◌, ◌<◌, ℕ, List, [], ◌∷◌, ◌++◌, length, take, All, refl, ap, sym, subst, arith, get_or, length-append}
use Rattle.std.proofs.lemmas.List.Elements.{All-take}
use Rattle.std.proofs.lemmas.Option.{slice_get-get_or, get_or_from_slice_get}
use Rattle.rg_event.specs.Codec.{IsEventOf}
use Rattle.rg_event.specs.declared.event.Event.{Event}
use Rattle.rg_metric.specs.Queries.{Asked}
use Rattle.rg_past.specs.declared.past.Spot.{Spot}
use Rattle.rg_past.specs.declared.past.PastFault.TheVariants as past
use Rattle.rg_plan.specs.Plans.{Tasks}
use Rattle.rg_state.specs.Rows.{Cells}
use Rattle.rg_window.specs.Placed.{AreWithin, IsSpelledAt, numbers_of}
use Rattle.rg_engine.specs.declared.fault.EngineFault.{EngineFault}
use Rattle.rg_engine.specs.declared.fault.EngineFault.TheVariants as fault
use Rattle.rg_engine.specs.Carrying.{CarriesOn, EdgesMove}
use Rattle.rg_engine.specs.Feeding.{IsFed}
use Rattle.rg_engine.specs.Standing.{NodeStands}
use Rattle.rg_engine.proofs.Laws.{all_told}
use Rattle.rg_past_prefix.specs.Shows.{IsSoundFront, SpellsFront}
use Rattle.rg_replay.specs.Going.{Replays, IsOutside}

pub within_more : (spots : List Spot) (fewer more : ℕ) → fewer ≤ more → AreWithin spots fewer → AreWithin spots more
within_more spots fewer more below within = λ k d is. omega (arith, below, within k d is)

fed_front : (plan : Tasks) (n : ℕ) (events : List Event) → IsFed plan events → IsFed plan (take n events)
fed_front plan n events fed = record { fields = fed.fields; serves = fed.serves; are = All-take (IsEventOf fed.fields) n events fed.are }

no_spot : Spot
no_spot = record { place = 0; index = 0; number = 0 }

-- all of as many spots are spelled, where each that was spelled is so still
all_later : (Spells Later : Spot → Type 0) (old new : List Spot) → length new ≡ length old → ((edge : ℕ) → IsSpelledAt Spells old edge → IsSpelledAt Later new edge) → All Spells old → All Later new
all_later Spells Later old new same later all = λ edge d below.
    let within : edge < length old = omega (arith, below, same) in
    let at = later edge (get_or old edge d, slice_get-get_or old edge d within, all edge d within) in
    subst Later (sym (get_or_from_slice_get new edge at.0 d at.1)) at.2

module _ (queries : List Asked) (is_sound is_at is_told : Type 0) (Spells : Spot → Type 0) (events : List Event) (shown : ℕ) (cells : Cells) (plan : Tasks) (spots : List Spot) (on : Replays queries is_sound is_at is_told Spells events shown cells plan spots) where
  -- the past behind, which shows one event more
  module _ (mid_sound : Type 0) (Mid : Spot → Type 0) (later : List Event) (more : ℕ) (e : Event) (same : later ≡ events) (grown : take more later ≡ take shown events ++ e ∷ []) (stays : (spot : Spot) → Spells spot → Mid spot) (within : AreWithin spots (length (take shown events))) where
    -- what is spelled of it
    abbrev pub Front : Spot → Type 0
    Front spot = SpellsFront (Mid spot) spot.number more later

    pub sound_front : mid_sound → IsSoundFront mid_sound later
    sound_front sound = record { sound = sound; small = omega (arith, ap length same, on.small) }

    pub all_front : All Front spots
    all_front = λ k d is. record { spelled = stays (get_or spots k d) (on.spelled k d is); within = omega (arith, ap length grown, length-append (take shown events) (e ∷ []), within k d is) }

    pub within_front : AreWithin spots (length (take more later))
    within_front = within_more spots (length (take shown events)) (length (take more later)) (omega (arith, ap length grown, length-append (take shown events) (e ∷ []))) within

    -- each node can be carried on to the events with that one
    pub carries : mid_sound → (n : ℕ) → CarriesOn plan n (IsSoundFront mid_sound later) Front is_told (take more later) (take more later) (take shown events) cells spots
    carries sound n = record {
      sound = sound_front sound;
      spelled = all_told plan n Front spots on.many all_front;
      tells = on.told;
      fed = fed_front plan more later (subst (IsFed plan) (sym same) on.fed);
      more = e ∷ [];
      begins = grown;
      stood = on.stands n;
    }

  -- and once it is answered, the replay goes on from there
  pub goes_on : (front_sound new_sound new_at new_told : Type 0) (Front New : Spot → Type 0) (later : List Event) (more count : ℕ) (rows : Cells) (tasks : Tasks) (at : List Spot) → later ≡ events → tasks ≡ plan → front_sound → new_sound → new_at → new_told → All Front spots
      → EdgesMove front_sound Front (λ s. SpellsFront (New s) s.number more later) count spots at → length at ≡ length tasks.offsets → ((n : ℕ) → NodeStands plan n (take more later) rows (numbers_of at)) → Replays queries new_sound new_at new_told New later more rows tasks at
  goes_on front_sound new_sound new_at new_told Front New later more count rows tasks at same is between sound here told all moved many stands =
      let front : All (λ s. SpellsFront (New s) s.number more later) at = all_later Front (λ s. SpellsFront (New s) s.number more later) spots at (many ∙ ap (λ (p : Tasks). length p.offsets) is ∙ sym on.many) (moved.spells between) all in
      record {
        plan_is = is ∙ on.plan_is;
        sound = sound;
        at = here;
        told = told;
        small = omega (arith, ap length same, on.small);
        fed = subst (λ p. IsFed p later) (sym is) (subst (IsFed plan) (sym same) on.fed);
        many = many;
        spelled = λ k d below. (front k d below).spelled;
        stands = λ n. subst (λ p. NodeStands p n (take more later) rows (numbers_of at)) (sym is) (stands n);
      }

  -- the same where no event was left
  pub stays_on : (new_sound new_at new_told : Type 0) (New : Spot → Type 0) (later : List Event) (more : ℕ) → later ≡ events → more ≡ shown → new_sound → new_at → new_told → ((spot : Spot) → Spells spot → New spot) → Replays queries new_sound new_at new_told New later more cells plan spots
  stays_on new_sound new_at new_told New later more same still sound here told stays = record {
    plan_is = on.plan_is;
    sound = sound;
    at = here;
    told = told;
    small = omega (arith, ap length same, on.small);
    fed = subst (IsFed plan) (sym same) on.fed;
    many = on.many;
    spelled = λ k d below. stays (get_or spots k d) (on.spelled k d below);
    stands = λ n. subst (λ l. NodeStands plan n l cells (numbers_of spots)) (ap (λ l. take shown l) (sym same) ∙ ap (λ m. take m later) (sym still)) (on.stands n);
  }

-- a fault of the past that isn't that of a damaged place, and no full past, comes from outside
pub outside_past : (cause : EngineFault) → ((place : ℕ) → cause ≡ fault.Past (past.Damaged place) → ⊥) → (cause ≡ fault.Past past.Full → ⊥) → ((node : ℕ) → cause ≡ fault.BadState node → ⊥) → IsOutside cause
outside_past (fault.Past past.Disk) damaged full bad = tt
outside_past (fault.Past (past.Damaged place)) damaged full bad = damaged place refl
outside_past (fault.Past past.Full) damaged full bad = full refl
outside_past (fault.Past past.Memory) damaged full bad = tt
outside_past (fault.Past past.Ended) damaged full bad = tt
outside_past (fault.BadState node) damaged full bad = bad node refl
outside_past fault.Memory damaged full bad = tt
outside_past fault.Ended damaged full bad = tt
outside_past fault.Table damaged full bad = tt
