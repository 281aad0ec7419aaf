-- Two checkpoints that are tried one after the other.
use Rattle.std.proofs.Common.{◌≡◌, ◌⊎◌, inl, inr, ℕ, zero, suc, ◌<◌, ◌≤◌, Bool, true, false, nat_lt, List, length, Option, Some, None, refl, ap, sym, subst, ◌∙◌, arith, All, option_map}
use Rattle.std.proofs.lemmas.List.Elements.{All-weaker}
use Rattle.rg_event.specs.declared.schema.Field.{Field}
use Rattle.rg_past.specs.declared.past.Spot.{Spot}
use Rattle.rg_plan.specs.Plans.{Tasks}
use Rattle.rg_window.specs.Placed.{AreWithin}
use Rattle.rg_engine.proofs.Laws.{none_some, same_some}
use Rattle.rg_checkpoint.specs.declared.base.Checkpoint.{Checkpoint}
use Rattle.rg_restore.specs.Choosing.{IsIn, AreIn, IsSecond, AreOrdered, IsJudged, IsChosen, candidate_of}
use Rattle.rg_restore.specs.Fit.{IsFit}
use Rattle.rg_restore.specs.Opening.{IsUsable}
use Rattle.rg_restore.specs.Slots.{slot_in, IsBehind, IsBest, NoneFits}
use Rattle.rg_restore.specs.declared.choosing.Candidate.{Candidate}
use Rattle.rg_restore.specs.declared.choosing.Saved.{Saved}

-- In order

abbrev slots : Option Checkpoint → Option Checkpoint → ℕ → Option Checkpoint
slots first second = slot_in (record { first = first; second = second })

one_at : (i : ℕ) (a checkpoint : Checkpoint) → Some a ≡ Some checkpoint → Some (candidate_of i a) ≡ Some (candidate_of i checkpoint)
one_at i a checkpoint is = ap (λ c. Some (candidate_of i c)) (same_some is)

none_both : (i : ℕ) (checkpoint : Checkpoint) → slots None None i ≡ Some checkpoint → ⊥
none_both zero checkpoint is = none_some is
none_both (suc zero) checkpoint is = none_some is
none_both (suc (suc n)) checkpoint is = none_some is

ordered_none : AreOrdered (slots None None) None None
ordered_none = record { newer_in = tt; older_in = tt; second = tt; all = λ i checkpoint is. absurd (none_both i checkpoint is) }

all_second : (b : Checkpoint) (i : ℕ) (checkpoint : Checkpoint) → slots None (Some b) i ≡ Some checkpoint → (Some (candidate_of 1 b) ≡ Some (candidate_of i checkpoint)) ⊎ (None ≡ Some (candidate_of i checkpoint))
all_second b zero checkpoint is = absurd (none_some is)
all_second b (suc zero) checkpoint is = inl (one_at 1 b checkpoint is)
all_second b (suc (suc n)) checkpoint is = absurd (none_some is)

ordered_second : (b : Checkpoint) → AreOrdered (slots None (Some b)) (Some (candidate_of 1 b)) None
ordered_second b = record { newer_in = refl; older_in = tt; second = tt; all = all_second b }

all_first : (a : Checkpoint) (i : ℕ) (checkpoint : Checkpoint) → slots (Some a) None i ≡ Some checkpoint → (Some (candidate_of 0 a) ≡ Some (candidate_of i checkpoint)) ⊎ (None ≡ Some (candidate_of i checkpoint))
all_first a zero checkpoint is = inl (one_at 0 a checkpoint is)
all_first a (suc zero) checkpoint is = absurd (none_some is)
all_first a (suc (suc n)) checkpoint is = absurd (none_some is)

ordered_first : (a : Checkpoint) → AreOrdered (slots (Some a) None) (Some (candidate_of 0 a)) None
ordered_first a = record { newer_in = refl; older_in = tt; second = tt; all = all_first a }

all_up : (a b : Checkpoint) (i : ℕ) (checkpoint : Checkpoint) → slots (Some a) (Some b) i ≡ Some checkpoint → (Some (candidate_of 1 b) ≡ Some (candidate_of i checkpoint)) ⊎ (Some (candidate_of 0 a) ≡ Some (candidate_of i checkpoint))
all_up a b zero checkpoint is = inr (one_at 0 a checkpoint is)
all_up a b (suc zero) checkpoint is = inl (one_at 1 b checkpoint is)
all_up a b (suc (suc n)) checkpoint is = absurd (none_some is)

ordered_up : (a b : Checkpoint) → a.count < b.count → AreOrdered (slots (Some a) (Some b)) (Some (candidate_of 1 b)) (Some (candidate_of 0 a))
ordered_up a b less = record { newer_in = refl; older_in = refl; second = inl less; all = all_up a b }

all_down : (a b : Checkpoint) (i : ℕ) (checkpoint : Checkpoint) → slots (Some a) (Some b) i ≡ Some checkpoint → (Some (candidate_of 0 a) ≡ Some (candidate_of i checkpoint)) ⊎ (Some (candidate_of 1 b) ≡ Some (candidate_of i checkpoint))
all_down a b zero checkpoint is = inl (one_at 0 a checkpoint is)
all_down a b (suc zero) checkpoint is = inr (one_at 1 b checkpoint is)
all_down a b (suc (suc n)) checkpoint is = absurd (none_some is)

behind_by : (a b : Checkpoint) → b.count ≤ a.count → (t : Bool) → nat_lt b.count a.count ≡ t → IsBehind 0 a 1 b
behind_by a b le true e = inl (grind arith)
behind_by a b le false e = inr (grind arith, omega arith)

ordered_down : (a b : Checkpoint) → b.count ≤ a.count → AreOrdered (slots (Some a) (Some b)) (Some (candidate_of 0 a)) (Some (candidate_of 1 b))
ordered_down a b le = record { newer_in = refl; older_in = refl; second = behind_by a b le (nat_lt b.count a.count) refl; all = all_down a b }

second_by : (first second : Option Checkpoint) → first ≡ None → AreOrdered (slots first second) (option_map (candidate_of 1) second) None
second_by None None is = ordered_none
second_by None (Some b) is = ordered_second b
second_by (Some a) second is = absurd (none_some (sym is))

first_by : (first second : Option Checkpoint) (a : Checkpoint) → first ≡ Some a → second ≡ None → AreOrdered (slots first second) (Some (candidate_of 0 a)) None
first_by None second a is none = absurd (none_some is)
first_by (Some b) (Some c) a is none = absurd (none_some (sym none))
first_by (Some b) None a is none = subst (λ x. AreOrdered (slots (Some b) None) (Some (candidate_of 0 x)) None) (same_some is) (ordered_first b)

up_by : (first second : Option Checkpoint) (a b : Checkpoint) → first ≡ Some a → second ≡ Some b → a.count < b.count → AreOrdered (slots first second) (Some (candidate_of 1 b)) (Some (candidate_of 0 a))
up_by first second a b is is_second less = subst (λ x. AreOrdered (slots x second) (Some (candidate_of 1 b)) (Some (candidate_of 0 a))) (sym is) (subst (λ y. AreOrdered (slots (Some a) y) (Some (candidate_of 1 b)) (Some (candidate_of 0 a))) (sym is_second) (ordered_up a b less))

down_by : (first second : Option Checkpoint) (a b : Checkpoint) → first ≡ Some a → second ≡ Some b → b.count ≤ a.count → AreOrdered (slots first second) (Some (candidate_of 0 a)) (Some (candidate_of 1 b))
down_by first second a b is is_second le = subst (λ x. AreOrdered (slots x second) (Some (candidate_of 0 a)) (Some (candidate_of 1 b))) (sym is) (subst (λ y. AreOrdered (slots (Some a) y) (Some (candidate_of 0 a)) (Some (candidate_of 1 b))) (sym is_second) (ordered_down a b le))

pub order_second : (saved : Saved) (newer : Option Candidate) → saved.first ≡ None → newer ≡ option_map (candidate_of 1) saved.second → AreOrdered (slot_in saved) newer None
order_second saved newer is e = subst (λ n. AreOrdered (slot_in saved) n None) (sym e) (second_by saved.first saved.second is)

pub order_first : (saved : Saved) (a : Checkpoint) (newer : Option Candidate) → saved.first ≡ Some a → saved.second ≡ None → newer ≡ Some (candidate_of 0 a) → AreOrdered (slot_in saved) newer None
order_first saved a newer is none e = subst (λ n. AreOrdered (slot_in saved) n None) (sym e) (first_by saved.first saved.second a is none)

pub order_up : (saved : Saved) (a b : Checkpoint) (newer older : Option Candidate) → saved.first ≡ Some a → saved.second ≡ Some b → a.count < b.count → newer ≡ Some (candidate_of 1 b) → older ≡ Some (candidate_of 0 a) → AreOrdered (slot_in saved) newer older
order_up saved a b newer older is is_second less e f = subst (λ n. AreOrdered (slot_in saved) n older) (sym e) (subst (λ o. AreOrdered (slot_in saved) (Some (candidate_of 1 b)) o) (sym f) (up_by saved.first saved.second a b is is_second less))

pub order_down : (saved : Saved) (a b : Checkpoint) (newer older : Option Candidate) → saved.first ≡ Some a → saved.second ≡ Some b → b.count ≤ a.count → newer ≡ Some (candidate_of 0 a) → older ≡ Some (candidate_of 1 b) → AreOrdered (slot_in saved) newer older
order_down saved a b newer older is is_second le e f = subst (λ n. AreOrdered (slot_in saved) n older) (sym e) (subst (λ o. AreOrdered (slot_in saved) (Some (candidate_of 0 a)) o) (sym f) (down_by saved.first saved.second a b is is_second le))

-- One after the other

pub fit_same : (Spells Other : Spot → Type 0) (queries : List (List ℕ)) (fields : List Field) (plan : Tasks) (count count' : ℕ) (c : Checkpoint) → ((spot : Spot) → Spells spot → Other spot) → count ≡ count' → IsFit Spells queries fields plan count c → IsFit Other queries fields plan count' c
fit_same Spells Other queries fields plan count count' c goes same is = record {
  queries_are = is.queries_are;
  within = omega (arith, is.within, same);
  same = is.same;
  spelled = All-weaker Spells Other goes c.spots is.spelled;
  rows = is.rows;
}

pub judged_same : (told told' : Type 0) (Fit Fit' Usable Usable' : Checkpoint → Type 0) (candidate taken : Option Candidate) → (told' → told) → ((c : Checkpoint) → Fit c → Fit' c) → ((c : Checkpoint) → Fit' c → Fit c) → ((c : Checkpoint) → Usable c → Usable' c) →
    IsJudged told Fit Usable candidate taken → IsJudged told' Fit' Usable' candidate taken
judged_same told told' Fit Fit' Usable Usable' None taken tells to from use_it is = is
judged_same told told' Fit Fit' Usable Usable' (Some candidate) taken tells to from use_it (inl is) = inl (is.0, λ t. to candidate.checkpoint (is.1 (tells t)), use_it candidate.checkpoint is.2)
judged_same told told' Fit Fit' Usable Usable' (Some candidate) taken tells to from use_it (inr is) = inr (is.0, λ t fit. is.1 (tells t) (from candidate.checkpoint fit))

slot_of : (x y : Candidate) → Some x ≡ Some y → x ≡ y
slot_of x y e = same_some e

behind_self : (x : Candidate) (j : ℕ) (other : Checkpoint) → Some x ≡ Some (candidate_of j other) → IsBehind x.slot x.checkpoint j other
behind_self x j other e =
    let is = same_some e in
    inr (sym (ap (λ (c : Candidate). c.checkpoint.count) is), omega (arith, ap (λ (c : Candidate). c.slot) is))

module _ (told : Type 0) (Fit Usable : Checkpoint → Type 0) (slots : ℕ → Option Checkpoint) where
  behind_second : (x : Candidate) (older : Option Candidate) (j : ℕ) (other : Checkpoint) → IsSecond (Some x) older → older ≡ Some (candidate_of j other) → IsBehind x.slot x.checkpoint j other
  behind_second x older j other second e =
      let is = subst (IsSecond (Some x)) e second in is

  best_first : (x : Candidate) (older : Option Candidate) → AreOrdered slots (Some x) older → Fit x.checkpoint → IsBest Fit slots x.slot x.checkpoint
  best_first x older ordered fit = record {
    there = ordered.newer_in;
    fit = fit;
    others = λ j other there _. elim (ordered.all j other there) [
      | inl e ↦ behind_self x j other e
      | inr e ↦ behind_second x older j other ordered.second e
    ];
  }

  -- the first one was taken
  pub chosen_first : (newer older : Option Candidate) (x : Candidate) → AreOrdered slots newer older → IsJudged told Fit Usable newer (Some x) → IsChosen told Fit Usable slots (Some x)
  chosen_first None older x ordered is = absurd (none_some (sym is))
  chosen_first (Some c) older x ordered (inl is) =
      let e : x ≡ c = same_some is.0 in
      subst (λ y. IsChosen told Fit Usable slots (Some y)) (sym e) (ordered.newer_in, (λ t. best_first c older ordered (is.1 t)), is.2)
  chosen_first (Some c) older x ordered (inr is) = absurd (none_some (sym is.0))

  unfit_first : (newer : Option Candidate) (j : ℕ) (other : Checkpoint) → told → IsJudged told Fit Usable newer None → newer ≡ Some (candidate_of j other) → Fit other → ⊥
  unfit_first None j other t is e fit = none_some e
  unfit_first (Some c) j other t (inl is) e fit = none_some is.0
  unfit_first (Some c) j other t (inr is) e fit = is.1 t (subst (λ (c : Candidate). Fit c.checkpoint) (sym (same_some e)) fit)

  best_second : (newer : Option Candidate) (y : Candidate) → told → AreOrdered slots newer (Some y) → IsJudged told Fit Usable newer None → Fit y.checkpoint → IsBest Fit slots y.slot y.checkpoint
  best_second newer y t ordered not fit = record {
    there = ordered.older_in;
    fit = fit;
    others = λ j other there is_fit. elim (ordered.all j other there) [
      | inl e ↦ absurd (unfit_first newer j other t not e is_fit)
      | inr e ↦ behind_self y j other e
    ];
  }

  none_fits : (newer older : Option Candidate) → told → AreOrdered slots newer older → IsJudged told Fit Usable newer None → IsJudged told Fit Usable older None → NoneFits Fit slots
  none_fits newer older t ordered not other_not = λ i checkpoint there fit. elim (ordered.all i checkpoint there) [
    | inl e ↦ unfit_first newer i checkpoint t not e fit
    | inr e ↦ unfit_first older i checkpoint t other_not e fit
  ]

  -- the first one wasn't taken
  pub chosen_second : (newer older taken : Option Candidate) → AreOrdered slots newer older → IsJudged told Fit Usable newer None → IsJudged told Fit Usable older taken → IsChosen told Fit Usable slots taken
  chosen_second newer older None ordered not is = λ t. none_fits newer older t ordered not is
  chosen_second newer None (Some x) ordered not is = absurd (none_some (sym is))
  chosen_second newer (Some c) (Some x) ordered not (inl is) =
      let e : x ≡ c = same_some is.0 in
      subst (λ y. IsChosen told Fit Usable slots (Some y)) (sym e) (ordered.older_in, (λ t. best_second newer c t ordered not (is.1 t)), is.2)
  chosen_second newer (Some c) (Some x) ordered not (inr is) = absurd (none_some (sym is.0))
