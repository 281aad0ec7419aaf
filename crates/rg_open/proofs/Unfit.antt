-- A store that no run of a plan goes over is left alone.
use Rattle.std.proofs.Common.{◌≡◌, ◌∙◌, inl, inr, ⊎_elim, ℕ, List, [], Option, Some, refl, sym, ap, subst}
use Rattle.std.proofs.lemmas.Bool.{cases_eq}
use Rattle.std.proofs.Math.Path.{fun_ext}
use Rattle.std.specs.Option.{ForSome}
use Rattle.rg_host.specs.Image.{Image, NothingPending}
use Rattle.rg_host.specs.Moments.{Moment}
use Rattle.rg_host.proofs.Laws.{moments_then}
use Rattle.rg_frame.specs.Calls.{Writes}
use Rattle.rg_frame.specs.Frames.{HasPayloads}
use Rattle.rg_frame.specs.Steps.{Leaves}
use Rattle.rg_config.specs.Plans.{Planned}
use Rattle.rg_reservoir.specs.Attached.{LogOpens}
use Rattle.rg_reservoir.proofs.Laws.{unframed_for, not_to_grow}
use Rattle.rg_open.specs.Settling.{AreSettled, LeavesFewer}
use Rattle.rg_open.specs.Unfit.{HasOtherSchema, HasBadFrame, IsUnfit, SaysWhy, IsLeftAlone}
use Rattle.rg_open.specs.declared.fault.OpenFault.{OpenFault}
use Rattle.rg_open.specs.declared.fault.OpenFault.TheVariants.{Disk, Damaged, SchemaDiffers, BadState, Memory, Table}
use Rattle.rg_open.proofs.Within.{as_read}

-- it has a frame
framed : (plan : Planned) (v : Image) → IsUnfit plan v → HasPayloads [] (v 2) → ⊥
framed plan v unfit none = unframed_for plan.shape plan.defaults (v 2) none unfit

-- what a write of a schema's frame or of a growth then leaves
module _ (plan : Planned) (now : Option Image) (may : Image → Type 0) (v : Image) (told : now ≡ Some v) (settled : NothingPending 2 now may) (unfit : IsUnfit plan v) (u : Image) (left : Leaves 2 (LogOpens plan.shape plan.defaults) now may u) where
  log_by : LogOpens plan.shape plan.defaults (v 2) (u 2) → u 2 ≡ v 2
  log_by (inl (inl same)) = same
  log_by (inl (inr begun)) = absurd (framed plan v unfit begun.0)
  log_by (inr grown) = absurd (not_to_grow plan.shape plan.defaults (v 2) grown.0 unfit)

  same_log : u 2 ≡ v 2
  same_log = log_by (left.1 settled v told)

  each : (f : ℕ) → u f ≡ left.0.0 f
  each f = ⊎_elim (λ is. ap u is ∙ same_log ∙ sym (settled v told left.0.0 left.0.1) ∙ sym (ap left.0.0 is)) (λ other. left.0.2 f other) (cases_eq f 2)

  pub was_left : may u
  was_left = subst may (sym (fun_ext each)) left.0.1

-- the fault that was found
pub why : (plan : Planned) (v : Image) (fault : OpenFault) → (fault ≡ SchemaDiffers → HasOtherSchema plan v) → ((p : ℕ) → fault ≡ Damaged p → HasBadFrame plan p v) → (fault ≡ Table → ⊥) → ((n : ℕ) → fault ≡ BadState n → ⊥) → SaysWhy plan v fault
why plan v Disk differs damaged table bad = tt
why plan v (Damaged p) differs damaged table bad = damaged p refl
why plan v SchemaDiffers differs damaged table bad = differs refl
why plan v (BadState n) differs damaged table bad = bad n refl
why plan v Memory differs damaged table bad = tt
why plan v Table differs damaged table bad = table refl

module _ {H : Type 0} (now : H → Option Image) (may : H → Image → Type 0) (clock : H → ℕ) (since : H → ℕ → Moment → Type 0) (said : H → Option (List ℕ)) (now_may : (h : H) (w : Image) → now h ≡ Some w → may h w) (v : Image) (old mid : H) (told : now old ≡ Some v) (fewer : LeavesFewer now may clock since said old mid) where
  -- by calls that wrote nothing
  pub quiet_alone : IsLeftAlone now may clock since said v old mid
  quiet_alone = record {
    still = λ w is. let same : w ≡ v = one w (is_old w is) in (subst (λ (u : Image). may old u) (sym same) (now_may old v told), ap (λ (u : Image). u 0) same, ap (λ (u : Image). u 1) same, ap (λ (u : Image). u 2) same);
    fewer = fewer.fewer;
    said_stays = fewer.said_stays;
    moments = fewer.moments;
  }
    where
      is_old : (w : Image) → now mid ≡ Some w → now old ≡ Some w
      is_old w is = sym fewer.now_stays ∙ is

      one : (w : Image) → now old ≡ Some w → w ≡ v
      one w is = let both : ◌≡◌ {A = Option Image} (Some w) (Some v) = sym is ∙ told in cc

  -- and then by those that open the log
  module _ (plan : Planned) (unfit : IsUnfit plan v) (new : H) (settled : AreSettled (now mid) (may mid)) (writes : Writes now may clock since said 2 (LogOpens plan.shape plan.defaults) mid new) where
    was : (u : Image) → Leaves 2 (LogOpens plan.shape plan.defaults) (now mid) (may mid) u → may mid u
    was u left = was_left plan (now mid) (may mid) v (fewer.now_stays ∙ told) settled.log unfit u left

    pub opened_alone : IsLeftAlone now may clock since said v old new
    opened_alone = record {
      still = λ w is. as_read (now old) (now mid) (may old) (may mid) v told fewer.now_stays fewer.fewer settled w (was w (writes.left w (now_may new w is)));
      fewer = λ u left. fewer.fewer u (was u (writes.left u left));
      said_stays = writes.said_stays ∙ fewer.said_stays;
      moments = moments_then clock since old mid new _ _ (λ m. may old m.image × ForSome (said old) (λ s. m.said ≡ s)) fewer.moments writes.moments (λ m h. h) (λ m h. (fewer.fewer m.image (was m.image h.0), λ s is. h.1 s (fewer.said_stays ∙ is)));
    }
