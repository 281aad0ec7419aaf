-- A run that is turned away before its first line.
use Rattle.std.proofs.Common.{◌≡◌, inl, ℕ, ◌≤◌, List, Option, Some, refl, ap, sym, ◌∙◌, subst}
use Rattle.std.specs.Option.{ForSome}
use Rattle.rg_host.specs.Image.{Image}
use Rattle.rg_host.specs.Moments.{Moment}
use Rattle.rg_host.proofs.Laws.{moments-none}
use Rattle.rg_config.specs.Plans.{Planned}
use Rattle.rg_open.specs.Unfit as opened
use Rattle.rg_open.specs.Unfit.{IsLeftAlone}
use Rattle.rg_open.specs.Within.{IsInOpening, IsWithinOpening}
use Rattle.rg_open.specs.declared.fault.OpenFault.{OpenFault}
use Rattle.rg_open.specs.declared.fault.OpenFault.TheVariants as opening
use Rattle.rg_recover.specs.RunFaults.{of_open, SaysWhy, IsGapOrFailed}
use Rattle.rg_run.specs.declared.fault.RunFault.{RunFault}

-- the fault of an opening says why
pub why_open : (plan : Planned) (v : Image) (fault : OpenFault) (ran : RunFault) → ran ≡ of_open fault → opened.SaysWhy plan v fault → SaysWhy plan v ran
why_open plan v fault ran is why = subst (SaysWhy plan v) (sym is) (by fault why)
  where
    by : (f : OpenFault) → opened.SaysWhy plan v f → SaysWhy plan v (of_open f)
    by opening.Disk w = tt
    by (opening.Damaged p) w = w
    by opening.SchemaDiffers w = w
    by (opening.BadState n) w = absurd w
    by opening.Memory w = tt
    by opening.Table w = absurd w

-- a run that never began
pub none_alone : {H : Type 0} (now : H → Option Image) (may : H → Image → Type 0) (clock : H → ℕ) (since : H → ℕ → Moment → Type 0) (said : H → Option (List ℕ))
    (now_may : (h : H) (w : Image) → now h ≡ Some w → may h w) (only : (h : H) (m : Moment) → since h (clock h) m → may h m.image × ForSome (said h) (λ t. m.said ≡ t)) (sinks : (h : H) (t u : ℕ) (m : Moment) → t ≤ u → since h u m → since h t m)
    (v : Image) (old : H) → now old ≡ Some v → IsLeftAlone now may clock since said v old old
none_alone now may clock since said now_may only sinks v old told = record {
  still = λ w is. let same : w ≡ v = one w is in (now_may old w is, ap (λ (u : Image). u 0) same, ap (λ (u : Image). u 1) same, ap (λ (u : Image). u 2) same);
  fewer = λ u left. left;
  said_stays = refl;
  moments = moments-none clock since old (λ m. may old m.image × ForSome (said old) (λ s. m.said ≡ s)) (λ t u m le h. sinks old t u m le h) (λ m h. only old m h);
}
  where
    one : (w : Image) → now old ≡ Some w → w ≡ v
    one w is = let both : ◌≡◌ {A = Option Image} (Some w) (Some v) = sym is ∙ told in cc

-- an opening of a ready store failed
pub gap_or_failed : (fault : OpenFault) (ran : RunFault) → ran ≡ of_open fault → ((p : ℕ) → fault ≡ opening.Damaged p → ⊥) → (fault ≡ opening.SchemaDiffers → ⊥) → ((n : ℕ) → fault ≡ opening.BadState n → ⊥) → IsGapOrFailed ran
gap_or_failed fault ran is damaged differs bad = subst IsGapOrFailed (sym is) (by fault damaged differs bad)
  where
    by : (f : OpenFault) → ((p : ℕ) → f ≡ opening.Damaged p → ⊥) → (f ≡ opening.SchemaDiffers → ⊥) → ((n : ℕ) → f ≡ opening.BadState n → ⊥) → IsGapOrFailed (of_open f)
    by opening.Disk damaged differs bad = tt
    by (opening.Damaged p) damaged differs bad = damaged p refl
    by opening.SchemaDiffers damaged differs bad = differs refl
    by (opening.BadState n) damaged differs bad = bad n refl
    by opening.Memory damaged differs bad = tt
    by opening.Table damaged differs bad = tt

pub none_within : {H : Type 0} (may : H → Image → Type 0) (clock : H → ℕ) (since : H → ℕ → Moment → Type 0) (said : H → Option (List ℕ))
    (only : (h : H) (m : Moment) → since h (clock h) m → may h m.image × ForSome (said h) (λ t. m.said ≡ t)) (sinks : (h : H) (t u : ℕ) (m : Moment) → t ≤ u → since h u m → since h t m)
    (plan : Planned) (keep : Option ℕ) (v : Image) (old : H) → IsWithinOpening may clock since said plan keep v old old
none_within may clock since said only sinks plan keep v old = record {
  moments = moments-none clock since old (λ m. IsInOpening plan keep v (may old) m.image × ForSome (said old) (λ s. m.said ≡ s)) (λ t u m le h. sinks old t u m le h) (λ m h. let at = only old m h in (inl at.0, at.1));
  left = λ u left. inl left;
  said_stays = refl;
}
