-- What is said of a slot.
use Rattle.std.proofs.Common.{◌≡◌, ℕ, Bool, List, Some, length, refl, sym, subst}
use Rattle.std.specs.Prelude.{◌↔◌, IsTrue}
use Rattle.rg_event.specs.Shapes.{Shape}
use Rattle.rg_event.specs.declared.event.Event.{Event}
use Rattle.rg_event.specs.declared.schema.Field.{Field}
use Rattle.rg_frame.specs.Frames.{HasPayloads}
use Rattle.rg_plan.specs.Plans.{Tasks}
use Rattle.rg_checkpoint.specs.declared.base.Checkpoint.{Checkpoint}
use Rattle.rg_verify.specs.Fitting.{FitsAmong, terms_of, IsRowVerdict}
use Rattle.rg_verify.specs.Payments.{is_framed}
use Rattle.rg_verify.specs.Verdicts.{IsFitIn, IsVerdict}
use Rattle.rg_verify.proofs.Fits.{fits_in, fits_among}
use Rattle.rg_verify.specs.declared.verdict.Verdict.{Verdict}
use Rattle.rg_verify.specs.declared.verdict.Verdict.TheVariants.{Missing, Other, Unfit, Right, Wrong}

-- of the rows of a fit checkpoint
pub rows_said : (queries : List (List ℕ)) (shape : Shape) (tasks : Tasks) (bytes : List ℕ) (events : List Event) (c : Checkpoint) (verdict : Verdict) → IsFitIn (terms_of queries shape tasks) bytes events c → IsRowVerdict tasks events c verdict → IsVerdict (terms_of queries shape tasks) bytes events (Some c) verdict
rows_said queries shape tasks bytes events c Missing fit is = absurd is
rows_said queries shape tasks bytes events c (Other count) fit is = absurd is
rows_said queries shape tasks bytes events c (Unfit count) fit is = absurd is
rows_said queries shape tasks bytes events c (Right count) fit is = (is.0, fit, is.1)
rows_said queries shape tasks bytes events c (Wrong node) fit is = (fit, is)

module _ (queries : List (List ℕ)) (shape : Shape) (fields : List Field) (tasks : Tasks) (bytes : List ℕ) (payloads : List (List ℕ)) (events : List Event) (c : Checkpoint) (columns : shape.fields ≡ fields) (has : HasPayloads payloads bytes)
    (framed : Bool) (framed_is : framed ≡ is_framed bytes) (same : c.queries ≡ queries) (is : Bool) (told : IsTrue is ↔ FitsAmong fields tasks framed (length events) payloads c) where
  -- of a fit one
  pub fit_said : IsTrue is → (verdict : Verdict) → IsRowVerdict tasks events c verdict → IsVerdict (terms_of queries shape tasks) bytes events (Some c) verdict
  fit_said does verdict rows =
      let fits : FitsAmong fields tasks (is_framed bytes) (length events) payloads c = subst (λ b. FitsAmong fields tasks b (length events) payloads c) framed_is (told.0 does) in
      rows_said queries shape tasks bytes events c verdict (fits_in queries shape fields tasks bytes payloads events c columns has same fits) rows

  -- of an unfit one
  pub unfit_said : (IsTrue is → ⊥) → IsVerdict (terms_of queries shape tasks) bytes events (Some c) (Unfit c.count)
  unfit_said isnt = (
    refl,
    same,
    λ fit. isnt (told.1 (subst (λ b. FitsAmong fields tasks b (length events) payloads c) (sym framed_is) (fits_among queries shape fields tasks bytes payloads events c columns has fit))),
  )
