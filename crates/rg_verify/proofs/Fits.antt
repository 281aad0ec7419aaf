-- A fit checkpoint, by the frames of the log.
use Rattle.std.proofs.Common.{◌≡◌, ℕ, Bool, false, List, length, sym, subst}
use Rattle.std.specs.Prelude.{◌↔◌, All, IsTrue}
use Rattle.std.proofs.lemmas.List.Elements.{All-weaker}
use Rattle.rg_event.specs.Shapes.{Shape}
use Rattle.rg_event.specs.declared.event.Event.{Event}
use Rattle.rg_event.specs.declared.schema.Field.{Field}
use Rattle.rg_frame.specs.Frames.{HasPayloads}
use Rattle.rg_frame.proofs.Laws.{payloads_one}
use Rattle.rg_plan.specs.Plans.{Tasks}
use Rattle.rg_reservoir.specs.Naming.{IsNamed}
use Rattle.rg_checkpoint.specs.declared.base.Checkpoint.{Checkpoint}
use Rattle.rg_restore.specs.Fit.{AreRowsOf}
use Rattle.rg_verify.specs.Fitting.{FitsBeside, FitsAmong, terms_of}
use Rattle.rg_verify.specs.Payments.{is_framed}
use Rattle.rg_verify.specs.Verdicts.{Named, IsFitIn}

module _ (queries : List (List ℕ)) (shape : Shape) (fields : List Field) (tasks : Tasks) (bytes : List ℕ) (payloads : List (List ℕ)) (events : List Event) (c : Checkpoint) (columns : shape.fields ≡ fields) (has : HasPayloads payloads bytes) where
  pub fits_in : c.queries ≡ queries → FitsAmong fields tasks (is_framed bytes) (length events) payloads c → IsFitIn (terms_of queries shape tasks) bytes events c
  fits_in same fits = record {
    framed = fits.beside.has_frame;
    fit = record {
      queries_are = same;
      within = fits.beside.within;
      same = fits.beside.same;
      spelled = All-weaker (IsNamed payloads (length events)) (Named bytes (length events)) (λ spot named. (payloads, has, named)) c.spots fits.named;
      rows = subst (λ (f : List Field). AreRowsOf f tasks c.rows) (sym columns) fits.beside.rows;
    };
  }

  pub fits_among : IsFitIn (terms_of queries shape tasks) bytes events c → FitsAmong fields tasks (is_framed bytes) (length events) payloads c
  fits_among is = record {
    beside = record {
      has_frame = is.framed;
      within = is.fit.within;
      same = is.fit.same;
      rows = subst (λ (f : List Field). AreRowsOf f tasks c.rows) columns is.fit.rows;
    };
    named = All-weaker (Named bytes (length events)) (IsNamed payloads (length events)) (λ spot named. subst (λ (p : List (List ℕ)). IsNamed p (length events) spot) (payloads_one named.0 payloads bytes named.1 has) named.2) c.spots is.fit.spelled;
  }

pub is_false : IsTrue false → ⊥
is_false is = cc

-- what the heads add to a fit
pub among : (fields : List Field) (tasks : Tasks) (framed : Bool) (count : ℕ) (payloads : List (List ℕ)) (c : Checkpoint) (are : Bool) → FitsBeside fields tasks framed count c
    → (IsTrue are ↔ All (IsNamed payloads count) c.spots) → IsTrue are ↔ FitsAmong fields tasks framed count payloads c
among fields tasks framed count payloads c are beside named = (λ is. record { beside = beside; named = named.0 is }, λ fits. named.1 fits.named)

pub not_among : (fields : List Field) (tasks : Tasks) (framed : Bool) (count : ℕ) (payloads : List (List ℕ)) (c : Checkpoint) → (FitsBeside fields tasks framed count c → ⊥) → IsTrue false ↔ FitsAmong fields tasks framed count payloads c
not_among fields tasks framed count payloads c isnt = (λ is. absurd (is_false is), λ fits. absurd (isnt fits.beside))
