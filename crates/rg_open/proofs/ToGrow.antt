-- A log at whose end a schema is in force that grows to another one.
use Rattle.std.proofs.Common.{◌≡◌, inl, inr, ℕ, List, [], ◌∷◌, refl, subst}
use Rattle.rg_event.specs.Shapes.{Shape}
use Rattle.rg_growth.specs.Filling.{Given}
use Rattle.rg_frame.specs.Frames.{HasPayloads}
use Rattle.rg_frame.proofs.Laws.{payloads_one}
use Rattle.rg_log.specs.Filled.{IsOfSchemaFor}
use Rattle.rg_log.specs.Log.{HasLegalLog, IsInForce}
use Rattle.rg_log.specs.Stages.{logged}
use Rattle.rg_log.proofs.Laws.{in_force_of}
use Rattle.rg_reservoir.specs.Attached.{IsToGrow}
use Rattle.rg_reservoir.proofs.Laws.{in_force_by, to_grow_framed}

module _ (shape : Shape) (defaults : Given) (bytes : List ℕ) (g : IsToGrow shape defaults bytes) where
  -- it has a frame
  pub has_frame : HasPayloads [] bytes → ⊥
  has_frame none =
      let f = to_grow_framed shape defaults bytes g in
      let e : f.0 ∷ f.1 ≡ [] = payloads_one (f.0 ∷ f.1) [] bytes f.2 none in
      absurd cc

  -- that schema is the one that its frames say
  same_schema : (other : Shape) → IsInForce other bytes → IsInForce g.from bytes
  same_schema other framed = subst (λ (s : Shape). IsInForce s bytes) (in_force_by shape defaults other bytes g framed) framed

  -- where the log is legal
  pub framed_in : HasLegalLog bytes → IsInForce g.from bytes
  framed_in (inl none) = absurd (has_frame none)
  framed_in (inr is) = same_schema is.0 (in_force_of payloads_one is.0 (logged is.1) bytes (to_grow_framed shape defaults bytes g) (is.1, is.2, refl))

  -- and where it is of that other schema
  pub framed_of : IsOfSchemaFor shape defaults bytes → IsInForce g.from bytes
  framed_of (inl (inl none)) = absurd (has_frame none)
  framed_of (inl (inr framed)) = same_schema shape framed
  framed_of (inr (from, values, fills, framed)) = same_schema from framed
