-- How a replay reads a log on, whatever stands in it.
use Rattle.std.proofs.Common.{◌≡◌, ◌⊎◌, inl, inr, ℕ, List, length, Option, Some, None, Result, Ok, Err, IfSome, OnOk, MatchOption, refl, sym, ap, subst, arith, ◌∙◌}
use Rattle.std.specs.Prelude.{IfNone, IfErr}
use Rattle.std.specs.Option.{ForSome}
use Rattle.rg_event.specs.Shapes.{Shape}
use Rattle.rg_frame.specs.Frames.{HasPayloads}
use Rattle.rg_host.specs.Image.{Image}
use Rattle.rg_past.specs.declared.past.Spot.{Spot}
use Rattle.rg_plan.specs.Plans.{Tasks}
use Rattle.rg_log.specs.declared.summary.LogSummary.{LogSummary}
use Rattle.rg_reservoir.specs.Attached.{IsOpened}
use Rattle.rg_reservoir.specs.Kept.{Base, base, view_of, cache_of}
use Rattle.rg_reservoir.specs.Reached.{IsReached, IsWhole}
use Rattle.rg_reservoir.specs.declared.reservoir.Reservoir.{Reservoir}
use Rattle.rg_replay.specs.declared.fault.ReplayFault.{ReplayFault}
use Rattle.rg_replay.specs.declared.fault.ReplayFault.TheVariants.{Disk, Damaged, SchemaDiffers, BadState, Memory, Write}
use Rattle.rg_replay.specs.Playing.{IsCausedOver, IsExpected, IsLegalThrough, IsRefusedOf}

pub read_on : {A : Type 0} (found : Option A) (Whole Is Reached : Type 0) → (Is → Reached) → IfSome found (λ _. Is) → IfNone found Whole → MatchOption found Whole (λ _. Reached)
read_on None Whole Is Reached makes some none = none
read_on (Some x) Whole Is Reached makes some none = makes some

-- a host that nothing was written on
pub reached_still : (now then : Option Image) (r : Reservoir) (spot : Spot) → then ≡ now → IsReached now (base r) (cache_of r) spot → IsReached then (base r) (cache_of r) spot
reached_still now then r spot same reached = subst (λ (o : Option Image). IsReached o (base r) (cache_of r) spot) (sym same) reached

pub whole_since : (now then : Option Image) (b c : Base) → then ≡ now → c ≡ b → ForSome then (λ v. IsWhole c (v c.file)) → ForSome now (λ v. IsWhole b (v b.file))
whole_since now then b c same base whole = λ v told. subst (λ (x : Base). IsWhole x (v x.file)) base (whole v (same ∙ told))

pub on_ok : {E : Type 0} (result : Result Unit E) (P : Type 0) → P → OnOk result P
on_ok (Ok x) P p = p
on_ok (Err e) P p = tt

pub on_ok_some : {E : Type 0} (result : Result Unit E) (now : Option Image) (P : Image → Type 0) → ((v : Image) → now ≡ Some v → OnOk result (P v)) → OnOk result (ForSome now P)
on_ok_some (Ok x) now P f = f
on_ok_some (Err e) now P f = tt

pub on_ok_then : {E : Type 0} (result : Result Unit E) (P Q : Type 0) → (P → Q) → OnOk result P → OnOk result Q
on_ok_then (Ok x) P Q f p = f p
on_ok_then (Err e) P Q f p = tt

-- a log that was opened and read to its end
pub legal_through : (shape : Shape) (b : Base) (summary : LogSummary) (now then : Option Image) (v : Image) → then ≡ now → now ≡ Some v → b.file ≡ 2 → b.shape ≡ shape → b.committed ≡ summary.count → IsOpened (view_of b) b.first b.end summary (v 2) → ForSome then (λ u. IsWhole b (u b.file)) → IsLegalThrough shape (v 2)
legal_through shape b summary now then v same told file is count opened whole =
    let w : IsWhole b (v 2) = subst (λ (f : ℕ). IsWhole b (v f)) file (whole v (same ∙ told)) in
    record {
      view = view_of b;
      first = b.first;
      end = b.end;
      summary = summary;
      opened = opened;
      shape_is = is;
      legal = λ chunks place chain few before bad. w.none chunks place chain (omega (arith, count, few)) before bad;
    }

-- what a refusal of the store is of
pub refused_of : {H : Type 0} (now : H → Option Image) (may : Image → Type 0) (disk_faults out_faults : H → ℕ) (tasks : Tasks) (shape : Shape) (fault : ReplayFault) (old new : H) → IsCausedOver now disk_faults out_faults shape fault old new → ((node : ℕ) → fault ≡ BadState node → IsRefusedOf tasks shape (now old) may (BadState node))
    → IsRefusedOf tasks shape (now old) may fault
refused_of now may disk_faults out_faults tasks shape Disk old new cause bad = tt
refused_of now may disk_faults out_faults tasks shape (Damaged p) old new cause bad = cause.damaged p refl
refused_of now may disk_faults out_faults tasks shape SchemaDiffers old new cause bad = cause.differs refl
refused_of now may disk_faults out_faults tasks shape (BadState node) old new cause bad = bad node refl
refused_of now may disk_faults out_faults tasks shape Memory old new cause bad = tt
refused_of now may disk_faults out_faults tasks shape Write old new cause bad = tt

pub not_expected : (fault : ReplayFault) (node : ℕ) → fault ≡ BadState node → IsExpected fault → ⊥
not_expected fault node is (inl disk) = cc
not_expected fault node is (inr (inl memory)) = cc
not_expected fault node is (inr (inr write)) = cc

pub if_err_then : {E : Type 0} (result : Result Unit E) (P Q : E → Type 0) → ((e : E) → result ≡ Err e → P e → Q e) → IfErr result P → IfErr result Q
if_err_then (Ok x) P Q f p = tt
if_err_then (Err e) P Q f p = f e refl p
