-- How far a walk over a log has come.
use Rattle.std.proofs.Common.{◌≡◌, ◌∙◌, ℕ, ◌+◌, ◌≤◌, List, [], ◌∷◌, ◌++◌, length, Option, Some, None, sym, ap, arith, append_assoc}
use Rattle.std.proofs.lemmas.List.{append-nil}
use Rattle.rg_frame.specs.Looks.{IsClosed}
use Rattle.rg_event.specs.Shapes.{Shape}
use Rattle.rg_log.specs.Entries.{nothing, unread}
use Rattle.rg_log.specs.declared.entry.LogSoFar.{LogSoFar}
use Rattle.rg_log.specs.declared.summary.LogSummary.{LogSummary}
use Rattle.rg_reservoir.specs.Walked.{place_of, so_far_of, schema_of as known_of, tally_of, IsNext, IsRefusedWalk}
use Rattle.rg_reservoir.specs.declared.walk.Stage.{Stage}
use Rattle.rg_reservoir.specs.declared.walk.Walk.{Walk}
use Rattle.rg_dump.specs.Stages.{Stages, stages_from, stages_of}
use Rattle.rg_dump.specs.Dump.{damage_of}
use Rattle.rg_dump.proofs.Reading.{reads_end, reads_damage, reads_frame}

-- at most so many frames behind where the walk has come to
abbrev pub rest_at : List ℕ → Walk → ℕ → List Stage
rest_at bytes walk most = (stages_from most (place_of walk) (so_far_of walk) bytes).stages

-- these frames of a file stand before where the walk has come to
pub record IsAt (bytes : List ℕ) (walk : Walk) (stages : List Stage) : Type 0 where
  pub most : ℕ
  pub enough : length bytes ≤ place_of walk + most
  pub are : (stages_of bytes).stages ≡ stages ++ rest_at bytes walk most
  pub damage : damage_of bytes ≡ (stages_from most (place_of walk) (so_far_of walk) bytes).damage

abbrev said : Option Shape → LogSummary → LogSoFar
said schema summary = record { schema = schema; summary = summary }

pub at_start : (bytes : List ℕ) (walk : Walk) → place_of walk ≡ 0 → known_of walk ≡ None → tally_of walk ≡ nothing → IsAt bytes walk []
at_start bytes walk place schema tally =
    let none : unread ≡ so_far_of walk = sym (ap (λ (o : Option Shape). said o (tally_of walk)) schema ∙ ap (said None) tally) in
    let same : stages_of bytes ≡ stages_from (length bytes) (place_of walk) (so_far_of walk) bytes = ap (λ (n : ℕ). stages_from (length bytes) n unread bytes) (sym place) ∙ ap (λ (l : LogSoFar). stages_from (length bytes) (place_of walk) l bytes) none in
    record { most = length bytes; enough = omega arith; are = ap (λ (d : Stages). d.stages) same; damage = ap (λ (d : Stages). d.damage) same }

pub at_next : (bytes : List ℕ) (s : Stage) (old new : Walk) (stages : List Stage) → IsAt bytes old stages → IsNext bytes old s new → IsAt bytes new (stages ++ s ∷ [])
at_next bytes s old new stages at next =
    let b = reads_frame at.most s old new bytes at.enough next in
    record {
      most = b.fewer;
      enough = b.enough;
      are = at.are ∙ ap (λ (d : Stages). stages ++ d.stages) b.is ∙ sym (append_assoc stages (s ∷ []) _);
      damage = at.damage ∙ ap (λ (d : Stages). d.damage) b.is;
    }

-- the frame that the walk took was the first one of the rest
pub rest_next : (bytes : List ℕ) (s : Stage) (old new : Walk) (stages : List Stage) (at : IsAt bytes old stages) (next : IsNext bytes old s new) → rest_at bytes old at.most ≡ s ∷ rest_at bytes new (at_next bytes s old new stages at next).most
unfolding at_next
rest_next bytes s old new stages at next = ap (λ (d : Stages). d.stages) (reads_frame at.most s old new bytes at.enough next).is

-- at the end of the log and at a damaged place there is none
pub rest_end : (bytes : List ℕ) (walk : Walk) (stages : List Stage) (at : IsAt bytes walk stages) → IsClosed (place_of walk) bytes → rest_at bytes walk at.most ≡ []
rest_end bytes walk stages at closed = ap (λ (d : Stages). d.stages) (reads_end at.most (place_of walk) (so_far_of walk) bytes closed)

pub rest_damage : (bytes : List ℕ) (walk : Walk) (stages : List Stage) (at : IsAt bytes walk stages) → IsRefusedWalk bytes walk → rest_at bytes walk at.most ≡ []
rest_damage bytes walk stages at refused = ap (λ (d : Stages). d.stages) (reads_damage at.most walk bytes at.enough refused)

-- at the end of the log these frames are all
pub at_end : (bytes : List ℕ) (walk : Walk) (stages : List Stage) → IsAt bytes walk stages → IsClosed (place_of walk) bytes → ((stages_of bytes).stages ≡ stages) × (damage_of bytes ≡ None)
at_end bytes walk stages at closed =
    let e = reads_end at.most (place_of walk) (so_far_of walk) bytes closed in
    (at.are ∙ ap (λ (d : Stages). stages ++ d.stages) e ∙ append-nil stages, at.damage ∙ ap (λ (d : Stages). d.damage) e)

-- and at a damaged place
pub at_damage : (bytes : List ℕ) (walk : Walk) (stages : List Stage) → IsAt bytes walk stages → IsRefusedWalk bytes walk → ((stages_of bytes).stages ≡ stages) × (damage_of bytes ≡ Some (place_of walk))
at_damage bytes walk stages at refused =
    let e = reads_damage at.most walk bytes at.enough refused in
    (at.are ∙ ap (λ (d : Stages). stages ++ d.stages) e ∙ append-nil stages, at.damage ∙ ap (λ (d : Stages). d.damage) e)
