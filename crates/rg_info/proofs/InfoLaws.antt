-- The lines on a store are told by its image, and those on a legal log by its events.
use Rattle.std.proofs.Common.{◌≡◌, ◌∙◌, ℕ, suc, ◌+◌, List, [], ◌∷◌, length, map, Option, Some, None, refl, sym, ap, arith}
use Rattle.rg_event.specs.Shapes.{Shape}
use Rattle.rg_event.specs.declared.event.Event.{Event}
use Rattle.rg_frame.specs.Frames.{HasPayloads}
use Rattle.rg_host.specs.Image.{Image}
use Rattle.rg_log.specs.Log.{IsInForce, IsLegalLog}
use Rattle.rg_log.specs.Stages.{Stage as Said, logged}
use Rattle.rg_checkpoint.specs.Slots.{IsSlot}
use Rattle.rg_checkpoint.specs.declared.base.Checkpoint.{Checkpoint}
use Rattle.rg_checkpoint.proofs.Laws.{slot_told}
use Rattle.rg_reservoir.proofs.Laws.{walked}
use Rattle.rg_dump.specs.Stages.{Stages, stages_of}
use Rattle.rg_dump.proofs.Laws.{ReadsAs, legal_stages, empty_stages, read_events}
use Rattle.rg_info.specs.Info.{slot_text, info_lines, IsInfo, LogSays}
use Rattle.rg_info.specs.Summary.{summary_with, summary_of, summary_in}
use Rattle.rg_info.specs.declared.summary.Summary.{Summary}

-- what a slot holds is told by its bytes
slot_one : (bytes : List ℕ) (a b : Option Checkpoint) → IsSlot bytes a → IsSlot bytes b → a ≡ b
slot_one bytes None None x y = refl
slot_one bytes None (Some b) x y = absurd (x b y)
slot_one bytes (Some a) b x y = sym (slot_told bytes b a y x)

pub info_one : (v : Image) (a b : List (List ℕ)) → IsInfo v a → IsInfo v b → a ≡ b
info_one v a b x y =
    let summary = summary_in (v 2) in
    x.are ∙ ap (λ (o : Option Checkpoint). info_lines summary o x.second) (slot_one (v 0) x.first y.first x.first_is y.first_is)
    ∙ ap (λ (o : Option Checkpoint). info_lines summary y.first o) (slot_one (v 1) x.second y.second x.second_is y.second_is) ∙ sym y.are

walked_count : (said : List Said) → length (map walked said) ≡ length said
walked_count [] = refl
walked_count (one ∷ said) = ap suc (walked_count said)

says : (v : Image) (lines : List (List ℕ)) (frames : ℕ) (events : List Event) → summary_in (v 2) ≡ summary_with frames events → IsInfo v lines → LogSays events frames lines
says v lines frames events is info = (slot_text 0 info.first ∷ (slot_text 1 info.second ∷ []), info.are ∙ ap (λ (s : Summary). info_lines s info.first info.second) is)

pub info_legal : (shape : Shape) (said : List Said) (v : Image) (lines : List (List ℕ)) → IsInForce shape (v 2) → IsLegalLog shape said (v 2) → IsInfo v lines → LogSays (logged said) (1 + length said) lines
info_legal shape said v lines framed legal info =
    says v lines (1 + length said) (logged said) (ap (summary_with (length (stages_of (v 2)).stages)) (read_events shape (v 2) said reads) ∙ ap (λ (n : ℕ). summary_with n (logged said)) count) info
  where
    reads : ReadsAs (v 2) shape said
    reads = legal_stages (v 2) shape said framed legal

    count : length (stages_of (v 2)).stages ≡ 1 + length said
    count = ap (λ (s : Stages). length s.stages) reads.stages ∙ ap suc (walked_count said) ∙ omega arith

pub info_empty : (v : Image) (lines : List (List ℕ)) → HasPayloads [] (v 2) → IsInfo v lines → LogSays [] 0 lines
info_empty v lines none info = says v lines 0 [] (ap (λ (s : Stages). summary_of s.stages) (empty_stages (v 2) none)) info
