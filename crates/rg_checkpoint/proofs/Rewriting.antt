-- A slot that is emptied and then written.
use Rattle.std.proofs.Common.{◌≡◌, ℕ, ◌+◌, ◌≤◌, List, [], length, Option, Some, true, false, refl, ap, ◌∙◌, subst, arith}
use Rattle.std.specs.Prelude.{⊤}
use Rattle.std.specs.Option.{ForSome}
use Rattle.rg_host.specs.Image.{Image, Becomes, InFile, NothingPending}
use Rattle.rg_host.specs.Moments.{Moment, Moments}
use Rattle.rg_host.proofs.Laws.{moments-weaker}
use Rattle.rg_frame.specs.Calls.{Writes}
use Rattle.rg_frame.specs.Frames.{HasPayloads}
use Rattle.rg_frame.specs.LogState.{LogState, ReachesEnd}
use Rattle.rg_frame.specs.Steps.{OldOrNone, Grows, From, Appended}
use Rattle.rg_frame.proofs.Laws.{writes-weaker, writes-then, in_file-then, others-then}
use Rattle.rg_checkpoint.specs.declared.slot.SlotEnd.{SlotEnd}
use Rattle.rg_checkpoint.specs.Rewritten.{IsRewritten, IsRewriting}
use Rattle.rg_checkpoint.specs.Sizes.{end_of, sizes_of}
use Rattle.rg_checkpoint.specs.Slots.{IsOnly, Turns, IsKeep, other_of}
use Rattle.rg_checkpoint.proofs.Lengthening.{log_reaches}
use Rattle.rg_checkpoint.proofs.FoundFrames.{new_log}
use Rattle.rg_checkpoint.proofs.SlotLaws.{turns_cleared, turns_appended, written_appended, kept_apart, kept_left}

-- a log that was cleared
abbrev clear_log : ℕ → LogState
clear_log file = record { file = file; end = 0; ready = true; ended = false }

log_is : (file : ℕ) (a b : LogState) → a ≡ new_log file → b ≡ record a { end = 0; ready = true } → b ≡ clear_log file
log_is file a b first second = second ∙ ap (λ (l : LogState). record l { end = 0; ready = true }) first

pub of_file : (file : ℕ) (a b : LogState) → a ≡ new_log file → b ≡ record a { end = 0; ready = true } → b.file ≡ file
of_file file a b first second = ap (λ (l : LogState). l.file) (log_is file a b first second)

-- no frame is left
abbrev pub Emptied : List ℕ → List ℕ → Type 0
Emptied old new = HasPayloads [] new

all_only : (file next : ℕ) (payload : List ℕ) (a b : LogState) (old mid new : Option Image) → a ≡ new_log file → b ≡ record a { end = 0; ready = true } → Becomes old mid (InFile a.file Emptied) → Becomes mid new (InFile b.file (Appended b.end payload next))
    → Becomes old new (InFile file (λ _ bytes. IsOnly payload bytes))
all_only file next payload a b old mid new first second emptied appended =
    in_file-then file Emptied (Appended 0 payload next) (λ _ bytes. IsOnly payload bytes) old mid new
    (subst (λ (l : LogState). Becomes old mid (InFile l.file Emptied)) first emptied)
    (subst (λ (l : LogState). Becomes mid new (InFile l.file (Appended l.end payload next))) (log_is file a b first second) appended)
    (λ x y z none step. written_appended 0 next payload y z refl none step)

-- the log behind the only frame
end_log : (file : ℕ) (payload : List ℕ) (a b d : LogState) → a ≡ new_log file → b ≡ record a { end = 0; ready = true } → d ≡ record b { end = b.end + 9 + length payload } → d ≡ record { file = file; end = 9 + length payload; ready = true; ended = false }
end_log file payload a b d first second third =
    third ∙ ap (λ (l : LogState). record l { end = l.end + 9 + length payload }) (log_is file a b first second) ∙ ap (λ (n : ℕ). record { file = file; end = n; ready = true; ended = false }) (omega arith)

module _ {H : Type 0} (now : H → Option Image) (may : H → Image → Type 0) where
  pub rewritten_by : (file : ℕ) (payload : List ℕ) (a b : LogState) (end : SlotEnd) (old mid new : H) → a ≡ new_log file → b ≡ record a { end = 0; ready = true } → end.log ≡ record b { end = b.end + 9 + length payload } → end.sizes ≡ sizes_of (length payload)
      → Becomes (now old) (now mid) (InFile a.file Emptied) → Becomes (now mid) (now new) (InFile b.file (Appended b.end payload end.log.end)) → NothingPending b.file (now new) (may new) → ReachesEnd end.log (now new) → IsRewritten now may file payload old new end
  rewritten_by file payload a b end old mid new first second third sizes emptied appended pending reaches =
      let is = end_log file payload a b end.log first second third in
      let at : end.log.end ≡ end_of end.sizes = omega (arith, ap (λ (l : LogState). l.end) is, ap end_of sizes) in
      record {
        is_end = record { file_is = ap (λ (l : LogState). l.file) is; ready = ap (λ (l : LogState). l.ready) is; place = at; going = λ same. ap (λ (l : LogState). l.ended) is };
        sizes = sizes;
        only = all_only file end.log.end payload a b (now old) (now mid) (now new) first second emptied appended;
        pending = subst (λ (f : ℕ). NothingPending f (now new) (may new)) (of_file file a b first second) pending;
        reaches = log_reaches end.log file (end_of end.sizes) (now new) (ap (λ (l : LogState). l.file) is) at (omega arith) (ap (λ (l : LogState). l.ended) is) reaches;
      }

module _ {H : Type 0} (now : H → Option Image) (may : H → Image → Type 0) (clock : H → ℕ) (since : H → ℕ → Moment → Type 0) (said : H → Option (List ℕ)) where
  -- the clearing alone
  pub emptied_turns : (file : ℕ) (payload : List ℕ) (a : LogState) (old new : H) → a ≡ new_log file → Writes now may clock since said a.file OldOrNone old new → Writes now may clock since said file (Turns payload) old new
  emptied_turns file payload a old new first run =
      writes-weaker now may clock since said file OldOrNone (Turns payload) old new (subst (λ (l : LogState). Writes now may clock since said l.file OldOrNone old new) first run) (λ w told bytes step. turns_cleared payload (w file) bytes step)

  -- and an append behind it
  pub appended_turns : (file : ℕ) (payload : List ℕ) (a b : LogState) (old mid new : H) → a ≡ new_log file → b ≡ record a { end = 0; ready = true } → Writes now may clock since said a.file OldOrNone old mid
      → (NothingPending a.file (now old) (may old) → NothingPending a.file (now mid) (may mid)) → Becomes (now old) (now mid) (InFile a.file Emptied) → Writes now may clock since said b.file (From b.end (Grows payload)) mid new
      → Writes now may clock since said file (Turns payload) old new
  appended_turns file payload a b old mid new first second run pending emptied call =
      writes-then now may clock since said file OldOrNone Emptied (From 0 (Grows payload)) (Turns payload) old mid new
      (subst (λ (l : LogState). Writes now may clock since said l.file OldOrNone old mid) first run)
      (subst (λ (l : LogState). NothingPending l.file (now old) (may old) → NothingPending l.file (now mid) (may mid)) first pending)
      (subst (λ (l : LogState). Becomes (now old) (now mid) (InFile l.file Emptied)) first emptied)
      (subst (λ (l : LogState). Writes now may clock since said l.file (From l.end (Grows payload)) mid new) (log_is file a b first second) call)
      (λ w told bytes step. turns_cleared payload (w file) bytes step)
      (λ w told x y none step. turns_appended 0 payload (w file) x y refl none step)

  -- the kept slot is as it was at each moment
  pub kept_stays : (keep : Option ℕ) (payload : List ℕ) (old new : H) → IsKeep keep → Writes now may clock since said (other_of keep) (Turns payload) old new → (i : ℕ) → keep ≡ Some i → NothingPending i (now old) (may old)
      → Moments clock since old new (λ m. ForSome (now old) (λ w. m.image i ≡ w i))
  kept_stays keep payload old new legal run i is settled =
      moments-weaker clock since old new _ _ run.moments (λ m has. kept_left (other_of keep) i (Turns payload) (now old) (may old) (kept_apart keep i legal is) settled m.image has.0)

  module _ (disk out seen : H → ℕ) where
    pub rewriting_emptied : (file : ℕ) (payload : List ℕ) (a : LogState) (old new : H) → a ≡ new_log file → Writes now may clock since said a.file OldOrNone old new → Becomes (now old) (now new) (InFile a.file (λ _ _. ⊤))
        → disk old ≤ disk new → out new ≡ out old → seen old ≤ seen new → IsRewriting now may clock since said disk out seen file payload old new
    rewriting_emptied file payload a old new first run others more same reads = record {
      leaves = emptied_turns file payload a old new first run;
      others = subst (λ (l : LogState). Becomes (now old) (now new) (InFile l.file (λ _ _. ⊤))) first others;
      disk_faults = more;
      out_faults = same;
      reads = reads;
    }

    pub rewriting_appended : (file : ℕ) (payload : List ℕ) (a b : LogState) (old mid new : H) → a ≡ new_log file → b ≡ record a { end = 0; ready = true } → Writes now may clock since said file (Turns payload) old new
        → Becomes (now old) (now mid) (InFile a.file (λ _ _. ⊤)) → Becomes (now mid) (now new) (InFile b.file (λ _ _. ⊤)) → disk old ≤ disk mid → disk mid ≤ disk new → out mid ≡ out old → out new ≡ out mid → seen old ≤ seen mid → seen new ≡ seen mid
        → IsRewriting now may clock since said disk out seen file payload old new
    rewriting_appended file payload a b old mid new first second leaves one two more less same still reads quiet = record {
      leaves = leaves;
      others =
          others-then file (λ _ _. ⊤) (λ _ _. ⊤) (now old) (now mid) (now new) (subst (λ (l : LogState). Becomes (now old) (now mid) (InFile l.file (λ _ _. ⊤))) first one)
          (subst (λ (l : LogState). Becomes (now mid) (now new) (InFile l.file (λ _ _. ⊤))) (log_is file a b first second) two);
      disk_faults = omega (arith, more, less);
      out_faults = still ∙ same;
      reads = omega (arith, reads, quiet);
    }
