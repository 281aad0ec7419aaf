-- A run that answers no line.
use Rattle.std.proofs.Common.{◌≡◌, ◌⊎◌, inl, inr, ⊎_elim, ℕ, zero, suc, ◌<◌, ◌≤◌, List, [], Option, Some, None, refl, ap, sym, ◌∙◌, subst, arith}
use Rattle.std.specs.Option.{ForSome}
use Rattle.std.proofs.lemmas.List.{append-nil}
use Rattle.rg_bytes.specs.Known.{after}
use Rattle.rg_event.specs.declared.event.Event.{Event}
use Rattle.rg_event.specs.Rising.{next_offset}
use Rattle.rg_host.specs.Image.{Image}
use Rattle.rg_host.specs.Moments.{Moment, Moments}
use Rattle.rg_host.specs.Puts.{IsPartWay, Puts}
use Rattle.rg_host.specs.declared.host.Host.{Ghosts as HostMembers}
use Rattle.rg_host.proofs.Laws.{moments-weaker, moments_then}
use Rattle.rg_log.specs.Filled.{HasEventsFor}
use Rattle.rg_checkpoint.specs.Slots.{HasSlot}
use Rattle.rg_config.specs.Plans.{Planned}
use Rattle.rg_open.specs.Stores.{Has, HasSaved}
use Rattle.rg_open.specs.Unfit.{IsLeftAlone}
use Rattle.rg_open.specs.Within.{IsAsRead, IsInOpening, IsWithinOpening}
use Rattle.rg_recover.specs.Ready.{IsReadyStore}
use Rattle.rg_recover.specs.RunFaults.{SaysWhy, IsGapOrFailed}
use Rattle.rg_run.specs.declared.fault.RunFault.{RunFault}
use Rattle.rg_run.specs.declared.fault.RunFault.TheVariants as run
use Rattle.rg_commands.specs.Call.{EndsRun, gap_line}
use Rattle.rg_commands.specs.Outcome.{host_outcome}
use Rattle.rg_commands.specs.Texts.{PutsLast}
use Rattle.rg_commands.specs.TurnedAway.{EndsFailed, EndsUnfit, EndsBehind, IsTurnedAway, KeepsAll, IsBehind}
use Rattle.rg_messages.specs.declared.status.Status.{Status}
use Rattle.rg_messages.specs.declared.status.Status.TheVariants.{Ok, Store, Read, Disk, Memory, Gap}
use Rattle.rg_commands.proofs.Ends.{puts_line}

-- by the fault that the run met
pub ends_unfit : (plan : Planned) (v : Image) (first : ℕ) (cause : RunFault) (status : Status) (last : List ℕ) → EndsRun first cause status last → SaysWhy plan v cause → EndsUnfit plan v ⊥ status last
ends_unfit plan v first run.Disk status last ends why = inr (inr (inl ends))
ends_unfit plan v first (run.Damaged place) status last ends why = ⊎_elim (λ says. inl (says.0, inr (place, says.1, why))) (λ memory. inr (inl memory)) ends
ends_unfit plan v first run.SchemaDiffers status last ends why = ⊎_elim (λ says. inl (says.0, inl (says.1, why))) (λ memory. inr (inl memory)) ends
ends_unfit plan v first (run.BadState node) status last ends why = absurd why
ends_unfit plan v first (run.Gap next) status last ends why = absurd why
ends_unfit plan v first run.Read status last ends why = absurd why
ends_unfit plan v first run.Limit status last ends why = absurd why
ends_unfit plan v first run.Memory status last ends why = inr (inl ends)
ends_unfit plan v first run.Write status last ends why = absurd why

-- by a cause of a read that failed
pub failed_for : (unread : Type 0) (status : Status) (last : List ℕ) → EndsFailed ⊥ status last → EndsFailed unread status last
failed_for unread status last (inl memory) = inl memory
failed_for unread status last (inr (inl disk)) = inr (inl disk)
failed_for unread status last (inr (inr read)) = absurd read.1

-- behind the store's next offset
pub ends_behind : (first next : ℕ) (cause : RunFault) (status : Status) (last : List ℕ) → EndsRun first cause status last → IsGapOrFailed cause → ((n : ℕ) → cause ≡ run.Gap n → n ≡ next) → EndsBehind first next ⊥ status last
ends_behind first next run.Disk status last ends why is = inr (inr (inl ends))
ends_behind first next (run.Damaged place) status last ends why is = absurd why
ends_behind first next run.SchemaDiffers status last ends why is = absurd why
ends_behind first next (run.BadState node) status last ends why is = absurd why
ends_behind first next (run.Gap n) status last ends why is = ⊎_elim (λ says. inl (says.0, says.1 ∙ ap (λ k. gap_line first k) (is n refl))) (λ memory. inr (inl memory)) ends
ends_behind first next run.Read status last ends why is = absurd why
ends_behind first next run.Limit status last ends why is = absurd why
ends_behind first next run.Memory status last ends why is = inr (inl ends)
ends_behind first next run.Write status last ends why is = absurd why

failed_status : (unread failed : Type 0) (status : Status) (last : List ℕ) → EndsFailed unread status last → (status ≡ Disk → failed) → (unread ⊎ failed → ⊥) → status ≡ Memory
failed_status unread failed status last (inl memory) disk none = memory.0
failed_status unread failed status last (inr (inl is)) disk none = absurd (none (inr (disk is.0)))
failed_status unread failed status last (inr (inr read)) disk none = absurd (none (inl read.1))

-- where no count rose
pub unfit_status : (plan : Planned) (v : Image) (unread failed : Type 0) (status : Status) (last : List ℕ) → EndsUnfit plan v unread status last → (status ≡ Disk → failed) → (unread ⊎ failed → ⊥) → (status ≡ Store) ⊎ (status ≡ Memory)
unfit_status plan v unread failed status last (inl says) disk none = inl says.0
unfit_status plan v unread failed status last (inr ends) disk none = inr (failed_status unread failed status last ends disk none)

pub behind_status : (first next : ℕ) (unread failed : Type 0) (status : Status) (last : List ℕ) → EndsBehind first next unread status last → (status ≡ Disk → failed) → (unread ⊎ failed → ⊥) → (status ≡ Gap) ⊎ (status ≡ Memory)
behind_status first next unread failed status last (inl says) disk none = inl says.0
behind_status first next unread failed status last (inr ends) disk none = inr (failed_status unread failed status last ends disk none)

-- nothing was put
after-nothing : (told : Option (List ℕ)) → after told [] ≡ told
after-nothing (Some t) = ap (λ x. Some x) (append-nil t)
after-nothing None = refl

silent_puts : {H : Type 0} (clock : H → ℕ) (since : H → ℕ → Moment → Type 0) (said : H → Option (List ℕ)) (P : Moment → Type 0) (old mid : H) → said mid ≡ said old → Moments clock since old mid (λ m. P m × ForSome (said old) (λ s. m.said ≡ s)) → Puts said clock since old mid []
silent_puts clock since said P old mid same moments = record {
  grows = same ∙ sym (after-nothing (said old));
  moments = moments-weaker clock since old mid (λ m. P m × ForSome (said old) (λ s. m.said ≡ s)) (λ m. ForSome (said old) (λ s. IsPartWay s [] m.said)) moments (λ m h s is. ([], ([], refl), h.1 s is ∙ sym (append-nil s)));
}

-- The last line was put.
module _ {H : Type 0} (g : HostMembers H) (old mid new : H) (last : List ℕ) (e : PutsLast g last mid new) (later : g.out_faults old ≤ g.out_faults mid) (plan : Planned) (unread : Type 0) (status : Status) where
  pub turned_away : (v : Image) → IsLeftAlone g.now g.may g.clock g.since g.said v old mid → EndsUnfit plan v unread status last → IsTurnedAway plan v unread (host_outcome g old new) status
  turned_away v alone ends = record {
    last = last;
    ends = ends;
    line = puts_line g old mid new last e later (silent_puts g.clock g.since g.said (λ m. g.may old m.image) old mid alone.said_stays alone.moments);
    still = λ w is. alone.still w (sym e.leaves.now_stays ∙ is);
    fewer = λ u left. alone.fewer u (e.leaves.may_stays.no_more u left);
    moments = moments_then g.clock g.since old mid new _ _ (λ m. g.may old m.image) alone.moments e.leaves.moments (λ m h. h.0) (λ m h. alone.fewer m.image h);
  }

  module _ (ready : IsReadyStore plan (g.now old) (g.may old)) (first slot : ℕ) (within : IsWithinOpening g.may g.clock g.since g.said plan (Some slot) ready.openable.image old mid) (ends : EndsBehind first (next_offset ready.held) unread status last) where
    abbrev u0 : Image
    u0 = ready.openable.image

    slot_read : (u : Image) → IsAsRead u0 (g.may old) u → (s : ℕ) → s < 2 → u s ≡ u0 s
    slot_read u is zero below = is.1
    slot_read u is (suc zero) below = is.2
    slot_read u is (suc (suc s)) below = absurd (omega (arith, below))

    saved_read : (u : Image) (count : ℕ) → IsAsRead u0 (g.may old) u → HasSaved plan slot count u0 → HasSaved plan slot count u
    saved_read u count is has = record { below = has.below; checkpoint = has.checkpoint; complete = subst (λ (bytes : List ℕ). HasSlot bytes has.checkpoint) (sym (slot_read u is slot has.below)) has.complete; texts = has.texts; most = has.most }

    keeps_all : (u : Image) → IsInOpening plan (Some slot) u0 (g.may old) u → g.may old u ⊎ KeepsAll plan ready.held u0 (g.may old) slot u
    keeps_all u (inl left) = inl left
    keeps_all u (inr (mid_step, at_open)) = inr (record {
      truthful = mid_step.truthful (ready.openable.truthful mid_step.from mid_step.left.0);
      has = ⊎_elim (λ has. has) (λ has. subst (λ (es : List Event). Has plan es u) (append-nil ready.held) has) (mid_step.events ready.held (subst (λ (bytes : List ℕ). HasEventsFor plan.shape plan.defaults ready.held bytes) (sym mid_step.left.3) ready.has));
      saved = λ count has. mid_step.slots slot count refl (saved_read mid_step.from count mid_step.left has);
      opened = at_open;
    })

    pub lies_behind : IsBehind plan ready.held u0 first slot unread (host_outcome g old new) status
    lies_behind = record {
      last = last;
      ends = ends;
      line = puts_line g old mid new last e later (silent_puts g.clock g.since g.said (λ m. IsInOpening plan (Some slot) u0 (g.may old) m.image) old mid within.said_stays within.moments);
      left = λ u left. keeps_all u (within.left u (e.leaves.may_stays.no_more u left));
      moments = moments_then g.clock g.since old mid new _ _ (λ m. g.may old m.image ⊎ KeepsAll plan ready.held u0 (g.may old) slot m.image) within.moments e.leaves.moments (λ m h. keeps_all m.image h.0) (λ m h. keeps_all m.image (within.left m.image h));
    }
