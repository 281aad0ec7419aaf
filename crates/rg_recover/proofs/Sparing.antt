-- Slots that a call doesn't write.
use Rattle.std.proofs.Common.{◌≡◌, ◌≢◌, ◌<◌, ◌≤◌, inl, refl, ℕ, List, Option, ◌∙◌, subst}
use Rattle.std.specs.Option.{ForSome}
use Rattle.rg_host.specs.Image.{Image, NothingPending}
use Rattle.rg_host.specs.Moments.{Moment, LeavesAll}
use Rattle.rg_host.proofs.Laws.{moments-weaker, moments_then, leaves_all-none}
use Rattle.rg_frame.specs.Calls.{Writes}
use Rattle.rg_frame.specs.Steps.{Leaves}
use Rattle.rg_checkpoint.specs.Slots.{other_of}
use Rattle.rg_recover.specs.Sparing.{IsSpared, SparesOne}
use Rattle.rg_recover.specs.Stepping.{SlotsStay}
use Rattle.rg_recover.specs.declared.fault.TaskFault.{TaskFault}
use Rattle.rg_recover.proofs.Stays.{slot_settled}

module _ {H : Type 0} (now : H → Option Image) (may : H → Image → Type 0) (clock : H → ℕ) (since : H → ℕ → Moment → Type 0) where
  module _ (said : H → Option (List ℕ)) where
    -- where another file was written
    pub spared_beside : (file slot : ℕ) (Step : List ℕ → List ℕ → Type 0) (old new : H) → slot ≢ file → Writes now may clock since said file Step old new → IsSpared now may clock since slot old new
    spared_beside file slot Step old new apart writes = record {
      moments = λ settled. moments-weaker clock since old new (λ m. Leaves file Step (now old) (may old) m.image × ForSome (said old) (λ s. m.said ≡ s)) (λ m. ForSome (now old) (λ v. m.image slot ≡ v slot)) writes.moments
          (λ m h. as_read settled m.image h.0);
      left = λ settled u one. as_read settled u (writes.left u one);
    }
      where
        as_read : NothingPending slot (now old) (may old) → (u : Image) → Leaves file Step (now old) (may old) u → ForSome (now old) (λ v. u slot ≡ v slot)
        as_read settled u leaves v told = leaves.0.2 slot apart ∙ settled v told leaves.0.0 leaves.0.1

    -- where none was
    pub spared_quiet : (slot : ℕ) (old new : H) → LeavesAll now may clock since said old new → IsSpared now may clock since slot old new
    spared_quiet slot old new leaves = record {
      moments = λ settled. moments-weaker clock since old new (λ m. may old m.image × ForSome (said old) (λ s. m.said ≡ s)) (λ m. ForSome (now old) (λ v. m.image slot ≡ v slot)) leaves.moments (λ m h v told. settled v told m.image h.0);
      left = λ settled u one v told. settled v told u (leaves.may_stays.no_more u one);
    }

    -- no call
    pub spared_still : ((h : H) (m : Moment) → since h (clock h) m → may h m.image × ForSome (said h) (λ s. m.said ≡ s)) → ((h : H) (t u : ℕ) (m : Moment) → t ≤ u → since h u m → since h t m)
        → (slot : ℕ) (host : H) → IsSpared now may clock since slot host host
    spared_still only sinks slot host = spared_quiet slot host host (leaves_all-none now may clock since said host (sinks host) (only host))

  -- behind a call that leaves the slots as they were
  pub spared_then : (slot : ℕ) (old mid new : H) → slot < 2 → SlotsStay (now old) (now mid) (may old) (may mid) → IsSpared now may clock since slot old mid → IsSpared now may clock since slot mid new → IsSpared now may clock since slot old new
  spared_then slot old mid new below stays first second = record {
    moments = λ settled. moments_then clock since old mid new (λ m. ForSome (now old) (λ v. m.image slot ≡ v slot)) (λ m. ForSome (now mid) (λ v. m.image slot ≡ v slot)) (λ m. ForSome (now old) (λ v. m.image slot ≡ v slot))
        (first.moments settled) (second.moments (still settled)) (λ m h. h) (λ m h. before m.image h);
    left = λ settled u one. before u (second.left (still settled) u one);
  }
    where
      still : NothingPending slot (now old) (may old) → NothingPending slot (now mid) (may mid)
      still settled = slot_settled (now old) (now mid) (may old) (may mid) slot below stays settled

      before : (u : Image) → ForSome (now mid) (λ v. u slot ≡ v slot) → ForSome (now old) (λ v. u slot ≡ v slot)
      before u at v told = let a = stays.told v told in at a.0 a.1 ∙ a.2 slot below

-- where neither slot was written
pub spares_both : (Spared : ℕ → Type 0) (keep : Option ℕ) (fault : TaskFault) → ((slot : ℕ) → slot < 2 → Spared slot) → SparesOne Spared keep fault
spares_both Spared keep fault both = record { slot = other_of keep; which = inl refl; beside = λ other below apart. both other below; both = λ none. both }

-- behind a call that leaves the slots as they were
pub spares_then : (First Spared : ℕ → Type 0) (old keep : Option ℕ) (fault : TaskFault) → old ≡ keep → ((slot : ℕ) → slot < 2 → First slot → Spared slot) → SparesOne First old fault → SparesOne Spared keep fault
spares_then First Spared old keep fault same more spares = subst (λ (k : Option ℕ). SparesOne Spared k fault) same (record {
  slot = spares.slot;
  which = spares.which;
  beside = λ other below apart. more other below (spares.beside other below apart);
  both = λ none other below. more other below (spares.both none other below);
})
