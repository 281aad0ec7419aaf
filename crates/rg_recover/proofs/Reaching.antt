-- A file that reaches the end of its log, as a fact of numbers.
use Rattle.std.proofs.Common.{◌≡◌, ◌⊎◌, inl, inr, ◌<◌, ◌≤◌, ℕ, Bool, true, false, List, length, Option, Some, None, refl, sym, ◌∙◌, subst, arith, true≢false}
use Rattle.std.proofs.lemmas.Bool.{cases_lt}
use Rattle.rg_host.specs.Image.{Image}
use Rattle.rg_frame.specs.LogState.{Reaches, ReachesEnd}
use Rattle.rg_checkpoint.specs.Sizes.{ReachesSizes, end_of}
use Rattle.rg_checkpoint.specs.Slots.{ReachesSlots}
use Rattle.rg_checkpoint.specs.declared.sizes.SlotSizes.{SlotSizes}
use Rattle.rg_reservoir.specs.Kept.{log_of}
use Rattle.rg_recover.specs.Sessions.{Sitting}
use Rattle.rg_recover.specs.Living.{IsLong, IsLongSlot, IsReaching}

long_of : (end : ℕ) (bytes : List ℕ) → Reaches end bytes → IsLong end bytes
long_of end bytes (inl longer) = (λ _. longer, λ _. longer)
long_of end bytes (inr short) = (λ some. absurd (omega (arith, some, short.0)), λ more. absurd (omega (arith, more, short.1)))

reaches_by : (end : ℕ) (bytes : List ℕ) → IsLong end bytes → (1 < length bytes) ⊎ (length bytes ≤ 1) → (0 < end) ⊎ (end ≤ 0) → Reaches end bytes
reaches_by end bytes is (inl more) at = inl (is.1 more)
reaches_by end bytes is (inr short) (inl some) = inl (is.0 some)
reaches_by end bytes is (inr short) (inr none) = inr (omega (arith, none), short)

long_slot : (known : Option SlotSizes) (bytes : List ℕ) → ReachesSizes known bytes → IsLongSlot known bytes
long_slot (Some sizes) bytes reaches s is = let same : sizes ≡ s = cc in subst (λ (z : SlotSizes). end_of z < length bytes) same reaches
long_slot None bytes reaches s is = absurd cc

slot_reaches : (known : Option SlotSizes) (bytes : List ℕ) → IsLongSlot known bytes → ReachesSizes known bytes
slot_reaches (Some sizes) bytes long = long sizes refl
slot_reaches None bytes long = tt

module _ {T : Type 0} (s : Sitting T) (now : Option Image) where
  pub reaching : (s.ended ≡ false → ReachesEnd (log_of s.reservoir) now) → (s.ended ≡ false → ReachesSlots s.slots now) → IsReaching s now
  reaching reaches slots going = (
    λ open_log v is. long_of (log_of s.reservoir).end (v (log_of s.reservoir).file) (reaches going open_log v is),
    λ open_slots v is. let both = slots going open_slots v is in (long_slot s.slots.first_sizes (v 0) both.0, long_slot s.slots.second_sizes (v 1) both.1),
  )

  pub reaches : IsReaching s now → s.ended ≡ false → ReachesEnd (log_of s.reservoir) now
  reaches is going open_log v told = let long = (is going).0 open_log v told in reaches_by (log_of s.reservoir).end (v (log_of s.reservoir).file) long (cases_lt 1 (length (v (log_of s.reservoir).file))) (cases_lt 0 (log_of s.reservoir).end)

  pub slots_reach : IsReaching s now → s.ended ≡ false → ReachesSlots s.slots now
  slots_reach is going open_slots v told = let long = (is going).1 open_slots v told in (slot_reaches s.slots.first_sizes (v 0) long.0, slot_reaches s.slots.second_sizes (v 1) long.1)

-- where a session that had ended stays as it was, its slots' files reach as far as they did
pub slots_on : {T : Type 0} (s t : Sitting T) (now next : Option Image) → IsReaching s now → (s.ended ≡ true → t.ended ≡ s.ended) → (ReachesSlots s.slots now → t.ended ≡ false → ReachesSlots t.slots next) → t.ended ≡ false → ReachesSlots t.slots next
slots_on s t now next is same on going = on (slots_reach s now is (by s.ended refl)) going
  where
    by : (b : Bool) → s.ended ≡ b → b ≡ false
    by true ended = absurd (true≢false (sym ended ∙ sym (same ended) ∙ going))
    by false ended = refl
