-- What a trial promises.
use Rattle.std.specs.Prelude.{◌≡◌, ◌⊎◌, ℕ, List, []}
use Rattle.rg_messages.specs.Statuses.{last_line}
use Rattle.rg_messages.specs.declared.status.Status.{Status}
use Rattle.rg_messages.specs.declared.status.Status.TheVariants.{Ok, Write, Memory}
use Rattle.rg_commands.specs.Call.{IsTrialAt}
use Rattle.rg_commands.specs.Outcome.{HostOutcome}
use Rattle.rg_commands.specs.Checks.{CheckEnds}
use Rattle.rg_commands.specs.Texts.{PutsUpTo, PutsText}

-- How a trial on so many lines of a seed went up to its last line, and why it ended: it has a store of its own in memory, so it ends early for
-- want of memory, or where a put failed, alone.
pub record Tries (lines seed : ℕ) (h : HostOutcome) (status : Status) (last : List ℕ) : Type 0 where
  pub text : List (List ℕ)
  pub is : IsTrialAt status lines seed text
  pub put : PutsUpTo text h status
  pub why : CheckEnds (last ≡ []) h last status
  pub files : h.files_stay
  pub later : h.later

-- What a trial on so many lines of a seed promises, of its host.
pub record SelfPromises (lines seed : ℕ) (h : HostOutcome) (status : Status) : Type 0 where
  -- The four lines of its numbers are put, and then the status's last line; none of them where it wants memory.
  pub text : List (List ℕ)
  pub is : IsTrialAt status lines seed text
  pub put : PutsText text (last_line status) h status
  -- It ends well, for want of memory, or where a put failed.
  pub trial_only : (status ≡ Ok) ⊎ (status ≡ Memory) ⊎ (status ≡ Write)
  -- Where no put failed, it ends well or for want of memory.
  pub completes : (h.put_failed → ⊥) → (status ≡ Ok) ⊎ (status ≡ Memory)
