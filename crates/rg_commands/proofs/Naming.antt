-- What every call promises, by its names.
use Rattle.std.proofs.Common.{◌≡◌, ◌⊎◌, inl, inr, ⊎_elim, ℕ, List, Option, Some, refl, ap, sym, ◌∙◌, subst}
use Rattle.rg_bytes.specs.Known.{after}
use Rattle.rg_messages.specs.Statuses.{last_line}
use Rattle.rg_messages.specs.declared.refusal.Refusal.{Refusal}
use Rattle.rg_messages.specs.declared.status.Status.{Status}
use Rattle.rg_messages.specs.declared.status.Status.TheVariants.{Plan as BadPlan, Store, Gap}
use Rattle.rg_commands.specs.declared.command.Command.{Command}
use Rattle.rg_commands.specs.declared.command.Command.TheVariants.{Run}
use Rattle.rg_commands.specs.Causes.{cause, causes, EveryCall}
use Rattle.rg_commands.specs.Commands.{Promises}
use Rattle.rg_commands.specs.Outcome.{HostOutcome, Outcome}
use Rattle.rg_commands.specs.Runs.{RunPromises}
use Rattle.rg_commands.specs.Texts.{EndsWith, IsOwnLine}

-- of the command that the words name
pub own : (command known : Option Command) (o : Outcome) (status : Status) → command ≡ known → Promises command o status → Promises known o status
own command known o status is promises = subst (λ c. Promises c o status) is promises

pub ran_by : (command : Option Command) (first : ℕ) (o : Outcome) (status : Status) → command ≡ Some (Run first) → Promises command o status → RunPromises first o status
ran_by command first o status is promises = own command (Some (Run first)) o status is promises

-- of a status that is known
pub why_at : (command : Option Command) (o : Outcome) (told : Option Refusal) (status known : Status) (every : EveryCall command o status told) → status ≡ known → cause (causes command o every.ended.last told) known
why_at command o told status known every is = subst (λ s. cause (causes command o every.ended.last told) s) is every.ended.why

-- its own line, unless it refused the plan, the store or the input
told_last : (h : HostOutcome) (status : Status) (last : List ℕ) → EndsWith h.said_after last ⊎ h.put_failed → IsOwnLine status last → (status ≡ BadPlan) ⊎ (status ≡ Store) ⊎ (status ≡ Gap) ⊎ EndsWith h.said_after (last_line status) ⊎ h.put_failed
told_last h status last ends (inl plan) = inl plan
told_last h status last ends (inr (inl store)) = inr (inl store)
told_last h status last ends (inr (inr (inl gap))) = inr (inr (inl gap))
told_last h status last ends (inr (inr (inr line))) = inr (inr (inr (⊎_elim (λ is. inl (is.0, is.1 ∙ ap (λ l. after is.0 l) line)) (λ rose. inr rose) ends)))

pub failure : (command : Option Command) (o : Outcome) (told : Option Refusal) (status : Status) → EveryCall command o status told → (status ≡ BadPlan) ⊎ (status ≡ Store) ⊎ (status ≡ Gap) ⊎ EndsWith o.host.said_after (last_line status) ⊎ o.host.put_failed
failure command o told status every = told_last o.host status every.ended.last every.ended.ends every.ended.line
