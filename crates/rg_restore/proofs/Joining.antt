-- What holds over two calls.
use Rattle.std.proofs.Common.{◌≡◌, ℕ, ◌≤◌, ◌++◌, List, sym, subst, ◌∙◌, arith}
use Rattle.rg_event.specs.declared.event.Event.{Event}
use Rattle.rg_past.specs.declared.past.Spot.{Spot}
use Rattle.rg_plan.specs.Plans.{Tasks}
use Rattle.rg_state.specs.Keeping.{TableKept}
use Rattle.rg_engine.specs.Feeding.{IsFed}
use Rattle.rg_engine.proofs.Laws.{told_later}
use Rattle.rg_checkpoint.specs.declared.base.Checkpoint.{Checkpoint}
use Rattle.rg_restore.specs.Opening.{CanStand}
use Rattle.rg_restore.specs.Truthful.{NodeIsTrue}

pub table-then : {T : Type 0} (Tells : T → Type 0) (faults : T → ℕ) (old middle new : T) → TableKept Tells faults old middle → TableKept Tells faults middle new → TableKept Tells faults old new
table-then Tells faults old middle new first second = record {
  tells = (λ is. first.tells.0 (second.tells.0 is), λ is. second.tells.1 (first.tells.1 is));
  later = omega (arith, first.later, second.later);
}

-- what an engine asks of a past, it can ask of a later state of it with the same events
pub can_later : (is_sound later_sound is_told : Type 0) (plan : Tasks) (events all : List Event) → (is_sound → later_sound) → all ≡ events → CanStand is_sound is_told plan events → CanStand later_sound is_told plan all
can_later is_sound later_sound is_told plan events all sound same can = record {
  sound = sound can.sound;
  tells = can.tells;
  fed = subst (IsFed plan) (sym same) can.fed;
}

pub node_later : (Spells Later : Spot → Type 0) (plan : Tasks) (n : ℕ) (events all : List Event) (checkpoint : Checkpoint) → ((spot : Spot) → Spells spot → Later spot) → all ≡ events → NodeIsTrue Spells plan n events checkpoint → NodeIsTrue Later plan n all checkpoint
node_later Spells Later plan n events all checkpoint goes same node = record {
  front = node.front;
  more = node.more;
  is = same ∙ node.is;
  told = told_later plan n Spells Later checkpoint.spots goes node.told;
  stands = node.stands;
}
