-- A session that runs, where lines are put.
use Rattle.std.proofs.Common.{ℕ, Option, refl, sym, subst}
use Rattle.rg_host.specs.Image.{Image}
use Rattle.rg_host.specs.Moments.{Moment, LeavesFiles}
use Rattle.rg_host.proofs.Laws.{nothing_pending-kept}
use Rattle.rg_config.specs.Plans.{Planned}
use Rattle.rg_state.specs.Changes.{Marks}
use Rattle.rg_state.specs.Rows.{Cells}
use Rattle.rg_checkpoint.specs.Slots.{sizes_in}
use Rattle.rg_plan.specs.Plans.{plan_for}
use Rattle.rg_restore.specs.Truthful.{EngineStands}
use Rattle.rg_reservoir.specs.Kept.{base, opened, all_events, Spells}
use Rattle.rg_reservoir.proofs.Laws.{sound_stays}
use Rattle.rg_recover.specs.Sessions.{Sitting, IsRunning}
use Rattle.rg_recover.proofs.Stays.{kept_on, slots_quiet}

module _ {H T : Type 0} (now : H → Option Image) (may : H → Image → Type 0) (clock : H → ℕ) (since : H → ℕ → Moment → Type 0) (plan : Planned) where
  -- a session that runs does so still after a call that leaves the files
  pub running_still : (Tells : T → Type 0) (cell : T → Cells) (named there : T → Marks) (old new : H) (s : Sitting T) → LeavesFiles now may clock since old new → IsRunning plan (now old) (may old) Tells cell named there s → IsRunning plan (now new) (may new) Tells cell named there s
  running_still Tells cell named there old new s leaves r =
      let fewer = leaves.may_stays.no_more in
      let is = r.ready.in_step in
      record {
        ready = record {
          in_step = record {
            reservoir = record {
              sound = sound_stays (now old) (now new) (may old) (may new) s.reservoir s.reservoir leaves.now_stays leaves.may_stays (record { base = refl; opened = refl; room = refl; next = refl; time = refl; log = refl; cap = refl }) (λ v t c. c) (λ i. i) is.reservoir.sound;
              going = is.reservoir.going;
              file = is.reservoir.file;
              shape = is.reservoir.shape;
            };
            said = is.said;
            truthful = λ u left. is.truthful u (fewer u left);
            stands = subst (λ (o : Option Image). EngineStands (Spells o (base s.reservoir) (opened s.reservoir)) (plan_for plan.queries) (all_events o (base s.reservoir) (opened s.reservoir)) (cell s.engine.table) s.engine.spots) (sym leaves.now_stays) is.stands;
            texts_are = is.texts_are;
          };
          tells = r.ready.tells;
          serves = r.ready.serves;
          plan_is = r.ready.plan_is;
        };
        limit_is = r.limit_is;
        grace_is = r.grace_is;
        going = r.going;
        first_settled = nothing_pending-kept 0 (now old) (now new) (may old) (may new) leaves.now_stays fewer r.first_settled;
        second_settled = nothing_pending-kept 1 (now old) (now new) (may old) (may new) leaves.now_stays fewer r.second_settled;
        kept = λ slot keep. let k = r.kept slot keep in record { below = k.below; stored = k.stored; has = λ u left. k.has u (fewer u left) };
        since = λ slot keep.
            let e = s.engine.table in
            kept_on (may old) (may new) slot s.saved s.texts (sizes_in s.slots slot) (named e) (there e) (named e) (there e) (cell e) (cell e) (r.kept slot keep).below (slots_quiet (now old) (now new) (may old) (may new) leaves.now_stays fewer).left (λ rows has. has) (r.since slot keep);
      }
