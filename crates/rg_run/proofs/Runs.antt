-- A run before its first line.
use Rattle.std.proofs.Common.{◌≡◌, List, [], ℕ, false, Option, Some, refl, sym, subst, arith}
use Rattle.rg_host.specs.Lines.{lines_of}
use Rattle.rg_host.specs.Reading.{Reading}
use Rattle.rg_config.specs.Plans.{Planned}
use Rattle.rg_task.specs.View.{View}
use Rattle.rg_run.specs.Turning.{IsAwaiting}
use Rattle.rg_run.specs.Begun.{Begun, course_for}
use Rattle.rg_run.specs.Reading.{HasRead}
use Rattle.rg_run.specs.UnderWay.{IsUnderWay}
use Rattle.rg_run.proofs.Taking.{read_none}

pub way_first : {K : Type 0} (view : View K) (plan : Planned) (b : Begun) (left : Option (List ℕ)) (reading : Reading) (offset : ℕ) (t : K) (gathered : List ℕ) →
    left ≡ Some b.input → reading.pending ≡ [] → reading.ended ≡ false → offset ≡ b.first → IsAwaiting view plan (course_for plan b) b.first (lines_of b.input) t gathered → (view.at t).events ≡ b.held → IsUnderWay view plan b left reading offset t gathered
way_first view plan b left reading offset t gathered left_is pending still at awaits events = record {
  handed = [];
  items = lines_of b.input;
  read = subst (λ (l : Option (List ℕ)). HasRead b.input l reading []) (sym left_is) (read_none b.input reading pending still);
  whole = refl;
  offset_is = omega (arith, at);
  awaiting = subst (λ (n : ℕ). IsAwaiting view plan (course_for plan b) n (lines_of b.input) t gathered) (sym at) awaits;
  events = events;
}
