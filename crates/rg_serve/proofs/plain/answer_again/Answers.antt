use Rattle.std.proofs.Common.{List, [], ◌∷◌, ℕ, rules, refl, sym, subst}
use Rattle.std.specs.Prelude.{codes}
use Rattle.rg_pipe.specs.Handing.Given.{again}
use Rattle.rg_serve_spec.specs.Replies.{again_line}
use Rattle.rg_serve.specs.Serving.{IsHeld}
use Rattle.rg_serve.proofs.Marked.{nothing_holds, digit_nothing}
use Rattle.rg_serve.proofs.Replied.{replies, answered}
use Rattle.rg_serve.proofs.Within.{still_moments, held_within}
use Rattle.std.specs.Prelude.{⊤}
use Rattle.rg_serve.proofs.Carrying.{carries_none, carries_memory, carries_stop}
use Rattle.rg_serve.proofs.plain.answer_again.Goals as goal

pub returns-in-Ok-clause-answers : goal.returns-in-Ok-clause-answers
returns-in-Ok-clause-answers g c plan =
    let t = c.args.task.now in
    let left = c.args.gathered.now.items in
    let given = (again c.args.offset) in
    record {
      moments = λ e ahead a. still_moments g.K.Task.view plan e g.met.K.Task.only_now g.met.K.Task.sinks (replies g.K.Task.view plan e given ahead t left a) t left a.within;
      awaits = λ e ahead a. answered g.K.Task.view plan e given ahead t left a t left c.tell_again.new.gathered.items (again_line c.args.offset ∷ []) a.within refl refl
          (nothing_holds (g.K.Task.view.store plan) (g.K.Task.view.at t).stored (g.K.Task.view.at t).keep (g.K.Task.view.may t) (again_line c.args.offset ∷ []) (digit_nothing c.args.offset (codes " again") (search rules)))
          c.in-Ok.ensures.gathers.all c.in-Ok.ensures.gathers.small;
      halted = λ e ahead a. tt;
    }

pub returns-in-Err-clause-answers : goal.returns-in-Err-clause-answers
returns-in-Err-clause-answers g c plan =
    let t = c.args.task.now in
    let left = c.args.gathered.now.items in
    let given = (again c.args.offset) in
    record {
      moments = λ e ahead a. c.stop.ensures.stops.moments plan e (subst (λ (l : List ℕ). IsHeld g.K.Task.view plan e t l) (sym c.in-Err.ensures.gathers.none) (held_within g.K.Task.view plan e (replies g.K.Task.view plan e given ahead t left a) t left a.within));
      awaits = λ e ahead a. tt;
      halted = λ e ahead a. c.stop.ensures.stops.halted plan e (subst (λ (l : List ℕ). IsHeld g.K.Task.view plan e t l) (sym c.in-Err.ensures.gathers.none) (held_within g.K.Task.view plan e (replies g.K.Task.view plan e given ahead t left a) t left a.within));
    }

pub returns-in-Ok-clause-carries : goal.returns-in-Ok-clause-carries
returns-in-Ok-clause-carries g c = carries_none g.K.Task.view g.K.Task.disk_faults g.K.Task.out_faults (λ f. f) _ g.met.K.Task.only_now g.met.K.Task.sinks c.args.task.now

pub returns-in-Err-clause-carries : goal.returns-in-Err-clause-carries
returns-in-Err-clause-carries g c =
    carries_stop g.K.Task.view g.K.Task.disk_faults g.K.Task.out_faults c.stop.result c.in-Err.fault c.args.task.now c.args.task.now c.stop.new.task (carries_memory g.K.Task.view g.K.Task.disk_faults g.K.Task.out_faults {A = ⊤} c.in-Err.fault c.in-Err.ensures.gathers.fault g.met.K.Task.only_now g.met.K.Task.sinks c.args.task.now)
    c.stop.ensures.only c.stop.ensures.which
