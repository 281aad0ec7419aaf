-- A whole run, from its opening and from what was done to a task that the opened session and its host were lent to.
use Rattle.std.proofs.Common.{◌≡◌, ℕ, List, Option, Result, refl, sym, subst}
use Rattle.rg_host.specs.Image.{Image}
use Rattle.rg_host.specs.Moments.{Moment}
use Rattle.rg_event.specs.declared.event.Event.{Event}
use Rattle.rg_config.specs.Plans.{Planned}
use Rattle.rg_state.specs.Changes.{Marks}
use Rattle.rg_state.specs.Rows.{Cells}
use Rattle.rg_reservoir.specs.Kept.{next_of}
use Rattle.rg_run_spec.specs.Stores.{HasAtLeast}
use Rattle.rg_open.specs.Blame.{IsPlaced}
use Rattle.rg_open.specs.Stores.{store_of}
use Rattle.rg_task.specs.View.{View}
use Rattle.rg_run.specs.Answered as run
use Rattle.rg_run.specs.Begun.{Begun}
use Rattle.rg_run.specs.Logs as logs
use Rattle.rg_run.specs.declared.fault.RunFault.{RunFault}
use Rattle.rg_recover.specs.Answered.{StaysTrue, StaysHeld, Explains, CountsGrow}
use Rattle.rg_recover.specs.LiveView.{live_view}
use Rattle.rg_recover.specs.Opened.{IsToBegin, IsOpened, OpensOnly}
use Rattle.rg_recover.specs.Living.{SameLog}
use Rattle.rg_recover.specs.Runs.{IsWholeRun}
use Rattle.rg_recover.specs.Sessions.{Sitting}
use Rattle.rg_recover.proofs.Bridging.{to_begin, true_of, held_of, explained_of, counts_of}
use Rattle.rg_recover.proofs.Exits.{back}
use Rattle.rg_recover.proofs.Opened.{answered_whole}
use Rattle.rg_recover.proofs.Sound.{moved}

module _ {P H T : Type 0} (lent after : P) (host : P → H) (session : P → Sitting T) (names : P → P → Type 0) (same : (p : P) → names p p) (join : (p q r : P) → names p q → names q r → names p r)
    (now : H → Option Image) (may : H → Image → Type 0) (clock : H → ℕ) (since : H → ℕ → Moment → Type 0) (said : H → Option (List ℕ))
    (tells : T → Type 0) (cell : T → Cells) (named there : T → Marks) where
  abbrev V : View P
  V = live_view host session names same join now may clock since said tells cell named there

  module _ {I A : Type 0} (all_faults : P → ℕ) (disk_faults out_faults : H → ℕ) (none : (p : P) → all_faults p ≡ disk_faults (host p)) (left : I → Option (List ℕ)) (faults : I → ℕ)
      (plan : Planned) (next count from first : ℕ) (input input_then : I) (old mid : H) (s : Sitting T) (only : OpensOnly now may clock since said disk_faults out_faults plan old mid) (opened : IsOpened now may plan next count from tells cell named there s old mid)
      (host_is : host lent ≡ mid) (session_is : session lent ≡ s) (r : Result A RunFault) where
    why : SameLog (session lent) (session after) → run.Explains V all_faults (λ p. out_faults (host p)) left faults plan first r input input_then lent after
        → Explains now may disk_faults out_faults left faults plan next first (tells s.engine.table) (cell s.engine.table) s r input input_then mid (host after)
    why log e = subst (λ (n : ℕ). Explains now may disk_faults out_faults left faults plan n first (tells s.engine.table) (cell s.engine.table) s r input input_then mid (host after)) (sym opened.numbers.0)
        (moved (λ (h : H) (t : Sitting T). Explains now may disk_faults out_faults left faults plan (next_of t.reservoir) first (tells t.engine.table) (cell t.engine.table) t r input input_then h (host after))
        (host lent) mid (session lent) s (sym host_is) (sym session_is)
        (explained_of lent after host session names same join now may clock since said tells cell named there all_faults disk_faults out_faults none left faults plan first r input input_then log e))

    grow : run.CountsGrow V all_faults (λ p. out_faults (host p)) faults input input_then lent after → CountsGrow disk_faults out_faults faults input input_then mid (host after)
    grow g = back (λ (h : H). CountsGrow disk_faults out_faults faults input input_then h (host after)) (host lent) mid (sym host_is)
        (counts_of lent after host session names same join now may clock since said tells cell named there all_faults disk_faults out_faults none left faults input input_then g)

    stays : ((b : Begun) → run.IsToBegin V plan b (left input) from first lent → run.StaysTrue V plan b (left input_then) r lent after)
        → (b : Begun) → IsToBegin plan b (left input) next count from first (now mid) (may mid) (said mid) tells cell named there s → StaysTrue may clock since said plan b (left input_then) r mid (host after)
    stays goes b start =
        let begins = moved (λ (h : H) (t : Sitting T). IsToBegin plan b (left input) next count from first (now h) (may h) (said h) tells cell named there t) mid (host lent) s (session lent) host_is session_is start in
        back (λ (h : H). StaysTrue may clock since said plan b (left input_then) r h (host after)) (host lent) mid (sym host_is)
        (true_of lent after host session names same join now may clock since said tells cell named there plan b (left input_then) r
        (goes b (to_begin lent after host session names same join now may clock since said tells cell named there plan b (left input) next count from first begins)))

    held : logs.KeepsLog V plan lent after → (es : List Event) → IsPlaced plan (now mid) (may mid) s.reservoir s.engine → ((u : Image) → may mid u → HasAtLeast (store_of plan) es u) → StaysHeld may clock since plan es mid (host after)
    held keeps es placed holds =
        let at = moved (λ (h : H) (t : Sitting T). IsPlaced plan (now h) (may h) t.reservoir t.engine) mid (host lent) s (session lent) host_is session_is placed in
        let has = back (λ (h : H). (u : Image) → may h u → HasAtLeast (store_of plan) es u) mid (host lent) host_is holds in
        back (λ (h : H). StaysHeld may clock since plan es h (host after)) (host lent) mid (sym host_is)
        (held_of lent after host session names same join now may clock since said tells cell named there plan es (keeps es at has))

    pub lent_whole : ((b : Begun) → run.IsToBegin V plan b (left input) from first lent → run.StaysTrue V plan b (left input_then) r lent after) → run.Explains V all_faults (λ p. out_faults (host p)) left faults plan first r input input_then lent after
        → run.CountsGrow V all_faults (λ p. out_faults (host p)) faults input input_then lent after → logs.KeepsLog V plan lent after → IsWholeRun now may clock since said disk_faults out_faults left faults plan first r input input_then old (host after)
    lent_whole goes e g keeps =
        answered_whole now may clock since said disk_faults out_faults left faults plan first input old mid only next count from first tells cell named there s opened refl r input_then (host after) (why g.goes.1 e) (held keeps) (stays goes) (grow g)
