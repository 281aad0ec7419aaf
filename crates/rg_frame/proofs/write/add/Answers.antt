use Rattle.std.proofs.Common.{◌∙◌, ◌+◌, ◌<◌, ◌^◌, List, ◌∷◌, [], ℕ, length, arith}
use Rattle.rg_host.specs.Image.{InFile, Torn, Holds}
use Rattle.rg_frame.specs.LogState.{Reaches}
use Rattle.rg_frame.specs.Steps.{Brief, Begun, Keeps, Staged, From, Grows, Added, Appended}
use Rattle.rg_frame.proofs.Gates.{Prepared, grows-brief, grows-kept, grows-torn, appended-written, added-written, reaches-opened}
use Rattle.rg_frame.proofs.Runs.{writes-weaker, writes-then, in_file-then, in_file-where, others-then, for_some-after}
use Rattle.rg_frame.proofs.write.add.Goals as goal

pub returns-in_err-begin-clause-wrote : goal.returns-in_err-begin-clause-wrote
returns-in_err-begin-clause-wrote g c =
    let below : c.args.end < 2 ^ 64 = omega (arith, c.requires.room) in
    record {
      writes = writes-weaker g.H.Host.now g.H.Host.may g.H.Host.clock g.H.Host.since g.H.Host.said c.args.file Brief (From c.args.end (Grows c.args.payload.now)) _ _ c.begin.ensures.wrote.writes (λ w told x brief. grows-brief c.args.end c.args.payload.now below (w c.args.file) x brief);
      others = c.begin.ensures.wrote.others;
      disk_faults = c.begin.ensures.wrote.disk_faults;
      out_faults = c.begin.ensures.wrote.out_faults;
      reads = c.begin.ensures.wrote.reads;
    }

pub returns-in_err-stage-clause-wrote : goal.returns-in_err-stage-clause-wrote
returns-in_err-stage-clause-wrote g c =
    let below : c.args.end < 2 ^ 64 = omega (arith, c.requires.room) in
    record {
      writes = writes-then g.H.Host.now g.H.Host.may g.H.Host.clock g.H.Host.since g.H.Host.said c.args.file Brief Begun (Keeps (c.args.end + 1)) (From c.args.end (Grows c.args.payload.now)) _ _ _ c.begin.ensures.wrote.writes c.in_ok-begin.ensures.pending c.in_ok-begin.ensures.begun c.stage.ensures.wrote.writes (λ w told x brief. grows-brief c.args.end c.args.payload.now below (w c.args.file) x brief) (λ w told x y begun keeps. grows-kept c.args.end c.args.payload.now below (w c.args.file) x y begun keeps);
      others = others-then c.args.file _ _ _ _ _ c.begin.ensures.wrote.others c.stage.ensures.wrote.others;
      disk_faults = omega (arith, c.begin.ensures.wrote.disk_faults, c.stage.ensures.wrote.disk_faults);
      out_faults = c.stage.ensures.wrote.out_faults ∙ c.begin.ensures.wrote.out_faults;
      reads = c.stage.ensures.wrote.reads ∙ c.begin.ensures.wrote.reads;
    }

pub returns-in_err-open_gate-clause-wrote : goal.returns-in_err-open_gate-clause-wrote
returns-in_err-open_gate-clause-wrote g c =
    let below : c.args.end < 2 ^ 64 = omega (arith, c.requires.room) in
    let staged = writes-then g.H.Host.now g.H.Host.may g.H.Host.clock g.H.Host.since g.H.Host.said c.args.file Brief Begun (Keeps (c.args.end + 1)) (From c.args.end (Grows c.args.payload.now)) _ _ _ c.begin.ensures.wrote.writes c.in_ok-begin.ensures.pending c.in_ok-begin.ensures.begun c.stage.ensures.wrote.writes (λ w told x brief. grows-brief c.args.end c.args.payload.now below (w c.args.file) x brief) (λ w told x y begun keeps. grows-kept c.args.end c.args.payload.now below (w c.args.file) x y begun keeps) in
    let prepared = in_file-then c.args.file Begun (Staged c.args.end c.args.payload.now) (Prepared c.args.end c.args.payload.now) _ _ _ c.in_ok-begin.ensures.begun c.in_ok-stage.ensures.staged.staged (λ x y z p q. (y, p, q)) in
    record {
      writes = writes-then g.H.Host.now g.H.Host.may g.H.Host.clock g.H.Host.since g.H.Host.said c.args.file (From c.args.end (Grows c.args.payload.now)) (Prepared c.args.end c.args.payload.now) (Torn c.args.end 1) (From c.args.end (Grows c.args.payload.now)) _ _ _ staged (λ settled. c.in_ok-stage.ensures.staged.settled) prepared c.open_gate.ensures.wrote.writes (λ w told x was. was) (λ w told x y begun torn. grows-torn c.args.end c.args.payload.now below c.in_ok-stage.ensures.staged.fits (w c.args.file) x y begun torn);
      others = others-then c.args.file _ _ _ _ _ (others-then c.args.file _ _ _ _ _ c.begin.ensures.wrote.others c.stage.ensures.wrote.others) c.open_gate.ensures.wrote.others;
      disk_faults = omega (arith, c.begin.ensures.wrote.disk_faults, c.stage.ensures.wrote.disk_faults, c.open_gate.ensures.wrote.disk_faults);
      out_faults = c.open_gate.ensures.wrote.out_faults ∙ c.stage.ensures.wrote.out_faults ∙ c.begin.ensures.wrote.out_faults;
      reads = c.open_gate.ensures.wrote.reads ∙ c.stage.ensures.wrote.reads ∙ c.begin.ensures.wrote.reads;
    }

pub returns-clause-wrote : goal.returns-clause-wrote
returns-clause-wrote g c =
    let below : c.args.end < 2 ^ 64 = omega (arith, c.requires.room) in
    let staged = writes-then g.H.Host.now g.H.Host.may g.H.Host.clock g.H.Host.since g.H.Host.said c.args.file Brief Begun (Keeps (c.args.end + 1)) (From c.args.end (Grows c.args.payload.now)) _ _ _ c.begin.ensures.wrote.writes c.in_ok-begin.ensures.pending c.in_ok-begin.ensures.begun c.stage.ensures.wrote.writes (λ w told x brief. grows-brief c.args.end c.args.payload.now below (w c.args.file) x brief) (λ w told x y begun keeps. grows-kept c.args.end c.args.payload.now below (w c.args.file) x y begun keeps) in
    let prepared = in_file-then c.args.file Begun (Staged c.args.end c.args.payload.now) (Prepared c.args.end c.args.payload.now) _ _ _ c.in_ok-begin.ensures.begun c.in_ok-stage.ensures.staged.staged (λ x y z p q. (y, p, q)) in
    record {
      writes = writes-then g.H.Host.now g.H.Host.may g.H.Host.clock g.H.Host.since g.H.Host.said c.args.file (From c.args.end (Grows c.args.payload.now)) (Prepared c.args.end c.args.payload.now) (Torn c.args.end 1) (From c.args.end (Grows c.args.payload.now)) _ _ _ staged (λ settled. c.in_ok-stage.ensures.staged.settled) prepared c.open_gate.ensures.wrote.writes (λ w told x was. was) (λ w told x y begun torn. grows-torn c.args.end c.args.payload.now below c.in_ok-stage.ensures.staged.fits (w c.args.file) x y begun torn);
      others = others-then c.args.file _ _ _ _ _ (others-then c.args.file _ _ _ _ _ c.begin.ensures.wrote.others c.stage.ensures.wrote.others) c.open_gate.ensures.wrote.others;
      disk_faults = omega (arith, c.begin.ensures.wrote.disk_faults, c.stage.ensures.wrote.disk_faults, c.open_gate.ensures.wrote.disk_faults);
      out_faults = c.open_gate.ensures.wrote.out_faults ∙ c.stage.ensures.wrote.out_faults ∙ c.begin.ensures.wrote.out_faults;
      reads = c.open_gate.ensures.wrote.reads ∙ c.stage.ensures.wrote.reads ∙ c.begin.ensures.wrote.reads;
    }

pub returns-clause-added : goal.returns-clause-added
returns-clause-added g c =
    let below : c.args.end < 2 ^ 64 = omega (arith, c.requires.room) in
    let prepared = in_file-then c.args.file Begun (Staged c.args.end c.args.payload.now) (Prepared c.args.end c.args.payload.now) _ _ _ c.in_ok-begin.ensures.begun c.in_ok-stage.ensures.staged.staged (λ x y z p q. (y, p, q)) in
    let end : ℕ = c.args.end in
    let payload : List ℕ = c.args.payload.now in
    let written = in_file-then c.args.file (Prepared end payload) (Holds end (1 ∷ [])) (λ x z. (y : List ℕ) × Prepared end payload x y × Holds end (1 ∷ []) y z) _ _ _ prepared c.in_ok-open_gate.ensures.opened.opened (λ x y z p q. (y, p, q)) in
    record {
      appended = in_file-then c.args.file (Prepared c.args.end c.args.payload.now) (Holds c.args.end (1 ∷ [])) (Appended c.args.end c.args.payload.now (c.args.end + 9 + length c.args.payload.now)) _ _ _ prepared c.in_ok-open_gate.ensures.opened.opened (λ x y z p q. appended-written c.args.end c.args.payload.now below c.in_ok-stage.ensures.staged.fits x y z p q);
      added = in_file-where c.args.file (Reaches end) (λ x z. (y : List ℕ) × Prepared end payload x y × Holds end (1 ∷ []) y z) (Added end payload) _ _ c.requires.reaches written (λ x z reaches h. added-written end payload x h.0 z reaches h.1 h.2);
      reaches = for_some-after (g.H.Host.now c.args.host.now) (g.H.Host.now c.open_gate.new.host) (InFile c.args.file (λ x z. (y : List ℕ) × Prepared end payload x y × Holds end (1 ∷ []) y z)) (λ v. Reaches end (v c.args.file)) (λ v. Reaches (end + 9 + length payload) (v c.args.file)) c.requires.reaches written
          (λ x y reaches step. reaches-opened end payload (x c.args.file) step.there.0 (y c.args.file) reaches step.there.1 step.there.2);
      pending = c.in_ok-open_gate.ensures.opened.settled;
      limit = c.in_ok-stage.ensures.staged.limit;
    }
