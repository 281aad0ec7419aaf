use Rattle.rg_host.specs.Image.{Torn}
use Rattle.rg_frame.proofs.Gates.{torn-same, torn-from}
use Rattle.rg_frame.proofs.Runs.{Same, writes-none, writes-more, writes-sync, others-stay, others-then}
use Rattle.std.proofs.Common.{◌∙◌, arith, refl}
use Rattle.rg_host.proofs.Laws.{becomes-before}
use Rattle.rg_frame.proofs.write.open_gate.Goals as goal

pub returns-in_err-write_at-clause-wrote : goal.returns-in_err-write_at-clause-wrote
returns-in_err-write_at-clause-wrote g c =
    let start = writes-none g.H.Host.now g.H.Host.may g.H.Host.clock g.H.Host.since g.H.Host.said c.args.file c.args.host.now (λ t u m. g.met.H.Host.sinks _ t u m) (λ m. g.met.H.Host.only_now _ m) in
    record {
      writes = writes-more g.H.Host.now g.H.Host.may g.H.Host.clock g.H.Host.since g.H.Host.said c.args.file c.args.end _ Same (Torn c.args.end 1) _ _ _ start c.write_at.ensures.may c.write_at.ensures.moments c.write_at.ensures.said (λ w told b same. torn-same c.args.end 1 (w c.args.file) b same) (λ w told b x same torn. torn-from c.args.end 1 (w c.args.file) b x same torn);
      others = others-then c.args.file _ _ _ _ _ (others-stay c.args.file _ _ refl) c.in_err-write_at.ensures.torn;
      disk_faults = c.write_at.ensures.disk_faults;
      out_faults = c.write_at.ensures.out_faults;
      reads = c.write_at.ensures.reads;
    }

pub returns-in_err-sync-clause-wrote : goal.returns-in_err-sync-clause-wrote
returns-in_err-sync-clause-wrote g c =
    let start = writes-none g.H.Host.now g.H.Host.may g.H.Host.clock g.H.Host.since g.H.Host.said c.args.file c.args.host.now (λ t u m. g.met.H.Host.sinks _ t u m) (λ m. g.met.H.Host.only_now _ m) in
    let written = writes-more g.H.Host.now g.H.Host.may g.H.Host.clock g.H.Host.since g.H.Host.said c.args.file c.args.end _ Same (Torn c.args.end 1) _ _ _ start c.write_at.ensures.may c.write_at.ensures.moments c.write_at.ensures.said (λ w told b same. torn-same c.args.end 1 (w c.args.file) b same) (λ w told b x same torn. torn-from c.args.end 1 (w c.args.file) b x same torn) in
    record {
      writes = writes-sync g.H.Host.now g.H.Host.may g.H.Host.clock g.H.Host.since g.H.Host.said c.args.file (Torn c.args.end 1) _ _ _ written c.sync.ensures.may c.sync.ensures.moments c.sync.ensures.said;
      others = becomes-before _ _ _ _ (others-then c.args.file _ _ _ _ _ (others-stay c.args.file _ _ refl) c.in_ok-write_at.ensures.written) c.sync.ensures.now;
      disk_faults = omega (arith, c.write_at.ensures.disk_faults, c.sync.ensures.disk_faults);
      out_faults = c.sync.ensures.out_faults ∙ c.write_at.ensures.out_faults;
      reads = c.sync.ensures.reads ∙ c.write_at.ensures.reads;
    }

pub returns-clause-wrote : goal.returns-clause-wrote
returns-clause-wrote g c =
    let start = writes-none g.H.Host.now g.H.Host.may g.H.Host.clock g.H.Host.since g.H.Host.said c.args.file c.args.host.now (λ t u m. g.met.H.Host.sinks _ t u m) (λ m. g.met.H.Host.only_now _ m) in
    let written = writes-more g.H.Host.now g.H.Host.may g.H.Host.clock g.H.Host.since g.H.Host.said c.args.file c.args.end _ Same (Torn c.args.end 1) _ _ _ start c.write_at.ensures.may c.write_at.ensures.moments c.write_at.ensures.said (λ w told b same. torn-same c.args.end 1 (w c.args.file) b same) (λ w told b x same torn. torn-from c.args.end 1 (w c.args.file) b x same torn) in
    record {
      writes = writes-sync g.H.Host.now g.H.Host.may g.H.Host.clock g.H.Host.since g.H.Host.said c.args.file (Torn c.args.end 1) _ _ _ written c.sync.ensures.may c.sync.ensures.moments c.sync.ensures.said;
      others = becomes-before _ _ _ _ (others-then c.args.file _ _ _ _ _ (others-stay c.args.file _ _ refl) c.in_ok-write_at.ensures.written) c.sync.ensures.now;
      disk_faults = omega (arith, c.write_at.ensures.disk_faults, c.sync.ensures.disk_faults);
      out_faults = c.sync.ensures.out_faults ∙ c.write_at.ensures.out_faults;
      reads = c.sync.ensures.reads ∙ c.write_at.ensures.reads;
    }
