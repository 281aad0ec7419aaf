use Rattle.std.proofs.Common.{◌∙◌, ◌+◌, ◌≤◌, List, ℕ, length, subst, arith, rules, refl}
use Rattle.std.specs.Int.{to_be_bytes, w64}
use Rattle.rg_host.specs.Image.{Holds, Becomes, InFile}
use Rattle.rg_host.proofs.Laws.{becomes-before}
use Rattle.rg_frame.specs.Steps.{Keeps, Staged}
use Rattle.rg_frame.proofs.Gates.{ThreeWrites, staged-three, keeps-same, keeps-torn}
use Rattle.rg_frame.proofs.Runs.{Same, writes-none, writes-more, writes-sync, in_file-then, in_file-where, others-stay, others-then}
use Rattle.rg_frame.proofs.write.stage.Goals as goal

pub returns-in_err-write_at-clause-wrote : goal.returns-in_err-write_at-clause-wrote
returns-in_err-write_at-clause-wrote g c =
    let start = writes-none g.H.Host.now g.H.Host.may g.H.Host.clock g.H.Host.since g.H.Host.said c.args.file c.args.host.now (λ t u m. g.met.H.Host.sinks _ t u m) (λ m. g.met.H.Host.only_now _ m) in
    record {
      writes = writes-more g.H.Host.now g.H.Host.may g.H.Host.clock g.H.Host.since g.H.Host.said c.args.file (c.args.end + 1) _ Same (Keeps (c.args.end + 1)) _ _ _ start c.write_at.ensures.may c.write_at.ensures.moments c.write_at.ensures.said (λ w told b was. (keeps-same (c.args.end + 1) (w c.args.file) b was)) (λ w told b x was torn. keeps-torn (c.args.end + 1) (c.args.end + 1) _ (omega arith) _ _ _ (keeps-same (c.args.end + 1) (w c.args.file) b was) torn);
      others = others-then c.args.file _ _ _ _ _ (others-stay c.args.file _ _ refl) c.in_err-write_at.ensures.torn;
      disk_faults = c.write_at.ensures.disk_faults;
      out_faults = c.write_at.ensures.out_faults;
      reads = c.write_at.ensures.reads;
    }

pub returns-in_err-write_at-2-clause-wrote : goal.returns-in_err-write_at-2-clause-wrote
returns-in_err-write_at-2-clause-wrote g c =
    let start = writes-none g.H.Host.now g.H.Host.may g.H.Host.clock g.H.Host.since g.H.Host.said c.args.file c.args.host.now (λ t u m. g.met.H.Host.sinks _ t u m) (λ m. g.met.H.Host.only_now _ m) in
    let one = writes-more g.H.Host.now g.H.Host.may g.H.Host.clock g.H.Host.since g.H.Host.said c.args.file (c.args.end + 1) _ Same (Keeps (c.args.end + 1)) _ _ _ start c.write_at.ensures.may c.write_at.ensures.moments c.write_at.ensures.said (λ w told b was. (keeps-same (c.args.end + 1) (w c.args.file) b was)) (λ w told b x was torn. keeps-torn (c.args.end + 1) (c.args.end + 1) _ (omega arith) _ _ _ (keeps-same (c.args.end + 1) (w c.args.file) b was) torn) in
    record {
      writes = writes-more g.H.Host.now g.H.Host.may g.H.Host.clock g.H.Host.since g.H.Host.said c.args.file (c.args.end + 9) _ (Keeps (c.args.end + 1)) (Keeps (c.args.end + 1)) _ _ _ one c.write_at-2.ensures.may c.write_at-2.ensures.moments c.write_at-2.ensures.said (λ w told b was. was) (λ w told b x was torn. keeps-torn (c.args.end + 1) (c.args.end + 9) _ (omega arith) _ _ _ was torn);
      others = others-then c.args.file _ _ _ _ _ (others-then c.args.file _ _ _ _ _ (others-stay c.args.file _ _ refl) c.in_ok-write_at.ensures.written) c.in_err-write_at-2.ensures.torn;
      disk_faults = omega (arith, c.write_at.ensures.disk_faults, c.write_at-2.ensures.disk_faults);
      out_faults = c.write_at-2.ensures.out_faults ∙ c.write_at.ensures.out_faults;
      reads = c.write_at-2.ensures.reads ∙ c.write_at.ensures.reads;
    }

pub returns-in_err-write_at-3-clause-wrote : goal.returns-in_err-write_at-3-clause-wrote
returns-in_err-write_at-3-clause-wrote g c =
    let start = writes-none g.H.Host.now g.H.Host.may g.H.Host.clock g.H.Host.since g.H.Host.said c.args.file c.args.host.now (λ t u m. g.met.H.Host.sinks _ t u m) (λ m. g.met.H.Host.only_now _ m) in
    let one = writes-more g.H.Host.now g.H.Host.may g.H.Host.clock g.H.Host.since g.H.Host.said c.args.file (c.args.end + 1) _ Same (Keeps (c.args.end + 1)) _ _ _ start c.write_at.ensures.may c.write_at.ensures.moments c.write_at.ensures.said (λ w told b was. (keeps-same (c.args.end + 1) (w c.args.file) b was)) (λ w told b x was torn. keeps-torn (c.args.end + 1) (c.args.end + 1) _ (omega arith) _ _ _ (keeps-same (c.args.end + 1) (w c.args.file) b was) torn) in
    let two = writes-more g.H.Host.now g.H.Host.may g.H.Host.clock g.H.Host.since g.H.Host.said c.args.file (c.args.end + 9) _ (Keeps (c.args.end + 1)) (Keeps (c.args.end + 1)) _ _ _ one c.write_at-2.ensures.may c.write_at-2.ensures.moments c.write_at-2.ensures.said (λ w told b was. was) (λ w told b x was torn. keeps-torn (c.args.end + 1) (c.args.end + 9) _ (omega arith) _ _ _ was torn) in
    record {
      writes = writes-more g.H.Host.now g.H.Host.may g.H.Host.clock g.H.Host.since g.H.Host.said c.args.file (c.args.end + 9 + length c.args.payload.now) _ (Keeps (c.args.end + 1)) (Keeps (c.args.end + 1)) _ _ _ two c.write_at-3.ensures.may c.write_at-3.ensures.moments c.write_at-3.ensures.said (λ w told b was. was) (λ w told b x was torn. keeps-torn (c.args.end + 1) (c.args.end + 9 + length c.args.payload.now) _ (omega arith) _ _ _ was torn);
      others = others-then c.args.file _ _ _ _ _ (others-then c.args.file _ _ _ _ _ (others-then c.args.file _ _ _ _ _ (others-stay c.args.file _ _ refl) c.in_ok-write_at.ensures.written) c.in_ok-write_at-2.ensures.written) c.in_err-write_at-3.ensures.torn;
      disk_faults = omega (arith, c.write_at.ensures.disk_faults, c.write_at-2.ensures.disk_faults, c.write_at-3.ensures.disk_faults);
      out_faults = c.write_at-3.ensures.out_faults ∙ c.write_at-2.ensures.out_faults ∙ c.write_at.ensures.out_faults;
      reads = c.write_at-3.ensures.reads ∙ c.write_at-2.ensures.reads ∙ c.write_at.ensures.reads;
    }

pub returns-in_err-sync-clause-wrote : goal.returns-in_err-sync-clause-wrote
returns-in_err-sync-clause-wrote g c =
    let start = writes-none g.H.Host.now g.H.Host.may g.H.Host.clock g.H.Host.since g.H.Host.said c.args.file c.args.host.now (λ t u m. g.met.H.Host.sinks _ t u m) (λ m. g.met.H.Host.only_now _ m) in
    let one = writes-more g.H.Host.now g.H.Host.may g.H.Host.clock g.H.Host.since g.H.Host.said c.args.file (c.args.end + 1) _ Same (Keeps (c.args.end + 1)) _ _ _ start c.write_at.ensures.may c.write_at.ensures.moments c.write_at.ensures.said (λ w told b was. (keeps-same (c.args.end + 1) (w c.args.file) b was)) (λ w told b x was torn. keeps-torn (c.args.end + 1) (c.args.end + 1) _ (omega arith) _ _ _ (keeps-same (c.args.end + 1) (w c.args.file) b was) torn) in
    let two = writes-more g.H.Host.now g.H.Host.may g.H.Host.clock g.H.Host.since g.H.Host.said c.args.file (c.args.end + 9) _ (Keeps (c.args.end + 1)) (Keeps (c.args.end + 1)) _ _ _ one c.write_at-2.ensures.may c.write_at-2.ensures.moments c.write_at-2.ensures.said (λ w told b was. was) (λ w told b x was torn. keeps-torn (c.args.end + 1) (c.args.end + 9) _ (omega arith) _ _ _ was torn) in
    let three = writes-more g.H.Host.now g.H.Host.may g.H.Host.clock g.H.Host.since g.H.Host.said c.args.file (c.args.end + 9 + length c.args.payload.now) _ (Keeps (c.args.end + 1)) (Keeps (c.args.end + 1)) _ _ _ two c.write_at-3.ensures.may c.write_at-3.ensures.moments c.write_at-3.ensures.said (λ w told b was. was) (λ w told b x was torn. keeps-torn (c.args.end + 1) (c.args.end + 9 + length c.args.payload.now) _ (omega arith) _ _ _ was torn) in
    record {
      writes = writes-sync g.H.Host.now g.H.Host.may g.H.Host.clock g.H.Host.since g.H.Host.said c.args.file (Keeps (c.args.end + 1)) _ _ _ three c.sync.ensures.may c.sync.ensures.moments c.sync.ensures.said;
      others = becomes-before _ _ _ _ (others-then c.args.file _ _ _ _ _ (others-then c.args.file _ _ _ _ _ (others-then c.args.file _ _ _ _ _ (others-stay c.args.file _ _ refl) c.in_ok-write_at.ensures.written) c.in_ok-write_at-2.ensures.written) c.in_ok-write_at-3.ensures.written) c.sync.ensures.now;
      disk_faults = omega (arith, c.write_at.ensures.disk_faults, c.write_at-2.ensures.disk_faults, c.write_at-3.ensures.disk_faults, c.sync.ensures.disk_faults);
      out_faults = c.sync.ensures.out_faults ∙ c.write_at-3.ensures.out_faults ∙ c.write_at-2.ensures.out_faults ∙ c.write_at.ensures.out_faults;
      reads = c.sync.ensures.reads ∙ c.write_at-3.ensures.reads ∙ c.write_at-2.ensures.reads ∙ c.write_at.ensures.reads;
    }

pub returns-clause-wrote : goal.returns-clause-wrote
returns-clause-wrote g c =
    let start = writes-none g.H.Host.now g.H.Host.may g.H.Host.clock g.H.Host.since g.H.Host.said c.args.file c.args.host.now (λ t u m. g.met.H.Host.sinks _ t u m) (λ m. g.met.H.Host.only_now _ m) in
    let one = writes-more g.H.Host.now g.H.Host.may g.H.Host.clock g.H.Host.since g.H.Host.said c.args.file (c.args.end + 1) _ Same (Keeps (c.args.end + 1)) _ _ _ start c.write_at.ensures.may c.write_at.ensures.moments c.write_at.ensures.said (λ w told b was. (keeps-same (c.args.end + 1) (w c.args.file) b was)) (λ w told b x was torn. keeps-torn (c.args.end + 1) (c.args.end + 1) _ (omega arith) _ _ _ (keeps-same (c.args.end + 1) (w c.args.file) b was) torn) in
    let two = writes-more g.H.Host.now g.H.Host.may g.H.Host.clock g.H.Host.since g.H.Host.said c.args.file (c.args.end + 9) _ (Keeps (c.args.end + 1)) (Keeps (c.args.end + 1)) _ _ _ one c.write_at-2.ensures.may c.write_at-2.ensures.moments c.write_at-2.ensures.said (λ w told b was. was) (λ w told b x was torn. keeps-torn (c.args.end + 1) (c.args.end + 9) _ (omega arith) _ _ _ was torn) in
    let three = writes-more g.H.Host.now g.H.Host.may g.H.Host.clock g.H.Host.since g.H.Host.said c.args.file (c.args.end + 9 + length c.args.payload.now) _ (Keeps (c.args.end + 1)) (Keeps (c.args.end + 1)) _ _ _ two c.write_at-3.ensures.may c.write_at-3.ensures.moments c.write_at-3.ensures.said (λ w told b was. was) (λ w told b x was torn. keeps-torn (c.args.end + 1) (c.args.end + 9 + length c.args.payload.now) _ (omega arith) _ _ _ was torn) in
    record {
      writes = writes-sync g.H.Host.now g.H.Host.may g.H.Host.clock g.H.Host.since g.H.Host.said c.args.file (Keeps (c.args.end + 1)) _ _ _ three c.sync.ensures.may c.sync.ensures.moments c.sync.ensures.said;
      others = becomes-before _ _ _ _ (others-then c.args.file _ _ _ _ _ (others-then c.args.file _ _ _ _ _ (others-then c.args.file _ _ _ _ _ (others-stay c.args.file _ _ refl) c.in_ok-write_at.ensures.written) c.in_ok-write_at-2.ensures.written) c.in_ok-write_at-3.ensures.written) c.sync.ensures.now;
      disk_faults = omega (arith, c.write_at.ensures.disk_faults, c.write_at-2.ensures.disk_faults, c.write_at-3.ensures.disk_faults, c.sync.ensures.disk_faults);
      out_faults = c.sync.ensures.out_faults ∙ c.write_at-3.ensures.out_faults ∙ c.write_at-2.ensures.out_faults ∙ c.write_at.ensures.out_faults;
      reads = c.sync.ensures.reads ∙ c.write_at-3.ensures.reads ∙ c.write_at-2.ensures.reads ∙ c.write_at.ensures.reads;
    }

pub returns-clause-staged : goal.returns-clause-staged
returns-clause-staged g c =
    let payload = c.args.payload.now in
    let size : List ℕ = to_be_bytes w64 (length payload) in
    let one : Becomes (g.H.Host.now c.args.host.now) (g.H.Host.now c.write_at.new.self) (InFile c.args.file (Holds (c.args.end + 1) size)) = subst (λ (b : List ℕ). Becomes (g.H.Host.now c.args.host.now) (g.H.Host.now c.write_at.new.self) (InFile c.args.file (Holds (c.args.end + 1) b))) (search rules) c.in_ok-write_at.ensures.written in
    let two = in_file-then c.args.file _ _ (λ x z. (y : List ℕ) × Holds (c.args.end + 1) size x y × Holds (c.args.end + 9) payload y z) _ _ _ one c.in_ok-write_at-2.ensures.written (λ x y z p q. (y, p, q)) in
    let three = in_file-then c.args.file _ _ (ThreeWrites c.args.end payload) _ _ _ two c.in_ok-write_at-3.ensures.written (λ x y z p q. (p.0, y, p.1, p.2, q)) in
    record {
      staged = becomes-before _ _ _ _ (in_file-where c.args.file (λ bytes. c.args.end + 1 ≤ length bytes) (ThreeWrites c.args.end payload) (Staged c.args.end payload) _ _ c.requires.within three (λ x y le h. staged-three c.args.end payload x y le h)) c.sync.ensures.now;
      settled = c.in_ok-sync.ensures.settled;
      limit = omega (arith, c.in_ok-write_at-3.ensures.limit);
      fits = omega (arith, c.in_ok-write_at-3.ensures.limit);
    }
