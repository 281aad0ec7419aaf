use Rattle.std.proofs.Common.{◌∙◌, arith, ◌≡◌, ◌≤◌, inl, length, Some, subst}
use Rattle.rg_host.specs.Image.{Image}
use Rattle.rg_host.proofs.Laws.{leaves_all-settled, becomes-before}
use Rattle.rg_frame.specs.Steps.{Brief}
use Rattle.rg_frame.proofs.Gates.{brief-torn}
use Rattle.rg_frame.proofs.Runs.{Same, writes-quiet, writes-weaker, writes-more, writes-sync, others-stay, others-then}
use Rattle.rg_frame.proofs.write.begin.Goals as goal

pub returns-in_err-len-clause-wrote : goal.returns-in_err-len-clause-wrote
returns-in_err-len-clause-wrote g c =
    let quiet = writes-quiet g.H.Host.now g.H.Host.may g.H.Host.clock g.H.Host.since g.H.Host.said c.args.file _ _ c.len.ensures.leaves in
    record {
      writes = writes-weaker g.H.Host.now g.H.Host.may g.H.Host.clock g.H.Host.since g.H.Host.said c.args.file Same Brief _ _ quiet (λ w told b same. inl same);
      others = others-stay c.args.file _ _ c.len.ensures.leaves.now_stays;
      disk_faults = c.len.ensures.disk_faults;
      out_faults = c.len.ensures.out_faults;
      reads = c.len.ensures.reads;
    }

pub returns-then-branch-gt1-clause-wrote : goal.returns-then-branch-gt1-clause-wrote
returns-then-branch-gt1-clause-wrote g c =
    let quiet = writes-quiet g.H.Host.now g.H.Host.may g.H.Host.clock g.H.Host.since g.H.Host.said c.args.file _ _ c.len.ensures.leaves in
    record {
      writes = writes-weaker g.H.Host.now g.H.Host.may g.H.Host.clock g.H.Host.since g.H.Host.said c.args.file Same Brief _ _ quiet (λ w told b same. inl same);
      others = others-stay c.args.file _ _ c.len.ensures.leaves.now_stays;
      disk_faults = c.len.ensures.disk_faults;
      out_faults = c.len.ensures.out_faults;
      reads = c.len.ensures.reads;
    }

pub returns-in_err-write_at-clause-wrote : goal.returns-in_err-write_at-clause-wrote
returns-in_err-write_at-clause-wrote g c =
    let quiet = writes-quiet g.H.Host.now g.H.Host.may g.H.Host.clock g.H.Host.since g.H.Host.said c.args.file _ _ c.len.ensures.leaves in
    let brief : (w : Image) → g.H.Host.now c.args.host.now ≡ Some w → length (w c.args.file) ≤ 1 = λ w told. subst (λ n. n ≤ 1) (c.in_ok-len.ensures.length w told) c.if-branch-gt1.false in
    record {
      writes = writes-more g.H.Host.now g.H.Host.may g.H.Host.clock g.H.Host.since g.H.Host.said c.args.file 0 _ Same Brief _ _ _ quiet c.write_at.ensures.may c.write_at.ensures.moments c.write_at.ensures.said (λ w told b same. inl same) (λ w told b x same torn. brief-torn (w c.args.file) b x (brief w told) same torn);
      others = others-then c.args.file _ _ _ _ _ (others-stay c.args.file _ _ c.len.ensures.leaves.now_stays) c.in_err-write_at.ensures.torn;
      disk_faults = omega (arith, c.len.ensures.disk_faults, c.write_at.ensures.disk_faults);
      out_faults = c.write_at.ensures.out_faults ∙ c.len.ensures.out_faults;
      reads = c.write_at.ensures.reads ∙ c.len.ensures.reads;
    }

pub returns-in_err-sync-clause-wrote : goal.returns-in_err-sync-clause-wrote
returns-in_err-sync-clause-wrote g c =
    let quiet = writes-quiet g.H.Host.now g.H.Host.may g.H.Host.clock g.H.Host.since g.H.Host.said c.args.file _ _ c.len.ensures.leaves in
    let brief : (w : Image) → g.H.Host.now c.args.host.now ≡ Some w → length (w c.args.file) ≤ 1 = λ w told. subst (λ n. n ≤ 1) (c.in_ok-len.ensures.length w told) c.if-branch-gt1.false in
    let written = writes-more g.H.Host.now g.H.Host.may g.H.Host.clock g.H.Host.since g.H.Host.said c.args.file 0 _ Same Brief _ _ _ quiet c.write_at.ensures.may c.write_at.ensures.moments c.write_at.ensures.said (λ w told b same. inl same) (λ w told b x same torn. brief-torn (w c.args.file) b x (brief w told) same torn) in
    record {
      writes = writes-sync g.H.Host.now g.H.Host.may g.H.Host.clock g.H.Host.since g.H.Host.said c.args.file Brief _ _ _ written c.sync.ensures.may c.sync.ensures.moments c.sync.ensures.said;
      others = becomes-before _ _ _ _ (others-then c.args.file _ _ _ _ _ (others-stay c.args.file _ _ c.len.ensures.leaves.now_stays) c.in_ok-write_at.ensures.written) c.sync.ensures.now;
      disk_faults = omega (arith, c.len.ensures.disk_faults, c.write_at.ensures.disk_faults, c.sync.ensures.disk_faults);
      out_faults = c.sync.ensures.out_faults ∙ c.write_at.ensures.out_faults ∙ c.len.ensures.out_faults;
      reads = c.sync.ensures.reads ∙ c.write_at.ensures.reads ∙ c.len.ensures.reads;
    }

pub returns-clause-wrote : goal.returns-clause-wrote
returns-clause-wrote g c =
    let quiet = writes-quiet g.H.Host.now g.H.Host.may g.H.Host.clock g.H.Host.since g.H.Host.said c.args.file _ _ c.len.ensures.leaves in
    let brief : (w : Image) → g.H.Host.now c.args.host.now ≡ Some w → length (w c.args.file) ≤ 1 = λ w told. subst (λ n. n ≤ 1) (c.in_ok-len.ensures.length w told) c.if-branch-gt1.false in
    let written = writes-more g.H.Host.now g.H.Host.may g.H.Host.clock g.H.Host.since g.H.Host.said c.args.file 0 _ Same Brief _ _ _ quiet c.write_at.ensures.may c.write_at.ensures.moments c.write_at.ensures.said (λ w told b same. inl same) (λ w told b x same torn. brief-torn (w c.args.file) b x (brief w told) same torn) in
    record {
      writes = writes-sync g.H.Host.now g.H.Host.may g.H.Host.clock g.H.Host.since g.H.Host.said c.args.file Brief _ _ _ written c.sync.ensures.may c.sync.ensures.moments c.sync.ensures.said;
      others = becomes-before _ _ _ _ (others-then c.args.file _ _ _ _ _ (others-stay c.args.file _ _ c.len.ensures.leaves.now_stays) c.in_ok-write_at.ensures.written) c.sync.ensures.now;
      disk_faults = omega (arith, c.len.ensures.disk_faults, c.write_at.ensures.disk_faults, c.sync.ensures.disk_faults);
      out_faults = c.sync.ensures.out_faults ∙ c.write_at.ensures.out_faults ∙ c.len.ensures.out_faults;
      reads = c.sync.ensures.reads ∙ c.write_at.ensures.reads ∙ c.len.ensures.reads;
    }

pub returns-then-branch-gt1-clause-pending : goal.returns-then-branch-gt1-clause-pending
returns-then-branch-gt1-clause-pending g c =
    leaves_all-settled g.H.Host.now g.H.Host.may g.H.Host.clock g.H.Host.since g.H.Host.said c.args.file _ _ c.len.ensures.leaves
