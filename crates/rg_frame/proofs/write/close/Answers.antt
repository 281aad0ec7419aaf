use Rattle.std.proofs.Common.{◌≡◌, [], ◌∷◌, inl, inr, ℕ, get_or, drop, Option, Some, refl, subst, ◌∙◌, arith}
use Rattle.rg_host.specs.Image.{Image, Becomes, InFile, Holds}
use Rattle.rg_host.proofs.Laws.{leaves_all-settled, becomes-before}
use Rattle.rg_frame.specs.Frames.{HasPayloads}
use Rattle.rg_frame.specs.Steps.{OldOrNone, Shut}
use Rattle.rg_frame.proofs.Gates.{head-read, head-open, head-shut, head-none, none-closed, none-empty, none-torn, none-written}
use Rattle.rg_frame.proofs.Runs.{Same, writes-quiet, writes-weaker, writes-more, writes-sync, becomes-none, becomes-kept, in_file-where, others-stay, others-then}
use Rattle.rg_frame.proofs.write.close.Goals as goal

pub returns-in_err-n-clause-wrote : goal.returns-in_err-n-clause-wrote
returns-in_err-n-clause-wrote g c =
    let quiet = writes-quiet g.H.Host.now g.H.Host.may g.H.Host.clock g.H.Host.since g.H.Host.said c.args.file _ _ c.read_at.ensures.leaves in
    record {
      closed = λ w told shut. c.read_at.ensures.leaves;
      writes = writes-weaker g.H.Host.now g.H.Host.may g.H.Host.clock g.H.Host.since g.H.Host.said c.args.file Same OldOrNone _ _ quiet (λ w told b same. inl same);
      others = others-stay c.args.file _ _ c.read_at.ensures.leaves.now_stays;
      disk_faults = c.read_at.ensures.disk_faults;
      out_faults = c.read_at.ensures.out_faults;
      reads = c.read_at.ensures.reads_kept;
    }

pub returns-then-n-eq0-clause-wrote : goal.returns-then-n-eq0-clause-wrote
returns-then-n-eq0-clause-wrote g c =
    let quiet = writes-quiet g.H.Host.now g.H.Host.may g.H.Host.clock g.H.Host.since g.H.Host.said c.args.file _ _ c.read_at.ensures.leaves in
    record {
      closed = λ w told shut. c.read_at.ensures.leaves;
      writes = writes-weaker g.H.Host.now g.H.Host.may g.H.Host.clock g.H.Host.since g.H.Host.said c.args.file Same OldOrNone _ _ quiet (λ w told b same. inl same);
      others = others-stay c.args.file _ _ c.read_at.ensures.leaves.now_stays;
      disk_faults = c.read_at.ensures.disk_faults;
      out_faults = c.read_at.ensures.out_faults;
      reads = c.read_at.ensures.reads_kept;
    }

pub returns-then-gate-ne1-clause-wrote : goal.returns-then-gate-ne1-clause-wrote
returns-then-gate-ne1-clause-wrote g c =
    let quiet = writes-quiet g.H.Host.now g.H.Host.may g.H.Host.clock g.H.Host.since g.H.Host.said c.args.file _ _ c.read_at.ensures.leaves in
    record {
      closed = λ w told shut. c.read_at.ensures.leaves;
      writes = writes-weaker g.H.Host.now g.H.Host.may g.H.Host.clock g.H.Host.since g.H.Host.said c.args.file Same OldOrNone _ _ quiet (λ w told b same. inl same);
      others = others-stay c.args.file _ _ c.read_at.ensures.leaves.now_stays;
      disk_faults = c.read_at.ensures.disk_faults;
      out_faults = c.read_at.ensures.out_faults;
      reads = c.read_at.ensures.reads_kept;
    }

pub returns-in_err-write_at-clause-wrote : goal.returns-in_err-write_at-clause-wrote
returns-in_err-write_at-clause-wrote g c =
    let quiet = writes-quiet g.H.Host.now g.H.Host.may g.H.Host.clock g.H.Host.since g.H.Host.said c.args.file _ _ c.read_at.ensures.leaves in
    let head : (w : Image) → g.H.Host.now c.args.host.now ≡ Some w → w c.args.file ≡ get_or c.read_at.new.buf 0 0 ∷ drop 1 (w c.args.file) = λ w told. head-read (w c.args.file) c.read_at.new.buf c.in_ok-n.n (omega (arith, c.in_ok-n.ensures.size)) (omega (arith, c.in_ok-n.ensures.count)) (omega (arith, c.if-n-eq0.false)) (c.in_ok-n.ensures.within w told) (c.in_ok-n.ensures.bytes w told) in
    let one : (w : Image) → g.H.Host.now c.args.host.now ≡ Some w → w c.args.file ≡ 1 ∷ drop 1 (w c.args.file) = λ w told. subst (λ (b : ℕ). w c.args.file ≡ b ∷ drop 1 (w c.args.file)) (omega (arith, c.if-gate-ne1.false)) (head w told) in
    record {
      closed = λ w told shut. absurd (shut (head-open (w c.args.file) 1 refl (one w told)));
      writes = writes-more g.H.Host.now g.H.Host.may g.H.Host.clock g.H.Host.since g.H.Host.said c.args.file 0 _ Same OldOrNone _ _ _ quiet c.write_at.ensures.may c.write_at.ensures.moments c.write_at.ensures.said (λ w told b same. inl same) (λ w told b x same torn. none-torn (w c.args.file) b x (one w told) same torn);
      others = others-then c.args.file _ _ _ _ _ (others-stay c.args.file _ _ c.read_at.ensures.leaves.now_stays) c.in_err-write_at.ensures.torn;
      disk_faults = omega (arith, c.read_at.ensures.disk_faults, c.write_at.ensures.disk_faults);
      out_faults = c.write_at.ensures.out_faults ∙ c.read_at.ensures.out_faults;
      reads = omega (arith, c.read_at.ensures.reads_kept, c.write_at.ensures.reads);
    }

pub returns-in_err-sync-clause-wrote : goal.returns-in_err-sync-clause-wrote
returns-in_err-sync-clause-wrote g c =
    let quiet = writes-quiet g.H.Host.now g.H.Host.may g.H.Host.clock g.H.Host.since g.H.Host.said c.args.file _ _ c.read_at.ensures.leaves in
    let head : (w : Image) → g.H.Host.now c.args.host.now ≡ Some w → w c.args.file ≡ get_or c.read_at.new.buf 0 0 ∷ drop 1 (w c.args.file) = λ w told. head-read (w c.args.file) c.read_at.new.buf c.in_ok-n.n (omega (arith, c.in_ok-n.ensures.size)) (omega (arith, c.in_ok-n.ensures.count)) (omega (arith, c.if-n-eq0.false)) (c.in_ok-n.ensures.within w told) (c.in_ok-n.ensures.bytes w told) in
    let one : (w : Image) → g.H.Host.now c.args.host.now ≡ Some w → w c.args.file ≡ 1 ∷ drop 1 (w c.args.file) = λ w told. subst (λ (b : ℕ). w c.args.file ≡ b ∷ drop 1 (w c.args.file)) (omega (arith, c.if-gate-ne1.false)) (head w told) in
    let written = writes-more g.H.Host.now g.H.Host.may g.H.Host.clock g.H.Host.since g.H.Host.said c.args.file 0 _ Same OldOrNone _ _ _ quiet c.write_at.ensures.may c.write_at.ensures.moments c.write_at.ensures.said (λ w told b same. inl same) (λ w told b x same torn. none-torn (w c.args.file) b x (one w told) same torn) in
    record {
      closed = λ w told shut. absurd (shut (head-open (w c.args.file) 1 refl (one w told)));
      writes = writes-sync g.H.Host.now g.H.Host.may g.H.Host.clock g.H.Host.since g.H.Host.said c.args.file OldOrNone _ _ _ written c.sync.ensures.may c.sync.ensures.moments c.sync.ensures.said;
      others = becomes-before _ _ _ _ (others-then c.args.file _ _ _ _ _ (others-stay c.args.file _ _ c.read_at.ensures.leaves.now_stays) c.in_ok-write_at.ensures.written) c.sync.ensures.now;
      disk_faults = omega (arith, c.read_at.ensures.disk_faults, c.write_at.ensures.disk_faults, c.sync.ensures.disk_faults);
      out_faults = c.sync.ensures.out_faults ∙ c.write_at.ensures.out_faults ∙ c.read_at.ensures.out_faults;
      reads = omega (arith, c.read_at.ensures.reads_kept, c.write_at.ensures.reads, c.sync.ensures.reads);
    }

pub returns-clause-wrote : goal.returns-clause-wrote
returns-clause-wrote g c =
    let quiet = writes-quiet g.H.Host.now g.H.Host.may g.H.Host.clock g.H.Host.since g.H.Host.said c.args.file _ _ c.read_at.ensures.leaves in
    let head : (w : Image) → g.H.Host.now c.args.host.now ≡ Some w → w c.args.file ≡ get_or c.read_at.new.buf 0 0 ∷ drop 1 (w c.args.file) = λ w told. head-read (w c.args.file) c.read_at.new.buf c.in_ok-n.n (omega (arith, c.in_ok-n.ensures.size)) (omega (arith, c.in_ok-n.ensures.count)) (omega (arith, c.if-n-eq0.false)) (c.in_ok-n.ensures.within w told) (c.in_ok-n.ensures.bytes w told) in
    let one : (w : Image) → g.H.Host.now c.args.host.now ≡ Some w → w c.args.file ≡ 1 ∷ drop 1 (w c.args.file) = λ w told. subst (λ (b : ℕ). w c.args.file ≡ b ∷ drop 1 (w c.args.file)) (omega (arith, c.if-gate-ne1.false)) (head w told) in
    let written = writes-more g.H.Host.now g.H.Host.may g.H.Host.clock g.H.Host.since g.H.Host.said c.args.file 0 _ Same OldOrNone _ _ _ quiet c.write_at.ensures.may c.write_at.ensures.moments c.write_at.ensures.said (λ w told b same. inl same) (λ w told b x same torn. none-torn (w c.args.file) b x (one w told) same torn) in
    record {
      closed = λ w told shut. absurd (shut (head-open (w c.args.file) 1 refl (one w told)));
      writes = writes-sync g.H.Host.now g.H.Host.may g.H.Host.clock g.H.Host.since g.H.Host.said c.args.file OldOrNone _ _ _ written c.sync.ensures.may c.sync.ensures.moments c.sync.ensures.said;
      others = becomes-before _ _ _ _ (others-then c.args.file _ _ _ _ _ (others-stay c.args.file _ _ c.read_at.ensures.leaves.now_stays) c.in_ok-write_at.ensures.written) c.sync.ensures.now;
      disk_faults = omega (arith, c.read_at.ensures.disk_faults, c.write_at.ensures.disk_faults, c.sync.ensures.disk_faults);
      out_faults = c.sync.ensures.out_faults ∙ c.write_at.ensures.out_faults ∙ c.read_at.ensures.out_faults;
      reads = omega (arith, c.read_at.ensures.reads_kept, c.write_at.ensures.reads, c.sync.ensures.reads);
    }

pub returns-then-n-eq0-clause-closed : goal.returns-then-n-eq0-clause-closed
returns-then-n-eq0-clause-closed g c =
    record {
      none = becomes-none c.args.file (g.H.Host.now c.args.host.now) _ c.read_at.ensures.leaves.now_stays (λ w told. none-empty (w c.args.file) (c.in_ok-n.ensures.end w told c.if-n-eq0.true (omega arith)));
      shut = becomes-kept c.args.file Shut _ _ c.read_at.ensures.leaves.now_stays (λ w told. inr (head-none (w c.args.file) (c.in_ok-n.ensures.end w told c.if-n-eq0.true (omega arith)), refl));
      pending = leaves_all-settled g.H.Host.now g.H.Host.may g.H.Host.clock g.H.Host.since g.H.Host.said c.args.file _ _ c.read_at.ensures.leaves;
    }

pub returns-then-gate-ne1-clause-closed : goal.returns-then-gate-ne1-clause-closed
returns-then-gate-ne1-clause-closed g c =
    let head : (w : Image) → g.H.Host.now c.args.host.now ≡ Some w → w c.args.file ≡ get_or c.read_at.new.buf 0 0 ∷ drop 1 (w c.args.file) = λ w told. head-read (w c.args.file) c.read_at.new.buf c.in_ok-n.n (omega (arith, c.in_ok-n.ensures.size)) (omega (arith, c.in_ok-n.ensures.count)) (omega (arith, c.if-n-eq0.false)) (c.in_ok-n.ensures.within w told) (c.in_ok-n.ensures.bytes w told) in
    record {
      none = becomes-none c.args.file (g.H.Host.now c.args.host.now) _ c.read_at.ensures.leaves.now_stays (λ w told. none-closed (w c.args.file) _ c.if-gate-ne1.true (head w told));
      shut = becomes-kept c.args.file Shut _ _ c.read_at.ensures.leaves.now_stays (λ w told. inr (head-shut (w c.args.file) _ c.if-gate-ne1.true (head w told), refl));
      pending = leaves_all-settled g.H.Host.now g.H.Host.may g.H.Host.clock g.H.Host.since g.H.Host.said c.args.file _ _ c.read_at.ensures.leaves;
    }

pub returns-clause-closed : goal.returns-clause-closed
returns-clause-closed g c =
    let head : (w : Image) → g.H.Host.now c.args.host.now ≡ Some w → w c.args.file ≡ get_or c.read_at.new.buf 0 0 ∷ drop 1 (w c.args.file) = λ w told. head-read (w c.args.file) c.read_at.new.buf c.in_ok-n.n (omega (arith, c.in_ok-n.ensures.size)) (omega (arith, c.in_ok-n.ensures.count)) (omega (arith, c.if-n-eq0.false)) (c.in_ok-n.ensures.within w told) (c.in_ok-n.ensures.bytes w told) in
    let one : (w : Image) → g.H.Host.now c.args.host.now ≡ Some w → w c.args.file ≡ 1 ∷ drop 1 (w c.args.file) = λ w told. subst (λ (b : ℕ). w c.args.file ≡ b ∷ drop 1 (w c.args.file)) (omega (arith, c.if-gate-ne1.false)) (head w told) in
    let written : Becomes (g.H.Host.now c.args.host.now) (g.H.Host.now c.write_at.new.self) (InFile c.args.file (Holds 0 (0 ∷ []))) = subst (λ (o : Option Image). Becomes o (g.H.Host.now c.write_at.new.self) (InFile c.args.file (Holds 0 (0 ∷ [])))) c.read_at.ensures.leaves.now_stays c.in_ok-write_at.ensures.written in
    record {
      none = becomes-before _ _ _ _ (in_file-where c.args.file (λ a. a ≡ 1 ∷ drop 1 a) (Holds 0 (0 ∷ [])) (λ _ bytes. HasPayloads [] bytes) _ _ one written (λ a b is holds. none-written a b holds)) c.sync.ensures.now;
      shut = becomes-before _ _ _ _ (in_file-where c.args.file (λ a. a ≡ 1 ∷ drop 1 a) (Holds 0 (0 ∷ [])) Shut _ _ one written (λ a b is holds. inl (head-open a 1 refl is, holds))) c.sync.ensures.now;
      pending = λ settled. c.in_ok-sync.ensures.settled;
    }
