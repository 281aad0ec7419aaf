use Rattle.std.proofs.Common.{◌≡◌, ◌∙◌, ◌+◌, ◌∷◌, inl, inr, length, take, drop, Some, arith, rules}
use Rattle.rg_host.specs.Image.{Image}
use Rattle.rg_frame.proofs.Looked.{open-read, closed-read, closed-past, length-read, torn-short, torn-long, holds-size}
use Rattle.rg_frame.proofs.Runs.{reads_only-behind, reads_only-then}
use Rattle.rg_frame.proofs.look.look.Goals as goal

pub returns-then-len-le1-clause-found : goal.returns-then-len-le1-clause-found
returns-then-len-le1-clause-found g c =
    let size : (w : Image) → g.H.Host.now c.args.host.now ≡ Some w → c.in_ok-len.len ≡ length (w c.args.file) = λ w told. c.in_ok-len.ensures.length w told in
    record {
      some = search rules;
      fits = search rules;
      none = λ w told. closed-past c.args.place (w c.args.file) (inl (omega (arith, size w told, c.if-len-le1.true)));
      reads = search rules;
    }

pub returns-then-place-len-clause-found : goal.returns-then-place-len-clause-found
returns-then-place-len-clause-found g c =
    let size : (w : Image) → g.H.Host.now c.args.host.now ≡ Some w → c.in_ok-len.len ≡ length (w c.args.file) = λ w told. c.in_ok-len.ensures.length w told in
    record {
      some = search rules;
      fits = search rules;
      none = λ w told. closed-past c.args.place (w c.args.file) (inr (omega (arith, size w told, c.if-place-len.true)));
      reads = search rules;
    }

pub returns-then-gate-ne1-clause-found : goal.returns-then-gate-ne1-clause-found
returns-then-gate-ne1-clause-found g c =
    let size : (w : Image) → g.H.Host.now c.args.host.now ≡ Some w → c.in_ok-len.len ≡ length (w c.args.file) = λ w told. c.in_ok-len.ensures.length w told in
    record {
      some = search rules;
      fits = search rules;
      none = λ w told. closed-read c.args.place _ c.read_full.new.buf (w c.args.file) (c.in_ok-read_full.ensures.filled.bytes w (c.len.ensures.leaves.now_stays ∙ told)) (omega (arith, c.read_full.ensures.filled.size)) (omega (arith, size w told, c.if-place-len.false)) c.if-gate-ne1.true;
      reads = search rules;
    }

pub returns-then-len-place-lt10-clause-refused : goal.returns-then-len-place-lt10-clause-refused
returns-then-len-place-lt10-clause-refused g c =
    let size : (w : Image) → g.H.Host.now c.args.host.now ≡ Some w → c.in_ok-len.len ≡ length (w c.args.file) = λ w told. c.in_ok-len.ensures.length w told in
    let gate : (w : Image) → g.H.Host.now c.args.host.now ≡ Some w → drop c.args.place (w c.args.file) ≡ 1 ∷ drop (c.args.place + 1) (w c.args.file) = λ w told.
    open-read c.args.place _ c.read_full.new.buf (w c.args.file) (c.in_ok-read_full.ensures.filled.bytes w (c.len.ensures.leaves.now_stays ∙ told)) (omega (arith, c.read_full.ensures.filled.size)) (omega (arith, size w told, c.if-place-len.false)) (omega (arith, c.if-gate-ne1.false)) in
    record {
      damaged = λ p e. ((cc), λ w told. torn-short c.args.place (w c.args.file) (gate w told) (omega (arith, size w told, c.if-len-le1.false)) (omega (arith, size w told, c.if-len-place-lt10.true, c.if-place-len.false)));
      disk = search rules;
      faults = search rules;
    }

pub returns-then-size-len-clause-refused : goal.returns-then-size-len-clause-refused
returns-then-size-len-clause-refused g c =
    let size : (w : Image) → g.H.Host.now c.args.host.now ≡ Some w → c.in_ok-len.len ≡ length (w c.args.file) = λ w told. c.in_ok-len.ensures.length w told in
    let gate : (w : Image) → g.H.Host.now c.args.host.now ≡ Some w → drop c.args.place (w c.args.file) ≡ 1 ∷ drop (c.args.place + 1) (w c.args.file) = λ w told.
    open-read c.args.place _ c.read_full.new.buf (w c.args.file) (c.in_ok-read_full.ensures.filled.bytes w (c.len.ensures.leaves.now_stays ∙ told)) (omega (arith, c.read_full.ensures.filled.size)) (omega (arith, size w told, c.if-place-len.false)) (omega (arith, c.if-gate-ne1.false)) in
    let spelled : (w : Image) → g.H.Host.now c.args.host.now ≡ Some w → take 8 (drop (c.args.place + 1) (w c.args.file)) ≡ c.read_full-2.new.buf = λ w told.
    length-read c.args.place _ c.read_full-2.new.buf (w c.args.file) (c.in_ok-read_full-2.ensures.filled.bytes w (c.read_full.ensures.stays.leaves.now_stays ∙ c.len.ensures.leaves.now_stays ∙ told)) (omega (arith, c.read_full-2.ensures.filled.size)) (omega (arith, size w told, c.if-len-place-lt10.false)) in
    record {
      damaged = λ p e. ((cc), λ w told. torn-long c.args.place c.number_of-size.result c.read_full-2.new.buf (w c.args.file) (gate w told) (spelled w told) c.number_of-size.ensures.value (omega (arith, size w told, c.if-len-le1.false)) (omega (arith, size w told, c.if-size-len.true, c.if-place-len.false)));
      disk = search rules;
      faults = search rules;
    }

pub returns-clause-found : goal.returns-clause-found
returns-clause-found g c =
    let size : (w : Image) → g.H.Host.now c.args.host.now ≡ Some w → c.in_ok-len.len ≡ length (w c.args.file) = λ w told. c.in_ok-len.ensures.length w told in
    let gate : (w : Image) → g.H.Host.now c.args.host.now ≡ Some w → drop c.args.place (w c.args.file) ≡ 1 ∷ drop (c.args.place + 1) (w c.args.file) = λ w told.
    open-read c.args.place _ c.read_full.new.buf (w c.args.file) (c.in_ok-read_full.ensures.filled.bytes w (c.len.ensures.leaves.now_stays ∙ told)) (omega (arith, c.read_full.ensures.filled.size)) (omega (arith, size w told, c.if-place-len.false)) (omega (arith, c.if-gate-ne1.false)) in
    let spelled : (w : Image) → g.H.Host.now c.args.host.now ≡ Some w → take 8 (drop (c.args.place + 1) (w c.args.file)) ≡ c.read_full-2.new.buf = λ w told.
    length-read c.args.place _ c.read_full-2.new.buf (w c.args.file) (c.in_ok-read_full-2.ensures.filled.bytes w (c.read_full.ensures.stays.leaves.now_stays ∙ c.len.ensures.leaves.now_stays ∙ told)) (omega (arith, c.read_full-2.ensures.filled.size)) (omega (arith, size w told, c.if-len-place-lt10.false)) in
    record {
      some = λ w told. holds-size c.args.place c.number_of-size.result c.read_full-2.new.buf (w c.args.file) (gate w told) (spelled w told) c.number_of-size.ensures.spelled (omega (arith, size w told, c.if-size-len.false, c.if-len-place-lt10.false));
      fits = omega (arith, c.in_ok-len.ensures.limit, c.if-size-len.false, c.if-len-place-lt10.false, c.if-place-len.false);
      none = search rules;
      reads = omega (arith, c.len.ensures.reads, c.read_full.ensures.stays.reads, c.read_full-2.ensures.filled.reads (omega arith));
    }

pub returns-in_err-read_full-clause-stays : goal.returns-in_err-read_full-clause-stays
returns-in_err-read_full-clause-stays g c = reads_only-behind g.H.Host.now g.H.Host.may g.H.Host.clock g.H.Host.since g.H.Host.said g.H.Host.disk_faults g.H.Host.out_faults g.H.Host.reads _ _ _ c.len.ensures.leaves c.len.ensures.disk_faults c.len.ensures.out_faults c.len.ensures.reads c.read_full.ensures.stays

pub returns-then-gate-ne1-clause-stays : goal.returns-then-gate-ne1-clause-stays
returns-then-gate-ne1-clause-stays g c = reads_only-behind g.H.Host.now g.H.Host.may g.H.Host.clock g.H.Host.since g.H.Host.said g.H.Host.disk_faults g.H.Host.out_faults g.H.Host.reads _ _ _ c.len.ensures.leaves c.len.ensures.disk_faults c.len.ensures.out_faults c.len.ensures.reads c.read_full.ensures.stays

pub returns-then-len-place-lt10-clause-stays : goal.returns-then-len-place-lt10-clause-stays
returns-then-len-place-lt10-clause-stays g c = reads_only-behind g.H.Host.now g.H.Host.may g.H.Host.clock g.H.Host.since g.H.Host.said g.H.Host.disk_faults g.H.Host.out_faults g.H.Host.reads _ _ _ c.len.ensures.leaves c.len.ensures.disk_faults c.len.ensures.out_faults c.len.ensures.reads c.read_full.ensures.stays

pub returns-in_err-read_full-2-clause-stays : goal.returns-in_err-read_full-2-clause-stays
returns-in_err-read_full-2-clause-stays g c =
    reads_only-then g.H.Host.now g.H.Host.may g.H.Host.clock g.H.Host.since g.H.Host.said g.H.Host.disk_faults g.H.Host.out_faults g.H.Host.reads _ _ _ (reads_only-behind g.H.Host.now g.H.Host.may g.H.Host.clock g.H.Host.since g.H.Host.said g.H.Host.disk_faults g.H.Host.out_faults g.H.Host.reads _ _ _ c.len.ensures.leaves c.len.ensures.disk_faults c.len.ensures.out_faults c.len.ensures.reads c.read_full.ensures.stays) c.read_full-2.ensures.stays

pub returns-then-size-len-clause-stays : goal.returns-then-size-len-clause-stays
returns-then-size-len-clause-stays g c =
    reads_only-then g.H.Host.now g.H.Host.may g.H.Host.clock g.H.Host.since g.H.Host.said g.H.Host.disk_faults g.H.Host.out_faults g.H.Host.reads _ _ _ (reads_only-behind g.H.Host.now g.H.Host.may g.H.Host.clock g.H.Host.since g.H.Host.said g.H.Host.disk_faults g.H.Host.out_faults g.H.Host.reads _ _ _ c.len.ensures.leaves c.len.ensures.disk_faults c.len.ensures.out_faults c.len.ensures.reads c.read_full.ensures.stays) c.read_full-2.ensures.stays

pub returns-clause-stays : goal.returns-clause-stays
returns-clause-stays g c =
    reads_only-then g.H.Host.now g.H.Host.may g.H.Host.clock g.H.Host.since g.H.Host.said g.H.Host.disk_faults g.H.Host.out_faults g.H.Host.reads _ _ _ (reads_only-behind g.H.Host.now g.H.Host.may g.H.Host.clock g.H.Host.since g.H.Host.said g.H.Host.disk_faults g.H.Host.out_faults g.H.Host.reads _ _ _ c.len.ensures.leaves c.len.ensures.disk_faults c.len.ensures.out_faults c.len.ensures.reads c.read_full.ensures.stays) c.read_full-2.ensures.stays
