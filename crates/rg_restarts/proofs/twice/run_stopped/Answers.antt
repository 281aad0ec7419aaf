use Rattle.std.proofs.Common.{refl, sym, ap, subst}
use Rattle.rg_host.specs.Effects.{said_after}
use Rattle.rg_host.specs.Files.{image_of}
use Rattle.rg_host.specs.Fused.{Fused}
use Rattle.rg_host.specs.Image.{Image}
use Rattle.rg_host.specs.MemHost.{Ledger, now_in, may_in, said_in}
use Rattle.rg_run_spec.specs.Pieces.{whole_pieces}
use Rattle.rg_recover.specs.Ready.{IsReadyRun}
use Rattle.rg_restarts.specs.Twice.{accepted_of, IsLeft}
use Rattle.rg_restarts.proofs.Stops.{RunsFused, fused_left, told_such, going_on, going_on_alike, ready_for, first_ends}
use Rattle.rg_restarts.proofs.twice.run_stopped.Goals as goal

pub returns-clause-left : goal.returns-clause-left
returns-clause-left c = λ start.
    let runs = subst (λ (f : Fused Ledger). RunsFused start.asks c.args.input.now c.run_bytes-status.result f c.run_bytes-status.new.host) c.new-fuse.ensures (c.run_bytes-status.ensures.runs start.names_run start.asks start.says) in
    let image = image_of c.in_ok-left.left.first in
    let now_is = ap now_in c.in_ok-left.ensures.begun in
    let left = fused_left start.asks c.args.input.now c.run_bytes-status.result (record { inner = c.args.host; left = c.args.stop; disk_faults = 0; out_faults = 0; reads = 0 }) c.run_bytes-status.new.host runs start.store c.into_inner-host.result c.into_inner-host.ensures image (c.in_ok-left.ensures.last image now_is) in
    (left.0, left.1, told_such (λ (v : Image). IsLeft start.asks start.store.held (accepted_of start.asks c.args.input.now) (whole_pieces left.0) v) (now_in c.in_ok-left.left) image now_is left.2)

pub returns-clause-again : goal.returns-clause-again
returns-clause-again c = λ start others other asked names says alike.
    let runs = subst (λ (f : Fused Ledger). RunsFused start.asks c.args.input.now c.run_bytes-status.result f c.run_bytes-status.new.host) c.new-fuse.ensures (c.run_bytes-status.ensures.runs start.names_run start.asks start.says) in
    let image = image_of c.in_ok-left.left.first in
    let now_is = ap now_in c.in_ok-left.ensures.begun in
    let left = fused_left start.asks c.args.input.now c.run_bytes-status.result (record { inner = c.args.host; left = c.args.stop; disk_faults = 0; out_faults = 0; reads = 0 }) c.run_bytes-status.new.host runs start.store c.into_inner-host.result c.into_inner-host.ensures image (c.in_ok-left.ensures.last image now_is) in
    record {
      names_run = names;
      asks = asked;
      says = says;
      within = start.within;
      store = going_on_alike start.asks asked c.args.input.now (now_in c.in_ok-left.left) (may_in c.in_ok-left.left) alike
          (going_on start.asks c.args.input.now start.store.held (whole_pieces left.0) (now_in c.in_ok-left.left) (may_in c.in_ok-left.left) image now_is c.in_ok-left.ensures.settled left.2);
    }

pub returns-clause-status : goal.returns-clause-status
returns-clause-status c = λ start.
    let ready = subst (λ (f : Fused Ledger). IsReadyRun start.asks (now_in f.inner) (may_in f.inner) (said_in f.inner)) (sym c.new-fuse.ensures)
    (ready_for start.asks c.args.input.now (now_in c.args.host) (may_in c.args.host) start.store (said_in c.args.host) (said_after c.args.host.effects) refl) in
    first_ends c.run_bytes-status.result _ _ (c.run_bytes-status.ensures.ends start.names_run start.asks start.says ready start.within)

pub returns-clause-begun : goal.returns-clause-begun
returns-clause-begun c = c.in_ok-left.ensures.begun

pub returns-clause-settled : goal.returns-clause-settled
returns-clause-settled c = c.in_ok-left.ensures.settled

pub returns-clause-picked : goal.returns-clause-picked
returns-clause-picked c = c.in_ok-left.ensures.picked
