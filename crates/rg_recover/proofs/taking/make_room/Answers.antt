use Rattle.std.proofs.Common.{length, refl, ap, arith}
use Rattle.std.proofs.lemmas.Result.{on_ok_weaker}
use Rattle.rg_reservoir.specs.Kept.{opened}
use Rattle.rg_open.specs.Stores.{store_of}
use Rattle.rg_recover.proofs.Sparing.{spared_still}
use Rattle.rg_recover.proofs.Storing.{still_has}
use Rattle.rg_recover.proofs.Within.{still_within}
use Rattle.rg_recover.proofs.taking.make_room.Goals as goal

pub returns-then-has_room-clause-stores : goal.returns-then-has_room-clause-stores
returns-then-has_room-clause-stores g c =
    let h = c.args.host.now in
    let r = c.args.reservoir.now in
    record {
      within = λ plan keep log. still_within g.H.Host.now g.H.Host.may g.H.Host.clock g.H.Host.since g.H.Host.said g.met.H.Host.only_now g.met.H.Host.sinks (store_of plan) keep (opened r) h;
      spared = λ slot below. spared_still g.H.Host.now g.H.Host.may g.H.Host.clock g.H.Host.since g.H.Host.said g.met.H.Host.only_now g.met.H.Host.sinks slot h;
      done = still_has g.H.Host.now g.H.Host.may g.H.Host.clock g.H.Host.since g.H.Host.said r h c.requires.can.going;
    }

pub returns-then-has_room-clause-keeps : goal.returns-then-has_room-clause-keeps
returns-then-has_room-clause-keeps g c = record {
  log = record { view = refl; file = refl; limit = refl; room = refl; cap = refl; more = omega arith; said_stays = refl; disk_faults_grow = omega arith; out_faults_stay = refl };
  count = refl;
  fewer = omega arith;
  next = refl;
  last = refl;
  reaches = c.requires.can.reaches;
}

pub returns-then-has_room-clause-room : goal.returns-then-has_room-clause-room
returns-then-has_room-clause-room g c = record { room = c.has_room.ensures.0 c.if-has_room.true; untouched = λ room. (refl, refl); cause = tt }

pub returns-clause-stores : goal.returns-clause-stores
returns-clause-stores g c = c.commit_open.ensures.stores

pub returns-clause-keeps : goal.returns-clause-keeps
returns-clause-keeps g c = c.commit_open.ensures.keeps

pub returns-clause-room : goal.returns-clause-room
returns-clause-room g c = record {
  room = on_ok_weaker c.commit_open.result (λ empty. omega (arith, ap length empty, c.commit_open.ensures.keeps.log.room, c.requires.can.some_room)) c.commit_open.ensures.empty;
  untouched = λ room. absurd (let yes = c.has_room.ensures.1 room in let no = c.if-has_room.false in cc);
  cause = c.commit_open.ensures.cause;
}
