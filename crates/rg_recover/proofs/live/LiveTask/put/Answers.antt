use Rattle.std.proofs.Common.{Option, refl, sym, ap, subst}
use Rattle.std.proofs.lemmas.Result.{on_ok_weaker}
use Rattle.rg_host.specs.Image.{Image}
use Rattle.rg_recover.specs.Living.{state_of, IsIllegalIn}
use Rattle.rg_recover.specs.Taking.{AsksIllegalChunk}
use Rattle.rg_recover.proofs.NodesStill.{node_still, placed_still}
use Rattle.rg_recover.proofs.Still.{running_still}
use Rattle.rg_recover.proofs.live.LiveTask.put.Goals as goal

pub returns-clause-all : goal.returns-clause-all
returns-clause-all g c = on_ok_weaker c.put_all.result (λ p. record { grows = p.grows; moments = record { later = p.moments.later; each = p.moments.each; nothing_else = p.moments.nothing_else; keeps = p.moments.keeps; adds = p.moments.adds } }) c.put_all.ensures.all

pub returns-clause-part : goal.returns-clause-part
returns-clause-part g c =
    let p = c.put_all.ensures.part in
    (p.0, p.1, record { grows = p.2.grows; moments = record { later = p.2.moments.later; each = p.2.moments.each; nothing_else = p.2.moments.nothing_else; keeps = p.2.moments.keeps; adds = p.2.moments.adds } })

pub returns-clause-leaves : goal.returns-clause-leaves
returns-clause-leaves g c =
    let l = c.put_all.ensures.leaves in
    record { now_stays = l.now_stays; may_stays = l.may_stays; moments = record { later = l.moments.later; each = l.moments.each; nothing_else = l.moments.nothing_else; keeps = l.moments.keeps; adds = l.moments.adds } }

pub returns-clause-keeps : goal.returns-clause-keeps
returns-clause-keeps g c =
    let s = c.args.self.now.session.now in
    let old = c.args.self.now.host.now in
    let new = c.put_all.new.host in
    let l = c.put_all.ensures.leaves in
    record {
      at_stays = ap (λ (o : Option Image). state_of o s) l.now_stays;
      roomy = λ is. is;
      running = λ plan is. running_still g.H.Host.now g.H.Host.may g.H.Host.clock g.H.Host.since plan g.T.Table.tells g.T.Table.cell g.T.Table.named g.T.Table.there old new s l is;
      node = λ plan n is. node_still g.H.Host.now g.H.Host.may g.H.Host.clock g.H.Host.since plan n (g.T.Table.tells s.engine.table) (g.T.Table.cell s.engine.table) s.reservoir s.engine old new l is;
      placed = λ plan is. placed_still g.H.Host.now g.H.Host.may g.H.Host.clock g.H.Host.since plan s.reservoir s.engine old new l is;
      illegal = λ place is. subst (λ (o : Option Image). IsIllegalIn o s place) (sym l.now_stays) is;
      asks_illegal = λ is. subst (λ (o : Option Image). AsksIllegalChunk o s.reservoir s.engine.spots) (sym l.now_stays) is;
      goes = ((refl, refl, refl), (refl, refl));
    }
