use Rattle.std.proofs.Common.{rules}
use Rattle.rg_row_audit.specs.Gathering.{node_of}
use Rattle.rg_row_audit.proofs.Gathers.{gathers_unhanded, gathers_value}
use Rattle.rg_row_audit.proofs.gathering.gather_event.Goals as goal

pub returns-in-None : goal.returns-in-None
returns-in-None c = λ front gathered. gathers_unhanded (node_of c.args.asking.now) c.args.time front c.args.event.now c.args.map.now gathered (search (rules, c.handed.ensures))

pub returns : goal.returns
returns c = λ front gathered.
    gathers_value (node_of c.args.asking.now) c.args.time front c.args.event.now c.args.map.now gathered c.put_value.new.map c.in-Some.value.now c.in_ok-key.key
    (search (rules, c.counts.ensures)) (search (rules, c.handed.ensures)) c.in_ok-key.ensures c.in_ok-put_value.ensures.at c.in_ok-put_value.ensures.others
