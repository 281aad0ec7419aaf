use Rattle.rg_restarts.proofs.Stops.{last_left, picked_last}
use Rattle.rg_restarts.proofs.twice.left_by.Goals as goal

pub returns-clause-last : goal.returns-clause-last
returns-clause-last c = last_left c.args.host.now c.calls.result c.calls.ensures c.stop_image.result c.stop_image.ensures.moment

pub returns-clause-begun : goal.returns-clause-begun
returns-clause-begun c = c.stop_image.ensures.begun

pub returns-clause-settled : goal.returns-clause-settled
returns-clause-settled c = c.stop_image.ensures.settled

pub returns-clause-picked : goal.returns-clause-picked
returns-clause-picked c = picked_last c.args.pick c.args.host.now c.calls.result c.calls.ensures c.stop_image.result c.stop_image.ensures.image
