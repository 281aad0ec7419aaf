use Rattle.std.proofs.Common.{rules, ◌≡◌, ◌∙◌, length, replicate, ap, refl}
use Rattle.rg_checkpoint.specs.Entries.{entries_of}
use Rattle.rg_restore.proofs.Saving.{start_zeros, start_usable, start_true}
use Rattle.rg_restore.proofs.starting.at_start.Goals as goal

pub returns-clause-zeros : goal.returns-clause-zeros
returns-clause-zeros g c =
    let is : c.from.result ≡ replicate (length c.args.plan.now.offsets) c.start.result = search rules in
    start_zeros c.args.plan.now (record { queries = c.new.result; count = 0; spots = c.from.result; rows = c.new-3.result }) c.start.result is c.start.ensures.number

pub returns-clause-usable : goal.returns-clause-usable
returns-clause-usable g c =
    let is : c.from.result ≡ replicate (length c.args.plan.now.offsets) c.start.result = search rules in
    start_usable c.args.plan.now (record { queries = c.new.result; count = 0; spots = c.from.result; rows = c.new-3.result }) c.start.result is c.start.ensures.number (length (g.P.Past.events c.args.past.now))

pub returns-clause-truthful : goal.returns-clause-truthful
returns-clause-truthful g c = λ sound runs.
    let is : c.from.result ≡ replicate (length c.args.plan.now.offsets) c.start.result = search rules in
    start_true c.args.plan.now (record { queries = c.new.result; count = 0; spots = c.from.result; rows = c.new-3.result }) c.start.result is c.start.ensures.number
    (g.P.Past.spells c.args.past.now) (g.P.Past.events c.args.past.now) refl (c.new-3.ensures.rows ∙ ap entries_of c.new-2.ensures.items) (c.start.ensures.spells sound runs)

pub returns-clause-none : goal.returns-clause-none
returns-clause-none g c = c.new-3.ensures.rows ∙ ap entries_of c.new-2.ensures.items
