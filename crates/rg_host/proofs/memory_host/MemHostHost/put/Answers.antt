use Rattle.std.proofs.Common.{◌≡◌, ◌∷◌, ◌∙◌, length, sym, ap, rules, arith}
use Rattle.std.proofs.lemmas.List.{take_all}
use Rattle.rg_host.specs.CallTrace.{with_effect}
use Rattle.rg_host.specs.Effects.{nothing, put}
use Rattle.rg_host.specs.MemHost.{noted, unnoted, with_out_fault}
use Rattle.rg_host.proofs.LedgerMoments.{first_in, effects_in, first_of, effects_of, unnoted-puts, unnoted-leaves_files, nothing-puts, nothing-leaves_files, put-puts, put-leaves_files}
use Rattle.rg_host.proofs.memory_host.MemHostHost.put.Goals as goal

pub returns-then-is_err-clause-puts : goal.returns-then-is_err-clause-puts
returns-then-is_err-clause-puts c =
    let is : c.out_fault.new.self ≡ unnoted (with_out_fault c.args.self.now) = search rules in
    unnoted-puts _ _ (ap first_in is) (ap effects_in is)

pub returns-then-is_err-clause-leaves : goal.returns-then-is_err-clause-leaves
returns-then-is_err-clause-leaves c =
    let is : c.out_fault.new.self ≡ unnoted (with_out_fault c.args.self.now) = search rules in
    unnoted-leaves_files _ _ (ap first_in is) (ap effects_in is)

pub returns-then-begin-clause-puts : goal.returns-then-begin-clause-puts
returns-then-begin-clause-puts c =
    let is : c.out_fault-then-begin.new.self ≡ noted nothing (with_out_fault c.args.self.now) = search rules in
    nothing-puts _ _ (ap first_in is) (ap effects_in is)

pub returns-then-begin-clause-leaves : goal.returns-then-begin-clause-leaves
returns-then-begin-clause-leaves c =
    let is : c.out_fault-then-begin.new.self ≡ noted nothing (with_out_fault c.args.self.now) = search rules in
    nothing-leaves_files _ _ (ap first_in is) (ap effects_in is)

pub returns-then-is_err-2-clause-puts : goal.returns-then-is_err-2-clause-puts
returns-then-is_err-2-clause-puts c =
    let is : c.out_fault-then-is_err-2.new.self ≡ unnoted (with_out_fault c.args.self.now) = search rules in
    unnoted-puts _ _ (ap first_in is) (ap effects_in is)

pub returns-then-is_err-2-clause-leaves : goal.returns-then-is_err-2-clause-leaves
returns-then-is_err-2-clause-leaves c =
    let is : c.out_fault-then-is_err-2.new.self ≡ unnoted (with_out_fault c.args.self.now) = search rules in
    unnoted-leaves_files _ _ (ap first_in is) (ap effects_in is)

pub returns-clause-puts : goal.returns-clause-puts
returns-clause-puts c =
    let bytes = c.args.bytes.now in
    let is : c.note_put.new.self ≡ with_effect (put bytes) c.self-2.inside.trace = search rules in
    let all = take_all (length bytes) bytes (omega arith) in
    put-puts _ _ (ap first_of is ∙ ap first_in (c.self-2.view_is ∙ c.begin.ensures.next)) _ (ap effects_of is ∙ ap (λ l. put bytes ∷ l) (ap effects_in (c.self-2.view_is ∙ c.begin.ensures.next)) ∙ ap (λ l. put l ∷ c.args.self.now.effects) (sym all))

pub returns-clause-leaves : goal.returns-clause-leaves
returns-clause-leaves c =
    let is : c.note_put.new.self ≡ with_effect (put c.args.bytes.now) c.self-2.inside.trace = search rules in
    put-leaves_files _ _ (ap first_of is ∙ ap first_in (c.self-2.view_is ∙ c.begin.ensures.next)) _ (ap effects_of is ∙ ap (λ l. put c.args.bytes.now ∷ l) (ap effects_in (c.self-2.view_is ∙ c.begin.ensures.next)))
