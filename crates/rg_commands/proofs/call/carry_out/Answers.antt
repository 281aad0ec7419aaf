use Rattle.std.proofs.Common.{◌≡◌, Some, None, inl, refl, ap, sym, ◌∙◌}
use Rattle.rg_commands.specs.Call.{command_of}
use Rattle.rg_commands.specs.declared.command.Command.TheVariants.{Run, Replay, Verify, Check, Dump, Info, Trial}
use Rattle.rg_commands.proofs.Ends.{every_given, every_alone}
use Rattle.rg_commands.proofs.Unread.{usage_every}
use Rattle.rg_commands.proofs.call.carry_out.Goals as goal

-- the words are no form of a command

pub returns-in_default-clause-every : goal.returns-in_default-clause-every
returns-in_default-clause-every g c =
    let form : command_of c.args.words.now ≡ None = sym c.named.ensures ∙ c.in_default.is in
    rw (form, c.refuse_words.ensures.status) (usage_every g.H.Host _ _ c.refuse_words.ensures.put _ _ refl refl _)

pub returns-in_default-clause-promises : goal.returns-in_default-clause-promises
returns-in_default-clause-promises g c =
    let form : command_of c.args.words.now ≡ None = sym c.named.ensures ∙ c.in_default.is in
    rw form (record { usage = c.refuse_words.ensures.status; line = c.refuse_words.ensures.put.line; usage_first = (refl, refl) })

-- each command

pub returns-in-Run-clause-every : goal.returns-in-Run-clause-every
returns-in-Run-clause-every g c =
    let form : command_of c.args.words.now ≡ Some (Run c.in-Run.first) = sym c.named.ensures ∙ c.in-Some.is ∙ ap (λ v. Some v) c.in-Run.is in
    rw form (c.run.ensures.every)

pub returns-in-Run-clause-promises : goal.returns-in-Run-clause-promises
returns-in-Run-clause-promises g c =
    let form : command_of c.args.words.now ≡ Some (Run c.in-Run.first) = sym c.named.ensures ∙ c.in-Some.is ∙ ap (λ v. Some v) c.in-Run.is in
    rw form (c.run.ensures.promises)

pub returns-in-Replay-clause-every : goal.returns-in-Replay-clause-every
returns-in-Replay-clause-every g c =
    let form : command_of c.args.words.now ≡ Some (Replay c.in-Replay.first) = sym c.named.ensures ∙ c.in-Some.is ∙ ap (λ v. Some v) c.in-Replay.is in
    rw form (every_given (Some (Replay c.in-Replay.first)) (λ run. run) _ _ _ _ _ refl c.replay.ensures.every)

pub returns-in-Replay-clause-promises : goal.returns-in-Replay-clause-promises
returns-in-Replay-clause-promises g c =
    let form : command_of c.args.words.now ≡ Some (Replay c.in-Replay.first) = sym c.named.ensures ∙ c.in-Some.is ∙ ap (λ v. Some v) c.in-Replay.is in
    rw form (c.replay.ensures.promises)

pub returns-in-Verify-clause-every : goal.returns-in-Verify-clause-every
returns-in-Verify-clause-every g c =
    let form : command_of c.args.words.now ≡ Some Verify = sym c.named.ensures ∙ c.in-Some.is ∙ ap (λ v. Some v) c.in-Verify.is in
    rw form (every_given (Some Verify) (λ run. run) _ _ _ _ _ refl c.verify.ensures.every)

pub returns-in-Verify-clause-promises : goal.returns-in-Verify-clause-promises
returns-in-Verify-clause-promises g c =
    let form : command_of c.args.words.now ≡ Some Verify = sym c.named.ensures ∙ c.in-Some.is ∙ ap (λ v. Some v) c.in-Verify.is in
    rw form (c.verify.ensures.promises)

pub returns-in-Check-clause-every : goal.returns-in-Check-clause-every
returns-in-Check-clause-every g c =
    let form : command_of c.args.words.now ≡ Some Check = sym c.named.ensures ∙ c.in-Some.is ∙ ap (λ v. Some v) c.in-Check.is in
    rw form (every_given (Some Check) (λ run. run) _ _ _ _ _ refl c.check.ensures.every)

pub returns-in-Check-clause-promises : goal.returns-in-Check-clause-promises
returns-in-Check-clause-promises g c =
    let form : command_of c.args.words.now ≡ Some Check = sym c.named.ensures ∙ c.in-Some.is ∙ ap (λ v. Some v) c.in-Check.is in
    rw form (c.check.ensures.promises)

pub returns-in-Dump-clause-every : goal.returns-in-Dump-clause-every
returns-in-Dump-clause-every g c =
    let form : command_of c.args.words.now ≡ Some Dump = sym c.named.ensures ∙ c.in-Some.is ∙ ap (λ v. Some v) c.in-Dump.is in
    rw form (every_alone (Some Dump) (λ plan. plan) (λ run. run) (λ replay. replay) (λ verify. verify) _ _ _ _ _ _ refl refl c.dump.ensures.every)

pub returns-in-Dump-clause-promises : goal.returns-in-Dump-clause-promises
returns-in-Dump-clause-promises g c =
    let form : command_of c.args.words.now ≡ Some Dump = sym c.named.ensures ∙ c.in-Some.is ∙ ap (λ v. Some v) c.in-Dump.is in
    rw form (c.dump.ensures.promises)

pub returns-in-Info-clause-every : goal.returns-in-Info-clause-every
returns-in-Info-clause-every g c =
    let form : command_of c.args.words.now ≡ Some Info = sym c.named.ensures ∙ c.in-Some.is ∙ ap (λ v. Some v) c.in-Info.is in
    rw form (every_alone (Some Info) (λ plan. plan) (λ run. run) (λ replay. replay) (λ verify. verify) _ _ _ _ _ _ refl refl c.info.ensures.every)

pub returns-in-Info-clause-promises : goal.returns-in-Info-clause-promises
returns-in-Info-clause-promises g c =
    let form : command_of c.args.words.now ≡ Some Info = sym c.named.ensures ∙ c.in-Some.is ∙ ap (λ v. Some v) c.in-Info.is in
    rw form (c.info.ensures.promises)

pub returns-in-Trial-clause-every : goal.returns-in-Trial-clause-every
returns-in-Trial-clause-every g c =
    let form : command_of c.args.words.now ≡ Some (Trial c.in-Trial.lines c.in-Trial.seed) = sym c.named.ensures ∙ c.in-Some.is ∙ ap (λ v. Some v) c.in-Trial.is in
    rw form (every_alone (Some (Trial c.in-Trial.lines c.in-Trial.seed)) (λ plan. plan) (λ run. run) (λ replay. replay) (λ verify. verify) _ _ _ _ _ _ refl refl c.selftest.ensures.every)

pub returns-in-Trial-clause-promises : goal.returns-in-Trial-clause-promises
returns-in-Trial-clause-promises g c =
    let form : command_of c.args.words.now ≡ Some (Trial c.in-Trial.lines c.in-Trial.seed) = sym c.named.ensures ∙ c.in-Some.is ∙ ap (λ v. Some v) c.in-Trial.is in
    rw form (c.selftest.ensures.promises)
