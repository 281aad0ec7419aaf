use Rattle.std.proofs.Common.{rules, ◌≡◌, ◌∙◌, ◌<◌, ◌≤◌, inl, ℕ, List, [], ◌∷◌, ◌++◌, refl, ap, sym, subst}
use Rattle.std.proofs.lemmas.List.{append-nil}
use Rattle.rg_host.specs.Lines.{ended}
use Rattle.rg_host.specs.Puts.{Puts}
use Rattle.rg_host.proofs.Laws.{ended-append, puts-nothing}
use Rattle.rg_reply.specs.Texts.{reply_line}
use Rattle.rg_replay.specs.Playing.{AddsLines}
use Rattle.rg_replay.proofs.Lines.{line_kept, line_left}
use Rattle.rg_replay.proofs.Quiet.{leaves_store-none}
use Rattle.rg_replay.proofs.writing.put_reply.Goals as goal

pub returns-then-offset-first-clause-puts : goal.returns-then-offset-first-clause-puts
returns-then-offset-first-clause-puts g c = λ held is.
    let below : c.args.offset < c.args.first = search rules in
    inl (
      puts-nothing g.H.Host.said g.H.Host.clock g.H.Host.since _ (λ t u m. g.met.H.Host.sinks _ t u m) (λ m. g.met.H.Host.only_now _ m),
      is ∙ ap ended (sym (append-nil held) ∙ ap (λ l. held ++ l) (sym (line_left c.args.first c.args.offset c.args.reply.now below))),
    )

pub returns-then-offset-first-clause-leaves : goal.returns-then-offset-first-clause-leaves
returns-then-offset-first-clause-leaves g c = leaves_store-none g.H.Host.now g.H.Host.may g.H.Host.clock g.H.Host.since g.H.Host.disk_faults g.H.Host.out_faults _ (λ t u m. g.met.H.Host.sinks _ t u m) (λ m now. (g.met.H.Host.only_now _ m now).0)

pub returns-in-Err-clause-puts : goal.returns-in-Err-clause-puts
returns-in-Err-clause-puts g c = λ held is. inl (refl, puts-nothing g.H.Host.said g.H.Host.clock g.H.Host.since _ (λ t u m. g.met.H.Host.sinks _ t u m) (λ m. g.met.H.Host.only_now _ m))

pub returns-in-Err-clause-leaves : goal.returns-in-Err-clause-leaves
returns-in-Err-clause-leaves g c = leaves_store-none g.H.Host.now g.H.Host.may g.H.Host.clock g.H.Host.since g.H.Host.disk_faults g.H.Host.out_faults _ (λ t u m. g.met.H.Host.sinks _ t u m) (λ m now. (g.met.H.Host.only_now _ m now).0)

pub returns-in-Err-clause-write : goal.returns-in-Err-clause-write
returns-in-Err-clause-write g c = inl refl

pub returns-then-len-lt-LONG-clause-puts : goal.returns-then-len-lt-LONG-clause-puts
returns-then-len-lt-LONG-clause-puts g c = λ held is.
    let from : c.args.first ≤ c.args.offset = search rules in
    let line = reply_line c.args.offset c.args.reply.now in
    inl (
      puts-nothing g.H.Host.said g.H.Host.clock g.H.Host.since _ (λ t u m. g.met.H.Host.sinks _ t u m) (λ m. g.met.H.Host.only_now _ m),
      c.in-Ok.ensures.ok ∙ ap (λ l. l ++ ended (line ∷ [])) is ∙ sym (ended-append held (line ∷ [])) ∙ ap (λ l. ended (held ++ l)) (sym (line_kept c.args.first c.args.offset c.args.reply.now from)),
    )

pub returns-then-len-lt-LONG-clause-leaves : goal.returns-then-len-lt-LONG-clause-leaves
returns-then-len-lt-LONG-clause-leaves g c = leaves_store-none g.H.Host.now g.H.Host.may g.H.Host.clock g.H.Host.since g.H.Host.disk_faults g.H.Host.out_faults _ (λ t u m. g.met.H.Host.sinks _ t u m) (λ m now. (g.met.H.Host.only_now _ m now).0)

pub returns-clause-puts : goal.returns-clause-puts
returns-clause-puts g c = λ held is.
    let from : c.args.first ≤ c.args.offset = search rules in
    let line = reply_line c.args.offset c.args.reply.now in
    let with : c.write_reply.new.out.items ≡ ended (held ++ line ∷ []) = c.in-Ok.ensures.ok ∙ ap (λ l. l ++ ended (line ∷ [])) is ∙ sym (ended-append held (line ∷ [])) in
    subst (λ (l : List (List ℕ)). AddsLines (held ++ l) (Puts g.H.Host.said g.H.Host.clock g.H.Host.since c.args.host.now c.put_gathered.new.host) c.put_gathered.new.text.items c.put_gathered.result) (sym (line_kept c.args.first c.args.offset c.args.reply.now from))
    (c.put_gathered.ensures.puts (held ++ line ∷ []) with)
