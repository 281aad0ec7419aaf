use Rattle.std.proofs.Common.{◌≡◌, ◌∙◌, inl, [], ◌∷◌, ◌++◌, refl, ap, sym}
use Rattle.rg_host.specs.Lines.{ended}
use Rattle.rg_host.proofs.Laws.{ended-append, puts-nothing}
use Rattle.rg_reply.specs.Texts.{mark_line}
use Rattle.rg_reply.specs.declared.mark.Mark.TheVariants.{Finished}
use Rattle.rg_replay.proofs.Quiet.{leaves_store-none}
use Rattle.rg_replay.proofs.writing.put_end.Goals as goal

pub returns-in-Err-clause-puts : goal.returns-in-Err-clause-puts
returns-in-Err-clause-puts g c = λ held is. inl (refl, puts-nothing g.H.Host.said g.H.Host.clock g.H.Host.since _ (λ t u m. g.met.H.Host.sinks _ t u m) (λ m. g.met.H.Host.only_now _ m))

pub returns-in-Err-clause-leaves : goal.returns-in-Err-clause-leaves
returns-in-Err-clause-leaves g c = leaves_store-none g.H.Host.now g.H.Host.may g.H.Host.clock g.H.Host.since g.H.Host.disk_faults g.H.Host.out_faults _ (λ t u m. g.met.H.Host.sinks _ t u m) (λ m now. (g.met.H.Host.only_now _ m now).0)

pub returns-in-Err-clause-write : goal.returns-in-Err-clause-write
returns-in-Err-clause-write g c = inl refl

pub returns-clause-puts : goal.returns-clause-puts
returns-clause-puts g c = λ held is.
    let line = mark_line (Finished c.args.next c.args.count) in
    let with : c.write_mark.new.out.items ≡ ended (held ++ line ∷ []) = c.in-Ok.ensures.ok ∙ ap (λ l. l ++ ended (line ∷ [])) is ∙ sym (ended-append held (line ∷ [])) in
    c.put_written.ensures.puts (held ++ line ∷ []) (c.deref.ensures.value ∙ with)
