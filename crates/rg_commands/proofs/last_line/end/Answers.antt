use Rattle.std.proofs.Common.{◌≡◌, [], length, refl, ap, sym, ◌∙◌, inl, arith}
use Rattle.std.proofs.lemmas.Grind.{common_steps}
use Rattle.rg_commands.specs.Call.{ending_line}
use Rattle.rg_commands.specs.Outcome.{host_outcome}
use Rattle.rg_commands.proofs.Ends.{no_bytes, line_put_by}
use Rattle.rg_commands.proofs.Unread.{nothing_put, files_left}
use Rattle.rg_commands.proofs.last_line.end.Goals as goal

-- there is no last line

pub returns-in-Ok-clause-put : goal.returns-in-Ok-clause-put
returns-in-Ok-clause-put g c = rw c.in-Ok.is (record {
  line = record { part = []; front = ([], refl); whole = inl refl; puts = nothing_put g.H.Host g.met.H.Host.only_now g.met.H.Host.sinks c.args.host.now };
  silent = λ none. refl;
  leaves = files_left g.H.Host g.met.H.Host.only_now g.met.H.Host.sinks c.args.host.now;
  disk = refl;
  later = omega arith;
})

pub returns-then-is_empty-clause-put : goal.returns-then-is_empty-clause-put
returns-then-is_empty-clause-put g c =
    let size : length c.last_line-line.result.now ≡ 0 = grind (arith, common_steps) in
    let none : ending_line c.in-Err.ending ≡ [] = sym c.last_line-line.ensures ∙ no_bytes c.last_line-line.result.now size in
    rw c.in-Err.is (record {
      line = record { part = []; front = (ending_line c.in-Err.ending, refl); whole = inl (sym none); puts = nothing_put g.H.Host g.met.H.Host.only_now g.met.H.Host.sinks c.args.host.now };
      silent = λ none. refl;
      leaves = files_left g.H.Host g.met.H.Host.only_now g.met.H.Host.sinks c.args.host.now;
      disk = refl;
      later = omega arith;
    })

-- it was put, or a prefix of it

pub returns-clause-put : goal.returns-clause-put
returns-clause-put g c =
    rw (c.in-Err.is, ← c.last_line-line.ensures) (record {
      line = line_put_by (host_outcome g.H.Host c.args.host.now c.put_all.new.host) c.last_line-line.result.now c.put_all.result c.put_all.ensures.all c.put_all.ensures.part c.put_all.ensures.cause;
      silent = λ none. absurd (let zero : length c.last_line-line.result.now ≡ 0 = ap length none in grind (arith, common_steps));
      leaves = c.put_all.ensures.leaves;
      disk = c.put_all.ensures.disk_faults;
      later = c.put_all.ensures.out_faults;
    })
