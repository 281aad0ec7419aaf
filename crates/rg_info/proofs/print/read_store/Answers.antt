use Rattle.std.proofs.Common.{◌∙◌, refl, ap}
use Rattle.rg_dump.proofs.Laws.{read-then}
use Rattle.rg_host.specs.Lines.{ended}
use Rattle.rg_info.specs.Info.{info_lines}
use Rattle.rg_info.specs.Summary.{summary_in}
use Rattle.rg_info.specs.declared.summary.Summary.{Summary}
use Rattle.rg_info.proofs.print.read_store.Goals as goal

pub returns-in-Ok-store_text-clause-text : goal.returns-in-Ok-store_text-clause-text
returns-in-Ok-store_text-clause-text g c = λ v told.
    let here = c.in-Ok.ensures.leaves.leaves.now_stays ∙ told in (
      info_lines (summary_in (v 2)) c.in-Ok-attach.slots.first c.in-Ok-attach.slots.second,
      record {
        first = c.in-Ok-attach.slots.first;
        second = c.in-Ok-attach.slots.second;
        first_is = c.in-Ok-attach.ensures.first v here;
        second_is = c.in-Ok-attach.ensures.second v here;
        are = refl;
      },
      c.in-Ok-store_text.ensures ∙ ap (λ (s : Summary). ended (info_lines s c.in-Ok-attach.slots.first c.in-Ok-attach.slots.second)) (c.in-Ok.ensures.summary v told),
    )

pub returns-in-Err-attach-clause-leaves : goal.returns-in-Err-attach-clause-leaves
returns-in-Err-attach-clause-leaves g c = read-then g.H.Host.now g.H.Host.may g.H.Host.clock g.H.Host.since g.H.Host.said g.H.Host.disk_faults g.H.Host.out_faults _ _ _ c.read_log.ensures.leaves (record { leaves = c.attach.ensures.leaves; disk_faults = c.attach.ensures.disk_faults; out_faults = c.attach.ensures.out_faults })

pub returns-in-Ok-store_text-clause-leaves : goal.returns-in-Ok-store_text-clause-leaves
returns-in-Ok-store_text-clause-leaves g c = read-then g.H.Host.now g.H.Host.may g.H.Host.clock g.H.Host.since g.H.Host.said g.H.Host.disk_faults g.H.Host.out_faults _ _ _ c.read_log.ensures.leaves (record { leaves = c.attach.ensures.leaves; disk_faults = c.attach.ensures.disk_faults; out_faults = c.attach.ensures.out_faults })

pub returns-clause-leaves : goal.returns-clause-leaves
returns-clause-leaves g c = read-then g.H.Host.now g.H.Host.may g.H.Host.clock g.H.Host.since g.H.Host.said g.H.Host.disk_faults g.H.Host.out_faults _ _ _ c.read_log.ensures.leaves (record { leaves = c.attach.ensures.leaves; disk_faults = c.attach.ensures.disk_faults; out_faults = c.attach.ensures.out_faults })
