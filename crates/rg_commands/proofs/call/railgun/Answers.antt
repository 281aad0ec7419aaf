use Rattle.std.proofs.Common.{◌≡◌, inl, inr, ⊎_elim, Some, None, Option, refl, ap, sym, ◌∙◌, subst}
use Rattle.rg_messages.specs.declared.status.Status.{Status}
use Rattle.rg_messages.specs.declared.status.Status.TheVariants.{Ok, Usage, Plan as BadPlan, Store, Read, Write, Disk, Limit, Gap, Differs}
use Rattle.rg_commands.specs.Call.{command_of}
use Rattle.rg_commands.specs.Commands.{Promises}
use Rattle.rg_commands.specs.Causes.{cause, causes}
use Rattle.rg_commands.specs.Outcome.{source_outcome, host_outcome, outcome, outcome_of}
use Rattle.rg_commands.proofs.Naming.{own, ran_by, why_at, failure}
use Rattle.rg_commands.proofs.call.railgun.Goals as goal

pub returns-clause-complete_run : goal.returns-clause-complete_run
returns-clause-complete_run g c = λ ok first is told. let r = (ran_by _ first _ _ is c.carry_out.ensures.promises).ran told in (r.0, r.2.complete_run ok)

pub returns-clause-every_moment : goal.returns-clause-every_moment
returns-clause-every_moment g c = λ first is told. let r = (ran_by _ first _ _ is c.carry_out.ensures.promises).ran told in (r.0, r.1, r.2.is_last, r.2.told_from, r.2.every_moment)

pub returns-clause-last_line_run : goal.returns-clause-last_line_run
returns-clause-last_line_run g c = λ first is told. let r = (ran_by _ first _ _ is c.carry_out.ensures.promises).ran told in ⊎_elim (λ whole. inl (r.0, r.1, r.2.is_last, r.2.told_from, whole)) (λ rose. inr rose) r.2.last_line_run

pub returns-clause-no_reply_lost : goal.returns-clause-no_reply_lost
returns-clause-no_reply_lost g c = λ first is told. let r = (ran_by _ first _ _ is c.carry_out.ensures.promises).ran told in (r.0, r.1, r.2.is_last, r.2.no_reply_lost)

pub returns-clause-saved_kept : goal.returns-clause-saved_kept
returns-clause-saved_kept g c = λ first is told. let r = (ran_by _ first _ _ is c.carry_out.ensures.promises).ran told in (r.0, r.2.saved_kept)

pub returns-clause-replies_put : goal.returns-clause-replies_put
returns-clause-replies_put g c = λ ends first is told. let r = (ran_by _ first _ _ is c.carry_out.ensures.promises).ran told in ⊎_elim (λ answered. inl (r.0, answered.0, answered.1)) (λ more. ⊎_elim (λ unread. inr (inl (unread.0.0, unread.1, unread.0.1))) (λ rose. inr (inr rose)) more) (r.2.replies_put ends)

pub returns-clause-resumes : goal.returns-clause-resumes
returns-clause-resumes g c = λ ok first is told zero held. let r = (ran_by _ first _ _ is c.carry_out.ensures.promises).ran told in (r.0, r.2.resumes ok zero held)

pub returns-clause-gap_always : goal.returns-clause-gap_always
returns-clause-gap_always g c = λ ok first is told. let r = (ran_by _ first _ _ is c.carry_out.ensures.promises).ran told in r.2.gap_always ok

pub returns-clause-log_stays : goal.returns-clause-log_stays
returns-clause-log_stays g c = λ first is. (ran_by _ first _ _ is c.carry_out.ensures.promises).log_stays

pub returns-clause-completes_run : goal.returns-clause-completes_run
returns-clause-completes_run g c = λ first is told. (ran_by _ first _ _ is c.carry_out.ensures.promises).completes_run told

pub returns-clause-run : goal.returns-clause-run
returns-clause-run g c = λ first is. ran_by _ first _ _ is c.carry_out.ensures.promises

pub returns-clause-replay : goal.returns-clause-replay
returns-clause-replay g c = λ first is. own _ _ _ _ is c.carry_out.ensures.promises

pub returns-clause-verify : goal.returns-clause-verify
returns-clause-verify g c = λ is. own _ _ _ _ is c.carry_out.ensures.promises

pub returns-clause-check : goal.returns-clause-check
returns-clause-check g c = λ is. own _ _ _ _ is c.carry_out.ensures.promises

pub returns-clause-dump : goal.returns-clause-dump
returns-clause-dump g c = λ is. own _ _ _ _ is c.carry_out.ensures.promises

pub returns-clause-info : goal.returns-clause-info
returns-clause-info g c = λ is. own _ _ _ _ is c.carry_out.ensures.promises

pub returns-clause-trial : goal.returns-clause-trial
returns-clause-trial g c = λ lines seed is. own _ _ _ _ is c.carry_out.ensures.promises

pub returns-clause-usage_only : goal.returns-clause-usage_only
returns-clause-usage_only g c = λ is. why_at _ _ _ _ Usage c.carry_out.ensures.every is

pub returns-clause-usage_always : goal.returns-clause-usage_always
returns-clause-usage_always g c = λ none. own _ _ _ _ none c.carry_out.ensures.promises

pub returns-clause-ok_only : goal.returns-clause-ok_only
returns-clause-ok_only g c = λ is. why_at _ _ _ _ Ok c.carry_out.ensures.every is

pub returns-clause-read_only : goal.returns-clause-read_only
returns-clause-read_only g c = λ is. why_at _ _ _ _ Read c.carry_out.ensures.every is

pub returns-clause-write_only : goal.returns-clause-write_only
returns-clause-write_only g c = λ is. why_at _ _ _ _ Write c.carry_out.ensures.every is

pub returns-clause-disk_only : goal.returns-clause-disk_only
returns-clause-disk_only g c = λ is. why_at _ _ _ _ Disk c.carry_out.ensures.every is

pub returns-clause-limit_only : goal.returns-clause-limit_only
returns-clause-limit_only g c = λ is. why_at _ _ _ _ Limit c.carry_out.ensures.every is

pub returns-clause-differs_only : goal.returns-clause-differs_only
returns-clause-differs_only g c = λ is. why_at _ _ _ _ Differs c.carry_out.ensures.every is

pub returns-clause-plan_only : goal.returns-clause-plan_only
returns-clause-plan_only g c = λ is. (c.carry_out.ensures.every.ended.last, c.carry_out.ensures.every.ended.ends, why_at _ _ _ _ BadPlan c.carry_out.ensures.every is)

pub returns-clause-store_only : goal.returns-clause-store_only
returns-clause-store_only g c = λ is. (c.carry_out.ensures.every.ended.last, c.carry_out.ensures.every.ended.ends, why_at _ _ _ _ Store c.carry_out.ensures.every is)

pub returns-clause-gap_only : goal.returns-clause-gap_only
returns-clause-gap_only g c = λ is. (c.carry_out.ensures.every.ended.last, c.carry_out.ensures.every.ended.ends, why_at _ _ _ _ Gap c.carry_out.ensures.every is)

pub returns-clause-failure_told : goal.returns-clause-failure_told
returns-clause-failure_told g c = failure _ _ _ _ c.carry_out.ensures.every

pub returns-clause-plan_first : goal.returns-clause-plan_first
returns-clause-plan_first g c = c.carry_out.ensures.every.alone.plan_first

pub returns-clause-read_first : goal.returns-clause-read_first
returns-clause-read_first g c = c.carry_out.ensures.every.alone.read_first

pub returns-clause-plan_alone : goal.returns-clause-plan_alone
returns-clause-plan_alone g c = c.carry_out.ensures.every.alone.plan_unread

pub returns-clause-input_alone : goal.returns-clause-input_alone
returns-clause-input_alone g c = c.carry_out.ensures.every.alone.input_unread

pub returns-clause-files_stay : goal.returns-clause-files_stay
returns-clause-files_stay g c = c.carry_out.ensures.every.alone.files_stay
