use Rattle.std.proofs.Common.{◌∙◌, sym, inl, refl, arith, vec_len}
use Rattle.toml.specs.View.{table_view}
use Rattle.rg_config.specs.Reading.{settings_view}
use Rattle.rg_config.proofs.Rests.{settings_refused, settings_found}
use Rattle.rg_config.proofs.plan.read_rest.Goals as goal

pub returns-clause-reads : goal.returns-clause-reads
returns-clause-reads c =
    inl (
      c.in-Err.fault,
      refl,
      settings_refused (table_view c.args.top.now) c.in_ok-texts.texts.items (vec_len c.in_ok-texts.texts) c.in-Err.fault (sym c.if-not-has_only.ensures) c.in_ok-texts.ensures (omega (arith, c.in_ok-texts.texts.ok)) (sym c.is_empty.ensures ∙ c.if-is_empty.false) c.in-Err.ensures.value,
    )

pub returns-in-Ok-clause-reads : goal.returns-in-Ok-clause-reads
returns-in-Ok-clause-reads c =
    settings_found (table_view c.args.top.now) c.in_ok-texts.texts.items (vec_len c.in_ok-texts.texts) (settings_view c.in-Ok.settings) (sym c.if-not-has_only.ensures) c.in_ok-texts.ensures (omega (arith, c.in_ok-texts.texts.ok)) (sym c.is_empty.ensures ∙ c.if-is_empty.false) c.in-Ok.ensures.value
