use Rattle.std.proofs.Common.{◌∙◌, sym, subst, inl, refl, List, ℕ, Ok, Err}
use Rattle.rg_metric.specs.Queries.{asked}
use Rattle.rg_query.specs.Saying.{Says, Tells}
use Rattle.rg_config.proofs.Judged.{taken, too_large, unread}
use Rattle.rg_config.proofs.queries.read_query.Goals as goal

pub returns-in-None-clause-reads : goal.returns-in-None-clause-reads
returns-in-None-clause-reads c =
    let P : List ℕ → Type 0 = λ text. Says c.args.schema.now text (Ok (asked c.in-Ok.query)) in
    taken c.args.number c.args.schema.now c.args.text.now c.if-number-ge-MAX_QUERIES.false (asked c.in-Ok.query) (subst P c.as_bytes.ensures.value c.in-Ok.ensures.sound) (sym c.excess_of.ensures ∙ c.in-None.is)

pub returns-in-Some-clause-reads : goal.returns-in-Some-clause-reads
returns-in-Some-clause-reads c =
    let P : List ℕ → Type 0 = λ text. Says c.args.schema.now text (Ok (asked c.in-Ok.query)) in
    inl (
      c.in-Some.refusal,
      refl,
      too_large c.args.number c.args.schema.now c.args.text.now c.if-number-ge-MAX_QUERIES.false (asked c.in-Ok.query) c.in-Some.refusal (subst P c.as_bytes.ensures.value c.in-Ok.ensures.sound) (sym c.excess_of.ensures ∙ c.in-Some.is),
    )

pub returns-in-Err-clause-reads : goal.returns-in-Err-clause-reads
returns-in-Err-clause-reads c =
    let P : List ℕ → Type 0 = λ text. Tells c.args.schema.now text (Err c.in-Err.fault) in
    unread c.args.number c.args.schema.now c.args.text.now c.if-number-ge-MAX_QUERIES.false c.in-Err.fault c.refuse_text.result (subst P c.as_bytes.ensures.value c.in-Err.ensures.sound) c.refuse_text.ensures
