use Rattle.std.proofs.Common.{◌≡◌, ◌≤◌, false, length, IsTrue, inl, arith, rules, ap, sym, ◌∙◌, ◌+◌, Err}
use Rattle.rg_bytes.proofs.Laws.{agrees_stopped}
use Rattle.rg_event.specs.Words.{is_word}
use Rattle.rg_event.proofs.Laws.{text_of_word, no_text}
use Rattle.rg_column.specs.declared.fault.ColumnFault.TheVariants.{Short, BadColumn, Memory}
use Rattle.rg_column.proofs.Typed.{text_short, text_read, text_bad}
use Rattle.rg_column.proofs.values.take_text.Goals as goal

pub returns-in_err-text-clause-agrees : goal.returns-in_err-text-clause-agrees
returns-in_err-text-clause-agrees c = agrees_stopped Memory (λ value. value) _ c.from_residual.result _ Short c.from_residual.ensures.1 (inl (text_short _ _ _ (search rules)))

pub returns-in-Some-clause-agrees : goal.returns-in-Some-clause-agrees
returns-in-Some-clause-agrees c =
    let same : c.in-Some.word ≡ c.in_ok-text.text.now = rw c.in-Some.is at c.in_ok-word.ensures.same in
    let legal : IsTrue (is_word c.in_ok-text.text.now) = rw c.in-Some.is at c.in_ok-word.ensures.legal in
    rw same (text_read c.args.index c.args.length c.args.from.now c.in_ok-text.text.now c.bytes.new.self (search rules) (search rules) (text_of_word _ legal))

pub returns-in-None-clause-agrees : goal.returns-in-None-clause-agrees
returns-in-None-clause-agrees c =
    let none : is_word c.in_ok-text.text.now ≡ false = rw c.in-None.is at c.in_ok-word.ensures.no_word in
    let counted : length c.in_ok-text.text.now ≡ c.args.length = search rules in
    let short : length c.in_ok-text.text.now ≤ 255 = omega (arith, counted, c.ranges.length.fits) in
    inl
    (text_bad c.args.index c.args.length c.args.from.now c.in_ok-text.text.now c.bytes.new.self (search rules) counted (no_text _ none short)
    ∙ ap (λ n. Err (BadColumn (n + 1))) (sym c.from-in-None.ensures))
