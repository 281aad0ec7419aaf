use Rattle.std.proofs.Common.{◌≡◌, ◌≤◌, false, length, IsTrue, inl, arith, rules}
use Rattle.rg_event.specs.Words.{is_word}
use Rattle.rg_event.proofs.Words.{text_of_word, no_text}
use Rattle.rg_event.proofs.Decoding.{text_empty, text_short, text_read, text_bad, agrees_short}
use Rattle.rg_event.proofs.codec.decoder.read_text.Goals as goal

pub returns-in_err-count-clause-agrees : goal.returns-in_err-count-clause-agrees
returns-in_err-count-clause-agrees c = agrees_short _ c.from_residual.result _ c.from_residual.ensures.1 (text_empty _ _ (search rules))

pub returns-in_err-text-clause-agrees : goal.returns-in_err-text-clause-agrees
returns-in_err-text-clause-agrees c =
    agrees_short _ c.from_residual-in_err-text.result _ c.from_residual-in_err-text.ensures.1 (text_short _ _ c.in_ok-count.count c.u8.new.self c.in_ok-count.ensures.ok (search rules))

pub returns-in-Some-clause-agrees : goal.returns-in-Some-clause-agrees
returns-in-Some-clause-agrees c =
    let same : c.in-Some.word ≡ c.in_ok-text.text.now = rw c.in-Some.is at c.in_ok-word.ensures.same in
    let legal : IsTrue (is_word c.in_ok-text.text.now) = rw c.in-Some.is at c.in_ok-word.ensures.legal in
    rw same (text_read _ _ c.in_ok-count.count c.u8.new.self c.in_ok-text.text.now c.bytes.new.self c.in_ok-count.ensures.ok (search rules) (search rules) (text_of_word _ legal))

pub returns-in-None-clause-agrees : goal.returns-in-None-clause-agrees
returns-in-None-clause-agrees c =
    let none : is_word c.in_ok-text.text.now ≡ false = rw c.in-None.is at c.in_ok-word.ensures.no_word in
    let counted : length c.in_ok-text.text.now ≡ c.in_ok-count.count = search rules in
    let short : length c.in_ok-text.text.now ≤ 255 = omega (arith, counted) in
    inl (text_bad _ _ c.in_ok-count.count c.u8.new.self c.in_ok-text.text.now c.bytes.new.self c.in_ok-count.ensures.ok (search rules) counted (no_text _ none short))
