use Rattle.std.proofs.Common.{◌++◌, List, ℕ, map, sym, ap, rules}
use Rattle.std.proofs.lemmas.Result.{IfOk-equal, on_err_weaker}
use Rattle.rg_bytes.proofs.Laws.{kept_through}
use Rattle.rg_column.specs.Numbers.{value_number, value_of, number_of, numbers_bytes}
use Rattle.rg_column.specs.declared.series.Series.TheVariants.{Int, Id}
use Rattle.rg_column.proofs.Typed.{map_twice}
use Rattle.rg_column.proofs.values.put_column.Goals as goal

pub returns-in-Int-clause-ok : goal.returns-in-Int-clause-ok
returns-in-Int-clause-ok c =
    let events = c.args.events.now in
    let series = Int c.args.index in
    let all = map value_number (map (value_of c.args.index) events) in
    rw c.in-Int.is
    (IfOk-equal c.put_numbers.result c.put_numbers.new.out.items (c.args.out.now.items ++ numbers_bytes series (map (number_of series) events)) (c.args.out.now.items ++ numbers_bytes series all) c.put_numbers.ensures.ok
    (ap (λ (numbers : List ℕ). c.args.out.now.items ++ numbers_bytes series numbers) (sym (map_twice value_number (value_of c.args.index) events))))

pub returns-in-Id-clause-ok : goal.returns-in-Id-clause-ok
returns-in-Id-clause-ok c =
    let events = c.args.events.now in
    let series = Id c.args.index in
    let all = map value_number (map (value_of c.args.index) events) in
    rw c.in-Id.is
    (IfOk-equal c.put_numbers-in-Id.result c.put_numbers-in-Id.new.out.items (c.args.out.now.items ++ numbers_bytes series (map (number_of series) events)) (c.args.out.now.items ++ numbers_bytes series all) c.put_numbers-in-Id.ensures.ok
    (ap (λ (numbers : List ℕ). c.args.out.now.items ++ numbers_bytes series numbers) (sym (map_twice value_number (value_of c.args.index) events))))

pub returns-in_ok-put_lengths-in-Text-clause-err : goal.returns-in_ok-put_lengths-in-Text-clause-err
returns-in_ok-put_lengths-in-Text-clause-err c = on_err_weaker c.put_texts.result (λ kept. kept_through _ _ _ _ c.in_ok-put_lengths-in-Text.ensures.ok kept) c.put_texts.ensures.err
