-- The input of a trial, line by line.
use Rattle.std.proofs.Common.{◌≡◌, ℕ, zero, suc, ◌+◌, List, [], ◌∷◌, ◌++◌, refl, ap, sym, ◌∙◌, arith}
use Rattle.rg_host.specs.Lines.{ended}
use Rattle.rg_host.proofs.Laws.{ended-append}
use Rattle.rg_scratch.specs.Lines.{made_line}
use Rattle.rg_selftest.specs.Trials.{made_lines}

pub next_line : (seed i : ℕ) (input more : List ℕ) → input ≡ ended (made_lines seed i) → more ≡ input ++ (made_line seed i ++ 10 ∷ []) → more ≡ ended (made_lines seed (i + 1))
next_line seed i input more is grown =
    let next : suc i ≡ i + 1 = omega arith in
    grown ∙ ap (λ text. text ++ (made_line seed i ++ 10 ∷ [])) is ∙ sym (ended-append (made_lines seed i) (made_line seed i ∷ [])) ∙ ap (λ n. ended (made_lines seed n)) next
