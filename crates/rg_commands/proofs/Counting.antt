-- What is counted of a run over a new store.
use Rattle.std.proofs.Common.{◌≡◌, ◌∙◌, ℕ, ◌≤◌, ◌^◌, List, length, Some, Ok, ap}
use Rattle.std.specs.List.{sum}
use Rattle.rg_host.specs.Lines.{ended}
use Rattle.rg_config.specs.Plans.{Planned, Says}
use Rattle.rg_recover.specs.Anew.{HasRun}
use Rattle.rg_selftest.specs.Trials.{IsTrial, made_lines, plan_text, text_for, count_for}
use Rattle.rg_selftest.specs.declared.trials.Trial.{Trial}

-- what a run put is its text
pub text_is : (asks : Planned) (input text said : List ℕ) → HasRun asks input (Some said) → text ≡ said → text ≡ text_for asks input
text_is asks input text said ran is = let put : Some said ≡ Some (text_for asks input) = ran.put in cc

pub numbers : (seed n : ℕ) (asks : Planned) (input text said : List ℕ) (t : Trial) → Says plan_text (Ok asks) → input ≡ ended (made_lines seed n) → HasRun asks input (Some said) → text ≡ said
    → t.lines ≡ n → ((plan : Planned) (lines : List ℕ) → text ≡ text_for plan lines → count_for plan lines ≤ 2 ^ 40 → t.events ≡ count_for plan lines) → t.bytes ≡ length text → t.sum ≡ sum text → IsTrial seed n t
numbers seed n asks input text said t says made ran is lines events bytes sum_is =
    let whole : text ≡ text_for asks (ended (made_lines seed n)) = text_is asks input text said ran is ∙ ap (text_for asks) made in
    record {
      asks = asks;
      says = says;
      lines = lines;
      events = events asks input (text_is asks input text said ran is) ran.few ∙ ap (count_for asks) made;
      bytes = bytes ∙ ap length whole;
      sum_is = sum_is ∙ ap sum whole;
    }
