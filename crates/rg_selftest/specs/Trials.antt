-- The trial: what it puts, and what is counted of that.
use Rattle.std.specs.Prelude.{◌≡◌, ℕ, zero, suc, List, [], ◌∷◌, ◌++◌, length, codes, decimal, Ok}
use Rattle.std.specs.List.{sum}
use Rattle.rg_host.specs.Lines.{ended, lines_of}
use Rattle.rg_config.specs.Plans.{Planned, Says}
use Rattle.rg_config.specs.declared.fault.ConfigFault.{ConfigFault}
use Rattle.rg_run_spec.specs.Accepted.{events_after}
use Rattle.rg_run_spec.specs.Output.{text_of_run}
use Rattle.rg_task.specs.Terms.{terms_of}
use Rattle.rg_scratch.specs.Lines.{made_line}
use Rattle.rg_selftest.specs.declared.trials.Trial.{Trial}

-- the plan of a trial, as TOML
abbrev pub plan_text : List ℕ
plan_text = codes "queries = ['SELECT count(*), sum(amount) FROM payments GROUP BY card OVER SLIDING 5 minutes', 'SELECT countDistinct(merchant), max(amount) FROM payments WHERE amount >= 5000 GROUP BY card OVER SLIDING 1 hour DELAYED BY 1 minute', 'SELECT avg(amount) FROM payments OVER INFINITE']\n[stream]\nname = 'payments'\ncolumns = ['ts', 'card:text', 'merchant:text', 'amount:int']\n[settings]\ncache = 4\nchunk = 256\ncommit = 1024\nsave = 4096\n"

-- the first n made lines of a seed
abbrev pub made_lines : ℕ → ℕ → List (List ℕ)
made_lines seed zero = []
made_lines seed (suc n) = made_lines seed n ++ made_line seed n ∷ []

-- what a run of a plan over a new store puts for an input, the open line included
abbrev pub text_for : Planned → List ℕ → List ℕ
text_for plan input = ended (text_of_run (terms_of plan) [] 0 0 (lines_of input))

-- how many events it accepts
abbrev pub count_for : Planned → List ℕ → ℕ
count_for plan input = length (events_after (terms_of plan).basis [] 0 (lines_of input))

-- The numbers of a trial on so many made lines of a seed: how many lines and accepted events there are, how many bytes the text of the
-- run has, and their sum as numbers.
pub record IsTrial (seed n : ℕ) (t : Trial) : Type 0 where
  pub asks : Planned
  pub says : Says plan_text (Ok asks)
  pub lines : t.lines ≡ n
  pub events : t.events ≡ count_for asks (ended (made_lines seed n))
  pub bytes : t.bytes ≡ length (text_for asks (ended (made_lines seed n)))
  pub sum_is : t.sum ≡ sum (text_for asks (ended (made_lines seed n)))

-- the four lines of a trial
abbrev pub trial_lines : Trial → List (List ℕ)
trial_lines t =
    (codes "lines " ++ decimal t.lines)
    ∷ ((codes "events " ++ decimal t.events)
    ∷ ((codes "bytes " ++ decimal t.bytes)
    ∷ ((codes "sum " ++ decimal t.sum) ∷ [])))
