use Rattle.std.proofs.Common.{◌≡◌, true, [], sym, refl, ◌∙◌}
use Rattle.rg_row.specs.Fields.{start}
use Rattle.rg_row.specs.Modes.{mode_of}
use Rattle.rg_row.specs.declared.quotes.Mode.{Mode}
use Rattle.rg_row.specs.declared.quotes.Mode.TheVariants.{Start, Bare, Quoted, Behind}
use Rattle.rg_row.proofs.Scans.{split_scans, scans_more, scans_stop, scans_end, may_end}
use Rattle.rg_row.proofs.quotes.is_split.Goals as goal

-- a line may end wherever it isn't between quotes
ends_open : (mode : Mode) → (mode ≡ Quoted → ⊥) → may_end (mode_of mode) ≡ true
ends_open Start other = refl
ends_open Bare other = refl
ends_open Quoted other = absurd (other refl)
ends_open Behind other = refl

pub returns-in-None : goal.returns-in-None
returns-in-None c = sym (split_scans start [] [] c.args.line.now ∙ c.loop-byte.invariant ∙ scans_stop _ _ _ c.loop-byte-test.true (sym c.in-None.ensures))

pub loop-byte-preserved : goal.loop-byte-preserved
loop-byte-preserved c = c.loop-byte.invariant ∙ scans_more _ _ _ _ c.loop-byte-test.true (sym c.in-Some.ensures)

pub returns-in-Quoted : goal.returns-in-Quoted
returns-in-Quoted c = sym (split_scans start [] [] c.args.line.now ∙ c.loop-byte.invariant ∙ scans_end _ _ _ c.loop-byte-test.false ∙ rw c.in-Quoted.is refl)

pub returns-in_default : goal.returns-in_default
returns-in_default c = sym (split_scans start [] [] c.args.line.now ∙ c.loop-byte.invariant ∙ scans_end _ _ _ c.loop-byte-test.false ∙ ends_open _ c.in_default.not-Quoted)
