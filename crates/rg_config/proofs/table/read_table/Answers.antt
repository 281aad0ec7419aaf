use Rattle.std.proofs.Common.{◌≡◌, Bool, false, ◌↔◌, IsTrue, refl, inl, inr}
use Rattle.std.proofs.lemmas.Bool.{cases_Bool}
use Rattle.std.proofs.lemmas.Str.{is_utf8-from_IsUtf8, IsUtf8-from_is_utf8}
use Rattle.std.specs.Str.{is_utf8}
use Rattle.rg_config.proofs.table.read_table.Goals as goal

pub returns-in-Ok : goal.returns-in-Ok
returns-in-Ok c = rw (is_utf8-from_IsUtf8 _ c.in-Ok.ensures.ok.0, c.in-Ok.ensures.ok.1) refl

refutes : (b : Bool) (P : Type 0) → (IsTrue b ↔ P) → b ≡ false → P → ⊥
refutes b P both off p = let yes = both.1 p in absurd cc

pub returns-else-is_memory : goal.returns-else-is_memory
returns-else-is_memory c =
    elim (cases_Bool (is_utf8 c.args.bytes.now)) [
      | inl text ↦ rw (text, c.in-Err.ensures.refused (refutes _ _ c.is_memory.ensures c.if-is_memory.false) (IsUtf8-from_is_utf8 _ text)) (inl (refl, refl))
      | inr other ↦ rw other (inl (refl, refl))
    ]
