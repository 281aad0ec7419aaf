-- A slot that was written.
use Rattle.std.proofs.Common.{◌≡◌, ◌≢◌, ◌==◌, ◌<◌, ℕ, Bool, true, false, List, Option, refl, sym, subst, arith}
use Rattle.std.specs.Prelude.{⊤}
use Rattle.std.proofs.lemmas.Bool.Decides.{Decides-eqb}
use Rattle.rg_host.specs.Image.{Image, Becomes, InFile, NothingPending}
use Rattle.rg_frame.specs.Steps.{Leaves, OthersStay}
use Rattle.rg_recover.specs.Stepping.{LogStays}

-- after a write that is settled each image that might be left has what was written
pub written_left : (file : ℕ) (Step : List ℕ → List ℕ → Type 0) (now then : Option Image) (may after : Image → Type 0) → Becomes now then (InFile file Step) → NothingPending file then after → ((u : Image) → after u → OthersStay file may u)
    → (u : Image) → after u → Leaves file Step now may u
written_left file Step now then may after step settled others u left = (
  others u left,
  λ _ v told.
      let became = step.told v told in
      subst (λ (bytes : List ℕ). Step (v file) bytes) (sym (settled became.0 became.1 u left)) became.2.there,
)

-- the log stays where a slot was written
pub log_stays : (slot : ℕ) → slot < 2 → (now then : Option Image) (may after : Image → Type 0) → Becomes now then (InFile slot (λ _ _. ⊤)) → ((u : Image) → after u → OthersStay slot may u) → LogStays now then may after
log_stays slot below now then may after step others = record {
  told = λ v told. let became = step.told v told in (became.0, became.1, became.2.elsewhere 2 apart);
  untold = step.untold;
  left = λ u left. let x = others u left in (x.0, x.1, x.2 2 apart);
}
  where
    apart : 2 ≢ slot
    apart e = absurd (omega (arith, below, e))

-- and where nothing was
pub log_same : (now : Option Image) (may : Image → Type 0) → LogStays now now may may
log_same now may = record { told = λ v told. (v, told, refl); untold = λ none. none; left = λ u left. (u, left, refl) }

-- of any file, where that is so of the written one and of the others
pub settled_by : (file written : ℕ) (P : ℕ → Type 0) → P written → (file ≢ written → P file) → P file
settled_by file written P there elsewhere = by (file == written) refl
  where
    by : (same : Bool) → (file == written) ≡ same → P file
    by true is = subst P (sym ((Decides-eqb file written).0 is)) there
    by false is = elsewhere (λ e. let yes : (file == written) ≡ true = (Decides-eqb file written).1 e in absurd cc)
