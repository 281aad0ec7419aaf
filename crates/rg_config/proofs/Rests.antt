-- What stands beside the stream, where its settings can't be read.
use Rattle.std.proofs.Common.{◌≡◌, ◌==◌, ℕ, true, false, List, [], ◌∷◌, map, length, Bor, Some, Ok, Err, refl, ap}
use Rattle.std.specs.Prelude.{codes}
use Rattle.toml.specs.Data.{Members, get_member}
use Rattle.rg_config.specs.Documents.{all_keys, texts_at, Settings, settings_or, rest_of}
use Rattle.rg_config.specs.declared.fault.SettingsFault.{SettingsFault}

pub settings_refused :
    (top : Members) (texts : List (Bor (List ℕ))) (n : ℕ) (cause : SettingsFault)
    → all_keys (codes "queries" ∷ codes "stream" ∷ codes "settings" ∷ []) top ≡ true
    → texts_at (codes "queries") top ≡ Some (map (λ text. text.now) texts) → n ≡ length texts → (n == 0) ≡ false
    → settings_or (get_member (codes "settings") top) ≡ Err cause → rest_of top ≡ Err cause
settings_refused top [] n cause known found count some refused = absurd (let none : (n == 0) ≡ true = ap (λ m. m == 0) count in cc)
settings_refused top (text ∷ texts) n cause known found count some refused = rw (known, found, refused) refl

-- and where they can
pub settings_found :
    (top : Members) (texts : List (Bor (List ℕ))) (n : ℕ) (settings : Settings)
    → all_keys (codes "queries" ∷ codes "stream" ∷ codes "settings" ∷ []) top ≡ true
    → texts_at (codes "queries") top ≡ Some (map (λ text. text.now) texts) → n ≡ length texts → (n == 0) ≡ false
    → settings_or (get_member (codes "settings") top) ≡ Ok settings → rest_of top ≡ Ok (map (λ text. text.now) texts, settings)
settings_found top [] n settings known found count some read = absurd (let none : (n == 0) ≡ true = ap (λ m. m == 0) count in cc)
settings_found top (text ∷ texts) n settings known found count some read = rw (known, found, read) refl
