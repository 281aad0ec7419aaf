-- The test of a line for fields that are bare or quoted, byte by byte.
use Rattle.std.proofs.Common.{◌≡◌, ◌==◌, ◌++◌, ◌∷◌, ◌<◌, ◌+◌, ◌≤◌, [], ℕ, List, Bool, Some, None, refl, true, false, inl, inr, is_some, get_or, drop, length}
use Rattle.std.specs.Option.{option_map_or}
use Rattle.std.proofs.lemmas.Bool.{cases_Bool}
use Rattle.std.proofs.lemmas.List.{drop_more, drop_all}
use Rattle.rg_row.specs.Fields.{Mode, start, in_bare, in_quotes, behind, split_from}
use Rattle.rg_row.specs.Modes.{next_mode}

-- whether a line may end here
abbrev pub may_end : Mode → Bool
may_end start = true
may_end in_bare = true
may_end in_quotes = false
may_end behind = true

-- whether a line may go on so from here
unfoldable pub scans : Mode → List ℕ → Bool
scans mode [] = may_end mode
scans mode (byte ∷ rest) = option_map_or (λ next. scans next rest) (next_mode mode byte) false

-- the test says whether the definition gives fields
pub split_scans : (mode : Mode) (fields : List (List ℕ)) (field line : List ℕ) → is_some (split_from mode fields field line) ≡ scans mode line
unfolding split_from scans
split_scans start fs f [] = refl
split_scans in_bare fs f [] = refl
split_scans in_quotes fs f [] = refl
split_scans behind fs f [] = refl
split_scans start fs f (c ∷ rest) = elim (cases_Bool (c == 44)) [
  | inl comma ↦ rw comma (split_scans start (fs ++ f ∷ []) [] rest)
  | inr comma ↦ elim (cases_Bool (c == 34)) [
    | inl quote ↦ rw (comma, quote) (split_scans in_quotes fs f rest)
    | inr quote ↦ rw (comma, quote) (split_scans in_bare fs (f ++ c ∷ []) rest)
  ]
]
split_scans in_bare fs f (c ∷ rest) = elim (cases_Bool (c == 44)) [
  | inl comma ↦ rw comma (split_scans start (fs ++ f ∷ []) [] rest)
  | inr comma ↦ elim (cases_Bool (c == 34)) [
    | inl quote ↦ rw (comma, quote) refl
    | inr quote ↦ rw (comma, quote) (split_scans in_bare fs (f ++ c ∷ []) rest)
  ]
]
split_scans in_quotes fs f (c ∷ rest) = elim (cases_Bool (c == 34)) [
  | inl quote ↦ rw quote (split_scans behind fs f rest)
  | inr quote ↦ rw quote (split_scans in_quotes fs (f ++ c ∷ []) rest)
]
split_scans behind fs f (c ∷ rest) = elim (cases_Bool (c == 34)) [
  | inl quote ↦ rw quote (split_scans in_quotes fs (f ++ c ∷ []) rest)
  | inr quote ↦ elim (cases_Bool (c == 44)) [
    | inl comma ↦ rw (quote, comma) (split_scans start (fs ++ f ∷ []) [] rest)
    | inr comma ↦ rw (quote, comma) refl
  ]
]

-- one more byte
pub scans_more : (mode next : Mode) (xs : List ℕ) (i : ℕ) → i < length xs → next_mode mode (get_or xs i 0) ≡ Some next → scans mode (drop i xs) ≡ scans next (drop (i + 1) xs)
unfolding scans
scans_more mode next xs i h e = rw (drop_more xs i 0 h, e) refl

pub scans_stop : (mode : Mode) (xs : List ℕ) (i : ℕ) → i < length xs → next_mode mode (get_or xs i 0) ≡ None → scans mode (drop i xs) ≡ false
unfolding scans
scans_stop mode xs i h e = rw (drop_more xs i 0 h, e) refl

pub scans_end : (mode : Mode) (xs : List ℕ) (i : ℕ) → length xs ≤ i → scans mode (drop i xs) ≡ may_end mode
unfolding scans
scans_end mode xs i h = rw (drop_all i xs h) refl
