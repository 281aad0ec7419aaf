-- The lines of a text, from its first bytes.
use Rattle.std.proofs.Common.{◌≡◌, ℕ, ◌≤◌, ◌<◌, ◌==◌, Bool, true, false, List, [], ◌∷◌, ◌++◌, length, drop, map, None, refl, ap, sym, ◌∙◌, arith, length-append}
use Rattle.std.proofs.lemmas.Grind.{common_steps}
use Rattle.std.proofs.lemmas.List.{append-nil}
use Rattle.std.proofs.lemmas.List.Splits.{length-slice_split}
use Rattle.std.specs.List.{slice_split, onto_first}
use Rattle.rg_host.specs.Lines.{without_last_empty, line_of, lines_of, HasNoLf}

-- the first piece with x before it
abbrev onto_whole : List ℕ → List (List ℕ) → List (List ℕ)
onto_whole x [] = x ∷ []
onto_whole x (piece ∷ pieces) = (x ++ piece) ∷ pieces

abbrev is_lf : ℕ → Bool
is_lf byte = byte == 10

onto_nothing : (pieces : List (List ℕ)) → 0 < length pieces → pieces ≡ onto_whole [] pieces
onto_nothing [] some = absurd (omega arith)
onto_nothing (piece ∷ pieces) some = refl

onto_onto : (byte : ℕ) (x : List ℕ) (pieces : List (List ℕ)) → onto_first byte (onto_whole x pieces) ≡ onto_whole (byte ∷ x) pieces
onto_onto byte x [] = refl
onto_onto byte x (piece ∷ pieces) = refl

split_some : (rest : List ℕ) → 0 < length (slice_split is_lf rest)
split_some rest = omega (arith, length-slice_split is_lf rest)

split_prefix : (x rest : List ℕ) → HasNoLf x → slice_split is_lf (x ++ rest) ≡ onto_whole x (slice_split is_lf rest)
split_prefix [] rest no_lf = onto_nothing (slice_split is_lf rest) (split_some rest)
split_prefix (byte ∷ x) rest no_lf = rw (no_lf.0, split_prefix x rest no_lf.1) (onto_onto byte x (slice_split is_lf rest))

keeps_first : (text : List ℕ) (pieces : List (List ℕ)) → 0 < length pieces → without_last_empty (text ∷ pieces) ≡ text ∷ without_last_empty pieces
keeps_first text [] some = absurd (omega arith)
keeps_first text (piece ∷ pieces) some = refl

-- LF ends a line
pub lines_of-line : (text rest : List ℕ) → HasNoLf text → lines_of (text ++ 10 ∷ rest) ≡ line_of text ∷ lines_of rest
unfolding lines_of
lines_of-line text rest no_lf =
    let split : slice_split is_lf (text ++ 10 ∷ rest) ≡ text ∷ slice_split is_lf rest =
    split_prefix text (10 ∷ rest) no_lf ∙ ap (λ v. v ∷ slice_split is_lf rest) (append-nil text) in
    rw (split, keeps_first text (slice_split is_lf rest) (split_some rest)) refl

one_line : (text : List ℕ) → 0 < length text → map line_of (without_last_empty (text ∷ [])) ≡ line_of text ∷ []
one_line [] some = absurd (omega arith)
one_line (byte ∷ text) some = refl

-- a last text without LF is a line
pub lines_of-last : (text : List ℕ) → HasNoLf text → 0 < length text → lines_of text ≡ line_of text ∷ []
unfolding lines_of
lines_of-last text no_lf some =
    let split : slice_split is_lf text ≡ text ∷ [] =
    ap (slice_split is_lf) (sym (append-nil text)) ∙ split_prefix text [] no_lf ∙ ap (λ v. v ∷ []) (append-nil text) in
    rw split (one_line text some)

pub line_of-long : (text : List ℕ) → 65536 ≤ length text → line_of text ≡ None
line_of-long text long = grind (arith, common_steps)

prefix_long : (x : List ℕ) (pieces : List (List ℕ)) → 65536 ≤ length x → 0 < length pieces →
    map line_of (without_last_empty (onto_whole x pieces)) ≡ None ∷ map line_of (without_last_empty (drop 1 pieces))
prefix_long [] pieces long some = absurd (omega arith)
prefix_long (byte ∷ x) [] long some = absurd (omega arith)
prefix_long (byte ∷ x) (piece ∷ []) long some = rw (line_of-long (byte ∷ (x ++ piece)) (omega (arith, length-append x piece))) refl
prefix_long (byte ∷ x) (piece ∷ (next ∷ pieces)) long some = rw (line_of-long (byte ∷ (x ++ piece)) (omega (arith, length-append x piece))) refl

-- of a line that is too long it doesn't matter which bytes it begins with
pub lines_of-long : (x y rest : List ℕ) → HasNoLf x → HasNoLf y → 65536 ≤ length x → 65536 ≤ length y → lines_of (x ++ rest) ≡ lines_of (y ++ rest)
unfolding lines_of
lines_of-long x y rest no_x no_y long_x long_y =
    rw (split_prefix x rest no_x, split_prefix y rest no_y)
    (prefix_long x (slice_split is_lf rest) long_x (split_some rest) ∙ sym (prefix_long y (slice_split is_lf rest) long_y (split_some rest)))

pub lines_of-nil : lines_of [] ≡ []
unfolding lines_of
lines_of-nil = refl

some_line : (byte : ℕ) (bytes : List ℕ) (pieces : List (List ℕ)) → map line_of (without_last_empty ((byte ∷ bytes) ∷ pieces)) ≡ [] → ⊥
some_line byte bytes [] none = cc
some_line byte bytes (piece ∷ pieces) none = cc

empty_line : (pieces : List (List ℕ)) → 0 < length pieces → map line_of (without_last_empty ([] ∷ pieces)) ≡ [] → ⊥
empty_line [] some none = absurd (omega arith)
empty_line (piece ∷ pieces) some none = cc

first_grown : (byte : ℕ) (pieces : List (List ℕ)) → map line_of (without_last_empty (onto_first byte pieces)) ≡ [] → ⊥
first_grown byte [] none = some_line byte [] [] none
first_grown byte (piece ∷ pieces) none = some_line byte piece pieces none

begun : (byte : ℕ) (bytes : List ℕ) (is : Bool) → (byte == 10) ≡ is → map line_of (without_last_empty (slice_split is_lf (byte ∷ bytes))) ≡ [] → ⊥
begun byte bytes true is none = empty_line (slice_split is_lf bytes) (split_some bytes) (rw is at none)
begun byte bytes false is none = first_grown byte (slice_split is_lf bytes) (rw is at none)

-- where no line is to come, no byte is left
pub lines_of-none : (bytes : List ℕ) → lines_of bytes ≡ [] → bytes ≡ []
unfolding lines_of
lines_of-none [] none = refl
lines_of-none (byte ∷ bytes) none = absurd (begun byte bytes (byte == 10) refl none)
