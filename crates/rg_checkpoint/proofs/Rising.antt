-- Rows that rise, one after another.
use Rattle.std.proofs.Common.{◌≡◌, inl, inr, suc, ◌<◌, ◌==◌, ◌&&◌, ◌||◌, ◌-◌, get_or, Bool, true, false, nat_lt, List, [], ◌∷◌, ◌++◌, length, Option, Some, None, refl, ap, sym, ◌∙◌, subst, arith}
use Rattle.std.specs.List.{All}
use Rattle.std.proofs.lemmas.Bool.{eqb-true, eq-eqb, ltb-true, lt-ltb}
use Rattle.std.proofs.lemmas.Grind.{common_steps}
use Rattle.std.proofs.lemmas.List.Elements.{All-weaker}
use Rattle.std.proofs.lemmas.List.{map-append}
use Rattle.std.specs.Cmp.Lexicographic.{slice_cmp}
use Rattle.std.specs.Ordering.{is_lt, nat_cmp}
use Rattle.rg_agg.specs.Standing.{size_in}
use Rattle.rg_state.specs.Rows.{At, Entry, IsBelow, AreRising}
use Rattle.rg_checkpoint.specs.declared.base.Row.{Row}
use Rattle.rg_checkpoint.specs.declared.update.Changed.{Changed}
use Rattle.rg_checkpoint.specs.Base.{IsEntry}
use Rattle.rg_checkpoint.specs.Changed.{change_of, changes_of}
use Rattle.rg_checkpoint.specs.Entries.{entry_of, entries_of, AreFilled}
use Rattle.rg_checkpoint.specs.Reading.{is_below, last_of, comes_behind}

pub below_true : {X Y : Type 0} (a : At X) (b : At Y) → IsBelow a b → is_below a b ≡ true
below_true a b (inl less) = rw (lt-ltb a.node b.node less) refl
below_true a b (inr same) = grind (arith, common_steps, eq-eqb a.node b.node same.0, same.1)

below_from : {X Y : Type 0} (a : At X) (b : At Y) (less same later : Bool) → nat_lt a.node b.node ≡ less → (a.node == b.node) ≡ same → is_lt (slice_cmp nat_cmp a.key b.key) ≡ later → (less || (same && later)) ≡ true → IsBelow a b
below_from a b true same later l s k is = inl (ltb-true a.node b.node l)
below_from a b false true true l s k is = inr (eqb-true a.node b.node s, k)
below_from a b false true false l s k is = cc
below_from a b false false later l s k is = cc

pub below_is : {X Y : Type 0} (a : At X) (b : At Y) → is_below a b ≡ true → IsBelow a b
below_is a b is = below_from a b (nat_lt a.node b.node) (a.node == b.node) (is_lt (slice_cmp nat_cmp a.key b.key)) refl refl refl is

rising_more : {X : Type 0} (rows : List (At X)) (row : At X) → AreRising rows → comes_behind (last_of rows) row ≡ true → AreRising (rows ++ row ∷ [])
rising_more [] row rising behind = tt
rising_more (a ∷ []) row rising behind = (below_is a row behind, tt)
rising_more (a ∷ (b ∷ rows)) row rising behind = (rising.0, rising_more (b ∷ rows) row rising.1 behind)

pub rising_pushed : {X : Type 0} (old new : List (At X)) (row : At X) → new ≡ old ++ row ∷ [] → AreRising old → comes_behind (last_of old) row ≡ true → AreRising new
rising_pushed old new row pushed rising behind = subst (λ (rows : List (At _)). AreRising rows) (sym pushed) (rising_more old row rising behind)

-- the entries of rows with one row more
pub entries_pushed : (old new : List Row) (row : Row) → new ≡ old ++ row ∷ [] → entries_of new ≡ entries_of old ++ entry_of row ∷ []
entries_pushed old new row pushed = ap entries_of pushed ∙ map-append entry_of old (row ∷ [])

-- rows that can stand in a checkpoint aren't empty
pub filled_legal : (rows : List Entry) → All IsEntry rows → AreFilled rows
filled_legal rows all = All-weaker IsEntry (λ (entry : Entry). 0 < size_in entry.held) (λ entry legal. legal.some) rows all

pub last_more : {X : Type 0} (rows : List (At X)) (row : At X) → last_of (rows ++ row ∷ []) ≡ Some row
last_more [] row = refl
last_more (a ∷ []) row = refl
last_more (a ∷ (b ∷ rows)) row = last_more (b ∷ rows) row

-- each of these comes behind the one before it, and the first behind that one
abbrev pub RisesBehind : {X : Type 0} → Option (At X) → List (At X) → Type 0
RisesBehind last [] = Unit {0}
RisesBehind last (row ∷ rows) = (comes_behind last row ≡ true) × RisesBehind (Some row) rows

rises_behind : {X : Type 0} (first : At X) (rows : List (At X)) → AreRising (first ∷ rows) → RisesBehind (Some first) rows
rises_behind first [] rising = tt
rises_behind first (row ∷ rows) rising = (below_true first row rising.0, rises_behind row rows rising.1)

pub rises_all : {X : Type 0} (rows : List (At X)) → AreRising rows → RisesBehind None rows
rises_all [] rising = tt
rises_all (row ∷ rows) rising = (refl, rises_behind row rows rising)

-- the last row
pub last_in : (rows : List Row) (row : Row) → 0 < length rows → row ≡ get_or rows (length rows - 1) row → last_of (entries_of rows) ≡ Some (entry_of row)
last_in [] row some is = absurd (omega arith)
last_in (a ∷ []) row some is =
    let e : length (a ∷ []) - 1 ≡ 0 = omega arith in
    let same : row ≡ a = is ∙ ap (λ n. get_or (a ∷ []) n row) e in
    ap (λ r. Some (entry_of r)) (sym same)
last_in (a ∷ (b ∷ rows)) row some is =
    let e : length (a ∷ (b ∷ rows)) - 1 ≡ suc (length (b ∷ rows) - 1) = omega arith in
    last_in (b ∷ rows) row (omega arith) (is ∙ ap (λ n. get_or (a ∷ (b ∷ rows)) n row) e)

-- the same of rows that changed

pub changes_pushed : (old new : List Changed) (row : Changed) → new ≡ old ++ row ∷ [] → changes_of new ≡ changes_of old ++ change_of row ∷ []
changes_pushed old new row pushed = ap changes_of pushed ∙ map-append change_of old (row ∷ [])

pub last_changed : (rows : List Changed) (row : Changed) → 0 < length rows → row ≡ get_or rows (length rows - 1) row → last_of (changes_of rows) ≡ Some (change_of row)
last_changed [] row some is = absurd (omega arith)
last_changed (a ∷ []) row some is =
    let e : length (a ∷ []) - 1 ≡ 0 = omega arith in
    let same : row ≡ a = is ∙ ap (λ n. get_or (a ∷ []) n row) e in
    ap (λ r. Some (change_of r)) (sym same)
last_changed (a ∷ (b ∷ rows)) row some is =
    let e : length (a ∷ (b ∷ rows)) - 1 ≡ suc (length (b ∷ rows) - 1) = omega arith in
    last_changed (b ∷ rows) row (omega arith) (is ∙ ap (λ n. get_or (a ∷ (b ∷ rows)) n row) e)
