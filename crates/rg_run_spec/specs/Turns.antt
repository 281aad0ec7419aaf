-- A run from turn to turn, its end and its stop.
use Rattle.std.specs.Prelude.{◌≡◌, ◌⊎◌, ℕ, ◌+◌, ◌≤◌, List, [], ◌∷◌, ◌++◌, length, take, Option}
use Rattle.rg_event.specs.declared.event.Event.{Event}
use Rattle.rg_event.specs.Rising.{next_offset}
use Rattle.rg_host.specs.Lines.{ended}
use Rattle.rg_run_spec.specs.Output.{Terms, open_line, put_at, put_before, out}
use Rattle.rg_run_spec.specs.Ahead.{events_from, put_from, out_from}
use Rattle.rg_run_spec.specs.Laws.{IsPrefixOf}
use Rattle.rg_run_spec.specs.Pieces.{AreLines}
use Rattle.rg_run_spec.specs.Stores.{Store, Course, IsKeptInStore}
use Rattle.rg_run_spec.specs.Steps.{IsAtRest}

-- A moment between two lines of the input. These events were accepted, of which those that are stored are the first; these lines
-- are still to come, the first of them at this offset.
pub record IsBetween {Image : Type 0} (store : Store Image) (terms : Terms) (course : Course) (events : List Event) (offset : ℕ) (items : List (Option (List ℕ))) (stored : List Event) (keep : Option ℕ) (may : Image → Type 0) (said : List ℕ) : Type 0 where
  pub lines : List (List ℕ)
  pub said_is : said ≡ course.said ++ ended lines
  pub are_lines : AreLines lines
  pub text : lines ++ out_from terms events offset items ≡ course.text
  pub accepted : events_from terms.basis events offset items ≡ course.accepted
  pub of_events : IsPrefixOf stored events
  -- so many lines were answered
  pub count : ℕ
  pub answers_ahead : (i : ℕ) → i ≤ length items → (count + i ≤ course.turns) × (course.answers (count + i) ≡ lines ++ put_from terms events offset (take i items))
  pub events_ahead : (i : ℕ) → i ≤ length items → course.events (count + i) ≡ events_from terms.basis events offset (take i items)
  pub at_rest : IsAtRest store course lines stored keep may

-- The run stopped between two lines, as far as what was put goes: whatever image is left, it is kept; the plan's schema is in force in
-- it, or no line was put.
pub record IsStopped {Image : Type 0} (store : Store Image) (course : Course) (may : Image → Type 0) (said : List ℕ) : Type 0 where
  pub lines : List (List ℕ)
  pub more : List (List ℕ)
  pub said_is : said ≡ course.said ++ ended lines
  pub are_lines : AreLines lines
  pub of_text : lines ++ more ≡ course.text
  pub kept : (v : Image) → may v → IsKeptInStore store course lines v
  pub grown : ((v : Image) → may v → store.IsGrown v) ⊎ (lines ≡ [])

-- All was put, and the store has all accepted events under the plan's schema.
pub record IsDone {Image : Type 0} (store : Store Image) (course : Course) (may : Image → Type 0) (said : List ℕ) : Type 0 where
  pub said_is : said ≡ course.said ++ ended course.text
  pub truthful : (v : Image) → may v → store.IsTruthful v
  pub grown : (v : Image) → may v → store.IsGrown v
  pub has : (v : Image) → may v → store.HasEvents course.accepted v

-- A run put these lines whole and left these events, more than it held. What it put and what a run over them puts of the same input make
-- up the whole text, but for the lines of one turn, which were put in part or not at all: of the line that the last event came with.
pub record Covers (terms : Terms) (held : List Event) (from first : ℕ) (lines : List (Option (List ℕ))) (left : List Event) (put : List (List ℕ)) : Type 0 where
  pub line : ℕ
  pub next : next_offset left ≡ first + (line + 1)
  pub before : IsPrefixOf (open_line held from ∷ put_before terms held first lines line) put
  pub whole : out terms held first lines ≡ (put_before terms held first lines line ++ put_at terms held first lines line) ++ out terms left first lines
