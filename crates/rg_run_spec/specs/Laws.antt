-- What holds of every run.
use Rattle.std.specs.Prelude.{◌≡◌, ℕ, ◌+◌, ◌≤◌, nat_lt, nat_le, List, ◌++◌, length, Option, Result, Ok, Err, if◌then◌else◌}
use Rattle.std.specs.List.{filter, list_any}
use Rattle.rg_event.specs.declared.event.Event.{Event}
use Rattle.rg_event.specs.Rising.{next_offset}
use Rattle.rg_reply.specs.declared.reply.Reply.{Reply}
use Rattle.rg_reply.specs.declared.reply.Reply.TheVariants.{Late, Full}
use Rattle.rg_run_spec.specs.Verdicts.{Basis, Verdict}
use Rattle.rg_run_spec.specs.Verdicts.Verdict.{refused, accepted}
use Rattle.rg_run_spec.specs.Accepted.{events_after}
use Rattle.rg_run_spec.specs.Output.{Terms, put_at, put_before, out}

-- the first members of a list
abbrev pub IsPrefixOf : {A : Type 0} → List A → List A → Type 0
IsPrefixOf {A} part whole = (rest : List A) × (part ++ rest ≡ whole)

-- the last ones
abbrev pub IsSuffixOf : {A : Type 0} → List A → List A → Type 0
IsSuffixOf {A} part whole = (front : List A) × (front ++ part ≡ whole)

-- A run over a store may leave these events: all that the store held, and the first ones of those that are accepted.
pub record MayLeave (basis : Basis) (held : List Event) (first : ℕ) (lines : List (Option (List ℕ))) (left : List Event) : Type 0 where
  pub keeps : IsPrefixOf held left
  pub begins : IsPrefixOf left (events_after basis held first lines)

-- the events of a list whose offset is below n
abbrev pub below : ℕ → List Event → List Event
below n events = filter (λ e. nat_lt e.offset n) events

-- the verdict on an event or a refusal where none may be earlier: an event is late where one before it has a greater time
abbrev pub strict_verdict : ℕ → List Event → Result Event Reply → Verdict
strict_verdict most events (Err reply) = refused reply
strict_verdict most events (Ok e) =
    if list_any (λ x. nat_lt e.time x.time) events then refused Late
    else if nat_le most (length events) then refused Full
    else accepted e

-- two that accept alike, whatever they ask: with the same columns, header, limit and grace
pub record AcceptAlike (one two : Basis) : Type 0 where
  pub fields : one.fields ≡ two.fields
  pub most : one.most ≡ two.most
  pub header : one.header ≡ two.header
  pub grace : one.grace ≡ two.grace

-- Two texts make up a whole one: the second begins behind `before`, a prefix of the first one, and what both have is the same.
pub record Overlaps (before one two whole : List (List ℕ)) : Type 0 where
  pub again : List (List ℕ)
  pub rest : List (List ℕ)
  pub first_is : one ≡ before ++ again
  pub second_is : two ≡ again ++ rest
  pub whole_is : whole ≡ one ++ rest

-- A run that left these events, of which the first `reach` lines brought the last, missed nothing but the lines of one turn: of the
-- line that the last event came with. The lines below that one were answered where all but one of the first `reach` lines were.
pub record OneAhead (terms : Terms) (held : List Event) (first : ℕ) (lines : List (Option (List ℕ))) (left : List Event) (reach : ℕ) : Type 0 where
  pub line : ℕ
  pub next : next_offset left ≡ first + (line + 1)
  pub within : line + 1 ≤ reach
  pub before : (count : ℕ) → reach ≤ count + 1 → IsPrefixOf (put_before terms held first lines line) (put_before terms held first lines count)
  pub whole : out terms held first lines ≡ (put_before terms held first lines line ++ put_at terms held first lines line) ++ out terms left first lines
