-- Frames with more of them behind: the schema in force, the values of growths, and the events.
use Rattle.std.proofs.Common.{◌≡◌, ◌∙◌, ◌≤◌, ℕ, List, [], ◌∷◌, ◌++◌, length, drop, map, Option, Some, refl, sym, ap, arith, append_assoc}
use Rattle.std.proofs.lemmas.List.{map-append, append-nil, drop_all}
use Rattle.std.proofs.Math.Seq.{drop-append_seam}
use Rattle.rg_event.specs.Shapes.{Shape}
use Rattle.rg_event.specs.declared.event.Event.{Event}
use Rattle.rg_event.specs.declared.value.Value.{Value}
use Rattle.rg_chunk.specs.Extended.{all_extended}
use Rattle.rg_log.proofs.Laws.{extended-none, extended-twice, extended-append}
use Rattle.rg_reservoir.specs.declared.walk.Stage.{Stage}
use Rattle.rg_reservoir.specs.declared.walk.Stage.TheVariants as stage
use Rattle.rg_dump.specs.Behind.{known_after, known_behind, stage_values, values_of, behind_after, stage_events, events_in}
use Rattle.rg_dump.specs.Dump.{stage_rows}
use Rattle.rg_dump.specs.Rows.{row_line}

-- no values behind events leave them
pub extended_empty : (values : List Value) (events : List Event) → length values ≡ 0 → all_extended values events ≡ events
extended_empty [] events none = extended-none events
extended_empty (value ∷ values) events none = absurd (omega (arith, none))

-- nor are there any behind all of them
pub values_left : (values : List Value) (count : ℕ) → length values ≤ count → drop count values ≡ []
values_left values count few = drop_all count values few

pub known_push : (known : Option Shape) (stages : List Stage) (s : Stage) → known_behind known (stages ++ s ∷ []) ≡ known_after (known_behind known stages) s
known_push known [] s = refl
known_push known (first ∷ stages) s = known_push (known_after known first) stages s

values_append : (a b : List Stage) → values_of (a ++ b) ≡ values_of a ++ values_of b
values_append [] b = refl
values_append (s ∷ a) b = ap (λ (l : List Value). stage_values s ++ l) (values_append a b) ∙ sym (append_assoc (stage_values s) (values_of a) (values_of b))

pub values_push : (stages : List Stage) (s : Stage) → values_of (stages ++ s ∷ []) ≡ values_of stages ++ stage_values s
values_push stages s = values_append stages (s ∷ []) ∙ ap (λ (l : List Value). values_of stages ++ l) (append-nil (stage_values s))

-- the values of the frames behind a first one
pub behind_next : (s : Stage) (left : List Value) → behind_after s (stage_values s ++ left) ≡ left
behind_next (stage.Schema shape) left = refl
behind_next (stage.Chunk events) left = refl
behind_next (stage.Growth shape values) left = drop-append_seam values left

pub events_append : (a b : List Stage) → events_in (a ++ b) ≡ all_extended (values_of b) (events_in a) ++ events_in b
events_append [] b = refl
events_append (s ∷ a) b =
    let own = all_extended (values_of a) (stage_events s) in
    ap (λ (v : List Value). all_extended v (stage_events s) ++ events_in (a ++ b)) (values_append a b)
    ∙ ap (λ (l : List Event). all_extended (values_of a ++ values_of b) (stage_events s) ++ l) (events_append a b)
    ∙ ap (λ (l : List Event). l ++ (all_extended (values_of b) (events_in a) ++ events_in b)) (sym (extended-twice (values_of a) (values_of b) (stage_events s)))
    ∙ sym (append_assoc (all_extended (values_of b) own) (all_extended (values_of b) (events_in a)) (events_in b))
    ∙ ap (λ (l : List Event). l ++ events_in b) (sym (extended-append (values_of b) own (events_in a)))

-- with one frame more each event has its values behind its own, and its events come behind them
pub events_push : (stages : List Stage) (s : Stage) → events_in (stages ++ s ∷ []) ≡ all_extended (stage_values s) (events_in stages) ++ stage_events s
events_push stages s =
    events_append stages (s ∷ []) ∙ ap (λ (v : List Value). all_extended v (events_in stages) ++ events_in (s ∷ [])) (append-nil (stage_values s))
    ∙ ap (λ (l : List Event). all_extended (stage_values s) (events_in stages) ++ l) (append-nil (all_extended [] (stage_events s)) ∙ extended-none (stage_events s))

-- the rows of these frames, where these values come behind those of their events
abbrev pub rows_behind : List Value → List Stage → List (List ℕ)
rows_behind behind stages = map row_line (all_extended behind (events_in stages))

-- a frame that has values has no events
own_rows : (left : List Value) (s : Stage) → stage_rows left s ≡ stage_rows (stage_values s ++ left) s
own_rows left (stage.Schema shape) = refl
own_rows left (stage.Chunk events) = refl
own_rows left (stage.Growth shape values) = refl

-- those of one frame more
pub rows_push : (left : List Value) (stages : List Stage) (s : Stage) → rows_behind left (stages ++ s ∷ []) ≡ rows_behind (stage_values s ++ left) stages ++ stage_rows (stage_values s ++ left) s
rows_push left stages s =
    let events = events_in stages in
    ap (λ (l : List Event). map row_line (all_extended left l)) (events_push stages s)
    ∙ ap (map row_line) (extended-append left (all_extended (stage_values s) events) (stage_events s))
    ∙ ap (λ (l : List Event). map row_line (l ++ all_extended left (stage_events s))) (extended-twice (stage_values s) left events)
    ∙ map-append row_line (all_extended (stage_values s ++ left) events) (all_extended left (stage_events s))
    ∙ ap (λ (l : List (List ℕ)). rows_behind (stage_values s ++ left) stages ++ l) (own_rows left s)

-- those of some frames, and of the others behind them
pub rows_append : (a b : List Stage) → map row_line (events_in (a ++ b)) ≡ rows_behind (values_of b) a ++ map row_line (events_in b)
rows_append a b = ap (map row_line) (events_append a b) ∙ map-append row_line (all_extended (values_of b) (events_in a)) (events_in b)
