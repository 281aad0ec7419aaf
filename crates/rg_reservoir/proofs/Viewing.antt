-- What a view makes of the chunk at a place.
use Rattle.std.proofs.Common.{◌≡◌, ◌∙◌, ℕ, ◌+◌, ◌≤◌, ◌==◌, nat_le, Bool, true, false, List, [], ◌∷◌, length, Option, Some, None, option_map, Result, Err, refl, sym, ap, subst, arith, if◌then◌else◌}
use Rattle.std.proofs.lemmas.Bool.{eqb-true}
use Rattle.rg_event.specs.Shapes.{Shape}
use Rattle.rg_event.specs.declared.event.Event.{Event}
use Rattle.std.specs.Option.{unwrap_or}
use Rattle.rg_chunk.specs.Chunks.{Agrees, chunk_of}
use Rattle.rg_chunk.specs.declared.fault.ChunkFault.{ChunkFault}
use Rattle.rg_chunk.specs.declared.fault.ChunkFault.TheVariants.{BadChunk, Memory}
use Rattle.rg_chunk.specs.Extended.{all_extended}
use Rattle.rg_log.proofs.Laws.{length-extended}
use Rattle.rg_frame.specs.Frames.{payload_at}
use Rattle.rg_reservoir.specs.Chain.{chunk_in, chunk_at}
use Rattle.rg_reservoir.specs.Kept.{Base, view_of}
use Rattle.rg_reservoir.specs.Views.{View, seen_from, plain, before, shape_at, grown_at, passed}
use Rattle.rg_reservoir.specs.declared.growing.Growing.{Growing}

-- a log without a growth has the view of one
pub plain_is : (b : Base) → b.growths ≡ [] → view_of b ≡ plain b.shape
plain_is b none = ap (seen_from b.shape) none

-- values that come behind those of events leave their number
pub length-grown : (growths : List Growing) (place : ℕ) (events : List Event) → length (grown_at growths place events) ≡ length events
length-grown [] place events = refl
length-grown (g ∷ growths) place events = length-grown growths place (if nat_le place g.place then all_extended g.values events else events) ∙ by (nat_le place g.place)
  where
    by : (b : Bool) → length (if b then all_extended g.values events else events) ≡ length events
    by true = length-extended g.values events
    by false = refl

-- growths are passed forward
pub passed_behind : (growths : List Growing) (place : ℕ) → place ≤ passed growths place
passed_behind [] place = omega arith
passed_behind (g ∷ growths) place = by (g.place == place) refl (λ (k : ℕ). passed_behind growths k)
  where
    by : (b : Bool) → (g.place == place) ≡ b → ((k : ℕ) → k ≤ passed growths k) → place ≤ passed growths (if b then g.next else place)
    by true is more = omega (arith, eqb-true g.place place is, g.behind, more g.next)
    by false is more = more place

-- the events that a payload says, those that the view makes of them, and the place where the next chunk stands
pub record Parts (view : View) (place : ℕ) (said : Option (List ℕ)) (chunk : List Event) (next : ℕ) : Type 0 where
  pub payload : List ℕ
  pub here : said ≡ Some payload
  pub events : List Event
  pub says : chunk_of (shape_at view place).fields payload ≡ Some events
  pub chunk_is : grown_at view.growths place events ≡ chunk
  pub next_is : passed view.growths (place + 9 + length payload) ≡ next

abbrev pub made : View → ℕ → List ℕ → List Event → List Event × ℕ
made view place payload events = (grown_at view.growths place events, passed view.growths (place + 9 + length payload))

abbrev first_of : Option (List Event × ℕ) → List Event
first_of None = []
first_of (Some c) = c.0

abbrev next_of : Option (List Event × ℕ) → ℕ
next_of None = 0
next_of (Some c) = c.1

-- the chunk that a payload at a place says
pub chunk_by : (view : View) (place : ℕ) (bytes p : List ℕ) (events : List Event) → payload_at place bytes ≡ Some p → chunk_of (shape_at view place).fields p ≡ Some events → chunk_at view place bytes ≡ Some (made view place p events)
chunk_by view place bytes p events here says = ap (chunk_in view place) here ∙ ap (option_map (made view place p)) says

pub parts : (view : View) (place : ℕ) (said : Option (List ℕ)) (c : List Event) (n : ℕ) → chunk_in view place said ≡ Some (c, n) → Parts view place said c n
parts view place None c n e = absurd cc
parts view place (Some payload) c n e = by (chunk_of (shape_at view place).fields payload) refl
  where
    by : (o : Option (List Event)) → chunk_of (shape_at view place).fields payload ≡ o → Parts view place (Some payload) c n
    by None is = let f : None ≡ Some (c, n) = sym (ap (option_map (made view place payload)) is) ∙ e in absurd cc
    by (Some events) is =
        let f : Some (made view place payload events) ≡ Some (c, n) = sym (ap (option_map (made view place payload)) is) ∙ e in
        record { payload = payload; here = refl; events = events; says = is; chunk_is = ap first_of f; next_is = ap next_of f }

-- what is read of a payload by the schema in force

pub by_earlier : (shape from : Shape) (growths : List Growing) (place : ℕ) (payload : List ℕ) (result : Result (List Event) ChunkFault) → before growths place ≡ Some from → Agrees (chunk_of from.fields payload) result
    → Agrees (chunk_of (shape_at (seen_from shape growths) place).fields payload) result
by_earlier shape from growths place payload result found agrees = subst (λ (o : Option Shape). Agrees (chunk_of (unwrap_or o shape).fields payload) result) (sym found) agrees

pub by_last : (shape : Shape) (growths : List Growing) (place : ℕ) (payload : List ℕ) (result : Result (List Event) ChunkFault) → before growths place ≡ None → Agrees (chunk_of shape.fields payload) result
    → Agrees (chunk_of (shape_at (seen_from shape growths) place).fields payload) result
by_last shape growths place payload result found agrees = subst (λ (o : Option Shape). Agrees (chunk_of (unwrap_or o shape).fields payload) result) (sym found) agrees

-- with the values of the growths behind it

pub grown_said : (growths : List Growing) (place : ℕ) (said : Option (List Event)) (events all : List Event) → said ≡ Some events → all ≡ grown_at growths place events → option_map (grown_at growths place) said ≡ Some all
grown_said growths place said events all is grown = ap (option_map (grown_at growths place)) is ∙ ap (λ (l : List Event). Some l) (sym grown)

pub grown_refused : (growths : List Growing) (place : ℕ) (said : Option (List Event)) (fault : ChunkFault) → Agrees said (Err fault) → Agrees (option_map (grown_at growths place) said) (Err fault)
grown_refused growths place said BadChunk none = ap (option_map (grown_at growths place)) none
grown_refused growths place said Memory agrees = tt
