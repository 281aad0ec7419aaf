-- The heads of the chunks and the growths tell which spots of a legal log are spelled.
use Rattle.std.proofs.Common.{◌≡◌, ◌∙◌, inl, inr, ℕ, ◌+◌, ◌≤◌, ◌==◌, ◌&&◌, ◌||◌, nat_le, Bool, true, List, [], ◌∷◌, ◌++◌, length, Option, refl, sym, ap, subst, arith, append_assoc}
use Rattle.std.proofs.lemmas.Bool.{and_parts, or_cases, or_left, or_right, eqb-true, eq-eqb, leb-true, le-leb}
use Rattle.std.specs.Prelude.{◌↔◌}
use Rattle.rg_event.specs.Shapes.{Shape, IsSchema}
use Rattle.rg_event.specs.declared.event.Event.{Event}
use Rattle.rg_past.specs.declared.past.Spot.{Spot}
use Rattle.rg_frame.specs.Frames.{frames, HasPayloads}
use Rattle.rg_frame.proofs.Laws.{length-frames, length-frames-push}
use Rattle.rg_log.specs.Entries.{count_of, shape_behind}
use Rattle.rg_log.specs.Log.{schema_payload, HasEvents}
use Rattle.rg_log.specs.Spots.{SpotAt, SpotIn, is_in_chunk, is_at_end, named_at, named_from, named_behind, named_by_heads, NamedByHeads}
use Rattle.rg_log.specs.Stages.{Stage, chunk, growth, shape_after, in_force, IsStage, AreStages, logged, HasStages}
use Rattle.rg_log.specs.declared.entry.Entry.{Entry}
use Rattle.rg_log.proofs.Entries.{entry_said}
use Rattle.rg_log.proofs.Growing.{log_by}
use Rattle.rg_log.proofs.Reading.{schema_said}
use Rattle.rg_log.proofs.Spelling.{no_spot, after_of, spot_within}
use Rattle.rg_log.proofs.Staging.{in_force-push, are-push, on-push, stage_count, length-first, length-push}

pub in_chunk_is : (place before count : ℕ) (spot : Spot) → is_in_chunk place before count spot ≡ true → (spot.place ≡ place) × (spot.index ≤ count) × (spot.number ≡ before + spot.index)
in_chunk_is place before count spot e =
    let f = and_parts (spot.place == place && nat_le spot.index count) (spot.number == before + spot.index) e in
    let g = and_parts (spot.place == place) (nat_le spot.index count) f.0 in
    (eqb-true spot.place place g.0, leb-true spot.index count g.1, eqb-true spot.number (before + spot.index) f.1)

pub in_chunk_said : (place before count : ℕ) (spot : Spot) → spot.place ≡ place → spot.index ≤ count → spot.number ≡ before + spot.index → is_in_chunk place before count spot ≡ true
in_chunk_said place before count spot at le many = rw (eq-eqb spot.place place at, le-leb spot.index count le, eq-eqb spot.number (before + spot.index) many) refl

pub at_end_is : (place before : ℕ) (spot : Spot) → is_at_end place before spot ≡ true → (spot.place ≡ place) × (spot.index ≡ 0) × (spot.number ≡ before)
at_end_is place before spot e =
    let f = and_parts (spot.place == place && spot.index == 0) (spot.number == before) e in
    let g = and_parts (spot.place == place) (spot.index == 0) f.0 in
    (eqb-true spot.place place g.0, eqb-true spot.index 0 g.1, eqb-true spot.number before f.1)

pub at_end_said : (place before : ℕ) (spot : Spot) → spot.place ≡ place → spot.index ≡ 0 → spot.number ≡ before → is_at_end place before spot ≡ true
at_end_said place before spot at first many = rw (eq-eqb spot.place place at, eq-eqb spot.index 0 first, eq-eqb spot.number before many) refl

-- what a frame and those behind it name
abbrev named_on : Shape → List ℕ → ℕ → ℕ → List (List ℕ) → Spot → Option Entry → Bool
named_on shape payload place before payloads spot entry =
    named_at place before spot entry (λ (e : Entry). named_from (shape_behind shape e) (place + 9 + length payload) (before + count_of e) payloads spot)

here_or_on : (shape : Shape) (payload : List ℕ) (stage : Stage) (spot : Spot) (place before : ℕ) (payloads : List (List ℕ)) → IsStage shape payload stage
    → named_from shape place before (payload ∷ payloads) spot ≡ (is_in_chunk place before (stage_count stage) spot || named_from (shape_after shape stage) (place + 9 + length payload) (before + stage_count stage) payloads spot)
here_or_on shape payload (chunk c) spot place before payloads is = ap (named_on shape payload place before payloads spot) (entry_said shape payload (chunk c) is)
here_or_on shape payload (growth g) spot place before payloads is = ap (named_on shape payload place before payloads spot) (entry_said shape payload (growth g) is)

-- behind the frame of a schema
begun_named : (begun : Shape) (payloads : List (List ℕ)) (spot : Spot) → IsSchema begun → named_by_heads (schema_payload begun ∷ payloads) spot ≡ named_from begun (9 + length (schema_payload begun)) 0 payloads spot
begun_named begun payloads spot schema = ap (λ (o : Option Shape). named_behind o (9 + length (schema_payload begun)) payloads spot) (schema_said begun schema)

-- what is named by further heads and growths is spelled
module _ (begun : Shape) (schema : IsSchema begun) where
  here_spelled : (done : List (List ℕ)) (p : List ℕ) (rest : List (List ℕ)) (before : List Stage) (stage : Stage) (spot : Spot) (place count : ℕ) → AreStages begun done before → IsStage (in_force begun before) p stage
      → place ≡ length (frames (schema_payload begun ∷ done)) → count ≡ length (logged before) → (spot.place ≡ place) × (spot.index ≤ stage_count stage) × (spot.number ≡ count + spot.index) → SpotAt (schema_payload begun ∷ (done ++ p ∷ rest)) spot
  here_spelled done p rest before (chunk c) spot place count first said at many is = inl (record {
    begun = begun;
    schema = schema;
    earlier = done;
    payload = p;
    later = rest;
    before = before;
    chunk = c;
    is = refl;
    before_are = first;
    chunk_is = said;
    place_is = is.0 ∙ at;
    number_is = omega (arith, is.2, many);
    most = is.1;
  })
  here_spelled done p rest before (growth g) spot place count first said at many is =
      let none : spot.index ≤ 0 = is.1 in
      inr (record {
        begun = begun;
        schema = schema;
        earlier = done;
        later = p ∷ rest;
        before = before;
        is = refl;
        before_are = first;
        place_is = is.0 ∙ at;
        index_is = omega (arith, none);
        number_is = omega (arith, is.2, many, none);
      })

  named_spelled : (done rest : List (List ℕ)) (before stages : List Stage) (spot : Spot) (place count : ℕ) → AreStages begun done before → AreStages (in_force begun before) rest stages → place ≡ length (frames (schema_payload begun ∷ done))
      → count ≡ length (logged before) → named_from (in_force begun before) place count rest spot ≡ true → SpotAt (schema_payload begun ∷ (done ++ rest)) spot
  named_spelled done [] before [] spot place count first all at many is =
      let e = at_end_is place count spot is in
      inr (record { begun = begun; schema = schema; earlier = done; later = []; before = before; is = refl; before_are = first; place_is = e.0 ∙ at; index_is = e.1; number_is = e.2 ∙ many })
  named_spelled done [] before (s ∷ stages) spot place count first all at many is = absurd all
  named_spelled done (p ∷ rest) before [] spot place count first all at many is = absurd all
  named_spelled done (p ∷ rest) before (s ∷ stages) spot place count first all at many is =
      let next = place + 9 + length p in
      elim (or_cases (is_in_chunk place count (stage_count s) spot) (named_from (shape_after (in_force begun before) s) next (count + stage_count s) rest spot) (sym (here_or_on (in_force begun before) p s spot place count rest all.0) ∙ is)) [
        | inl here ↦ here_spelled done p rest before s spot place count first all.0 at many (in_chunk_is place count (stage_count s) spot here)
        | inr further ↦ subst (λ (l : List (List ℕ)). SpotAt (schema_payload begun ∷ l) spot) (append_assoc done (p ∷ []) rest)
            (named_spelled (done ++ p ∷ []) rest (before ++ s ∷ []) stages spot next (count + stage_count s) (are-push begun done before p s first all.0) (on-push begun before s rest stages all.1)
            (omega (arith, at, length-frames-push (schema_payload begun ∷ done) p))
            (omega (arith, many, length-push before s))
            (subst (λ (shape : Shape). named_from shape next (count + stage_count s) rest spot ≡ true) (sym (in_force-push begun before s)) further))
      ]

-- what is named from a frame on is named from an earlier one on
named_before : (shape : Shape) (earlier later : List (List ℕ)) (before : List Stage) (spot : Spot) (place count there many : ℕ) → AreStages shape earlier before → there ≡ place + length (frames earlier) → many ≡ count + length (logged before)
    → named_from (in_force shape before) there many later spot ≡ true → named_from shape place count (earlier ++ later) spot ≡ true
named_before shape [] later [] spot place count there many are at number is =
    let same : there ≡ place + 0 = at in
    let also : many ≡ count + 0 = number in
    let a : place ≡ there = omega (arith, same) in
    let b : count ≡ many = omega (arith, also) in
    ap (λ (n : ℕ). named_from shape n count later spot) a ∙ ap (λ (n : ℕ). named_from shape there n later spot) b ∙ is
named_before shape [] later (s ∷ before) spot place count there many are at number is = absurd are
named_before shape (p ∷ earlier) later [] spot place count there many are at number is = absurd are
named_before shape (p ∷ earlier) later (s ∷ before) spot place count there many are at number is =
    here_or_on shape p s spot place count (earlier ++ later) are.0
    ∙ or_right (is_in_chunk place count (stage_count s) spot) (named_from (shape_after shape s) (place + 9 + length p) (count + stage_count s) (earlier ++ later) spot)
    (named_before (shape_after shape s) earlier later before spot (place + 9 + length p) (count + stage_count s) there many are.1 (omega (arith, at, length-frames p earlier)) (omega (arith, number, length-first s before)) is)

-- a place where a frame begins or the log ends is named
named_between : (shape : Shape) (later : List (List ℕ)) (after : List Stage) (spot : Spot) (there many : ℕ) → AreStages shape later after → spot.place ≡ there → spot.index ≡ 0 → spot.number ≡ many → named_from shape there many later spot ≡ true
named_between shape [] [] spot there many are place index number = at_end_said there many spot place index number
named_between shape [] (s ∷ after) spot there many are place index number = absurd are
named_between shape (p ∷ later) [] spot there many are place index number = absurd are
named_between shape (p ∷ later) (s ∷ after) spot there many are place index number =
    here_or_on shape p s spot there many later are.0
    ∙ or_left (is_in_chunk there many (stage_count s) spot) (named_from (shape_after shape s) (there + 9 + length p) (many + stage_count s) later spot)
    (in_chunk_said there many (stage_count s) spot place (omega (arith, index)) (omega (arith, index, number)))

-- each spelled spot is named
spelled_named : (shape : Shape) (payloads : List (List ℕ)) (stages : List Stage) (spot : Spot) → HasStages shape payloads stages → SpotAt payloads spot → named_by_heads payloads spot ≡ true
spelled_named shape payloads stages spot has (inl s) =
    let first = schema_payload s.begun in
    let there = length (frames (first ∷ s.earlier)) in
    let many = length (logged s.before) in
    let here : named_from (in_force s.begun s.before) there many (s.payload ∷ s.later) spot ≡ true =
    here_or_on (in_force s.begun s.before) s.payload (chunk s.chunk) spot there many s.later s.chunk_is
    ∙ or_left (is_in_chunk there many (length s.chunk) spot) (named_from (in_force s.begun s.before) (there + 9 + length s.payload) (many + length s.chunk) s.later spot) (in_chunk_said there many (length s.chunk) spot s.place_is s.most s.number_is) in
    ap (λ (l : List (List ℕ)). named_by_heads l spot) s.is ∙ begun_named s.begun (s.earlier ++ s.payload ∷ s.later) spot s.schema
    ∙ named_before s.begun s.earlier (s.payload ∷ s.later) s.before spot (9 + length first) 0 there many s.before_are (length-frames first s.earlier) (omega arith) here
spelled_named shape payloads stages spot has (inr s) =
    let first = schema_payload s.begun in
    let there = length (frames (first ∷ s.earlier)) in
    let many = length (logged s.before) in
    let a = after_of shape s.begun payloads s.earlier s.later s.before stages has s.schema s.is s.before_are in
    ap (λ (l : List (List ℕ)). named_by_heads l spot) s.is ∙ begun_named s.begun (s.earlier ++ s.later) spot s.schema
    ∙ named_before s.begun s.earlier s.later s.before spot (9 + length first) 0 there many s.before_are (length-frames first s.earlier) (omega arith)
    (named_between (in_force s.begun s.before) s.later a.after spot there many a.are s.place_is s.index_is s.number_is)

-- on a legal log heads and growths tell exactly the spelled spots
pub named : (shape : Shape) (payloads : List (List ℕ)) (stages : List Stage) (spot : Spot) → HasStages shape payloads stages → NamedByHeads payloads spot ↔ SpotAt payloads spot
named shape [] stages spot has = (λ is. absurd cc, λ at. absurd (no_spot spot at))
named shape (first ∷ payloads) stages spot has = (
  λ is. subst (λ (p : List ℕ). SpotAt (p ∷ payloads) spot) (sym has.2)
      (named_spelled has.0 has.1 [] payloads [] stages spot (9 + length (schema_payload has.0)) 0 tt has.3 (omega (arith, length-frames (schema_payload has.0) [])) refl
      (sym (begun_named has.0 payloads spot has.1) ∙ subst (λ (p : List ℕ). named_by_heads (p ∷ payloads) spot ≡ true) has.2 is)),
  λ at. spelled_named shape (first ∷ payloads) stages spot has at,
)

-- the same of a file, which has one frame list
module _ (unique : (a b : List (List ℕ)) (bytes : List ℕ) → HasPayloads a bytes → HasPayloads b bytes → a ≡ b) where
  pub none_in : (bytes : List ℕ) (spot : Spot) → HasPayloads [] bytes → SpotIn bytes spot → ⊥
  none_in bytes spot none at = no_spot spot (subst (λ (l : List (List ℕ)). SpotAt l spot) (unique at.0 [] bytes at.1 none) at.2)

  pub within_in : (shape : Shape) (events : List Event) (bytes : List ℕ) (spot : Spot) → HasEvents shape events bytes → SpotIn bytes spot → spot.number ≤ length events
  within_in shape events bytes spot x at =
      subst (λ (l : List Event). spot.number ≤ length l) x.2 (spot_within shape at.0 x.0 spot (log_by unique shape x.0 at.0 bytes at.1 x.1) at.2)

  pub named_in : (shape : Shape) (events : List Event) (payloads : List (List ℕ)) (bytes : List ℕ) (spot : Spot) → HasEvents shape events bytes → HasPayloads payloads bytes → NamedByHeads payloads spot ↔ SpotIn bytes spot
  named_in shape events payloads bytes spot x here =
      let both_ways = named shape payloads x.0 spot (log_by unique shape x.0 payloads bytes here x.1) in (
        λ is. (payloads, here, both_ways.0 is),
        λ at. both_ways.1 (subst (λ (l : List (List ℕ)). SpotAt l spot) (unique at.0 payloads bytes at.1 here) at.2),
      )
