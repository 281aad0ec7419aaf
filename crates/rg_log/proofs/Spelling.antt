-- Spots of a log: how they stay, and which event they name.
use Rattle.std.proofs.Common.{◌≡◌, ◌∙◌, ◌⊎◌, inl, inr, ℕ, ◌+◌, ◌-◌, ◌≤◌, ◌<◌, List, [], ◌∷◌, ◌++◌, length, Some, refl, sym, ap, subst, arith, append_assoc, length-append}
use Rattle.std.proofs.lemmas.Bool.{cases_lt}
use Rattle.std.proofs.lemmas.List.{append-nil, get_or-append-add, get_or_append_left}
use Rattle.std.proofs.lemmas.Option.{slice_get-get_or}
use Rattle.std.specs.Prelude.{slice_get}
use Rattle.rg_event.specs.Shapes.{Shape, IsSchema}
use Rattle.rg_event.specs.declared.event.Event.{Event}
use Rattle.rg_past.specs.declared.past.Spot.{Spot}
use Rattle.rg_frame.specs.Frames.{frames, HasPayloads}
use Rattle.rg_frame.specs.Steps.{Grows}
use Rattle.rg_frame.proofs.Laws.{length-frames}
use Rattle.rg_chunk.specs.Extended.{all_extended}
use Rattle.rg_log.specs.Payloads.{schema_payload, IsChunkOf}
use Rattle.rg_log.specs.Spots.{IsInChunk, SpotAt, SpotIn, NamesEvent}
use Rattle.rg_log.specs.Stages.{Stage, chunk, growth, shape_after, in_force, AreStages, values_of, logged, HasStages}
use Rattle.rg_log.proofs.Extending.{length-extended}
use Rattle.rg_log.proofs.Shapes.{head_same, rest_same, one_shape}
use Rattle.rg_log.proofs.StageReading.{one_stage, one_stages}
use Rattle.rg_log.proofs.Staging.{are-push, on-push, split, logged-join, length-join, length-first, length-push}

-- a spot that is spelled stays so when any frame comes behind the log
pub spot_stays : (payloads : List (List ℕ)) (payload : List ℕ) (spot : Spot) → SpotAt payloads spot → SpotAt (payloads ++ payload ∷ []) spot
spot_stays payloads payload spot (inl s) = inl (record {
  begun = s.begun;
  schema = s.schema;
  earlier = s.earlier;
  payload = s.payload;
  later = s.later ++ payload ∷ [];
  before = s.before;
  chunk = s.chunk;
  is = ap (λ (l : List (List ℕ)). l ++ payload ∷ []) s.is ∙ ap (λ (l : List (List ℕ)). schema_payload s.begun ∷ l) (append_assoc s.earlier (s.payload ∷ s.later) (payload ∷ []));
  before_are = s.before_are;
  chunk_is = s.chunk_is;
  place_is = s.place_is;
  number_is = s.number_is;
  most = s.most;
})
spot_stays payloads payload spot (inr s) = inr (record {
  begun = s.begun;
  schema = s.schema;
  earlier = s.earlier;
  later = s.later ++ payload ∷ [];
  before = s.before;
  is = ap (λ (l : List (List ℕ)). l ++ payload ∷ []) s.is ∙ ap (λ (l : List (List ℕ)). schema_payload s.begun ∷ l) (append_assoc s.earlier s.later (payload ∷ []));
  before_are = s.before_are;
  place_is = s.place_is;
  index_is = s.index_is;
  number_is = s.number_is;
})

pub spot_stays_in : (payload old new : List ℕ) (spot : Spot) → Grows payload old new → SpotIn old spot → SpotIn new spot
spot_stays_in payload old new spot step at = by (step at.0 at.1)
  where
    by : HasPayloads at.0 new ⊎ HasPayloads (at.0 ++ payload ∷ []) new → SpotIn new spot
    by (inl same) = (at.0, same, at.2)
    by (inr more) = (at.0 ++ payload ∷ [], more, spot_stays at.0 payload spot at.2)

-- without a frame no spot is spelled
pub no_spot : (spot : Spot) → SpotAt [] spot → ⊥
no_spot spot (inl s) = let n : 0 ≡ length (schema_payload s.begun ∷ (s.earlier ++ s.payload ∷ s.later)) = ap (λ (l : List (List ℕ)). length l) s.is in omega (arith, n)
no_spot spot (inr s) = let n : 0 ≡ length (schema_payload s.begun ∷ (s.earlier ++ s.later)) = ap (λ (l : List (List ℕ)). length l) s.is in omega (arith, n)

-- what stands behind some stages of a log
pub record After (begun : Shape) (later : List (List ℕ)) (before stages : List Stage) : Type 0 where
  pub after : List Stage
  pub is : stages ≡ before ++ after
  pub are : AreStages (in_force begun before) later after

pub after_of : (shape begun : Shape) (payloads earlier later : List (List ℕ)) (before stages : List Stage) → HasStages shape payloads stages → IsSchema begun → payloads ≡ schema_payload begun ∷ (earlier ++ later) → AreStages begun earlier before
    → After begun later before stages
after_of shape begun payloads earlier later before stages has schema is are =
    let log : HasStages shape (schema_payload begun ∷ (earlier ++ later)) stages = subst (λ (l : List (List ℕ)). HasStages shape l stages) is has in
    let same : begun ≡ log.0 = one_shape begun log.0 schema log.1 log.2 in
    let r = split begun earlier later stages (subst (λ (s : Shape). AreStages s (earlier ++ later) stages) (sym same) log.3) in
    let one : r.before ≡ before = one_stages begun earlier r.before before r.before_are are in
    record { after = r.after; is = r.is ∙ ap (λ (l : List Stage). l ++ r.after) one; are = subst (λ (l : List Stage). AreStages (in_force begun l) later r.after) one r.after_are }

-- and behind a chunk of it
record First (shape : Shape) (later : List (List ℕ)) (c : List Event) (after : List Stage) : Type 0 where
  pub behind : List Stage
  pub is : after ≡ chunk c ∷ behind
  pub are : AreStages shape later behind

first_of : (shape : Shape) (payload : List ℕ) (later : List (List ℕ)) (c : List Event) (after : List Stage) → IsChunkOf shape payload c → AreStages shape (payload ∷ later) after → First shape later c after
first_of shape payload later c [] said are = absurd are
first_of shape payload later c (s ∷ behind) said are =
    let one : s ≡ chunk c = one_stage shape payload s (chunk c) are.0 said in
    record { behind = behind; is = ap (λ (x : Stage). x ∷ behind) one; are = subst (λ (x : Stage). AreStages (shape_after shape x) later behind) one are.1 }

record Behind (begun : Shape) (later : List (List ℕ)) (before : List Stage) (c : List Event) (stages : List Stage) : Type 0 where
  pub behind : List Stage
  pub is : stages ≡ before ++ chunk c ∷ behind
  pub are : AreStages (in_force begun before) later behind

behind_of : (shape : Shape) (payloads : List (List ℕ)) (stages : List Stage) (spot : Spot) → HasStages shape payloads stages → (s : IsInChunk payloads spot) → Behind s.begun s.later s.before s.chunk stages
behind_of shape payloads stages spot has s =
    let a = after_of shape s.begun payloads s.earlier (s.payload ∷ s.later) s.before stages has s.schema s.is s.before_are in
    let f = first_of (in_force s.begun s.before) s.payload s.later s.chunk a.after s.chunk_is a.are in
    record { behind = f.behind; is = a.is ∙ ap (λ (l : List Stage). s.before ++ l) f.is; are = f.are }

-- a spelled spot's number is at most that of all events
pub spot_within : (shape : Shape) (payloads : List (List ℕ)) (stages : List Stage) (spot : Spot) → HasStages shape payloads stages → SpotAt payloads spot → spot.number ≤ length (logged stages)
spot_within shape payloads stages spot has (inl s) =
    let b = behind_of shape payloads stages spot has s in
    let whole : length (logged stages) ≡ length (logged (s.before ++ chunk s.chunk ∷ b.behind)) = ap (λ (l : List Stage). length (logged l)) b.is in
    let first : length (logged (chunk s.chunk ∷ b.behind)) ≡ length s.chunk + length (logged b.behind) = length-first (chunk s.chunk) b.behind in
    let sum : length (logged stages) ≡ length (logged s.before) + (length s.chunk + length (logged b.behind)) = whole ∙ length-join s.before (chunk s.chunk ∷ b.behind) ∙ ap (λ (n : ℕ). length (logged s.before) + n) first in
    omega (arith, s.number_is, s.most, sum)
spot_within shape payloads stages spot has (inr s) =
    let a = after_of shape s.begun payloads s.earlier s.later s.before stages has s.schema s.is s.before_are in
    let whole : length (logged stages) ≡ length (logged s.before) + length (logged a.after) = ap (λ (l : List Stage). length (logged l)) a.is ∙ length-join s.before a.after in
    omega (arith, s.number_is, whole)

-- an item in the middle
pub between : (before c after : List Event) (index number : ℕ) → index < length c → number ≡ length before + index → slice_get (before ++ (c ++ after)) number ≡ slice_get c index
between before [] after index number lt is = absurd (omega (arith, lt))
between before (d ∷ c) after index number lt is =
    let whole : index < length ((d ∷ c) ++ after) = omega (arith, lt, length-append (d ∷ c) after) in
    ap (λ (n : ℕ). slice_get (before ++ ((d ∷ c) ++ after)) n) is
    ∙ slice_get-get_or (before ++ ((d ∷ c) ++ after)) (length before + index) d (omega (arith, whole, length-append before ((d ∷ c) ++ after)))
    ∙ ap (λ (e : Event). Some e) (get_or-append-add before ((d ∷ c) ++ after) index d ∙ get_or_append_left (d ∷ c) after d index lt)
    ∙ sym (slice_get-get_or (d ∷ c) index d lt)

-- the event that a spot in a chunk names
pub spot_event : (shape : Shape) (payloads : List (List ℕ)) (stages : List Stage) (spot : Spot) → HasStages shape payloads stages → (at : IsInChunk payloads spot) → spot.index < length at.chunk → NamesEvent payloads stages spot at
spot_event shape payloads stages spot has at lt =
    let b = behind_of shape payloads stages spot has at in
    let v = values_of b.behind in
    let whole : logged stages ≡ all_extended v (logged at.before) ++ (all_extended v at.chunk ++ logged b.behind) = ap logged b.is ∙ logged-join at.before (chunk at.chunk ∷ b.behind) in
    let in_it : spot.index < length (all_extended v at.chunk) = omega (arith, lt, length-extended v at.chunk) in
    let number : spot.number ≡ length (all_extended v (logged at.before)) + spot.index = omega (arith, at.number_is, length-extended v (logged at.before)) in
    record {
      behind = b.behind;
      behind_are = b.are;
      event = ap (λ (l : List Event). slice_get l spot.number) whole ∙ between (all_extended v (logged at.before)) (all_extended v at.chunk) (logged b.behind) spot.index spot.number in_it number;
    }

-- two prefixes of a list whose frames end at one place
pub prefix_same : (a b x y : List (List ℕ)) → a ++ x ≡ b ++ y → length (frames a) ≡ length (frames b) → a ≡ b
prefix_same [] [] x y e n = refl
prefix_same [] (q ∷ b) x y e n = absurd (omega (arith, n, length-frames q b))
prefix_same (p ∷ a) [] x y e n = absurd (omega (arith, n, length-frames p a))
prefix_same (p ∷ a) (q ∷ b) x y e n =
    let head : p ≡ q = head_same p q (a ++ x) (b ++ y) e in
    let tail : a ≡ b = prefix_same a b x y (rest_same p q (a ++ x) (b ++ y) e) (omega (arith, n, length-frames p a, length-frames q b, ap (λ (l : List ℕ). length l) head)) in
    ap (λ (l : List ℕ). l ∷ a) head ∙ ap (λ (l : List (List ℕ)). q ∷ l) tail

-- where a spot stands, whichever it is
record Stood (payloads : List (List ℕ)) (spot : Spot) : Type 0 where
  pub begun : Shape
  pub schema : IsSchema begun
  pub earlier : List (List ℕ)
  pub later : List (List ℕ)
  pub before : List Stage
  pub is : payloads ≡ schema_payload begun ∷ (earlier ++ later)
  pub before_are : AreStages begun earlier before
  pub place_is : spot.place ≡ length (frames (schema_payload begun ∷ earlier))
  pub number_is : spot.number ≡ length (logged before) + spot.index

stood : (payloads : List (List ℕ)) (spot : Spot) → SpotAt payloads spot → Stood payloads spot
stood payloads spot (inl s) =
    record { begun = s.begun; schema = s.schema; earlier = s.earlier; later = s.payload ∷ s.later; before = s.before; is = s.is; before_are = s.before_are; place_is = s.place_is; number_is = s.number_is }
stood payloads spot (inr s) = record {
  begun = s.begun;
  schema = s.schema;
  earlier = s.earlier;
  later = s.later;
  before = s.before;
  is = s.is;
  before_are = s.before_are;
  place_is = s.place_is;
  number_is = omega (arith, s.number_is, s.index_is);
}

-- a place and an index spell one number
pub one_number : (payloads : List (List ℕ)) (spot other : Spot) → SpotAt payloads spot → SpotAt payloads other → spot.place ≡ other.place → spot.index ≡ other.index → spot.number ≡ other.number
one_number payloads spot other at also place index =
    let a = stood payloads spot at in
    let b = stood payloads other also in
    let whole : schema_payload a.begun ∷ (a.earlier ++ a.later) ≡ schema_payload b.begun ∷ (b.earlier ++ b.later) = sym a.is ∙ b.is in
    let payload : schema_payload a.begun ≡ schema_payload b.begun = head_same (schema_payload a.begun) (schema_payload b.begun) (a.earlier ++ a.later) (b.earlier ++ b.later) whole in
    let begun : a.begun ≡ b.begun = one_shape a.begun b.begun a.schema b.schema payload in
    let rest : a.earlier ++ a.later ≡ b.earlier ++ b.later = rest_same (schema_payload a.begun) (schema_payload b.begun) (a.earlier ++ a.later) (b.earlier ++ b.later) whole in
    let size : length (schema_payload a.begun) ≡ length (schema_payload b.begun) = ap (λ (l : List ℕ). length l) payload in
    let same : a.earlier ≡ b.earlier =
    prefix_same a.earlier b.earlier a.later b.later rest (omega (arith, place, a.place_is, b.place_is, size, length-frames (schema_payload a.begun) a.earlier, length-frames (schema_payload b.begun) b.earlier)) in
    let are : AreStages b.begun b.earlier a.before = subst (λ (s : Shape). AreStages s b.earlier a.before) begun (subst (λ (l : List (List ℕ)). AreStages a.begun l a.before) same a.before_are) in
    let before : a.before ≡ b.before = one_stages b.begun b.earlier a.before b.before are b.before_are in
    omega (arith, index, a.number_is, b.number_is, ap (λ (l : List Stage). length (logged l)) before)

-- the end
pub spot_end : (shape : Shape) (payloads : List (List ℕ)) (stages : List Stage) (spot : Spot) → HasStages shape payloads stages → 1 ≤ length payloads → spot.place ≡ length (frames payloads) → spot.index ≡ 0 → spot.number ≡ length (logged stages)
    → SpotAt payloads spot
spot_end shape [] stages spot has framed place index number = absurd (omega (arith, framed))
spot_end shape (first ∷ payloads) stages spot has framed place index number = inr (record {
  begun = has.0;
  schema = has.1;
  earlier = payloads;
  later = [];
  before = stages;
  is = ap (λ (p : List ℕ). p ∷ payloads) has.2 ∙ ap (λ (l : List (List ℕ)). schema_payload has.0 ∷ l) (sym (append-nil payloads));
  before_are = has.3;
  place_is = place ∙ ap (λ (p : List ℕ). length (frames (p ∷ payloads))) has.2;
  index_is = index;
  number_is = number;
})

pub spot_end_of_last : (shape : Shape) (payloads : List (List ℕ)) (payload : List ℕ) (stages : List Stage) (c : List Event) (spot : Spot) → HasStages shape payloads stages → 1 ≤ length payloads → IsChunkOf shape payload c
    → spot.place ≡ length (frames payloads) → spot.index ≡ length c → spot.number ≡ length (logged stages ++ c) → SpotAt (payloads ++ payload ∷ []) spot
spot_end_of_last shape [] payload stages c spot has framed said place index number = absurd (omega (arith, framed))
spot_end_of_last shape (first ∷ payloads) payload stages c spot has framed said place index number = inl (record {
  begun = has.0;
  schema = has.1;
  earlier = payloads;
  payload = payload;
  later = [];
  before = stages;
  chunk = c;
  is = ap (λ (p : List ℕ). p ∷ (payloads ++ payload ∷ [])) has.2;
  before_are = has.3;
  chunk_is = subst (λ (s : Shape). IsChunkOf s payload c) (sym has.4) said;
  place_is = place ∙ ap (λ (p : List ℕ). length (frames (p ∷ payloads))) has.2;
  number_is = omega (arith, number, index, length-append (logged stages) c);
  most = omega (arith, index);
})

-- each event has a spelling, and so has the end

abbrev Named : List (List ℕ) → ℕ → Type 0
Named payloads number = (spot : Spot) × SpotAt payloads spot × (spot.number ≡ number)

module _ (begun : Shape) (schema : IsSchema begun) where
  named_end : (done : List (List ℕ)) (before : List Stage) (number index : ℕ) → AreStages begun done before → number ≡ length (logged before) + index → index ≤ 0 → Named (schema_payload begun ∷ (done ++ [])) number
  named_end done before number index first is none = (
    record { place = length (frames (schema_payload begun ∷ done)); index = 0; number = number },
    inr (record { begun = begun; schema = schema; earlier = done; later = []; before = before; is = refl; before_are = first; place_is = refl; index_is = refl; number_is = omega (arith, is, none) }),
    refl,
  )

  named_further : (done rest : List (List ℕ)) (before stages : List Stage) (number index : ℕ) → AreStages begun done before → AreStages (in_force begun before) rest stages → number ≡ length (logged before) + index → index ≤ length (logged stages)
      → Named (schema_payload begun ∷ (done ++ rest)) number
  named_further done [] before [] number index first all is le = named_end done before number index first is le
  named_further done [] before (s ∷ stages) number index first all is le = absurd all
  named_further done (p ∷ rest) before [] number index first all is le = absurd all
  named_further done (p ∷ rest) before (chunk c ∷ stages) number index first all is le =
      let sum : length (logged (chunk c ∷ stages)) ≡ length c + length (logged stages) = length-first (chunk c) stages in
      let most : index ≤ length c + length (logged stages) = subst (λ (n : ℕ). index ≤ n) sum le in
      let more : length (logged (before ++ chunk c ∷ [])) ≡ length (logged before) + length c = length-push before (chunk c) in
      elim (cases_lt (length c) index) [
        | inl behind ↦ subst (λ (l : List (List ℕ)). Named (schema_payload begun ∷ l) number) (append_assoc done (p ∷ []) rest)
            (named_further (done ++ p ∷ []) rest (before ++ chunk c ∷ []) stages number (index - length c) (are-push begun done before p (chunk c) first all.0) (on-push begun before (chunk c) rest stages all.1) (omega (arith, is, behind, more)) (omega (arith, most, behind)))
        | inr within ↦ (
          record { place = length (frames (schema_payload begun ∷ done)); index = index; number = number },
          inl (record {
            begun = begun;
            schema = schema;
            earlier = done;
            payload = p;
            later = rest;
            before = before;
            chunk = c;
            is = refl;
            before_are = first;
            chunk_is = all.0;
            place_is = refl;
            number_is = is;
            most = within;
          }),
          refl,
        )
      ]
  named_further done (p ∷ rest) before (growth g ∷ stages) number index first all is le =
      let more : length (logged (before ++ growth g ∷ [])) ≡ length (logged before) + 0 = length-push before (growth g) in
      subst (λ (l : List (List ℕ)). Named (schema_payload begun ∷ l) number) (append_assoc done (p ∷ []) rest)
      (named_further (done ++ p ∷ []) rest (before ++ growth g ∷ []) stages number index (are-push begun done before p (growth g) first all.0) (on-push begun before (growth g) rest stages all.1) (omega (arith, is, more)) le)

pub named_each : (shape : Shape) (payloads : List (List ℕ)) (stages : List Stage) (number : ℕ) → HasStages shape payloads stages → 1 ≤ length payloads → number ≤ length (logged stages) → Named payloads number
named_each shape [] stages number has framed le = absurd (omega (arith, framed))
named_each shape (first ∷ payloads) stages number has framed le =
    subst (λ (p : List ℕ). Named (p ∷ payloads) number) (sym has.2) (named_further has.0 has.1 [] payloads [] stages number number tt has.3 (omega arith) le)
