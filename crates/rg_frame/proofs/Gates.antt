-- What the writes of an append and of a clear do to the frame list.
use Rattle.std.proofs.Common.{◌≡◌, ◌≢◌, ◌⊎◌, inl, inr, ℕ, ◌+◌, ◌^◌, ◌≤◌, ◌<◌, List, [], ◌∷◌, ◌++◌, length, get_or, take, drop, refl, sym, ◌∙◌, ap, subst, arith, append_assoc, length-append, length-drop, take-append-drop}
use Rattle.std.proofs.lemmas.List.{take_at, drop_at, drop_more, drop_all, drop-drop, length-take-le, take-take}
use Rattle.std.proofs.lemmas.List.Elements.{All-nil}
use Rattle.std.proofs.Math.Seq.{take-add}
use Rattle.std.proofs.lemmas.Bool.{cases_eq}
use Rattle.std.specs.Prelude.{All, slice_index}
use Rattle.std.specs.Int.{to_be_bytes, w64}
use Rattle.rg_host.specs.Image.{Holds, Torn}
use Rattle.rg_frame.specs.Frames.{body, frames, FitsFrame, Ends, IsLog, HasFrames, HasPayloads, EndsAt}
use Rattle.rg_frame.specs.LogState.{Reaches}
use Rattle.rg_frame.specs.Steps.{Brief, Begun, Keeps, staging, Staged, Added, Appended, Grows, From, OldOrNone}
use Rattle.rg_frame.proofs.FrameLaws.{length-body, length-frames, frames-push, length-frames-push}
use Rattle.rg_frame.proofs.FrameLists.{log_at, fits_push}

-- these frames end at a place where a gate stands closed
pub record IsGated (payloads : List (List ℕ)) (end : ℕ) (bytes : List ℕ) : Type 0 where
  pub gate : ℕ
  pub rest : List ℕ
  pub closed : gate ≢ 1
  pub ends : length (frames payloads) ≡ end
  pub is : bytes ≡ frames payloads ++ gate ∷ rest

gated_log : (payloads : List (List ℕ)) (end : ℕ) (bytes : List ℕ) → IsGated payloads end bytes → IsLog payloads end bytes
gated_log payloads end bytes g = record { rest = g.gate ∷ g.rest; ends = g.ends; is = g.is; stops = inl g.closed }

-- a file of at most one byte has no frame
no_frame : (payloads : List (List ℕ)) (end : ℕ) (bytes : List ℕ) → IsLog payloads end bytes → length bytes ≤ 1 → payloads ≡ []
no_frame [] end bytes log le = refl
no_frame (p ∷ payloads) end bytes log le = absurd (omega (arith, ap length log.is, length-append (frames (p ∷ payloads)) log.rest, length-frames p payloads))

begun_ends : (payloads : List (List ℕ)) (end : ℕ) (a rest : List ℕ) → length (frames payloads) ≡ end → a ≡ frames payloads ++ rest → Ends payloads rest → 1 < length a → IsGated payloads end a
begun_ends payloads end a [] ends is stops long = absurd (let e : a ≡ [] = is ∙ ap (λ p. frames p ++ []) stops in omega (arith, ap length e))
begun_ends payloads end a (gate ∷ rest) ends is (inl closed) long = record { gate = gate; rest = rest; closed = closed; ends = ends; is = is }
begun_ends payloads end a (gate ∷ rest) ends is (inr none) long = absurd (let e : a ≡ gate ∷ [] = is ∙ ap (λ p. frames p ++ gate ∷ rest) none.0 ∙ ap (λ r. gate ∷ r) none.1 in omega (arith, ap length e))

none_gated : (payloads : List (List ℕ)) (end : ℕ) (b : List ℕ) → payloads ≡ [] → length (frames payloads) ≡ end → b ≡ 0 ∷ [] → IsGated payloads end b
none_gated payloads end b none ends is = record { gate = 0; rest = []; closed = λ e. omega arith; ends = ends; is = is ∙ ap (λ p. frames p ++ 0 ∷ []) (sym none) }

log_begun : (payloads : List (List ℕ)) (end : ℕ) (a b : List ℕ) → IsLog payloads end a → Begun a b → IsGated payloads end b
log_begun payloads end a b log (inl same) = begun_ends payloads end b log.rest log.ends (same.1 ∙ log.is) log.stops (omega (arith, same.0, ap length same.1))
log_begun payloads end a b log (inr brief) = none_gated payloads end b (no_frame payloads end a log brief.0) log.ends brief.1

brief_log : (payloads : List (List ℕ)) (end : ℕ) (b : List ℕ) → payloads ≡ [] → length (frames payloads) ≡ end → length b ≤ 1 → IsLog payloads end b
brief_log payloads end [] none ends le = record { rest = []; ends = ends; is = ap (λ p. frames p ++ []) (sym none); stops = none }
brief_log payloads end (g ∷ []) none ends le = record { rest = g ∷ []; ends = ends; is = ap (λ p. frames p ++ g ∷ []) (sym none); stops = inr (none, refl) }
brief_log payloads end (g ∷ (h ∷ r)) none ends le = absurd (omega arith)

log_same : (payloads : List (List ℕ)) (end : ℕ) (a b : List ℕ) → b ≡ a → IsLog payloads end a → IsLog payloads end b
log_same payloads end a b same log = record { rest = log.rest; ends = log.ends; is = same ∙ log.is; stops = log.stops }

log_brief : (payloads : List (List ℕ)) (end : ℕ) (a b : List ℕ) → IsLog payloads end a → Brief a b → IsLog payloads end b
log_brief payloads end a b log (inl same) = log_same payloads end a b same log
log_brief payloads end a b log (inr brief) = brief_log payloads end b (no_frame payloads end a log brief.0) log.ends brief.1

module _ (front : List ℕ) (end : ℕ) (ends : length front ≡ end) (gate : ℕ) where
  split : (rest : List ℕ) → front ++ gate ∷ rest ≡ (front ++ gate ∷ []) ++ rest
  split rest = sym (append_assoc front (gate ∷ []) rest)

  size : length (front ++ gate ∷ []) ≡ end + 1
  size = omega (arith, ends, length-append front (gate ∷ []))

  take_gate : (rest : List ℕ) → take (end + 1) (front ++ gate ∷ rest) ≡ front ++ gate ∷ []
  take_gate rest = ap (λ (l : List ℕ). take (end + 1) l) (split rest) ∙ take_at (front ++ gate ∷ []) rest (end + 1) size

  drop_gate : (rest : List ℕ) → drop (end + 1) (front ++ gate ∷ rest) ≡ rest
  drop_gate rest = ap (λ (l : List ℕ). drop (end + 1) l) (split rest) ∙ drop_at (front ++ gate ∷ []) rest (end + 1) size

  -- what stands behind the gate stands in each outcome of its write
  torn_gate : (rest c : List ℕ) → Torn end 1 (front ++ gate ∷ rest) c → c ≡ front ++ get_or c end 0 ∷ rest
  torn_gate rest c torn =
      let long : end + 1 ≤ length c = omega (arith, torn.no_shorter, length-append front (gate ∷ rest), ends) in
      let back : drop end c ≡ get_or c end 0 ∷ rest = drop_more c end 0 (omega arith) ∙ ap (λ (l : List ℕ). get_or c end 0 ∷ l) (torn.after ∙ drop_gate rest) in
      sym (take-append-drop end c) ∙ ap (λ (l : List ℕ). l ++ drop end c) (torn.before ∙ take_at front (gate ∷ rest) end ends) ∙ ap (λ (l : List ℕ). front ++ l) back

  written_gate : (rest c : List ℕ) → Holds end (1 ∷ []) (front ++ gate ∷ rest) c → c ≡ front ++ 1 ∷ rest
  written_gate rest c holds =
      holds ∙ ap (λ (l : List ℕ). l ++ (1 ∷ []) ++ drop (end + 1) (front ++ gate ∷ rest)) (take_at front (gate ∷ rest) end ends)
      ∙ ap (λ (l : List ℕ). front ++ (1 ∷ []) ++ l) (drop_gate rest) ∙ append_assoc front (1 ∷ []) rest

gated_kept : (payloads : List (List ℕ)) (end : ℕ) (a b : List ℕ) → IsGated payloads end a → Keeps (end + 1) a b → IsGated payloads end b
gated_kept payloads end a b g keeps = record {
  gate = g.gate;
  rest = drop (end + 1) b;
  closed = g.closed;
  ends = g.ends;
  is = sym (take-append-drop (end + 1) b)
      ∙ ap (λ (l : List ℕ). l ++ drop (end + 1) b) (keeps.prefix ∙ ap (λ (l : List ℕ). take (end + 1) l) g.is ∙ take_gate (frames payloads) end g.ends g.gate g.rest)
      ∙ append_assoc (frames payloads) (g.gate ∷ []) (drop (end + 1) b);
}

-- a frame that was staged stands behind the gate
staged_is : (payloads : List (List ℕ)) (end : ℕ) (payload a b : List ℕ) (g : IsGated payloads end a) (s : Staged end payload a b) → b ≡ frames payloads ++ g.gate ∷ (staging payload ++ drop (end + 10 + length payload) a)
staged_is payloads end payload a b g s =
    let rest : List ℕ = drop (end + 10 + length payload) a in
    s ∙ ap (λ (l : List ℕ). l ++ (staging payload ++ rest)) (ap (λ (l : List ℕ). take (end + 1) l) g.is ∙ take_gate (frames payloads) end g.ends g.gate g.rest)
    ∙ append_assoc (frames payloads) (g.gate ∷ []) (staging payload ++ rest)

-- an open gate before a staged frame
opened : (payloads : List (List ℕ)) (payload rest bytes : List ℕ) → bytes ≡ frames payloads ++ 1 ∷ (staging payload ++ rest) → IsGated (payloads ++ payload ∷ []) (length (frames payloads) + 9 + length payload) bytes
opened payloads payload rest bytes is = record {
  gate = 0;
  rest = rest;
  closed = λ e. omega arith;
  ends = length-frames-push payloads payload;
  is = is
      ∙ ap (λ (l : List ℕ). frames payloads ++ 1 ∷ l) (append_assoc (body payload) (0 ∷ []) rest)
      ∙ sym (append_assoc (frames payloads) (1 ∷ body payload) (0 ∷ rest))
      ∙ ap (λ (l : List ℕ). l ++ 0 ∷ rest) (sym (frames-push payloads payload));
}

-- whatever the gate before a staged frame is torn to
either_gate : (payloads : List (List ℕ)) (end gate : ℕ) (payload rest bytes : List ℕ) → length (frames payloads) ≡ end → bytes ≡ frames payloads ++ gate ∷ (staging payload ++ rest)
    → HasFrames payloads bytes ⊎ HasFrames (payloads ++ payload ∷ []) bytes
either_gate payloads end gate payload rest bytes ends is = elim (cases_eq gate 1) [
  | inl is_open ↦ inr (_, gated_log _ _ _ (opened payloads payload rest bytes (is ∙ ap (λ (g : ℕ). frames payloads ++ g ∷ (staging payload ++ rest)) is_open)))
  | inr shut ↦ inl (end, record { rest = gate ∷ (staging payload ++ rest); ends = ends; is = is; stops = inl shut })
]

with_fit : (payloads : List (List ℕ)) (payload bytes : List ℕ) → All FitsFrame payloads → FitsFrame payload → HasFrames payloads bytes ⊎ HasFrames (payloads ++ payload ∷ []) bytes → HasPayloads payloads bytes ⊎ HasPayloads (payloads ++ payload ∷ []) bytes
with_fit payloads payload bytes fit small (inl same) = inl (record { frames = same; fit = fit })
with_fit payloads payload bytes fit small (inr more) = inr (record { frames = more; fit = fits_push payloads payload fit small })

-- the frame is staged in a file that was begun
abbrev pub Prepared : ℕ → List ℕ → List ℕ → List ℕ → Type 0
Prepared end payload a c = (b : List ℕ) × Begun a b × Staged end payload b c

pub grows-same : (end : ℕ) (payload a c : List ℕ) → c ≡ a → From end (Grows payload) a c
grows-same end payload a c same = λ ends payloads has. inl (subst (λ (l : List ℕ). HasPayloads payloads l) (sym same) has)

-- The steps of an append, which begins where the frame list ends.
module _ (end : ℕ) (payload : List ℕ) (below : end < 2 ^ 64) where
  pub grows-brief : (a c : List ℕ) → Brief a c → From end (Grows payload) a c
  grows-brief a c brief = λ ends payloads has. inl (record { frames = (has.frames.0, log_brief payloads has.frames.0 a c has.frames.1 brief); fit = has.fit })

  pub grows-kept : (a b c : List ℕ) → Begun a b → Keeps (end + 1) b c → From end (Grows payload) a c
  grows-kept a b c begun keeps = λ ends payloads has.
      inl (record { frames = (end, gated_log payloads end c (gated_kept payloads end b c (log_begun payloads end a b (log_at payloads end a below ends has) begun) keeps)); fit = has.fit })

  pub grows-torn : FitsFrame payload → (a b c : List ℕ) → Prepared end payload a b → Torn end 1 b c → From end (Grows payload) a c
  grows-torn small a b c prepared torn = λ ends payloads has.
      let g = log_begun payloads end a prepared.0 (log_at payloads end a below ends has) prepared.1 in
      let is = staged_is payloads end payload prepared.0 b g prepared.2 in
      with_fit payloads payload c has.fit small (either_gate payloads end _ payload _ c g.ends (torn_gate (frames payloads) end g.ends g.gate _ c (subst (λ (l : List ℕ). Torn end 1 l c) is torn)))

  appended_log : (payloads : List (List ℕ)) (a b c : List ℕ) → IsLog payloads end a → Prepared end payload a b → Holds end (1 ∷ []) b c → IsLog (payloads ++ payload ∷ []) (end + 9 + length payload) c
  appended_log payloads a b c log prepared holds =
      let g = log_begun payloads end a prepared.0 log prepared.1 in
      let is = staged_is payloads end payload prepared.0 b g prepared.2 in
      let gate = written_gate (frames payloads) end g.ends g.gate _ c (subst (λ (l : List ℕ). Holds end (1 ∷ []) l c) is holds) in
      gated_log _ _ _ (subst (λ (k : ℕ). IsGated (payloads ++ payload ∷ []) (k + 9 + length payload) c) g.ends (opened payloads payload _ c gate))

  pub appended-written : FitsFrame payload → (a b c : List ℕ) → Prepared end payload a b → Holds end (1 ∷ []) b c → Appended end payload (end + 9 + length payload) a c
  appended-written small a b c prepared holds = λ ends. (
    λ payloads has. record { frames = (_, appended_log payloads a b c (log_at payloads end a below ends has) prepared holds); fit = fits_push payloads payload has.fit small },
    (_, appended_log ends.0 a b c ends.1 prepared holds),
  )

-- a file that reaches a place has a gate there once it was begun
pub reaches-begun : (end : ℕ) (a b : List ℕ) → Reaches end a → Begun a b → end + 1 ≤ length b
reaches-begun end a b (inl long) (inl same) = omega (arith, long, ap length same.1)
reaches-begun end a b (inl long) (inr brief) = omega (arith, long, brief.0, ap length brief.1)
reaches-begun end a b (inr none) (inl same) = omega (arith, none.0, same.0, ap length same.1)
reaches-begun end a b (inr none) (inr brief) = omega (arith, none.0, ap length brief.1)

pub length-staged : (end : ℕ) (payload a b : List ℕ) → end + 1 ≤ length a → Staged end payload a b → end + 9 + length payload < length b
length-staged end payload a b le s =
    let rest : List ℕ = drop (end + 10 + length payload) a in
    omega (arith, ap length s, length-append (take (end + 1) a) (staging payload ++ rest), length-take-le (end + 1) a le, length-append (staging payload) rest, length-append (body payload) (0 ∷ []), length-body payload)

-- a write within a file leaves its length
pub length-held : (end : ℕ) (bytes a b : List ℕ) → end + length bytes ≤ length a → Holds end bytes a b → length b ≡ length a
length-held end bytes a b le holds = omega (arith, ap length holds, length-append (take end a ++ bytes) (drop (end + length bytes) a), length-append (take end a) bytes, length-take-le end a (omega arith), length-drop (end + length bytes) a)

pub reaches-opened : (end : ℕ) (payload a b c : List ℕ) → Reaches end a → Prepared end payload a b → Holds end (1 ∷ []) b c → Reaches (end + 9 + length payload) c
reaches-opened end payload a b c reaches prepared holds =
    let one = reaches-begun end a prepared.0 reaches prepared.1 in
    let two = length-staged end payload prepared.0 b one prepared.2 in
    inl (omega (arith, two, length-held end (1 ∷ []) b c (omega arith) holds))

-- bytes written right behind a prefix
written_on : (front rest bytes old new : List ℕ) (at : ℕ) → length front ≡ at → old ≡ front ++ rest → Holds at bytes old new → new ≡ (front ++ bytes) ++ drop (length bytes) rest
written_on front rest bytes old new at size is holds =
    let e : drop (at + length bytes) (front ++ rest) ≡ drop (length bytes) rest = sym (drop-drop (length bytes) at (front ++ rest)) ∙ ap (λ (l : List ℕ). drop (length bytes) l) (drop_at front rest at size) in
    let here : new ≡ take at (front ++ rest) ++ bytes ++ drop (at + length bytes) (front ++ rest) = holds ∙ ap (λ (l : List ℕ). take at l ++ bytes ++ drop (at + length bytes) l) is in
    here ∙ ap (λ (l : List ℕ). l ++ bytes ++ drop (at + length bytes) (front ++ rest)) (take_at front rest at size) ∙ ap (λ (l : List ℕ). front ++ bytes ++ l) e

take_none : (end : ℕ) (a b : List ℕ) → end ≡ 0 → take end b ≡ take end a
take_none end a b none = ap (λ (n : ℕ). take n b) none ∙ sym (ap (λ (n : ℕ). take n a) none)

-- what stands before the place stays when a file is begun
begun_before : (end : ℕ) (a b : List ℕ) → Reaches end a → Begun a b → take end b ≡ take end a
begun_before end a b reaches (inl same) = ap (λ (l : List ℕ). take end l) same.1
begun_before end a b (inl long) (inr brief) = take_none end a b (omega (arith, long, brief.0))
begun_before end a b (inr none) (inr brief) = take_none end a b none.0

-- what stands behind the first byte stays when a file is begun
begun_behind : (n : ℕ) (a b : List ℕ) → 1 ≤ n → Begun a b → drop n b ≡ drop n a
begun_behind n a b le (inl same) = ap (λ (l : List ℕ). drop n l) same.1
begun_behind n a b le (inr brief) = drop_all n b (omega (arith, le, ap length brief.1)) ∙ sym (drop_all n a (omega (arith, le, brief.0)))

-- the bytes of the file once the gate is open
pub added-written : (end : ℕ) (payload a b c : List ℕ) → Reaches end a → Prepared end payload a b → Holds end (1 ∷ []) b c → Added end payload a c
added-written end payload a b c reaches prepared holds =
    let begun : List ℕ = prepared.0 in
    let behind : ℕ = end + 10 + length payload in
    let rest : List ℕ = drop behind begun in
    let front : List ℕ = take end begun in
    let gate : List ℕ = take 1 (drop end begun) in
    let within = reaches-begun end a begun reaches prepared.1 in
    let n : length front ≡ end = length-take-le end begun (omega (arith, within)) in
    let one : length gate ≡ 1 = length-take-le 1 (drop end begun) (omega (arith, within, length-drop end begun)) in
    let is : b ≡ front ++ (gate ++ (staging payload ++ rest)) = prepared.2 ∙ ap (λ (l : List ℕ). l ++ (staging payload ++ rest)) (take-add end 1 begun) ∙ append_assoc front gate (staging payload ++ rest) in
    let written = written_on front (gate ++ (staging payload ++ rest)) (1 ∷ []) b c end n is holds in
    written ∙ ap (λ (l : List ℕ). (front ++ 1 ∷ []) ++ l) (drop_at gate (staging payload ++ rest) 1 one) ∙ append_assoc front (1 ∷ []) (staging payload ++ rest)
    ∙ ap (λ (l : List ℕ). l ++ 1 ∷ (staging payload ++ rest)) (begun_before end a begun reaches prepared.1)
    ∙ ap (λ (l : List ℕ). take end a ++ 1 ∷ (staging payload ++ l)) (begun_behind behind a begun (omega arith) prepared.1)

stage_shape : (front size payload rest d : List ℕ) → d ≡ (((front ++ size) ++ payload) ++ 0 ∷ []) ++ rest → d ≡ front ++ (((size ++ payload) ++ 0 ∷ []) ++ rest)
stage_shape front size payload rest d is = is ∙ simp append_assoc

-- what three writes in a row leave behind them
behind_three : (end : ℕ) (payload a size : List ℕ) → size ≡ to_be_bytes w64 (length payload) → drop 1 (drop (length payload) (drop (length size) (drop (end + 1) a))) ≡ drop (end + 10 + length payload) a
behind_three end payload a size is =
    ap (λ (l : List ℕ). drop 1 (drop (length payload) l)) (drop-drop (length size) (end + 1) a) ∙ ap (λ (l : List ℕ). drop 1 l) (drop-drop (length payload) (end + 1 + length size) a) ∙ drop-drop 1 (end + 1 + length size + length payload) a
    ∙ ap (λ (n : ℕ). drop n a) (omega (arith, ap length is))

-- the three writes that stage a frame
abbrev pub ThreeWrites : ℕ → List ℕ → List ℕ → List ℕ → Type 0
ThreeWrites end payload a d = (b : List ℕ) × (c : List ℕ) × Holds (end + 1) (to_be_bytes w64 (length payload)) a b × Holds (end + 9) payload b c × Holds (end + 9 + length payload) (0 ∷ []) c d

pub staged-three : (end : ℕ) (payload a d : List ℕ) → end + 1 ≤ length a → ThreeWrites end payload a d → Staged end payload a d
staged-three end payload a d le three =
    let front : List ℕ = take (end + 1) a in
    let size : List ℕ = to_be_bytes w64 (length payload) in
    let n : length front ≡ end + 1 = length-take-le (end + 1) a le in
    let is1 = written_on front (drop (end + 1) a) size a three.0 (end + 1) n (sym (take-append-drop (end + 1) a)) three.2 in
    let n1 : length (front ++ size) ≡ end + 9 = omega (arith, n, length-append front size) in
    let is2 = written_on (front ++ size) _ payload three.0 three.1 (end + 9) n1 is1 three.3 in
    let n2 : length ((front ++ size) ++ payload) ≡ end + 9 + length payload = omega (arith, n1, length-append (front ++ size) payload) in
    let is3 = written_on ((front ++ size) ++ payload) _ (0 ∷ []) three.1 d (end + 9 + length payload) n2 is2 three.4 in
    stage_shape front size payload _ d is3 ∙ ap (λ (l : List ℕ). front ++ (((size ++ payload) ++ 0 ∷ []) ++ l)) (behind_three end payload a size refl)

-- Single writes.

pub keeps-same : (k : ℕ) (a b : List ℕ) → b ≡ a → Keeps k a b
keeps-same k a b same = record { prefix = ap (λ (l : List ℕ). take k l) same; size = λ h. omega (arith, h, ap length same) }

pub keeps-torn : (k at n : ℕ) → k ≤ at → (a b c : List ℕ) → Keeps k a b → Torn at n b c → Keeps k a c
keeps-torn k at n le a b c keeps torn = record {
  prefix = sym (take-take k at c le) ∙ ap (λ (l : List ℕ). take k l) torn.before ∙ take-take k at b le ∙ keeps.prefix;
  size = λ h. omega (arith, keeps.size h, torn.no_shorter);
}

pub torn-same : (at n : ℕ) (a b : List ℕ) → b ≡ a → Torn at n a b
torn-same at n a b same = record { before = ap (λ (l : List ℕ). take at l) same; after = ap (λ (l : List ℕ). drop (at + n) l) same; no_shorter = omega (arith, ap length same); no_longer = omega (arith, ap length same) }

pub torn-from : (at n : ℕ) (a b c : List ℕ) → b ≡ a → Torn at n b c → Torn at n a c
torn-from at n a b c same torn = subst (λ (l : List ℕ). Torn at n l c) same torn

pub brief-torn : (a b c : List ℕ) → length a ≤ 1 → b ≡ a → Torn 0 1 b c → Brief a c
brief-torn a b c le same torn = inr (le, omega (arith, torn.no_longer, ap length same))

pub begun-written : (a b : List ℕ) → length a ≤ 1 → Holds 0 (0 ∷ []) a b → Begun a b
begun-written a b le holds = inr (le, holds ∙ ap (λ (l : List ℕ). 0 ∷ l) (drop_all 1 a le))

-- A gate at the head of a file.

none_at : (bytes : List ℕ) (gate : ℕ) (rest : List ℕ) → gate ≢ 1 → bytes ≡ gate ∷ rest → HasPayloads [] bytes
none_at bytes gate rest closed is = record { frames = (0, record { rest = gate ∷ rest; ends = refl; is = is; stops = inl closed }); fit = All-nil FitsFrame }

pub none-empty : (bytes : List ℕ) → length bytes ≤ 0 → HasPayloads [] bytes
none-empty [] le = record { frames = (0, record { rest = []; ends = refl; is = refl; stops = refl }); fit = All-nil FitsFrame }
none-empty (b ∷ bytes) le = absurd (omega arith)

pub none-closed : (bytes : List ℕ) (gate : ℕ) → gate ≢ 1 → bytes ≡ gate ∷ drop 1 bytes → HasPayloads [] bytes
none-closed bytes gate closed is = none_at bytes gate (drop 1 bytes) closed is

-- the gate at the head of a file, as it was read
pub head-read : (bytes buf : List ℕ) (n : ℕ) → length buf ≡ 1 → n ≤ 1 → 0 < n → n ≤ length (drop 0 bytes) → take n buf ≡ take n (drop 0 bytes) → bytes ≡ get_or buf 0 0 ∷ drop 1 bytes
head-read [] buf n size most some within is = absurd (omega arith)
head-read (b ∷ bytes) [] n size most some within is = absurd (omega arith)
head-read (b ∷ bytes) (x ∷ buf) n size most some within is =
    let one : n ≡ 1 = omega arith in
    let e : take 1 (x ∷ buf) ≡ take 1 (b ∷ bytes) = subst (λ (k : ℕ). take k (x ∷ buf) ≡ take k (b ∷ bytes)) one is in
    let h : b ≡ x = cc in ap (λ (k : ℕ). k ∷ bytes) h

pub head-open : (bytes : List ℕ) (gate : ℕ) → gate ≡ 1 → bytes ≡ gate ∷ drop 1 bytes → slice_index bytes 0 ≡ 1
head-open bytes gate one is = let e : slice_index bytes 0 ≡ slice_index (gate ∷ drop 1 bytes) 0 = ap (λ (l : List ℕ). slice_index l 0) is in e ∙ one

pub head-shut : (bytes : List ℕ) (gate : ℕ) → gate ≢ 1 → bytes ≡ gate ∷ drop 1 bytes → slice_index bytes 0 ≢ 1
head-shut bytes gate closed is = λ one. (let e : slice_index bytes 0 ≡ slice_index (gate ∷ drop 1 bytes) 0 = ap (λ (l : List ℕ). slice_index l 0) is in closed (sym e ∙ one))

pub head-none : (bytes : List ℕ) → length bytes ≤ 0 → slice_index bytes 0 ≢ 1
head-none [] le = λ one. omega (arith, one)
head-none (b ∷ bytes) le = absurd (omega (arith, le))

-- a torn write of an open gate at the head leaves it or closes it
pub none-torn : (a b c : List ℕ) → a ≡ 1 ∷ drop 1 a → b ≡ a → Torn 0 1 b c → OldOrNone a c
none-torn a b c is same torn =
    let after = torn_gate [] 0 refl 1 (drop 1 a) c (subst (λ (l : List ℕ). Torn 0 1 l c) (same ∙ is) torn) in
    elim (cases_eq (get_or c 0 0) 1) [
      | inl is_open ↦ inl (after ∙ ap (λ (k : ℕ). k ∷ drop 1 a) is_open ∙ sym is)
      | inr shut ↦ inr (none_at c _ _ shut after)
    ]

pub none-written : (a c : List ℕ) → Holds 0 (0 ∷ []) a c → HasPayloads [] c
none-written a c holds = none_at c 0 (drop 1 a) (λ e. omega arith) holds

-- a file without a frame ends at place 0
pub ends-none : (bytes : List ℕ) → HasPayloads [] bytes → EndsAt 0 bytes
ends-none bytes has = ([], record { rest = has.frames.1.rest; ends = refl; is = has.frames.1.is; stops = has.frames.1.stops })

-- a file reaches place 0
pub reaches-start : (bytes : List ℕ) → Reaches 0 bytes
reaches-start [] = inr (refl, omega arith)
reaches-start (b ∷ bytes) = inl (omega arith)
