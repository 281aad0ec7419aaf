-- The last token that is passed is the longest.
use Rattle.std.proofs.Common.{◌≡◌, ℕ, ◌+◌, ◌≤◌, ◌<◌, List, [], ◌∷◌, ◌++◌, length, drop, Option, Some, None, refl, ap, sym, ◌∙◌, subst, arith, inl, inr, ◌⊎◌, length-append, length-drop}
use Rattle.std.specs.Prelude.{IfSome, IfNone, ◌-◌, take, slice_range}
use Rattle.rg_token.specs.declared.piece.Shape.{Shape}
use Rattle.rg_token.specs.declared.automaton.Found.{Found}
use Rattle.rg_token.specs.declared.automaton.Mode.{Mode}
use Rattle.rg_token.specs.declared.automaton.Mode.TheVariants.{Start}
use Rattle.rg_token.specs.Token.{Spelled}
use Rattle.rg_token.specs.Lexing.{IsLongest, NoToken}
use Rattle.rg_token.specs.Automaton.{next, shape_at, if_some, better, best_of, leads, Reads}
use Rattle.rg_token.proofs.Spelling.{no_end, spelled_read, read_spelled}

-- no token is empty

pub not_empty : (token : List ℕ) (shape : Shape) → Spelled token shape → 0 < length token
not_empty token shape h = read_not_empty token shape (spelled_read token shape h)
  where
    read_not_empty : (token : List ℕ) (shape : Shape) → Reads token shape → 0 < length token
    read_not_empty [] shape r = absurd (no_end Start r.mode shape r.leads_to refl r.ends)
    read_not_empty (byte ∷ bytes) shape r = omega arith

pub longest_positive : (bytes : List ℕ) (size : ℕ) (shape : Shape) → IsLongest bytes size shape → 0 < size
longest_positive bytes size shape h = omega (arith, not_empty h.token shape h.spelled, h.sized)

pub longest_within : (bytes : List ℕ) (size : ℕ) (shape : Shape) → IsLongest bytes size shape → size ≤ length bytes
longest_within bytes size shape h = omega (arith, ap length h.split, length-append h.token h.rest, h.sized)

-- each token at the front ends no later than what is found

abbrev EndsFrom : Option Found → ℕ → Type 0
EndsFrom best n = (found : Found) × (best ≡ Some found) × (n ≤ found.end)

ends_from : (best : Option Found) (n n' : ℕ) → n ≡ n' → EndsFrom best n → EndsFrom best n'
ends_from best n n' e h = (h.0, h.1, omega (arith, h.2))

better_ends : (there : Option Shape) (at n : ℕ) (best : Option Found) → n ≤ at → EndsFrom best n → EndsFrom (if_some there best (λ shape. Some (record { end = at; shape = shape }))) n
better_ends None at n best l h = h
better_ends (Some shape) at n best l h = (record { end = at; shape = shape }, refl, l)

best_ends : (bytes : List ℕ) (mode : Mode) (at n : ℕ) (best : Option Found) → n ≤ at → EndsFrom best n → EndsFrom (best_of mode bytes at best) n
best_ends [] mode at n best l h = better_ends (shape_at mode) at n best l h
best_ends (byte ∷ bytes) mode at n best l h = step (next mode byte) (λ m b h'. best_ends bytes m (at + 1) n b (omega arith) h')
  where
    step :
        (later : Option Mode) → ((m : Mode) (b : Option Found) → EndsFrom b n → EndsFrom (best_of m bytes (at + 1) b) n)
        → EndsFrom (if_some later (better mode at best) (λ m. best_of m bytes (at + 1) (better mode at best))) n
    step None ih = better_ends (shape_at mode) at n best l h
    step (Some m) ih = ih m (better mode at best) (better_ends (shape_at mode) at n best l h)

better_here : (there : Option Shape) (at : ℕ) (best : Option Found) (shape : Shape) → there ≡ Some shape → EndsFrom (if_some there best (λ s. Some (record { end = at; shape = s }))) at
better_here None at best shape e = absurd (cc)
better_here (Some s) at best shape e = (record { end = at; shape = s }, refl, omega arith)

best_here : (bytes : List ℕ) (mode : Mode) (at : ℕ) (best : Option Found) (shape : Shape) → shape_at mode ≡ Some shape → EndsFrom (best_of mode bytes at best) at
best_here [] mode at best shape e = better_here (shape_at mode) at best shape e
best_here (byte ∷ bytes) mode at best shape e = step (next mode byte)
  where
    step : (later : Option Mode) → EndsFrom (if_some later (better mode at best) (λ m. best_of m bytes (at + 1) (better mode at best))) at
    step None = better_here (shape_at mode) at best shape e
    step (Some m) = best_ends bytes m (at + 1) at (better mode at best) (omega arith) (better_here (shape_at mode) at best shape e)

all_end :
    (token rest : List ℕ) (mode mode' : Mode) (at : ℕ) (best : Option Found) (shape : Shape) → leads mode token ≡ Some mode' → shape_at mode' ≡ Some shape
    → EndsFrom (best_of mode (token ++ rest) at best) (at + length token)
all_end [] rest mode mode' at best shape e s =
    let k : mode ≡ mode' = cc in
    ends_from (best_of mode rest at best) at (at + 0) (omega arith) (best_here rest mode at best shape (ap shape_at k ∙ s))
all_end (byte ∷ token) rest mode mode' at best shape e s = step (next mode byte) (λ m b e'. all_end token rest m mode' (at + 1) b shape e' s) e
  where
    step :
        (later : Option Mode)
        → ((m : Mode) (b : Option Found) → leads m token ≡ Some mode' → EndsFrom (best_of m (token ++ rest) (at + 1) b) (at + 1 + length token))
        → if_some later None (λ m. leads m token) ≡ Some mode'
        → EndsFrom (if_some later (better mode at best) (λ m. best_of m (token ++ rest) (at + 1) (better mode at best))) (at + length (byte ∷ token))
    step None ih e' = absurd (cc)
    step (Some m) ih e' = ends_from _ (at + 1 + length token) (at + length (byte ∷ token)) (omega arith) (ih m (better mode at best) e')

-- what is found is a token

record Passes (mode : Mode) (bytes : List ℕ) (at : ℕ) (found : Found) : Type 0 where
  token : List ℕ
  rest : List ℕ
  mode_there : Mode
  split : bytes ≡ token ++ rest
  leads_to : leads mode token ≡ Some mode_there
  ends : shape_at mode_there ≡ Some found.shape
  place : found.end ≡ at + length token

better_passes :
    (there : Option Shape) (mode : Mode) (bytes : List ℕ) (at : ℕ) (best : Option Found) (found : Found) → shape_at mode ≡ there
    → if_some there best (λ shape. Some (record { end = at; shape = shape })) ≡ Some found → (best ≡ Some found) ⊎ Passes mode bytes at found
better_passes None mode bytes at best found q e = inl e
better_passes (Some shape) mode bytes at best found q e =
    let here : Found = record { end = at; shape = shape } in
    let k : here ≡ found = cc in
    inr (record {
      token = [];
      rest = bytes;
      mode_there = mode;
      split = refl;
      leads_to = refl;
      ends = q ∙ ap (λ (f : Found). Some f.shape) k;
      place = ap (λ (f : Found). f.end) (sym k) ∙ omega arith;
    })

onward : (mode later : Mode) (byte : ℕ) (bytes : List ℕ) (at : ℕ) (found : Found) → next mode byte ≡ Some later → Passes later bytes (at + 1) found → Passes mode (byte ∷ bytes) at found
onward mode later byte bytes at found e p = record {
  token = byte ∷ p.token;
  rest = p.rest;
  mode_there = p.mode_there;
  split = ap (λ bs. byte ∷ bs) p.split;
  leads_to = ap (λ m. if_some m None (λ (m' : Mode). leads m' p.token)) e ∙ p.leads_to;
  ends = p.ends;
  place = omega (arith, p.place);
}

passed : (bytes : List ℕ) (mode : Mode) (at : ℕ) (best : Option Found) (found : Found) → best_of mode bytes at best ≡ Some found → (best ≡ Some found) ⊎ Passes mode bytes at found
passed [] mode at best found e = better_passes (shape_at mode) mode [] at best found refl e
passed (byte ∷ bytes) mode at best found e = step (next mode byte) refl (λ m e'. passed bytes m (at + 1) (better mode at best) found e') e
  where
    step :
        (later : Option Mode) → next mode byte ≡ later
        → ((m : Mode) → best_of m bytes (at + 1) (better mode at best) ≡ Some found → (better mode at best ≡ Some found) ⊎ Passes m bytes (at + 1) found)
        → if_some later (better mode at best) (λ m. best_of m bytes (at + 1) (better mode at best)) ≡ Some found
        → (best ≡ Some found) ⊎ Passes mode (byte ∷ bytes) at found
    step None q ih e' = better_passes (shape_at mode) mode (byte ∷ bytes) at best found refl e'
    step (Some m) q ih e' = elim (ih m e') [
      | inl k ↦ better_passes (shape_at mode) mode (byte ∷ bytes) at best found refl k
      | inr p ↦ inr (onward mode m byte bytes at found q p)
    ]

-- a token at the front ends no later than what is found
no_later : (bytes : List ℕ) (at : ℕ) (found : Found) (token rest : List ℕ) (shape : Shape) → best_of Start bytes at None ≡ Some found → bytes ≡ token ++ rest → Spelled token shape → at + length token ≤ found.end
no_later bytes at found token rest shape e split h =
    let r : Reads token shape = spelled_read token shape h in
    let u : EndsFrom (best_of Start (token ++ rest) at None) (at + length token) = all_end token rest Start r.mode at None shape r.leads_to r.ends in
    let k : Some found ≡ Some u.0 = sym e ∙ ap (λ bs. best_of Start bs at None) split ∙ u.1 in
    let j : found ≡ u.0 = cc (k) in
    omega (arith, u.2, ap (λ (f : Found). f.end) j)

pub longest_found : (bytes : List ℕ) (at : ℕ) (found : Found) → best_of Start bytes at None ≡ Some found → (size : ℕ) × (found.end ≡ at + size) × IsLongest bytes size found.shape
longest_found bytes at found e = elim (passed bytes Start at None found e) [ inl k ↦ absurd (cc) | inr p ↦ from_passed p ]
  where
    from_passed : Passes Start bytes at found → (size : ℕ) × (found.end ≡ at + size) × IsLongest bytes size found.shape
    from_passed p = (
      length p.token,
      p.place,
      record {
        token = p.token;
        rest = p.rest;
        split = p.split;
        sized = refl;
        spelled = read_spelled p.token found.shape (record { mode = p.mode_there; leads_to = p.leads_to; ends = p.ends });
        longest = λ other behind also split h. omega (arith, p.place, no_later bytes at found other behind also e split h);
      },
    )

none_found : (bytes : List ℕ) (at : ℕ) → best_of Start bytes at None ≡ None → NoToken bytes
none_found bytes at e token rest shape split h =
    let r : Reads token shape = spelled_read token shape h in
    let u : EndsFrom (best_of Start (token ++ rest) at None) (at + length token) = all_end token rest Start r.mode at None shape r.leads_to r.ends in
    let k : None ≡ Some u.0 = sym e ∙ ap (λ bs. best_of Start bs at None) split ∙ u.1 in
    cc

pub if_found : (bytes : List ℕ) (at : ℕ) (best : Option Found) → best ≡ best_of Start bytes at None → IfSome best (λ found. (size : ℕ) × (found.end ≡ at + size) × IsLongest bytes size found.shape)
if_found bytes at None e = tt
if_found bytes at (Some found) e = longest_found bytes at found (sym e)

pub if_none : (bytes : List ℕ) (at : ℕ) (best : Option Found) → best ≡ best_of Start bytes at None → IfNone best (NoToken bytes)
if_none bytes at None e = none_found bytes at (sym e)
if_none bytes at (Some found) e = tt

pub if_within : (text : List ℕ) (at : ℕ) → at ≤ length text → (best : Option Found) → best ≡ best_of Start (drop at text) at None → IfSome best (λ found. (at < found.end) × (found.end ≤ length text))
if_within text at l None e = tt
if_within text at l (Some found) e =
    let f : (size : ℕ) × (found.end ≡ at + size) × IsLongest (drop at text) size found.shape = longest_found (drop at text) at found (sym e) in
    (omega (arith, longest_positive (drop at text) f.0 found.shape f.2, f.1), omega (arith, longest_within (drop at text) f.0 found.shape f.2, length-drop at text, f.1))

-- what is found is spelled by the bytes up to its end

take_front : (token rest : List ℕ) → take (length token) (token ++ rest) ≡ token
take_front [] rest = refl
take_front (byte ∷ token) rest = ap (λ bytes. byte ∷ bytes) (take_front token rest)

longest_bytes : (bytes : List ℕ) (size : ℕ) (shape : Shape) → IsLongest bytes size shape → Spelled (take size bytes) shape
longest_bytes bytes size shape h =
    let e : take size bytes ≡ h.token = ap (λ n. take n bytes) (sym h.sized) ∙ ap (take (length h.token)) h.split ∙ take_front h.token h.rest in
    subst (λ (bs : List ℕ). Spelled bs shape) (sym e) h.spelled

pub if_spelled : (text : List ℕ) (at : ℕ) (best : Option Found) → best ≡ best_of Start (drop at text) at None → IfSome best (λ found. Spelled (slice_range text at found.end) found.shape)
if_spelled text at None e = tt
if_spelled text at (Some found) e =
    let f : (size : ℕ) × (found.end ≡ at + size) × IsLongest (drop at text) size found.shape = longest_found (drop at text) at found (sym e) in
    let n : f.0 ≡ found.end - at = omega (arith, f.1) in
    subst (λ (n : ℕ). Spelled (take n (drop at text)) found.shape) n (longest_bytes (drop at text) f.0 found.shape f.2)
