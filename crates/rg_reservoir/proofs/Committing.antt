-- What stands in a log after one frame more.
use Rattle.std.proofs.Common.{◌≡◌, ◌≢◌, ◌∙◌, inl, inr, ℕ, suc, ◌+◌, ◌-◌, ◌^◌, ◌≤◌, ◌<◌, ◌==◌, nat_le, Bool, true, false, List, [], ◌∷◌, ◌++◌, length, take, drop, Some, None, refl, sym, ap, subst, arith, append_assoc, length-append, length-drop}
use Rattle.std.proofs.lemmas.Grind.{common_steps}
use Rattle.std.proofs.lemmas.Bool.Decides.{nat_tests}
use Rattle.std.proofs.lemmas.List.{take-take, take_at, drop_at, drop-take, length-take-le}
use Rattle.std.specs.Prelude.{slice_index}
use Rattle.std.specs.Int.{to_be_bytes, from_be_bytes, w64}
use Rattle.rg_event.specs.declared.event.Event.{Event}
use Rattle.rg_frame.specs.Frames.{body, frames, Ends, IsLog, size_in, payload_in, payload_at}
use Rattle.rg_frame.specs.Looks.{IsClosed}
use Rattle.rg_frame.proofs.Laws.{frames-push, holds_payload}
use Rattle.rg_reservoir.specs.Chain.{chunk_in, chunk_at, Chain}
use Rattle.rg_reservoir.specs.Views.{View}
use Rattle.rg_reservoir.proofs.Chains.{some_none}
use Rattle.rg_reservoir.proofs.Viewing.{parts, passed_behind}

payload_parts : (gate : ℕ) (rest p : List ℕ) → payload_in (gate ∷ rest) ≡ Some p → (gate ≡ 1) × (9 + size_in rest ≤ length rest) × (take (size_in rest) (drop 8 rest) ≡ p)
payload_parts gate rest p is = by (gate == 1) (nat_le (9 + size_in rest) (length rest)) refl refl
  where
    by : (a b : Bool) → (gate == 1) ≡ a → nat_le (9 + size_in rest) (length rest) ≡ b → (gate ≡ 1) × (9 + size_in rest ≤ length rest) × (take (size_in rest) (drop 8 rest) ≡ p)
    by true true s t =
        let e : Some (take (size_in rest) (drop 8 rest)) ≡ Some p = sym (rw (s, t) refl) ∙ is in
        (grind (arith, nat_tests), grind (arith, nat_tests), cc)
    by true false s t = let e : None ≡ Some p = sym (rw (s, t) refl) ∙ is in absurd cc
    by false b s t = let e : None ≡ Some p = sym (rw s refl) ∙ is in absurd cc

payload_made : (gate : ℕ) (rest : List ℕ) → gate ≡ 1 → 9 + size_in rest ≤ length rest → payload_in (gate ∷ rest) ≡ Some (take (size_in rest) (drop 8 rest))
payload_made gate rest one le = grind (arith, nat_tests, common_steps)

head_is : (j : ℕ) (g h : ℕ) (r s : List ℕ) → take (suc j) (g ∷ r) ≡ take (suc j) (h ∷ s) → (g ≡ h) × (take j r ≡ take j s)
head_is j g h r s e = (cc, cc)

shorter : (i j : ℕ) (r s : List ℕ) → i ≤ j → take j r ≡ take j s → take i r ≡ take i s
shorter i j r s le e = sym (take-take i j r le) ∙ ap (λ (l : List ℕ). take i l) e ∙ take-take i j s le

-- a frame that stands in the bytes that stay, and a byte behind it
front_payload : (j : ℕ) (xs ys p : List ℕ) → take (suc j) xs ≡ take (suc j) ys → payload_in xs ≡ Some p → 8 + length p ≤ j → 9 + length p < length ys → payload_in ys ≡ Some p
front_payload j [] ys p same is le lt = absurd (some_none _ _ is refl)
front_payload j (g ∷ r) [] p same is le lt = absurd (omega arith)
front_payload j (g ∷ r) (h ∷ s) p same is le lt =
    let parts = payload_parts g r p is in
    let heads = head_is j g h r s same in
    let long : length p ≡ size_in r = sym (ap length parts.2) ∙ length-take-le (size_in r) (drop 8 r) (omega (arith, length-drop 8 r, parts.1)) in
    let size : size_in r ≡ size_in s = ap (λ (l : List ℕ). from_be_bytes w64 l) (shorter 8 j r s (omega (arith, le)) heads.1) in
    let same_p : take (size_in r) (drop 8 r) ≡ take (size_in r) (drop 8 s) =
    sym (drop-take 8 (size_in r) r) ∙ ap (λ (l : List ℕ). drop 8 l) (shorter (8 + size_in r) j r s (omega (arith, le, long)) heads.1) ∙ drop-take 8 (size_in r) s in
    payload_made h s (sym heads.0 ∙ parts.0) (omega (arith, lt, long, size))
    ∙ ap (λ (n : ℕ). Some (take n (drop 8 s))) (sym size) ∙ ap (λ (l : List ℕ). Some l) (sym same_p ∙ parts.2)

pub payload_stays : (place end : ℕ) (old new p : List ℕ) → take end new ≡ take end old → payload_at place old ≡ Some p → place + 9 + length p ≤ end → end < length new → payload_at place new ≡ Some p
payload_stays place end old new p same is le lt =
    let j : ℕ = end - place - 1 in
    let sum : place + suc j ≡ end = omega (arith, le) in
    let front : take (suc j) (drop place old) ≡ take (suc j) (drop place new) =
    sym (drop-take place (suc j) old) ∙ ap (λ (l : List ℕ). drop place l) (subst (λ (n : ℕ). take n old ≡ take n new) (sym sum) (sym same)) ∙ drop-take place (suc j) new in
    front_payload j (drop place old) (drop place new) p front is (omega (arith, le)) (omega (arith, le, lt, length-drop place new))

-- a chunk is that of a payload which ends before the place where the next one stands
chunk_from : (view : View) (place : ℕ) (bytes : List ℕ) (c : List Event) (n : ℕ) → chunk_at view place bytes ≡ Some (c, n) → (p : List ℕ) × (payload_at place bytes ≡ Some p) × (place + 9 + length p ≤ n)
chunk_from view place bytes c n e =
    let k = parts view place (payload_at place bytes) c n e in
    (k.payload, k.here, omega (arith, k.next_is, passed_behind view.growths (place + 9 + length k.payload)))

pub chunk_stays : (view : View) (place end : ℕ) (old new : List ℕ) (c : List Event) (n : ℕ) → take end new ≡ take end old → chunk_at view place old ≡ Some (c, n) → n ≤ end → end < length new → chunk_at view place new ≡ Some (c, n)
chunk_stays view place end old new c n same is le lt =
    let f = chunk_from view place old c n is in
    let p = payload_stays place end old new f.0 same f.1 (omega (arith, f.2, le)) lt in
    ap (chunk_in view place) (p ∙ sym f.1) ∙ is

pub chunk_behind : (view : View) (place : ℕ) (bytes : List ℕ) (c : List Event) (n : ℕ) → chunk_at view place bytes ≡ Some (c, n) → place + 9 ≤ n
chunk_behind view place bytes c n is = let f = chunk_from view place bytes c n is in omega (arith, f.2)

pub chain_behind : (view : View) (bytes : List ℕ) (place : ℕ) (chunks : List (List Event)) (end : ℕ) → Chain view bytes place chunks end → place ≤ end
chain_behind view bytes place [] end chain = omega (arith, chain)
chain_behind view bytes place (c ∷ chunks) end chain = omega (arith, chunk_behind view place bytes c chain.0 chain.1, chain_behind view bytes chain.0 chunks end chain.2)

pub chain_stays : (view : View) (old new : List ℕ) (place limit : ℕ) (chunks : List (List Event)) (end : ℕ) → take limit new ≡ take limit old → (0 < limit → limit < length new) → end ≤ limit → Chain view old place chunks end → Chain view new place chunks end
chain_stays view old new place limit [] end same lt most chain = chain
chain_stays view old new place limit (c ∷ chunks) end same lt most chain =
    let le = chain_behind view old chain.0 chunks end chain.2 in
    let some : 0 < limit = omega (arith, le, most, chunk_behind view place old c chain.0 chain.1) in
    (chain.0, chunk_stays view place limit old new c chain.0 same chain.1 (omega (arith, le, most)) (lt some), chain_stays view old new chain.0 limit chunks end same lt most chain.2)

-- where a list of frames ends
pub log_behind : (payloads : List (List ℕ)) (rest : List ℕ) → Ends payloads rest → 0 < length (frames payloads) → 0 < length rest
log_behind payloads [] stops some = absurd (omega (arith, ap (λ p. length (frames p)) stops, some))
log_behind payloads (g ∷ rest) stops some = omega arith

ends_none : (payloads : List (List ℕ)) (rest : List ℕ) → Ends payloads rest → payload_in rest ≡ None
ends_none payloads [] stops = refl
ends_none payloads (g ∷ rest) (inl closed) = let differs : g ≢ 1 = closed in grind (arith, nat_tests, common_steps)
ends_none payloads (g ∷ []) (inr none) = let few : 0 < 9 + size_in [] = omega arith in grind (arith, nat_tests, common_steps)
ends_none payloads (g ∷ (h ∷ rest)) (inr none) = absurd (omega (arith, ap length none.1))

pub record LogAt (payloads : List (List ℕ)) (end : ℕ) (bytes : List ℕ) : Type 0 where
  pub front : take end bytes ≡ frames payloads
  pub none : payload_at end bytes ≡ None
  pub closed : IsClosed end bytes
  pub more : 0 < end → end < length bytes

ends_closed : (payloads : List (List ℕ)) (end : ℕ) (bytes rest : List ℕ) → length (frames payloads) ≡ end → bytes ≡ frames payloads ++ rest → Ends payloads rest → IsClosed end bytes
ends_closed payloads end bytes [] ends is stops = inl (omega (arith, ap length is, ap (λ p. length (frames p ++ [])) stops))
ends_closed payloads end bytes (g ∷ rest) ends is (inl closed) = inr (λ e. closed (sym (ap (λ (l : List ℕ). slice_index l 0) (ap (λ (l : List ℕ). drop end l) is ∙ drop_at (frames payloads) (g ∷ rest) end ends)) ∙ e))
ends_closed payloads end bytes (g ∷ rest) ends is (inr none) = inl (omega (arith, ap length is, ap (λ p. length (frames p ++ g ∷ rest)) none.0, ap length none.1))

pub log_at : (payloads : List (List ℕ)) (end : ℕ) (bytes : List ℕ) → IsLog payloads end bytes → LogAt payloads end bytes
log_at payloads end bytes log = record {
  front = ap (λ (l : List ℕ). take end l) log.is ∙ take_at (frames payloads) log.rest end log.ends;
  none = ap payload_in (ap (λ (l : List ℕ). drop end l) log.is ∙ drop_at (frames payloads) log.rest end log.ends) ∙ ends_none payloads log.rest log.stops;
  closed = ends_closed payloads end bytes log.rest log.ends log.is log.stops;
  more = λ some. omega (arith, ap length log.is, length-append (frames payloads) log.rest, log.ends, log_behind payloads log.rest log.stops (omega (arith, log.ends, some)));
}

-- one frame more
pub record LogMore (payloads : List (List ℕ)) (p : List ℕ) (end next : ℕ) (bytes : List ℕ) : Type 0 where
  pub front : take end bytes ≡ frames payloads
  pub here : payload_at end bytes ≡ Some p
  pub next_is : next ≡ end + 9 + length p
  pub more : end < length bytes

pub log_more : (payloads : List (List ℕ)) (p : List ℕ) (end next : ℕ) (bytes : List ℕ) → length p < 2 ^ 64 → length (frames payloads) ≡ end → IsLog (payloads ++ p ∷ []) next bytes → LogMore payloads p end next bytes
log_more payloads p end next bytes small ends log =
    let is : bytes ≡ frames payloads ++ (1 ∷ (body p ++ log.rest)) = log.is ∙ ap (λ (l : List ℕ). l ++ log.rest) (frames-push payloads p) ∙ append_assoc (frames payloads) (1 ∷ body p) log.rest in
    let size : next ≡ end + 9 + length p = sym log.ends ∙ ap length (frames-push payloads p) ∙ omega (arith, ends, length-append (frames payloads) (1 ∷ body p), length-append (to_be_bytes w64 (length p)) p) in
    let behind : drop end bytes ≡ 1 ∷ (body p ++ log.rest) = ap (λ (l : List ℕ). drop end l) is ∙ drop_at (frames payloads) (1 ∷ (body p ++ log.rest)) end ends in
    record {
      front = ap (λ (l : List ℕ). take end l) is ∙ take_at (frames payloads) (1 ∷ (body p ++ log.rest)) end ends;
      here = holds_payload end p bytes (record { rest = log.rest; is = behind; more = log_behind (payloads ++ p ∷ []) log.rest log.stops (omega (arith, log.ends, size)) }) small;
      next_is = size;
      more = omega (arith, ap length is, length-append (frames payloads) (1 ∷ (body p ++ log.rest)), ends);
    }
