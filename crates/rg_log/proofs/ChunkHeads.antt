-- What the head of a chunk says, and which bytes it depends on.
use Rattle.std.proofs.Common.{◌≡◌, ◌∙◌, ℕ, ◌+◌, ◌≤◌, ◌<◌, nat_le, Bool, true, false, List, [], ◌∷◌, ◌++◌, length, take, drop, Option, Some, None, option_map, Ok, Err, refl, sym, ap, subst, arith, append_assoc, length-append, length-drop, take-append-drop}
use Rattle.std.proofs.lemmas.Bool.Decides.{nat_tests}
use Rattle.std.proofs.lemmas.List.{take_all, length-take-le}
use Rattle.std.specs.Int.{w32, w64, from_be_bytes}
use Rattle.rg_bytes.specs.Reading.{tested, u8_at, u32_at, u64_at}
use Rattle.rg_bytes.proofs.Laws.{bytes_read, u8_read}
use Rattle.rg_event.specs.Codec.{Reading}
use Rattle.rg_event.specs.declared.codec.EventFault.TheVariants.{Short, BadValue}
use Rattle.rg_event.specs.declared.event.Event.{Event}
use Rattle.rg_event.specs.declared.schema.Field.{Field}
use Rattle.rg_chunk.specs.Chunks.{chunk_of}
use Rattle.rg_chunk.specs.Heads.{layout_said, is_count, headed_at, stamp_at, head_at, head_of, head_for, begun, first_stamp, last_stamp}
use Rattle.rg_chunk.specs.declared.head.Layout.{Layout}
use Rattle.rg_chunk.specs.declared.head.ChunkHead.{ChunkHead}
use Rattle.rg_chunk.proofs.Laws.{chunk_head, count_parts}
use Rattle.rg_log.proofs.Decoded.{both_read, passed}

-- the first and the last of some events
abbrev pub first_offset : List Event → ℕ
first_offset events = (first_stamp events).0

abbrev pub first_time : List Event → ℕ
first_time events = (first_stamp events).1

abbrev pub last_offset : List Event → ℕ
last_offset events = (last_stamp events).0

abbrev pub chunk_time : List Event → ℕ
chunk_time events = (last_stamp events).1

-- events from these on, that rise
abbrev pub RisesFrom : ℕ → ℕ → List Event → Type 0
RisesFrom next time [] = Unit {0}
RisesFrom next time (e ∷ es) = (next ≤ e.offset) × (time ≤ e.time) × RisesFrom (e.offset + 1) e.time es

headed_parts : (said : Option Layout) (head : ChunkHead) (left : List ℕ) (out : Layout × ChunkHead) (rest : List ℕ) → headed_at said head left ≡ Ok (out, rest) → (is_count head.count ≡ true) × (head ≡ out.1)
headed_parts (Some layout) head left out rest e = let p = passed (BadValue 0) (is_count head.count) (layout, head) out left rest e in (p.0, ap (λ (said : Layout × ChunkHead). said.1) p.1)
headed_parts None head left out rest e = absurd cc

head_count : (payload : List ℕ) (said : Layout × ChunkHead) (rest : List ℕ) → head_at payload ≡ Ok (said, rest) → (1 ≤ said.1.count) × (said.1.count ≤ 4096)
unfolding head_at
head_count payload said rest is =
    let one = both_read (u8_at Short payload) _ said rest is in
    let two = both_read (u32_at Short one.left) _ said rest one.more in
    let three = both_read (stamp_at two.left) _ said rest two.more in
    let four = both_read (stamp_at three.left) _ said rest three.more in
    let head : ChunkHead = record { count = two.value; first_offset = three.value.0; first_time = three.value.1; last_offset = four.value.0; last_time = four.value.1 } in
    let p = headed_parts (layout_said one.value) head four.left said rest four.more in
    let k = count_parts two.value p.0 in
    let e : two.value ≡ said.1.count = ap (λ (x : ChunkHead). x.count) p.1 in
    (omega (arith, k.0, e), omega (arith, k.1, e))

abbrev head_read : Reading (Layout × ChunkHead) → Option ChunkHead
head_read reading = option_map (λ (said : Layout × ChunkHead). said.1) (begun reading)

head_known : (payload : List ℕ) (h : ChunkHead) → head_of payload ≡ Some h → (1 ≤ h.count) × (h.count ≤ 4096)
head_known payload h is = by (head_at payload) refl
  where
    by : (r : Reading (Layout × ChunkHead)) → head_at payload ≡ r → (1 ≤ h.count) × (h.count ≤ 4096)
    by (Ok (x, left)) e =
        let g : Some x.1 ≡ Some h = sym (ap head_read e) ∙ is in
        let same : x.1 ≡ h = cc in
        subst (λ (y : ChunkHead). (1 ≤ y.count) × (y.count ≤ 4096)) same (head_count payload x left e)
    by (Err fault) e = absurd (let g : None ≡ Some h = sym (ap head_read e) ∙ is in cc)

-- a chunk has events, and no more than there may be
pub chunk_size : (fields : List Field) (payload : List ℕ) (c : List Event) → chunk_of fields payload ≡ Some c → (1 ≤ length c) × (length c ≤ 4096)
chunk_size fields payload c said = head_known payload (head_for c) (chunk_head fields payload c said)

parted : (n : ℕ) (q x : List ℕ) → q ++ x ≡ take n q ++ (drop n q ++ x)
parted n q x = ap (λ (l : List ℕ). l ++ x) (sym (take-append-drop n q)) ∙ append_assoc (take n q) (drop n q) x

u32_front : (q x : List ℕ) → 4 ≤ length q → u32_at Short (q ++ x) ≡ Ok (from_be_bytes w32 (take 4 q), drop 4 q ++ x)
unfolding u32_at
u32_front q x le = rw (bytes_read Short 4 (q ++ x) (take 4 q) (drop 4 q ++ x) (parted 4 q x) (length-take-le 4 q le)) refl

u64_front : (q x : List ℕ) → 8 ≤ length q → u64_at Short (q ++ x) ≡ Ok (from_be_bytes w64 (take 8 q), drop 8 q ++ x)
unfolding u64_at
u64_front q x le = rw (bytes_read Short 8 (q ++ x) (take 8 q) (drop 8 q ++ x) (parted 8 q x) (length-take-le 8 q le)) refl

abbrev stamp_in : List ℕ → ℕ × ℕ
stamp_in q = (from_be_bytes w64 (take 8 q), from_be_bytes w64 (take 8 (drop 8 q)))

stamp_front : (q x : List ℕ) → 16 ≤ length q → stamp_at (q ++ x) ≡ Ok (stamp_in q, drop 8 (drop 8 q) ++ x)
unfolding stamp_at
stamp_front q x le = rw (u64_front q x (omega (arith, le)), u64_front (drop 8 q) x (omega (arith, le, length-drop 8 q))) refl

abbrev head_in : List ℕ → ChunkHead
head_in q = record {
  count = from_be_bytes w32 (take 4 q);
  first_offset = (stamp_in (drop 4 q)).0;
  first_time = (stamp_in (drop 4 q)).1;
  last_offset = (stamp_in (drop 8 (drop 8 (drop 4 q)))).0;
  last_time = (stamp_in (drop 8 (drop 8 (drop 4 q)))).1;
}

head_front : (t : ℕ) (q x : List ℕ) → 36 ≤ length q → head_at (t ∷ (q ++ x)) ≡ headed_at (layout_said t) (head_in q) (drop 8 (drop 8 (drop 8 (drop 8 (drop 4 q)))) ++ x)
unfolding head_at
head_front t q x le =
    rw (
      u8_read Short (t ∷ (q ++ x)) t (q ++ x) refl,
      u32_front q x (omega (arith, le)),
      stamp_front (drop 4 q) x (omega (arith, le, length-drop 4 q)),
      stamp_front (drop 8 (drop 8 (drop 4 q))) x (omega (arith, le, length-drop 4 q, length-drop 8 (drop 4 q), length-drop 8 (drop 8 (drop 4 q)))),
    ) refl

headed_same : (said : Option Layout) (head : ChunkHead) (l m : List ℕ) → head_read (headed_at said head l) ≡ head_read (headed_at said head m)
headed_same (Some layout) head l m = by (is_count head.count)
  where
    by : (b : Bool) → head_read (tested (BadValue 0) b (layout, head) l) ≡ head_read (tested (BadValue 0) b (layout, head) m)
    by true = refl
    by false = refl
headed_same None head l m = refl

-- a head is that of the first 37 bytes
head_two : (p x y : List ℕ) → 37 ≤ length p → head_of (p ++ x) ≡ head_of (p ++ y)
head_two [] x y le = absurd (omega arith)
head_two (t ∷ q) x y le =
    ap head_read (head_front t q x (omega (arith, le))) ∙ headed_same (layout_said t) (head_in q) _ _ ∙ sym (ap head_read (head_front t q y (omega (arith, le))))

pub head_same : (a b : List ℕ) → take 37 a ≡ take 37 b → head_of a ≡ head_of b
head_same a b same = by (nat_le 37 (length a)) refl
  where
    whole_a : length a ≡ length (take 37 a) + length (drop 37 a)
    whole_a = ap length (sym (take-append-drop 37 a)) ∙ length-append (take 37 a) (drop 37 a)

    whole_b : length b ≡ length (take 37 b) + length (drop 37 b)
    whole_b = ap length (sym (take-append-drop 37 b)) ∙ length-append (take 37 b) (drop 37 b)

    by : (c : Bool) → nat_le 37 (length a) ≡ c → head_of a ≡ head_of b
    by true t =
        let le : 37 ≤ length a = grind (arith, nat_tests) in
        let long : 37 ≤ length (take 37 a) = omega (arith, le, length-take-le 37 a le) in
        ap head_of (sym (take-append-drop 37 a)) ∙ head_two (take 37 a) (drop 37 a) (drop 37 b) long ∙ ap (λ (l : List ℕ). head_of (l ++ drop 37 b)) same ∙ ap head_of (take-append-drop 37 b)
    by false f =
        let lt : length a < 37 = grind (arith, nat_tests) in
        let a_all : take 37 a ≡ a = take_all 37 a (omega (arith, lt)) in
        let few : length b ≤ 37 = omega (arith, whole_b, ap length same, ap length a_all, lt, length-drop 37 b) in
        ap head_of (sym a_all ∙ same ∙ take_all 37 b few)
