-- How chunks stand one after another.
use Rattle.std.proofs.Common.{◌≡◌, ◌∙◌, ℕ, zero, suc, ◌+◌, ◌≤◌, ◌<◌, List, [], ◌∷◌, ◌++◌, length, Option, Some, None, refl, sym, ap, subst, arith, append_assoc, length-append}
use Rattle.std.specs.Prelude.{slice_get}
use Rattle.rg_event.specs.declared.event.Event.{Event}
use Rattle.rg_frame.specs.Frames.{payload_at}
use Rattle.rg_log.proofs.Laws.{chunk_size}
use Rattle.rg_log.specs.Log.{joined}
use Rattle.rg_reservoir.specs.Chain.{chunk_at, Chain, with_chunk, events_from, padded}
use Rattle.rg_reservoir.specs.Views.{View, shape_at}
use Rattle.rg_reservoir.proofs.Viewing.{length-grown, parts}

abbrev first_of : Option (List Event × ℕ) → List Event
first_of None = []
first_of (Some c) = c.0

abbrev next_of : Option (List Event × ℕ) → ℕ
next_of None = 0
next_of (Some c) = c.1

-- a place has one chunk
pub one_chunk : (o : Option (List Event × ℕ)) (a b : List Event) (m n : ℕ) → o ≡ Some (a, m) → o ≡ Some (b, n) → (a ≡ b) × (m ≡ n)
one_chunk o a b m n e f = let g : Some (a, m) ≡ Some (b, n) = sym e ∙ f in (ap first_of g, ap next_of g)

pub some_none : {A : Type 0} (o : Option A) (a : A) → o ≡ Some a → o ≡ None → ⊥
some_none o a e f = let g : Some a ≡ None = sym e ∙ f in cc

-- a chunk has events, and no more than there may be
pub chunk_at_size : (view : View) (place : ℕ) (bytes : List ℕ) (c : List Event) (n : ℕ) → chunk_at view place bytes ≡ Some (c, n) → (1 ≤ length c) × (length c ≤ 4096)
chunk_at_size view place bytes c n e =
    let k = parts view place (payload_at place bytes) c n e in
    let size = chunk_size (shape_at view place).fields k.payload k.events k.says in
    let same : length c ≡ length k.events = ap length (sym k.chunk_is) ∙ length-grown view.growths place k.events in
    (omega (arith, same, size.0), omega (arith, same, size.1))

pub joined-append : (a b : List (List Event)) → joined (a ++ b) ≡ joined a ++ joined b
joined-append [] b = refl
joined-append (c ∷ a) b = ap (λ (l : List Event). c ++ l) (joined-append a b) ∙ sym (append_assoc c (joined a) (joined b))

module _ (view : View) (bytes : List ℕ) where
  pub chain_push : (place : ℕ) (before : List (List Event)) (q : ℕ) (c : List Event) (next : ℕ) → Chain view bytes place before q → chunk_at view q bytes ≡ Some (c, next) → Chain view bytes place (before ++ c ∷ []) next
  chain_push place [] q c next chain here = (next, subst (λ (p : ℕ). chunk_at view p bytes ≡ Some (c, next)) (sym chain) here, refl)
  chain_push place (b ∷ before) q c next chain here = (chain.0, chain.1, chain_push chain.0 before q c next chain.2 here)

  -- all chunks go on behind one of them
  pub chain_split : (place : ℕ) (all before : List (List Event)) (end q : ℕ) (c : List Event) (next : ℕ) → Chain view bytes place all end → chunk_at view end bytes ≡ None → Chain view bytes place before q → chunk_at view q bytes ≡ Some (c, next)
      → (after : List (List Event)) × (all ≡ before ++ c ∷ after) × Chain view bytes next after end
  chain_split place [] [] end q c next chain ends to here = absurd (some_none _ _ here (subst (λ (p : ℕ). chunk_at view p bytes ≡ None) (sym chain ∙ to) ends))
  chain_split place (d ∷ all) [] end q c next chain ends to here =
      let same = one_chunk _ d c chain.0 next chain.1 (subst (λ (p : ℕ). chunk_at view p bytes ≡ Some (c, next)) (sym to) here) in
      (all, ap (λ (x : List Event). x ∷ all) same.0, subst (λ (p : ℕ). Chain view bytes p all end) same.1 chain.2)
  chain_split place [] (b ∷ before) end q c next chain ends to here = absurd (some_none _ _ to.1 (subst (λ (p : ℕ). chunk_at view p bytes ≡ None) (sym chain) ends))
  chain_split place (d ∷ all) (b ∷ before) end q c next chain ends to here =
      let same = one_chunk _ d b chain.0 to.0 chain.1 to.1 in
      let rest = chain_split to.0 all before end q c next (subst (λ (p : ℕ). Chain view bytes p all end) same.1 chain.2) ends to.2 here in
      (rest.0, ap (λ (x : List Event). x ∷ all) same.0 ∙ ap (λ (l : List (List Event)). b ∷ l) rest.1, rest.2)

  -- the events that stand from a place on are those of the chunks
  pub from_chain : (most place : ℕ) (chunks : List (List Event)) (end : ℕ) → Chain view bytes place chunks end → chunk_at view end bytes ≡ None → length (joined chunks) ≤ most → events_from view most place bytes ≡ joined chunks
  from_chain zero place [] end chain ends few = refl
  from_chain (suc most) place [] end chain ends few = rw (subst (λ (p : ℕ). chunk_at view p bytes ≡ None) (sym chain) ends) refl
  from_chain zero place (c ∷ chunks) end chain ends few = absurd (omega (arith, length-append c (joined chunks), (chunk_at_size view place bytes c chain.0 chain.1).0, few))
  from_chain (suc most) place (c ∷ chunks) end chain ends few =
      let le : length (joined chunks) ≤ most = omega (arith, length-append c (joined chunks), (chunk_at_size view place bytes c chain.0 chain.1).0, few) in
      ap (λ (o : Option (List Event × ℕ)). with_chunk o (λ next. events_from view most next bytes)) chain.1 ∙ ap (λ (l : List Event). c ++ l) (from_chain most chain.0 chunks end chain.2 ends le)

pub padded_same : (count : ℕ) (events : List Event) → length events ≡ count → padded count events ≡ events
padded_same zero [] e = refl
padded_same zero (x ∷ events) e = absurd (omega arith)
padded_same (suc count) [] e = absurd (omega arith)
padded_same (suc count) (x ∷ events) e = ap (λ (l : List Event). x ∷ l) (padded_same count events (omega arith))

pub padded_long : (count : ℕ) (events : List Event) → length (padded count events) ≡ count
padded_long zero events = refl
padded_long (suc count) [] = omega (arith, padded_long count [])
padded_long (suc count) (x ∷ events) = omega (arith, padded_long count events)

-- what stands at an index of two lists
pub get_right : {A : Type 0} (xs ys : List A) (i : ℕ) → slice_get (xs ++ ys) (length xs + i) ≡ slice_get ys i
get_right [] ys i = let e : 0 + i ≡ i = omega arith in rw e refl
get_right (x ∷ xs) ys i = let e : length (x ∷ xs) + i ≡ suc (length xs + i) = omega arith in rw e (get_right xs ys i)

pub get_left : {A : Type 0} (xs ys : List A) (i : ℕ) → i < length xs → slice_get (xs ++ ys) i ≡ slice_get xs i
get_left [] ys i lt = absurd (omega arith)
get_left (x ∷ xs) ys zero lt = refl
get_left (x ∷ xs) ys (suc i) lt = get_left xs ys i (omega arith)

-- an event of one chunk of many
pub get_chunk : (before after : List (List Event)) (c more : List Event) (i : ℕ) → i < length c → slice_get (joined (before ++ c ∷ after) ++ more) (length (joined before) + i) ≡ slice_get c i
get_chunk before after c more i lt =
    let parted : joined (before ++ c ∷ after) ++ more ≡ joined before ++ (c ++ (joined after ++ more)) =
    ap (λ (l : List Event). l ++ more) (joined-append before (c ∷ after)) ∙ append_assoc (joined before) (c ++ joined after) more ∙ ap (λ (l : List Event). joined before ++ l) (append_assoc c (joined after) more) in
    ap (λ (l : List Event). slice_get l (length (joined before) + i)) parted ∙ get_right (joined before) (c ++ (joined after ++ more)) i ∙ get_left c (joined after ++ more) i lt
