-- A laid out text has the tokens that were laid out, and no others.
use Rattle.std.proofs.Common.{◌≡◌, ℕ, ◌+◌, ◌≤◌, ◌<◌, nat_eq, nat_lt, ◌||◌, List, [], ◌∷◌, ◌++◌, length, drop, Some, None, Bool, true, false, refl, ap, sym, ◌∙◌, subst, arith, append_assoc, length-append}
use Rattle.std.specs.Prelude.{if◌then◌else◌}
use Rattle.std.specs.List.{list_all, prefix_len}
use Rattle.std.proofs.lemmas.Bool.{eqb-true}
use Rattle.rg_keywords.specs.declared.op.Symbol.TheVariants.{Compare}
use Rattle.rg_keywords.specs.declared.op.Op.TheVariants.{Lt, Gt}
use Rattle.rg_token.specs.declared.piece.Shape.{Shape}
use Rattle.rg_token.specs.declared.piece.Shape.TheVariants.{Word, Number, Text, Sign}
use Rattle.rg_token.specs.declared.automaton.Mode.{Mode}
use Rattle.rg_token.specs.declared.automaton.Mode.TheVariants.{Start, InWord, Minus, Digits, InText, Quote, Bang, Less, Greater, Done}
use Rattle.rg_token.specs.Token.{Spelled}
use Rattle.rg_token.specs.Lexing.{is_blank, IsLongest, NoToken, IsNext, Lexes}
use Rattle.rg_token.specs.Layout.{Item, layout, goes_on, Breaks, IsLaid, placed}
use Rattle.rg_token.specs.Automaton.{mode_if, first, next, shape_at, leads, Reads}
use Rattle.rg_token.proofs.Spelling.{both, there_is, spelled_read}
use Rattle.rg_token.proofs.Longest.{not_empty}

-- where a token doesn't go on by its shape, it doesn't by its mode

same_test : (shape shape' : Shape) (byte : ℕ) → Some shape ≡ Some shape' → goes_on shape' byte ≡ false → goes_on shape byte ≡ false
same_test shape shape' byte e h = let k : shape ≡ shape' = cc in ap (λ s. goes_on s byte) k ∙ h

stops : (mode : Mode) (shape : Shape) (byte : ℕ) → shape_at mode ≡ Some shape → goes_on shape byte ≡ false → next mode byte ≡ None
unfolding next
stops Start shape byte e h = absurd (cc)
stops InWord shape byte e h = rw (same_test Word shape byte e h) refl
stops Minus shape byte e h = absurd (cc)
stops (Digits n) shape byte e h = rw (same_test Number shape byte e h) (either (nat_lt n 20))
  where
    either : (below : Bool) → (if below then mode_if false (Digits (n + 1)) else None) ≡ None
    either true = refl
    either false = refl
stops InText shape byte e h = absurd (cc)
stops Quote shape byte e h = rw (same_test Text shape byte e h) refl
stops Bang shape byte e h = absurd (cc)
stops Less shape byte e h = rw (same_test (Sign (Compare Lt)) shape byte e h) refl
stops Greater shape byte e h = rw (same_test (Sign (Compare Gt)) shape byte e h) refl
stops (Done symbol) shape byte e h = refl

-- no longer token begins with one that doesn't go on

no_longer :
    (token rest other behind : List ℕ) (from mode mode' : Mode) (shape : Shape) → token ++ rest ≡ other ++ behind
    → leads from token ≡ Some mode → shape_at mode ≡ Some shape → Breaks shape rest → leads from other ≡ Some mode'
    → length other ≤ length token
no_longer token rest [] behind from mode mode' shape split l s b l' = omega arith
no_longer [] [] (c ∷ other) behind from mode mode' shape split l s b l' = absurd (cc)
no_longer [] (byte ∷ rest) (c ∷ other) behind from mode mode' shape split l s b l' =
    let g : (m : Mode) × (next from c ≡ Some m) × (leads m other ≡ Some mode') = there_is (next from c) (λ m. leads m other) mode' l' in
    let same : from ≡ mode = cc (l) in
    let here : byte ≡ c = cc (split) in
    let stop : next mode byte ≡ None = stops mode shape byte s b in
    let j : Some g.0 ≡ None = sym g.1 ∙ ap (next from) (sym here) ∙ ap (λ m. next m byte) same ∙ stop in
    absurd (cc (j))
no_longer (byte ∷ token) rest (c ∷ other) behind from mode mode' shape split l s b l' =
    let g : (m : Mode) × (next from c ≡ Some m) × (leads m other ≡ Some mode') = there_is (next from c) (λ m. leads m other) mode' l' in
    let h : (m : Mode) × (next from byte ≡ Some m) × (leads m token ≡ Some mode) = there_is (next from byte) (λ m. leads m token) mode l in
    let k : token ++ rest ≡ other ++ behind = cc (split) in
    let here : byte ≡ c = cc (split) in
    let j : Some h.0 ≡ Some g.0 = sym h.1 ∙ ap (next from) here ∙ g.1 in
    let i : h.0 ≡ g.0 = cc (j) in
    let r : length other ≤ length token = no_longer token rest other behind g.0 mode mode' shape k (ap (λ m. leads m token) (sym i) ∙ h.2) s b g.2 in
    omega arith

pub longest_of : (token rest : List ℕ) (shape : Shape) → Spelled token shape → Breaks shape rest → IsLongest (token ++ rest) (length token) shape
longest_of token rest shape h b =
    let r : Reads token shape = spelled_read token shape h in
    record {
      token = token;
      rest = rest;
      split = refl;
      sized = refl;
      spelled = h;
      longest = λ other behind also split h'.
          let r' : Reads other also = spelled_read other also h' in
          no_longer token rest other behind Start r.mode r'.mode shape split r.leads_to r.ends b r'.leads_to;
    }

-- no token begins with a blank

no_first : (byte : ℕ) → is_blank byte ≡ true → first byte ≡ None
unfolding first
no_first byte h = by_test (nat_eq byte 32) (nat_eq byte 9) (nat_eq byte 13) (nat_eq byte 10) refl refl refl refl h
  where
    by_test : (a b c d : Bool) → nat_eq byte 32 ≡ a → nat_eq byte 9 ≡ b → nat_eq byte 13 ≡ c → nat_eq byte 10 ≡ d → (a || b || c || d) ≡ true → first byte ≡ None
    by_test true b c d ea eb ec ed h = ap first (eqb-true byte 32 ea)
    by_test false true c d ea eb ec ed h = ap first (eqb-true byte 9 eb)
    by_test false false true d ea eb ec ed h = ap first (eqb-true byte 13 ec)
    by_test false false false true ea eb ec ed h = ap first (eqb-true byte 10 ed)
    by_test false false false false ea eb ec ed h = absurd (cc)

not_blank : (byte : ℕ) (bytes : List ℕ) (shape : Shape) → Reads (byte ∷ bytes) shape → is_blank byte ≡ false
unfolding next
not_blank byte bytes shape r = by_test (is_blank byte) refl
  where
    by_test : (is : Bool) → is_blank byte ≡ is → is ≡ false
    by_test false e = refl
    by_test true e =
        let g : (m : Mode) × (first byte ≡ Some m) × (leads m bytes ≡ Some r.mode) = there_is (first byte) (λ m. leads m bytes) r.mode r.leads_to in
        let j : Some g.0 ≡ None = sym g.1 ∙ no_first byte e in
        absurd (cc (j))

no_blanks : (token rest : List ℕ) (shape : Shape) → Spelled token shape → prefix_len is_blank (token ++ rest) ≡ 0
no_blanks token rest shape h = by_byte token (not_empty token shape h) (spelled_read token shape h)
  where
    by_byte : (token : List ℕ) → 0 < length token → Reads token shape → prefix_len is_blank (token ++ rest) ≡ 0
    by_byte [] l r = absurd (omega arith)
    by_byte (byte ∷ bytes) l r = rw (not_blank byte bytes shape r) refl

-- the places

drop_front : (before text : List ℕ) → drop (length before) (before ++ text) ≡ text
drop_front [] text = refl
drop_front (byte ∷ before) text = drop_front before text

blanks : (gap text : List ℕ) → list_all is_blank gap ≡ true → prefix_len is_blank (gap ++ text) ≡ length gap + prefix_len is_blank text
blanks [] text h = omega arith
blanks (byte ∷ gap) text h =
    let k : (is_blank byte ≡ true) × (list_all is_blank gap ≡ true) = both (is_blank byte) (list_all is_blank gap) h in
    rw (k.0) (omega (arith, blanks gap text k.1))

nothing : NoToken []
nothing [] rest shape split h = absurd (omega (arith, not_empty [] shape h))
nothing (byte ∷ token) rest shape split h = absurd (cc (split))

append_nil : (text : List ℕ) → text ++ [] ≡ text
append_nil [] = refl
append_nil (byte ∷ text) = ap (λ bytes. byte ∷ bytes) (append_nil text)

pub laid : (before : List ℕ) (items : List Item) → IsLaid items → Lexes (before ++ layout items) (length before) (placed (length before) items) (length (before ++ layout items))
laid before [] h =
    let d : drop (length before) (before ++ []) ≡ [] = drop_front before [] in
    let e : length (before ++ []) ≡ length before = ap length (append_nil before) in
    let z : prefix_len is_blank (drop (length before) (before ++ [])) ≡ 0 = ap (prefix_len is_blank) d in
    (omega (arith, e, z), subst (λ (xs : List ℕ). NoToken xs) (sym (ap (λ n. drop n (before ++ [])) e ∙ d)) nothing)
laid before (item ∷ items) h =
    let behind : List ℕ = item.token ++ layout items in
    let all : List ℕ = before ++ (item.gap ++ behind) in
    let start : ℕ = length before + length item.gap in
    let d : drop (length before) all ≡ item.gap ++ behind = drop_front before (item.gap ++ behind) in
    let z : prefix_len is_blank (drop (length before) all) ≡ length item.gap + 0 =
    ap (prefix_len is_blank) d ∙ blanks item.gap behind h.0 ∙ ap (λ n. length item.gap + n) (no_blanks item.token (layout items) item.shape h.1) in
    let whole : (before ++ item.gap) ++ behind ≡ all = append_assoc before item.gap behind in
    let l : length (before ++ item.gap) ≡ start = length-append before item.gap in
    let d2 : drop start all ≡ behind = ap (λ n. drop n all) (sym l) ∙ ap (drop (length (before ++ item.gap))) (sym whole) ∙ drop_front (before ++ item.gap) behind in
    let whole2 : ((before ++ item.gap) ++ item.token) ++ layout items ≡ all = append_assoc (before ++ item.gap) item.token (layout items) ∙ whole in
    let l2 : length ((before ++ item.gap) ++ item.token) ≡ start + length item.token = length-append (before ++ item.gap) item.token ∙ ap (λ n. n + length item.token) l in
    let ih : Lexes (((before ++ item.gap) ++ item.token) ++ layout items) (length ((before ++ item.gap) ++ item.token)) (placed (length ((before ++ item.gap) ++ item.token)) items) (length (((before ++ item.gap) ++ item.token) ++ layout items)) =
    laid ((before ++ item.gap) ++ item.token) items h.3 in
    let ih2 : Lexes all (length ((before ++ item.gap) ++ item.token)) (placed (length ((before ++ item.gap) ++ item.token)) items) (length all) =
    subst (λ (xs : List ℕ). Lexes xs (length ((before ++ item.gap) ++ item.token)) (placed (length ((before ++ item.gap) ++ item.token)) items) (length xs)) whole2 ih in
    let ih3 : Lexes all (start + length item.token) (placed (start + length item.token) items) (length all) =
    subst (λ (n : ℕ). Lexes all n (placed n items) (length all)) l2 ih2 in
    let next : IsNext all (length before) (record { start = start; end = start + length item.token; shape = item.shape }) = record {
      size = length item.token;
      start = omega (arith, z);
      end = refl;
      longest = subst (λ (xs : List ℕ). IsLongest xs (length item.token) item.shape) (sym d2) (longest_of item.token (layout items) item.shape h.1 h.2);
    } in
    (next, ih3)
