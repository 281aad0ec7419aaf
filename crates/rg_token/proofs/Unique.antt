-- A text has one list of tokens.
use Rattle.std.proofs.Common.{◌≡◌, ℕ, ◌≤◌, List, [], ◌∷◌, ◌++◌, length, drop, Some, refl, ap, sym, ◌∙◌, subst, arith}
use Rattle.rg_token.specs.declared.piece.Shape.{Shape}
use Rattle.rg_token.specs.declared.piece.Piece.{Piece}
use Rattle.rg_token.specs.Token.{Spelled}
use Rattle.rg_token.specs.Lexing.{IsLongest, NoToken, IsNext, Lexes}
use Rattle.rg_token.specs.Automaton.{shape_at, Reads}
use Rattle.rg_token.proofs.Spelling.{spelled_read}

-- bytes are a token of one shape alone
pub one_shape : (token : List ℕ) (shape also : Shape) → Spelled token shape → Spelled token also → shape ≡ also
one_shape token shape also h k =
    let r : Reads token shape = spelled_read token shape h in
    let r' : Reads token also = spelled_read token also k in
    let m : Some r.mode ≡ Some r'.mode = sym r.leads_to ∙ r'.leads_to in
    let n : r.mode ≡ r'.mode = cc (m) in
    let s : Some shape ≡ Some also = sym r.ends ∙ ap shape_at n ∙ r'.ends in
    cc (s)

same_front : (front other rest behind : List ℕ) → front ++ rest ≡ other ++ behind → length front ≡ length other → front ≡ other
same_front [] [] rest behind e l = refl
same_front [] (c ∷ other) rest behind e l = absurd (omega arith)
same_front (b ∷ front) [] rest behind e l = absurd (omega arith)
same_front (b ∷ front) (c ∷ other) rest behind e l =
    let t : front ++ rest ≡ other ++ behind = cc (e) in
    let r : front ≡ other = same_front front other rest behind t (omega arith) in
    let h : b ≡ c = cc (e) in
    cc

one_longest : (bytes : List ℕ) (size size' : ℕ) (shape also : Shape) → IsLongest bytes size shape → IsLongest bytes size' also → (size ≡ size') × (shape ≡ also)
one_longest bytes size size' shape also h k =
    let a : size ≤ size' = omega (arith, k.longest h.token h.rest shape h.split h.spelled, h.sized) in
    let b : size' ≤ size = omega (arith, h.longest k.token k.rest also k.split k.spelled, k.sized) in
    let e : size ≡ size' = omega arith in
    let f : h.token ≡ k.token = same_front h.token k.token h.rest k.rest (sym h.split ∙ k.split) (h.sized ∙ e ∙ sym k.sized) in
    (e, one_shape k.token shape also (subst (λ (bs : List ℕ). Spelled bs shape) f h.spelled) k.spelled)

no_more : (text : List ℕ) (at end : ℕ) (piece : Piece) → end ≡ piece.start → NoToken (drop end text) → IsNext text at piece → ⊥
no_more text at end piece e none next =
    let l : IsLongest (drop piece.start text) next.size piece.shape = next.longest in
    none l.token l.rest piece.shape (ap (λ n. drop n text) e ∙ l.split) l.spelled

same_piece : (piece piece' : Piece) → piece.start ≡ piece'.start → piece.end ≡ piece'.end → piece.shape ≡ piece'.shape → piece ≡ piece'
same_piece piece piece' a b c =
    let build : ℕ → ℕ → Shape → Piece = λ x y z. record { start = x; end = y; shape = z } in
    ap (λ x. build x piece.end piece.shape) a ∙ ap (λ y. build piece'.start y piece.shape) b ∙ ap (λ z. build piece'.start piece'.end z) c

pub one_next : (text : List ℕ) (at : ℕ) (piece piece' : Piece) → IsNext text at piece → IsNext text at piece' → piece ≡ piece'
one_next text at piece piece' h k =
    let s : piece.start ≡ piece'.start = h.start ∙ sym k.start in
    let g : IsLongest (drop piece.start text) k.size piece'.shape = subst (λ (n : ℕ). IsLongest (drop n text) k.size piece'.shape) (sym s) k.longest in
    let u : (h.size ≡ k.size) × (piece.shape ≡ piece'.shape) = one_longest (drop piece.start text) h.size k.size piece.shape piece'.shape h.longest g in
    same_piece piece piece' s (omega (arith, h.end, k.end, u.0, s)) u.1

pub one_lexing : (text : List ℕ) (at : ℕ) (pieces more : List Piece) (end also : ℕ) → Lexes text at pieces end → Lexes text at more also → (pieces ≡ more) × (end ≡ also)
one_lexing text at [] [] end also h k = (refl, h.0 ∙ sym k.0)
one_lexing text at [] (piece ∷ more) end also h k = absurd (no_more text at end piece (h.0 ∙ sym k.0.start) h.1 k.0)
one_lexing text at (piece ∷ pieces) [] end also h k = absurd (no_more text at also piece (k.0 ∙ sym h.0.start) k.1 h.0)
one_lexing text at (piece ∷ pieces) (piece' ∷ more) end also h k =
    let same : piece ≡ piece' = one_next text at piece piece' h.0 k.0 in
    let r : (pieces ≡ more) × (end ≡ also) = one_lexing text piece.end pieces more end also h.1 (subst (λ (p : Piece). Lexes text p.end more also) (sym same) k.1) in
    (ap (λ p. p ∷ pieces) same ∙ ap (λ ps. piece' ∷ ps) r.0, r.1)

-- no tokens more
append_nil : (pieces : List Piece) → pieces ++ [] ≡ pieces
append_nil [] = refl
append_nil (piece ∷ pieces) = ap (λ ps. piece ∷ ps) (append_nil pieces)

pub lexes_end : (text : List ℕ) (pieces : List Piece) (end : ℕ) → Lexes text 0 (pieces ++ []) end → Lexes text 0 pieces end
lexes_end text pieces end h = subst (λ (ps : List Piece). Lexes text 0 ps end) (append_nil pieces) h
