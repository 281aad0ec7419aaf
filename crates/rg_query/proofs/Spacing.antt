-- Printed tokens are laid out, and are read as themselves.
use Rattle.std.proofs.Common.{◌≡◌, ℕ, ◌+◌, ◌-◌, List, [], ◌∷◌, ◌++◌, map, length, length-append, take, drop, Option, Some, None, Bool, refl, ap, sym, ◌∙◌, arith, append_assoc}
use Rattle.std.specs.List.{list_all, slice_range}
use Rattle.std.specs.Prelude.{IsTrue, IsFalse}
use Rattle.std.proofs.Math.Seq.{drop-append_seam}
use Rattle.rg_keywords.specs.declared.keyword.Keyword.{Keyword}
use Rattle.rg_keywords.specs.declared.op.Op.TheVariants.{Eq, Ne, Lt, Le, Gt, Ge}
use Rattle.rg_keywords.specs.declared.op.Symbol.TheVariants.{Open, Close, Comma, Star, Compare}
use Rattle.rg_keywords.specs.Words.{keyword_of, truth_of}
use Rattle.rg_grammar.specs.Grammar.{digits, quoted, truth, Token, reserved, symbol, word, literal}
use Rattle.rg_grammar.specs.Erase.{erase_token}
use Rattle.rg_token.specs.Layout.{Item, layout, goes_on, Breaks, IsLaid, placed}
use Rattle.rg_token.specs.Lexing.{is_blank}
use Rattle.rg_token.specs.declared.piece.Shape.{Shape}
use Rattle.rg_token.specs.declared.piece.Shape.TheVariants.{Word, Number, Text, Sign}
use Rattle.rg_parse.specs.Tokens.{truth_or_name, keyword_or, token_at, tokens_of}
use Rattle.rg_query.specs.Spacing.{token_text, token_shape, Before, opened, a_name, a_token, behind, blank, blank_to_open, gap, spaced, IsPlain}

-- each of these tokens is read as itself
abbrev pub ArePlain : List Token → Type 0
ArePlain [] = Unit {0}
ArePlain (t ∷ ts) = IsPlain t × ArePlain ts

blank_is : (before : Before) → IsTrue (list_all is_blank (blank before))
blank_is opened = refl
blank_is a_name = refl
blank_is a_token = refl

open_is : (before : Before) → IsTrue (list_all is_blank (blank_to_open before))
open_is opened = refl
open_is a_name = refl
open_is a_token = refl

gap_is : (before : Before) (t : Token) → IsTrue (list_all is_blank (gap before t))
gap_is before (symbol Open) = open_is before
gap_is before (symbol Close) = refl
gap_is before (symbol Comma) = refl
gap_is before (symbol Star) = blank_is before
gap_is before (symbol (Compare op)) = blank_is before
gap_is before (reserved keyword) = blank_is before
gap_is before (word name) = blank_is before
gap_is before (literal l) = blank_is before

-- no token goes on with a blank, a parenthesis or a comma
record Ends (shape : Shape) : Type 0 where
  blank : IsFalse (goes_on shape 32)
  paren : IsFalse (goes_on shape 40)
  close : IsFalse (goes_on shape 41)
  comma : IsFalse (goes_on shape 44)

ends : (shape : Shape) → Ends shape
ends Word = record { blank = refl; paren = refl; close = refl; comma = refl }
ends Number = record { blank = refl; paren = refl; close = refl; comma = refl }
ends Text = record { blank = refl; paren = refl; close = refl; comma = refl }
ends (Sign Open) = record { blank = refl; paren = refl; close = refl; comma = refl }
ends (Sign Close) = record { blank = refl; paren = refl; close = refl; comma = refl }
ends (Sign Comma) = record { blank = refl; paren = refl; close = refl; comma = refl }
ends (Sign Star) = record { blank = refl; paren = refl; close = refl; comma = refl }
ends (Sign (Compare Eq)) = record { blank = refl; paren = refl; close = refl; comma = refl }
ends (Sign (Compare Ne)) = record { blank = refl; paren = refl; close = refl; comma = refl }
ends (Sign (Compare Lt)) = record { blank = refl; paren = refl; close = refl; comma = refl }
ends (Sign (Compare Le)) = record { blank = refl; paren = refl; close = refl; comma = refl }
ends (Sign (Compare Gt)) = record { blank = refl; paren = refl; close = refl; comma = refl }
ends (Sign (Compare Ge)) = record { blank = refl; paren = refl; close = refl; comma = refl }

-- with what is printed behind it a token doesn't go on

behind_open : (bytes : List ℕ) → Breaks (Sign Open) bytes
behind_open [] = tt
behind_open (byte ∷ bytes) = refl

behind_name : (shape : Shape) (t : Token) (rest : List ℕ) → Breaks shape (gap a_name t ++ (token_text t ++ rest))
behind_name shape (symbol Open) rest = (ends shape).paren
behind_name shape (symbol Close) rest = (ends shape).close
behind_name shape (symbol Comma) rest = (ends shape).comma
behind_name shape (symbol Star) rest = (ends shape).blank
behind_name shape (symbol (Compare op)) rest = (ends shape).blank
behind_name shape (reserved keyword) rest = (ends shape).blank
behind_name shape (word name) rest = (ends shape).blank
behind_name shape (literal l) rest = (ends shape).blank

behind_token : (shape : Shape) (t : Token) (rest : List ℕ) → Breaks shape (gap a_token t ++ (token_text t ++ rest))
behind_token shape (symbol Open) rest = (ends shape).blank
behind_token shape (symbol Close) rest = (ends shape).close
behind_token shape (symbol Comma) rest = (ends shape).comma
behind_token shape (symbol Star) rest = (ends shape).blank
behind_token shape (symbol (Compare op)) rest = (ends shape).blank
behind_token shape (reserved keyword) rest = (ends shape).blank
behind_token shape (word name) rest = (ends shape).blank
behind_token shape (literal l) rest = (ends shape).blank

breaks_next : (t u : Token) (rest : List ℕ) → Breaks (token_shape t) (gap (behind t) u ++ (token_text u ++ rest))
breaks_next (symbol Open) u rest = behind_open (gap opened u ++ (token_text u ++ rest))
breaks_next (symbol Close) u rest = behind_token (token_shape (symbol Close)) u rest
breaks_next (symbol Comma) u rest = behind_token (token_shape (symbol Comma)) u rest
breaks_next (symbol Star) u rest = behind_token (token_shape (symbol Star)) u rest
breaks_next (symbol (Compare op)) u rest = behind_token (token_shape (symbol (Compare op))) u rest
breaks_next (reserved keyword) u rest = behind_token (token_shape (reserved keyword)) u rest
breaks_next (word name) u rest = behind_name Word u rest
breaks_next (literal (digits p w)) u rest = behind_token (token_shape (literal (digits p w))) u rest
breaks_next (literal (quoted p w)) u rest = behind_token (token_shape (literal (quoted p w))) u rest
breaks_next (literal (truth p b)) u rest = behind_token (token_shape (literal (truth p b))) u rest

breaks : (t : Token) (ts : List Token) → Breaks (token_shape t) (layout (spaced (behind t) ts))
breaks t [] = tt
breaks t (u ∷ ts) = breaks_next t u (layout (spaced (behind u) ts))

pub laid_out : (before : Before) (ts : List Token) → ArePlain ts → IsLaid (spaced before ts)
laid_out before [] plain = tt
laid_out before (t ∷ ts) plain = (gap_is before t, plain.0.spelled, breaks t ts, laid_out (behind t) ts plain.1)

-- the tokens of a laid out text

abbrev item_token : Item → Token
item_token item = token_at 0 item.token item.shape

erase_word : (p : ℕ) (w : List ℕ) (k : Option Keyword) (b : Option Bool) → erase_token (keyword_or k (truth_or_name p w b)) ≡ keyword_or k (truth_or_name 0 w b)
erase_word p w (Some k) b = refl
erase_word p w None (Some b) = refl
erase_word p w None None = refl

erase_at : (p : ℕ) (w : List ℕ) (shape : Shape) → erase_token (token_at p w shape) ≡ token_at 0 w shape
erase_at p w Word = erase_word p w (keyword_of w) (truth_of w)
erase_at p w Number = refl
erase_at p w Text = refl
erase_at p w (Sign s) = refl

take_front : (w rest : List ℕ) → take (length w) (w ++ rest) ≡ w
take_front [] rest = refl
take_front (b ∷ w) rest = ap (λ xs. b ∷ xs) (take_front w rest)

slice_at : (before w rest : List ℕ) → slice_range (before ++ (w ++ rest)) (length before) (length before + length w) ≡ w
slice_at before w rest =
    let n : (length before + length w) - length before ≡ length w = omega arith in
    ap (λ k. take k (drop (length before) (before ++ (w ++ rest)))) n ∙ ap (take (length w)) (drop-append_seam before (w ++ rest)) ∙ take_front w rest

laid_tokens : (before : List ℕ) (items : List Item) → map erase_token (tokens_of (before ++ layout items) (placed (length before) items)) ≡ map item_token items
laid_tokens before [] = refl
laid_tokens before (item ∷ items) =
    let w : List ℕ = item.token in
    let shape : Shape = item.shape in
    let all : List ℕ = before ++ (item.gap ++ (w ++ layout items)) in
    let start : ℕ = length before + length item.gap in
    let l : length (before ++ item.gap) ≡ start = length-append before item.gap in
    let whole : (before ++ item.gap) ++ (w ++ layout items) ≡ all = append_assoc before item.gap (w ++ layout items) in
    let whole2 : ((before ++ item.gap) ++ w) ++ layout items ≡ all = append_assoc (before ++ item.gap) w (layout items) ∙ whole in
    let l2 : length ((before ++ item.gap) ++ w) ≡ start + length w = length-append (before ++ item.gap) w ∙ ap (λ n. n + length w) l in
    let s : slice_range all start (start + length w) ≡ w =
    ap (λ n. slice_range all n (n + length w)) (sym l) ∙ ap (λ xs. slice_range xs (length (before ++ item.gap)) (length (before ++ item.gap) + length w)) (sym whole) ∙ slice_at (before ++ item.gap) w (layout items) in
    let h : erase_token (token_at start (slice_range all start (start + length w)) shape) ≡ token_at 0 w shape = ap (λ xs. erase_token (token_at start xs shape)) s ∙ erase_at start w shape in
    let ih : map erase_token (tokens_of (((before ++ item.gap) ++ w) ++ layout items) (placed (length ((before ++ item.gap) ++ w)) items)) ≡ map item_token items = laid_tokens ((before ++ item.gap) ++ w) items in
    let ih2 : map erase_token (tokens_of all (placed (start + length w) items)) ≡ map item_token items =
    ap (λ xs. map erase_token (tokens_of xs (placed (start + length w) items))) (sym whole2) ∙ ap (λ n. map erase_token (tokens_of (((before ++ item.gap) ++ w) ++ layout items) (placed n items))) (sym l2) ∙ ih in
    ap (λ x. x ∷ map erase_token (tokens_of all (placed (start + length w) items))) h ∙ ap (λ xs. token_at 0 w shape ∷ xs) ih2

plain_tokens : (before : Before) (ts : List Token) → ArePlain ts → map item_token (spaced before ts) ≡ map erase_token ts
plain_tokens before [] plain = refl
plain_tokens before (t ∷ ts) plain = ap (λ u. u ∷ map item_token (spaced (behind t) ts)) plain.0.read ∙ ap (λ us. erase_token t ∷ us) (plain_tokens (behind t) ts plain.1)

-- printed tokens are read as themselves, but for their places
pub read_back : (ts : List Token) → ArePlain ts → map erase_token ts ≡ map erase_token (tokens_of (layout (spaced opened ts)) (placed 0 (spaced opened ts)))
read_back ts plain = sym (laid_tokens [] (spaced opened ts) ∙ plain_tokens opened ts plain)
