-- Tokens read byte by byte.
use Rattle.std.specs.Prelude.{◌≡◌, ℕ, ◌+◌, nat_eq, nat_lt, List, [], ◌∷◌, Option, Some, None, Bool, if◌then◌else◌}
use Rattle.rg_keywords.specs.declared.op.Op.TheVariants.{Eq, Ne, Le, Ge, Lt, Gt}
use Rattle.rg_keywords.specs.declared.op.Symbol.TheVariants.{Open, Close, Comma, Star, Compare}
use Rattle.rg_token.specs.Token.{is_letter, is_digit, is_word_byte}
use Rattle.rg_token.specs.declared.piece.Shape.{Shape}
use Rattle.rg_token.specs.declared.piece.Shape.TheVariants.{Word, Number, Text, Sign}
use Rattle.rg_token.specs.declared.automaton.Found.{Found}
use Rattle.rg_token.specs.declared.automaton.Mode.{Mode}
use Rattle.rg_token.specs.declared.automaton.Mode.TheVariants.{Start, InWord, Minus, Digits, InText, Quote, Bang, Less, Greater, Done}

abbrev pub mode_if : Bool → Mode → Option Mode
mode_if holds mode = if holds then Some mode else None

-- the mode behind the first byte; after letters and digits these are - ' ( ) , * = ! < >
unfoldable pub first : ℕ → Option Mode
first byte =
    if is_letter byte then Some InWord
    else if is_digit byte then Some (Digits 1)
    else if nat_eq byte 45 then Some Minus
    else if nat_eq byte 39 then Some InText
    else if nat_eq byte 40 then Some (Done Open)
    else if nat_eq byte 41 then Some (Done Close)
    else if nat_eq byte 44 then Some (Done Comma)
    else if nat_eq byte 42 then Some (Done Star)
    else if nat_eq byte 61 then Some (Done (Compare Eq))
    else if nat_eq byte 33 then Some Bang
    else if nat_eq byte 60 then Some Less
    else if nat_eq byte 62 then Some Greater
    else None

-- the mode behind one byte more; 39 is the quote and 61 is =
unfoldable pub next : Mode → ℕ → Option Mode
next Start byte = first byte
next InWord byte = mode_if (is_word_byte byte) InWord
next Minus byte = mode_if (is_digit byte) (Digits 1)
next (Digits n) byte = if nat_lt n 20 then mode_if (is_digit byte) (Digits (n + 1)) else None
next InText byte = if nat_eq byte 39 then Some Quote else Some InText
next Quote byte = mode_if (nat_eq byte 39) InText
next Bang byte = mode_if (nat_eq byte 61) (Done (Compare Ne))
next Less byte = mode_if (nat_eq byte 61) (Done (Compare Le))
next Greater byte = mode_if (nat_eq byte 61) (Done (Compare Ge))
next (Done symbol) byte = None

-- what the bytes are a token of, if they may end here
abbrev pub shape_at : Mode → Option Shape
shape_at InWord = Some Word
shape_at (Digits n) = Some Number
shape_at Quote = Some Text
shape_at Less = Some (Sign (Compare Lt))
shape_at Greater = Some (Sign (Compare Gt))
shape_at (Done symbol) = Some (Sign symbol)
shape_at _ = None

abbrev pub if_some : {X Y : Type 0} → Option X → Y → (X → Y) → Y
if_some None none some = none
if_some (Some x) none some = some x

-- a token that ends here, or else the best before
abbrev pub better : Mode → ℕ → Option Found → Option Found
better mode at best = if_some (shape_at mode) best (λ shape. Some (record { end = at; shape = shape }))

-- the last token that the bytes pass as they are read from a mode on
abbrev pub best_of : Mode → List ℕ → ℕ → Option Found → Option Found
best_of mode [] at best = better mode at best
best_of mode (byte ∷ bytes) at best = if_some (next mode byte) (better mode at best) (λ later. best_of later bytes (at + 1) (better mode at best))

-- the mode behind all these bytes
abbrev pub leads : Mode → List ℕ → Option Mode
leads mode [] = Some mode
leads mode (byte ∷ bytes) = if_some (next mode byte) None (λ later. leads later bytes)

-- these bytes, read from the start, are a token of this shape
pub record Reads (bytes : List ℕ) (shape : Shape) : Type 0 where
  pub mode : Mode
  pub leads_to : leads Start bytes ≡ Some mode
  pub ends : shape_at mode ≡ Some shape
