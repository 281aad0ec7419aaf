-- The frames of replies, and the texts that a client reads of them.
use Rattle.std.specs.Prelude.{◌≡◌, ◌⊎◌, ℕ, zero, suc, ◌+◌, ◌<◌, ◌^◌, ◌&&◌, nat_le, Bool, List, [], ◌∷◌, ◌++◌, length, take, drop, ⊤, if◌then◌else◌}
use Rattle.std.specs.Int.{w32, to_be_bytes, from_be_bytes}
use Rattle.rg_host.specs.Lines.{ended}
use Rattle.rg_host.specs.Puts.{IsPrefix}
use Rattle.rg_run_spec.specs.Laws.{IsPrefixOf}
use Rattle.rg_run_spec.specs.Pieces.{whole_pieces}

-- a reply, as its lines without their LF
abbrev pub Reply : Type 0
Reply = List (List ℕ)

-- the text of a reply: its lines, each ended by LF
abbrev pub text_of : Reply → List ℕ
text_of reply = ended reply

-- the bytes of a text in a frame: its length in 4 bytes, and the text
abbrev pub framed : List ℕ → List ℕ
framed text = to_be_bytes w32 (length text) ++ text

-- the bytes of replies in frames, one after another
abbrev pub frames_of : List Reply → List ℕ
frames_of [] = []
frames_of (reply ∷ replies) = framed (text_of reply) ++ frames_of replies

-- the lines of replies
abbrev pub lines_in : List Reply → List (List ℕ)
lines_in [] = []
lines_in (reply ∷ replies) = reply ++ lines_in replies

-- a frame is whole at the front of these bytes
abbrev pub is_whole : List ℕ → Bool
is_whole bytes = nat_le 4 (length bytes) && nat_le (4 + from_be_bytes w32 (take 4 bytes)) (length bytes)

-- the texts of the whole frames at the front of these bytes, of at most so many
abbrev pub texts_from : ℕ → List ℕ → List (List ℕ)
texts_from zero bytes = []
texts_from (suc most) bytes =
    if is_whole bytes then take (from_be_bytes w32 (take 4 bytes)) (drop 4 bytes) ∷ texts_from most (drop (4 + from_be_bytes w32 (take 4 bytes)) bytes) else []

-- the texts of the whole frames at the front of these bytes: what a client has read that got them
unfoldable pub texts_in : List ℕ → List (List ℕ)
texts_in bytes = texts_from (length bytes) bytes

-- the texts of replies
abbrev pub texts_of_all : List Reply → List (List ℕ)
texts_of_all [] = []
texts_of_all (reply ∷ replies) = text_of reply ∷ texts_of_all replies

-- the bytes of some texts, one after another
abbrev pub joined : List (List ℕ) → List ℕ
joined [] = []
joined (text ∷ texts) = text ++ joined texts

-- the lines of the whole frames at the front of these bytes
abbrev pub lines_said : List ℕ → List (List ℕ)
lines_said bytes = whole_pieces (joined (texts_in bytes))

-- each text of these replies has a length that 4 bytes can say
abbrev pub AreSmall : List Reply → Type 0
AreSmall [] = ⊤
AreSmall (reply ∷ replies) = (length (text_of reply) < 2 ^ 32) × AreSmall replies

-- Whole frames of the first of these replies were put, and then these bytes.
pub record StopsIn (replies : List Reply) (part put : List ℕ) : Type 0 where
  pub done : List Reply
  pub rest : List Reply
  pub of_replies : done ++ rest ≡ replies
  pub is : put ≡ frames_of done ++ part

-- a prefix of the replies' frames was put, or whole ones and then a prefix of these last bytes
abbrev pub IsPutIn : List Reply → List ℕ → List ℕ → Type 0
IsPutIn replies last put = IsPrefix put (frames_of replies) ⊎ ((part : List ℕ) × IsPrefix part last × StopsIn replies part put)

-- The lines that are read of these bytes are those of the first replies, and of so many of the rest.
pub record ReadsSome (first rest : List Reply) (put : List ℕ) : Type 0 where
  pub some : List Reply
  pub begins : IsPrefixOf some rest
  pub lines : lines_said put ≡ lines_in (first ++ some)
