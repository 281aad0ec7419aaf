-- What is put.
use Rattle.std.specs.Prelude.{◌≡◌, ◌⊎◌, ℕ, List, [], ◌++◌, take, Option, Result, Ok, Err}
use Rattle.std.specs.Option.{ForSome}
use Rattle.rg_bytes.specs.Known.{after}
use Rattle.rg_host.specs.Lines.{ended}
use Rattle.rg_host.specs.Moments.{Moment, Moments}

-- a prefix of these bytes, from none to all of them
abbrev pub IsPrefix : List ℕ → List ℕ → Type 0
IsPrefix part bytes = (rest : List ℕ) × (part ++ rest ≡ bytes)

-- what was said, and then a prefix of these bytes
abbrev pub IsPartWay : List ℕ → List ℕ → List ℕ → Type 0
IsPartWay said bytes now = (part : List ℕ) × IsPrefix part bytes × (now ≡ said ++ part)

-- From old to new exactly these bytes were put: what was said grew by them, and at each moment by a prefix of them.
pub record Puts {H : Type 0} (said : H → Option (List ℕ)) (clock : H → ℕ) (since : H → ℕ → Moment → Type 0) (old new : H) (bytes : List ℕ) : Type 0 where
  pub grows : said new ≡ after (said old) bytes
  pub moments : Moments clock since old new (λ m. ForSome (said old) (λ s. IsPartWay s bytes m.said))

-- the bytes that a call of `put` appends
abbrev pub put_of : {E : Type 0} → Result ℕ E → List ℕ → List ℕ
put_of (Ok n) bytes = take n bytes
put_of (Err _) bytes = []

-- whole lines of a text, and then these bytes
pub record StopsWith (text : List (List ℕ)) (last put : List ℕ) : Type 0 where
  pub lines : List (List ℕ)
  pub more : List (List ℕ)
  pub of_text : lines ++ more ≡ text
  pub is : put ≡ ended lines ++ last

-- a prefix of the text, or whole lines of it and then a prefix of the last line
abbrev pub IsPut : List (List ℕ) → List ℕ → List ℕ → Type 0
IsPut text last put = IsPrefix put (ended text) ⊎ ((part : List ℕ) × IsPrefix part last × StopsWith text part put)
