-- The texts of values.
use Rattle.std.specs.Prelude.{ℕ, nat_le, ◌&&◌, Bool, List, length}
use Rattle.std.specs.Cmp.Lexicographic.{slice_cmp}
use Rattle.std.specs.Ordering.{nat_cmp, on, then_cmp}
use Rattle.std.specs.Str.{is_utf8}
use Rattle.std.specs.declared.cmp.Ordering.{Ordering}

-- UTF-8 of at most 255 bytes
abbrev pub is_word : List ℕ → Bool
is_word text = is_utf8 text && nat_le (length text) 255

-- a shorter text comes first, and of two that are as long the one whose bytes come first
abbrev pub word_cmp : List ℕ → List ℕ → Ordering
word_cmp = then_cmp (on length nat_cmp) (slice_cmp nat_cmp)
