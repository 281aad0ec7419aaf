-- Tokens, trees and queries without their places.
use Rattle.std.specs.Prelude.{Option, Some, None, map}
use Rattle.rg_grammar.specs.Grammar.{Name, named, Literal, digits, quoted, truth, Token, reserved, symbol, word, literal, Tree, compared, not_of, and_of, or_of, Agg, count_all, agg_of, pct_of, Span, span, Window, windowed, Query, asked}

abbrev pub erase_name : Name → Name
erase_name (named p text) = named 0 text

abbrev pub erase_literal : Literal → Literal
erase_literal (digits p text) = digits 0 text
erase_literal (quoted p text) = quoted 0 text
erase_literal (truth p b) = truth 0 b

abbrev pub erase_token : Token → Token
erase_token (reserved k) = reserved k
erase_token (symbol s) = symbol s
erase_token (word n) = word (erase_name n)
erase_token (literal l) = literal (erase_literal l)

abbrev pub erase_tree : Tree → Tree
erase_tree (compared f op l) = compared (erase_name f) op (erase_literal l)
erase_tree (not_of t) = not_of (erase_tree t)
erase_tree (and_of s t) = and_of (erase_tree s) (erase_tree t)
erase_tree (or_of s t) = or_of (erase_tree s) (erase_tree t)

abbrev pub erase_maybe : Option Tree → Option Tree
erase_maybe None = None
erase_maybe (Some t) = Some (erase_tree t)

abbrev pub erase_agg : Agg → Agg
erase_agg count_all = count_all
erase_agg (agg_of f n) = agg_of f (erase_name n)
erase_agg (pct_of p text n) = pct_of 0 text (erase_name n)

abbrev pub erase_span : Span → Span
erase_span (span p w unit) = span 0 w unit

abbrev pub erase_maybe_span : Option Span → Option Span
erase_maybe_span None = None
erase_maybe_span (Some s) = Some (erase_span s)

abbrev pub erase_window : Window → Window
erase_window (windowed length delay) = windowed (erase_maybe_span length) (erase_maybe_span delay)

abbrev pub erase_query : Query → Query
erase_query (asked xs n t ns w) = asked (map erase_agg xs) (erase_name n) (erase_maybe t) (map erase_name ns) (erase_window w)
