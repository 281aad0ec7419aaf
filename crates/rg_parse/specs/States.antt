-- What states of the reading stand for.
use Rattle.std.specs.Prelude.{ℕ, List}
use Rattle.rg_parse.specs.declared.state.Head.{Head}
use Rattle.rg_parse.specs.declared.state.Before.{Before}
use Rattle.rg_parse.specs.declared.state.After.{After}
use Rattle.rg_parse.specs.declared.state.Filtered.{Filtered}
use Rattle.rg_parse.specs.declared.state.Grouped.{Grouped}
use Rattle.rg_parse.specs.declared.state.State.{State}
use Rattle.rg_parse.specs.declared.state.State.TheVariants.{Start, Func, Open, Field, Pct, Percent, Comma, PctField, Close, AfterCall, Stream, AfterStream, Operand, AfterField, AfterOp, AfterOperand, By, Group, AfterGroup, Window, Length, LengthUnit, AfterWindow, DelayBy, Delay, DelayUnit, End}
use Rattle.rg_grammar.specs.Machine as m
use Rattle.rg_parse.specs.Views.{text_at, name, names, maybe_tree, tree, call, calls, maybe_duration, raw}
use Rattle.rg_parse.specs.Levels.{levels}

abbrev pub head : List ℕ → Head → m.Head
head text h = m.head (calls text h.calls.items) (name text h.stream)

abbrev pub before : List ℕ → Before → m.Left
before text b = m.left (head text b.head) (levels text b.outer.items) (maybe_tree text b.here.either) (maybe_tree text b.here.both) b.here.nots

abbrev pub after : List ℕ → After → m.State
after text a = m.after_operand (head text a.head) (levels text a.outer.items) (maybe_tree text a.either) (tree text a.last)

abbrev pub filtered : List ℕ → Filtered → m.Filtered
filtered text f = m.filtered (calls text f.head.calls.items) (name text f.head.stream) (maybe_tree text f.filter)

abbrev pub grouped : List ℕ → Grouped → m.Grouped
grouped text g = m.with_group (filtered text g.filtered) (names text g.group.items)

abbrev pub state : List ℕ → State → m.State
state text Start = m.at_start
state text (Func xs) = m.at_func (calls text xs.items)
state text (Open xs f) = m.at_open (calls text xs.items) f
state text (Field xs f) = m.at_field (calls text xs.items) f
state text (Pct xs) = m.at_pct (calls text xs.items)
state text (Percent xs) = m.at_percent (calls text xs.items)
state text (Comma xs percent) = m.at_comma (calls text xs.items) percent.start (text_at text percent)
state text (PctField xs percent) = m.at_pct_field (calls text xs.items) percent.start (text_at text percent)
state text (Close xs c) = m.at_close (calls text xs.items) (call text c)
state text (AfterCall xs) = m.after_agg (calls text xs.items)
state text (Stream xs) = m.at_stream (calls text xs.items)
state text (AfterStream h) = m.after_stream (head text h)
state text (Operand b) = m.at_operand (before text b)
state text (AfterField b field) = m.after_field (before text b) (name text field)
state text (AfterOp b field op) = m.after_op (before text b) (name text field) op
state text (AfterOperand a) = after text a
state text (By f) = m.at_by (filtered text f)
state text (Group g) = m.at_group (filtered text g.filtered) (names text g.group.items)
state text (AfterGroup g) = m.after_group (filtered text g.filtered) (names text g.group.items)
state text (Window g) = m.at_window (grouped text g)
state text (Length g) = m.at_length (grouped text g)
state text (LengthUnit g number) = m.at_unit (grouped text g) number.start (text_at text number)
state text (AfterWindow w) = m.after_window (grouped text w.grouped) (maybe_duration text w.length)
state text (DelayBy w) = m.at_delay_by (grouped text w.grouped) (maybe_duration text w.length)
state text (Delay w) = m.at_delay (grouped text w.grouped) (maybe_duration text w.length)
state text (DelayUnit w number) = m.at_delay_unit (grouped text w.grouped) (maybe_duration text w.length) number.start (text_at text number)
state text (End r) = m.at_end (raw text r)
