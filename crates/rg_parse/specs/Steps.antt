-- What a step of the reading gives, and what its states are made of.
use Rattle.std.specs.Prelude.{◌≡◌, ℕ, List, [], Option, Some, None, All, Result, Ok, Err, ⊤}
use Rattle.rg_grammar.specs.Grammar as g
use Rattle.rg_grammar.specs.Machine as m
use Rattle.rg_parse.specs.declared.syntax.Call.{Call}
use Rattle.rg_parse.specs.declared.syntax.Raw.{Raw}
use Rattle.rg_parse.specs.declared.level.Level.{Level}
use Rattle.rg_parse.specs.declared.refusal.Refusal.{Refusal}
use Rattle.rg_parse.specs.declared.refusal.Refusal.TheVariants.{Syntax, TooDeep, Memory}
use Rattle.rg_parse.specs.declared.state.Head.{Head}
use Rattle.rg_parse.specs.declared.state.Before.{Before}
use Rattle.rg_parse.specs.declared.state.After.{After}
use Rattle.rg_parse.specs.declared.state.Filtered.{Filtered}
use Rattle.rg_parse.specs.declared.state.Grouped.{Grouped}
use Rattle.rg_parse.specs.declared.state.Windowed.{Windowed}
use Rattle.rg_parse.specs.declared.state.State.{State}
use Rattle.rg_parse.specs.declared.state.State.TheVariants.{Start, Func, Open, Field, Pct, Percent, Comma, PctField, Close, AfterCall, Stream, AfterStream, Operand, AfterField, AfterOp, AfterOperand, By, Group, AfterGroup, Window, Length, LengthUnit, AfterWindow, DelayBy, Delay, DelayUnit, End}
use Rattle.rg_parse.specs.declared.token.Token.{Token}
use Rattle.rg_parse.specs.declared.token.Token.TheVariants.{Reserved, Sign, Word, Literal}
use Rattle.rg_parse.specs.Views.{raw}
use Rattle.rg_parse.specs.States.{state, filtered}
use Rattle.rg_parse.specs.Parts.{IsCount, IsName, IsLiteral, IsCondition, IsMaybeCondition, IsCall, IsMaybeDuration, IsMadeOf}

-- the step is the machine's, but for want of memory
abbrev pub Gives : List ℕ → Result State Refusal → m.Step → Type 0
Gives text (Ok s) step = step ≡ m.goes (state text s)
Gives text (Err Syntax) step = step ≡ m.no_query
Gives text (Err TooDeep) step = step ≡ m.too_deep
Gives text (Err Memory) step = ⊤

-- where the tokens end the machine has read this query, or has stopped
abbrev pub Finishes : List ℕ → Option Raw → m.Outcome → Type 0
Finishes text (Some r) outcome = outcome ≡ m.read (raw text r)
Finishes text None outcome = outcome ≡ m.stops []

-- the condition t ends where no parenthesis is open
abbrev pub Ends : List ℕ → Result Filtered Refusal → m.Head → List m.Level → g.Tree → Type 0
Ends text (Ok f) h ls t = (m.group_step h ls t ≡ m.goes (m.at_by (filtered text f))) × (m.over_step h ls t ≡ m.goes (m.at_window (m.with_group (filtered text f) [])))
Ends text (Err Syntax) h ls t = (m.group_step h ls t ≡ m.no_query) × (m.over_step h ls t ≡ m.no_query)
Ends text (Err TooDeep) h ls t = ⊥
Ends text (Err Memory) h ls t = ⊤

abbrev pub IsToken : List ℕ → Token → Type 0
IsToken text (Reserved keyword) = ⊤
IsToken text (Sign symbol) = ⊤
IsToken text (Word span) = IsName text span
IsToken text (Literal value) = IsLiteral text value

-- each part that these refer to is a token of its shape in the text
pub record AreCalls (text : List ℕ) (calls : List Call) : Type 0 where
  pub each : All (IsCall text) calls

pub record IsHead (text : List ℕ) (h : Head) : Type 0 where
  pub calls : AreCalls text h.calls.items
  pub stream : IsName text h.stream

pub record IsLevel (text : List ℕ) (l : Level) : Type 0 where
  pub either : IsMaybeCondition text l.either
  pub both : IsMaybeCondition text l.both

pub record IsBefore (text : List ℕ) (b : Before) : Type 0 where
  pub head : IsHead text b.head
  pub outer : All (IsLevel text) b.outer.items
  pub here : IsLevel text b.here

pub record IsAfter (text : List ℕ) (a : After) : Type 0 where
  pub head : IsHead text a.head
  pub outer : All (IsLevel text) a.outer.items
  pub either : IsMaybeCondition text a.either
  pub last : IsCondition text a.last

pub record IsFiltered (text : List ℕ) (f : Filtered) : Type 0 where
  pub head : IsHead text f.head
  pub filter : IsMaybeCondition text f.filter

pub record IsGrouped (text : List ℕ) (g : Grouped) : Type 0 where
  pub filtered : IsFiltered text g.filtered
  pub group : All (IsName text) g.group.items

pub record IsWindowed (text : List ℕ) (w : Windowed) : Type 0 where
  pub grouped : IsGrouped text w.grouped
  pub length : IsMaybeDuration text w.length

abbrev pub IsState : List ℕ → State → Type 0
IsState text Start = ⊤
IsState text (Func xs) = AreCalls text xs.items
IsState text (Open xs f) = AreCalls text xs.items
IsState text (Field xs f) = AreCalls text xs.items
IsState text (Pct xs) = AreCalls text xs.items
IsState text (Percent xs) = AreCalls text xs.items
IsState text (Comma xs percent) = AreCalls text xs.items × IsCount text percent
IsState text (PctField xs percent) = AreCalls text xs.items × IsCount text percent
IsState text (Close xs c) = AreCalls text xs.items × IsCall text c
IsState text (AfterCall xs) = AreCalls text xs.items
IsState text (Stream xs) = AreCalls text xs.items
IsState text (AfterStream h) = IsHead text h
IsState text (Operand b) = IsBefore text b
IsState text (AfterField b field) = IsBefore text b × IsName text field
IsState text (AfterOp b field op) = IsBefore text b × IsName text field
IsState text (AfterOperand a) = IsAfter text a
IsState text (By f) = IsFiltered text f
IsState text (Group g) = IsGrouped text g
IsState text (AfterGroup g) = IsGrouped text g
IsState text (Window g) = IsGrouped text g
IsState text (Length g) = IsGrouped text g
IsState text (LengthUnit g number) = IsGrouped text g × IsCount text number
IsState text (AfterWindow w) = IsWindowed text w
IsState text (DelayBy w) = IsWindowed text w
IsState text (Delay w) = IsWindowed text w
IsState text (DelayUnit w number) = IsWindowed text w × IsCount text number
IsState text (End r) = IsMadeOf text r
