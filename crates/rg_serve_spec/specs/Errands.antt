-- What a serve begins with, and what holds of the store and of what was put at each moment of it.
use Rattle.std.specs.Prelude.{◌≡◌, ◌⊎◌, ℕ, List, [], ◌∷◌, ◌++◌, length, take}
use Rattle.rg_event.specs.declared.event.Event.{Event}
use Rattle.rg_host.specs.Image as host
use Rattle.rg_host.specs.Moments.{Moment}
use Rattle.rg_host.specs.Puts.{IsPrefix}
use Rattle.rg_pipe.specs.Handing.{Given}
use Rattle.rg_run_spec.specs.Output.{Terms, open_line}
use Rattle.rg_run_spec.specs.Stores.{Store, Course, IsKeptInStore}
use Rattle.rg_serve_spec.specs.Frames.{Reply, lines_in, lines_said, IsPutIn}
use Rattle.rg_serve_spec.specs.Replies.{events_all, replies_to, all_replies}

-- What a serve begins with, and the requests that it is to answer.
pub record Errand : Type 0 where
  -- what its replies rest on
  pub terms : Terms
  -- what had been put before it
  pub said : List ℕ
  -- the events of the store at its start, and of how many of them the checkpoint is that it goes on from
  pub held : List Event
  pub from : ℕ
  -- the requests, as they are handed out, and the offset that the next line would have behind them
  pub given : List Given
  pub offset : ℕ

-- all replies of a serve
abbrev pub replies_of : Errand → List Reply
replies_of e = all_replies e.terms e.held e.from e.given e.offset

-- the replies up to and with the one to request number `count`
abbrev pub answered : Errand → ℕ → List Reply
answered e count = (open_line e.held e.from ∷ []) ∷ replies_to e.terms e.held (take count e.given)

-- the events behind request number `count`
abbrev pub events_at : Errand → ℕ → List Event
events_at e count = events_all e.terms.basis e.held (take count e.given)

-- What the store of a serve is asked for: as of a run that accepts the events of its lines and puts the lines of its replies, and
-- that answers a request where a run answers a line.
abbrev pub course_of : Errand → Course
course_of e = record {
  said = e.said;
  held = e.held;
  accepted = events_all e.terms.basis e.held e.given;
  text = lines_in (replies_of e);
  turns = length e.given;
  answers = λ count. lines_in (answered e count);
  events = λ count. events_at e count;
}

-- A moment of a serve: a prefix of its replies' frames was put, or whole ones and then a prefix of the last reply of a refusal; and the
-- image keeps all that the lines of the whole frames say, and is of at most one request more than was answered.
pub record IsOnErrand {Image : Type 0} (store : Store Image) (e : Errand) (last : List ℕ) (v : Image) (said : List ℕ) : Type 0 where
  pub put : List ℕ
  pub since : said ≡ e.said ++ put
  pub framed : IsPutIn (replies_of e) last put
  pub kept : IsKeptInStore store (course_of e) (lines_said put) v
  -- unless nothing but of the last reply was put
  pub grown : store.IsGrown v ⊎ IsPrefix put last

-- a moment of a serve on a host
abbrev pub StaysOnErrand : Store host.Image → Errand → List ℕ → Moment → Type 0
StaysOnErrand store e last m = IsOnErrand store e last m.image m.said
