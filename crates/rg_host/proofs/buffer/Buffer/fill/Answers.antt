use Rattle.std.proofs.Common.{◌≡◌, ◌∙◌, ◌+◌, refl, ◌≤◌, ap, subst, arith, rules, slice_range}
use Rattle.rg_host.specs.Buffered.{Buffered, Fills}
use Rattle.rg_host.proofs.Filling.{fills_after, kept_after, searched_kept, searched_longer, searched_on}
use Rattle.rg_host.proofs.buffer.Buffer.fill.Goals.{then-not-self, else-not-self}
use Rattle.rg_host.proofs.buffer.Buffer.fill.Goals as goal

pub invariant_of-self : goal.invariant_of-self
invariant_of-self g c =
    let b = c.self.inside in
    let was = c.self.invariant in
    let first = c.read_part.ensures.first in
    record {
      size = first.size ∙ was.size;
      line_ordered = was.line_ordered;
      line_within = was.line_within;
      within = was.within;
      search = searched_kept b.bytes.items c.read_part.new.bytes.items b.start b.searched b.end b.has_lf first.prefix was.search;
    }

pub invariant_of-self-in-Ok : goal.invariant_of-self-in-Ok
invariant_of-self-in-Ok g c =
    let b = c.self.inside in
    let new = c.read_part.new.bytes.items in
    let was = c.self.invariant in
    let first = c.read_part.ensures.first in
    let fits : b.end + c.in-Ok.count ≤ 131072 = omega (arith, c.in-Ok.ensures.read.count, c.min-room.ensures, was.within) in
    let kept = searched_kept b.bytes.items new b.start b.searched b.end b.has_lf first.prefix was.search in
    elim c.if-not-self.branch [
      | then-not-self w ↦ rw w.self-inside-is record {
        size = first.size ∙ was.size;
        line_ordered = was.line_ordered;
        line_within = was.line_within;
        within = fits;
        search = searched_on new b.start b.searched b.end _ _ _ (rw w.if-not-self.true at kept) (rw w.deref.ensures.value at w.first_lf-searched.ensures.searched);
      }
      | else-not-self w ↦ rw w.self-inside-is record {
        size = first.size ∙ was.size;
        line_ordered = was.line_ordered;
        line_within = was.line_within;
        within = fits;
        search = searched_longer new b.start b.searched b.end (b.end + c.in-Ok.count) b.has_lf w.if-not-self.false (omega arith) kept;
      }
    ]

pub returns-in-Err : goal.returns-in-Err
returns-in-Err g c =
    let b = c.self.inside in
    let was = c.self.invariant in
    let pending = ap (λ (x : Buffered). x.pending) c.self.view_is ∙ c.make_room.ensures.pending in
    record {
      bytes = search rules;
      most = search rules;
      end = search rules;
      kept = kept_after b.bytes.items c.read_part.new.bytes.items b.start b.end (omega (arith, was.search.begun, was.search.within)) c.read_part.ensures.first.prefix ∙ pending;
      source_kept = c.in-Err.ensures.kept;
      cause = c.in-Err.ensures.cause;
      later = c.read_part.ensures.later;
    }

pub returns-after-not-self : goal.returns-after-not-self
returns-after-not-self g c =
    let b = c.self.inside in
    let was = c.self.invariant in
    let read = c.in-Ok.ensures.read in
    let pending = ap (λ (x : Buffered). x.pending) c.self.view_is ∙ c.make_room.ensures.pending in
    let fills : Fills c.args.self.now.pending (slice_range c.read_part.new.bytes.items b.start (b.end + c.in-Ok.count)) (g.S.Source.left c.args.src.now) (g.S.Source.left c.read_part.new.src) c.in-Ok.count =
    subst (λ p. Fills p (slice_range c.read_part.new.bytes.items b.start (b.end + c.in-Ok.count)) (g.S.Source.left c.args.src.now) (g.S.Source.left c.read_part.new.src) c.in-Ok.count) pending
    (fills_after b.bytes.items c.read_part.new.bytes.items b.start b.end c.in-Ok.count _ _ (omega (arith, was.search.begun, was.search.within))
    (omega (arith, read.count, c.min-room.ensures, was.within, was.size, c.read_part.ensures.first.size)) c.read_part.ensures.first.prefix read.took) in
    let same : slice_range c.if-not-self.self-inside.bytes.items c.if-not-self.self-inside.start (b.end + c.in-Ok.count) ≡ slice_range c.read_part.new.bytes.items b.start (b.end + c.in-Ok.count) =
    elim c.if-not-self.branch [ then-not-self w ↦ rw w.self-inside-is refl | else-not-self w ↦ rw w.self-inside-is refl ] in
    record {
      bytes = rw same fills;
      most = omega (arith, read.count, c.min-room.ensures);
      end = read.end;
      kept = search rules;
      source_kept = search rules;
      cause = search rules;
      later = c.read_part.ensures.later;
    }
