use Rattle.std.proofs.Common.{◌≤◌, ◌+◌, List, length, subst, ap, arith}
use Rattle.span_flatten.specs.Spans.{Span}
use Rattle.version_glyphs.specs.Glyphs.{glyphs}
use Rattle.version_pieces.specs.Alike.{AreBegun}
use Rattle.version_pieces.proofs.Along.{count_along}
use Rattle.version_pieces.proofs.Standing.{begun_along, index_few}
use Rattle.version_pieces.proofs.spans.Spans.begun.Goals as goal

pub overflow_add-result : goal.overflow_add-result
overflow_add-result c =
    let low : c.index_over.result ≤ c.in-Some.last = index_few c.self.inside.runs c.in-Some.last c.index_over.result c.self.invariant.maximal c.index_over.ensures in
    omega (arith, low, c.in-Some.ensures, c.ranges.place.fits)

pub returns-in-Some : goal.returns-in-Some
returns-in-Some c =
    let fits : c.args.place ≤ length c.self.inside.text =
    omega (arith, c.requires, ap (λ (l : List Span). length (glyphs l)) c.self.view_is, count_along c.self.inside.text c.self.inside.runs c.self.invariant) in
    subst (λ (l : List Span). AreBegun l c.args.place (c.index_over.result + 1)) c.self.view_is
    (begun_along c.self.inside.text c.self.inside.runs c.args.place c.in-Some.last c.index_over.result c.self.invariant (omega (arith, c.in-Some.ensures)) fits c.index_over.ensures)
