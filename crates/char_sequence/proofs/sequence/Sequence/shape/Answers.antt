use Rattle.std.proofs.Common.{◌≡◌, ◌≤◌, ◌*◌, length, ap, sym, subst, arith, ◌∙◌}
use Rattle.char_sequence.specs.Chunks.{joined}
use Rattle.char_sequence.proofs.Joined.{joined_enough, joined_few, shape_none}
use Rattle.char_sequence.proofs.sequence.Sequence.shape.Goals as goal

pub returns-clause-chunks : goal.returns-clause-chunks
returns-clause-chunks c = record {
  chunks = c.self.inside.elements.chunks;
  whole = ap (λ v. v.elements) c.self.view_is;
  counted = c.shape.ensures.count;
  each = c.shape.ensures.each;
  limit = c.shape.ensures.limit;
  reached = c.shape.ensures.reached;
}

pub returns-clause-enough : goal.returns-clause-enough
returns-clause-enough c =
    let same = ap (λ v. length v.elements) c.self.view_is in
    let enough = joined_enough _ _ c.shape.ensures.each in
    subst (λ n. n ≤ c.shape.result.0 * c.shape.result.1) same (subst (λ n. length (joined c.self.inside.elements.chunks) ≤ n * c.shape.result.1) (sym c.shape.ensures.count) enough)

pub returns-clause-few : goal.returns-clause-few
returns-clause-few c =
    let same = ap (λ v. length v.elements) c.self.view_is in
    let few = joined_few _ _ c.shape.ensures.each in
    let count = c.shape.ensures.count in
    omega (arith, same, few, count)

pub returns-clause-none : goal.returns-clause-none
returns-clause-none c =
    λ e.
    let same = ap (λ v. length v.elements) c.self.view_is in
    let few = joined_few _ _ c.shape.ensures.each in
    let empty : length c.self.inside.elements.chunks ≡ 0 = omega (arith, same, few, e) in
    let first : c.shape.result.0 ≡ 0 = c.shape.ensures.count ∙ empty in
    let second : c.shape.result.1 ≡ 0 = shape_none _ _ empty c.shape.ensures.reached in
    ap (λ a. (a, c.shape.result.1)) first ∙ ap (λ b. (0, b)) second
