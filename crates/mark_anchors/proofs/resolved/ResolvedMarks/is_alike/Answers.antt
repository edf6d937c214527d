use Rattle.std.proofs.Common.{◌∙◌, ◌≤◌, ◌<◌, ℕ, List, length, sym, ap, subst, arith}
use Rattle.std.proofs.lemmas.Bool.{false≢true}
use Rattle.change_ops.specs.declared.operation.Op.{Op}
use Rattle.char_sequence.specs.Order.{Shows}
use Rattle.mark_anchors.specs.CommentLists.{AreAlike}
use Rattle.mark_anchors.specs.CommentRuns.{numbers_at}
use Rattle.mark_anchors.specs.Formatting.{Format}
use Rattle.mark_anchors.specs.Marks.{AreMarks}
use Rattle.mark_anchors.specs.Resolution.{ResolvedMarks, formatting_of}
use Rattle.mark_anchors.proofs.Alike.{alike_told}
use Rattle.mark_anchors.proofs.Formats.{same_fields}
use Rattle.mark_anchors.proofs.resolved.ResolvedMarks.is_alike.Goals as goal

pub returns-then-is_same : goal.returns-then-is_same
returns-then-is_same c =
    let first : ℕ = c.args.first in
    let second : ℕ = c.args.second in
    let runs = c.args.self.now.runs in
    let one : Format = formatting_of c.args.one.now (numbers_at runs first) in
    let other : Format = formatting_of c.args.other.now (numbers_at runs second) in
    let order : first ≤ second = c.requires.order in
    let there : second < length c.args.self.now.elements = c.requires.there in
    let text = subst (λ (v : ResolvedMarks). (ops : List Op) × Shows v.elements ops × AreMarks ops v.marks) c.self.view_is c.self.invariant.text in
    alike_told c.args.self.now.elements c.args.self.now.marks text first second (omega arith) there one other c.requires.one c.requires.other c.is_alike.result (
      λ yes. same_fields one other (c.is_same.ensures.0 c.if-is_same.true) (subst (λ (v : ResolvedMarks). AreAlike v.runs first second) c.self.view_is (c.is_alike.ensures.0 yes)),
      λ same. c.is_alike.ensures.1 (subst (λ (v : ResolvedMarks). AreAlike v.runs first second) (sym c.self.view_is) (ap (λ (f : Format). f.comments) same)),
    )

pub returns-else-is_same : goal.returns-else-is_same
returns-else-is_same c =
    let first : ℕ = c.args.first in
    let second : ℕ = c.args.second in
    let runs = c.args.self.now.runs in
    let one : Format = formatting_of c.args.one.now (numbers_at runs first) in
    let other : Format = formatting_of c.args.other.now (numbers_at runs second) in
    let order : first ≤ second = c.requires.order in
    let there : second < length c.args.self.now.elements = c.requires.there in
    let text = subst (λ (v : ResolvedMarks). (ops : List Op) × Shows v.elements ops × AreMarks ops v.marks) c.self.view_is c.self.invariant.text in
    alike_told c.args.self.now.elements c.args.self.now.marks text first second (omega arith) there one other c.requires.one c.requires.other c.is_same.result (
      λ yes. absurd (false≢true (sym c.if-is_same.false ∙ yes)),
      λ same. c.is_same.ensures.1 (ap (λ (f : Format). f.values) same),
    )
