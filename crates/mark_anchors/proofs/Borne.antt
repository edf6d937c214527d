-- The numbers at a place are those of the comments that the character there bears.
use Rattle.std.proofs.Common.{◌↔◌, ℕ, List, subst}
use Rattle.std.specs.List.{Contains}
use Rattle.change_ops.specs.declared.id.OpId.{OpId}
use Rattle.change_ops.specs.declared.attribute.Attribute.TheVariants.{Comment}
use Rattle.change_ops.specs.declared.operation.Op.{Op}
use Rattle.char_sequence.specs.declared.sequence.Element.{Element}
use Rattle.char_sequence.specs.Order.{Shows, IsAt}
use Rattle.mark_anchors.specs.Format.{Bears}
use Rattle.mark_anchors.specs.Marks.{AreMarks}
use Rattle.mark_anchors.specs.CommentRuns.{AreHolding, numbers_at}
use Rattle.mark_anchors.specs.declared.comment_runs.CommentRun.{CommentRun}
use Rattle.mark_anchors.proofs.Lists.{contains_at, contains_from}
use Rattle.mark_anchors.proofs.Running.{run_of, number_of}

pub borne_at : (es : List Element) (operations : List Op) (runs : List CommentRun) (ops : List Op) (e : OpId) (place : ℕ) → Shows es ops → AreMarks ops operations → AreHolding es operations runs → IsAt es e place → (n : ℕ) → Contains (numbers_at runs place) n ↔ Bears ops e (Comment n)
borne_at es operations runs ops e place h are holding at n = (
  λ held.
      let i = contains_at (numbers_at runs place) n held in
      let r = run_of runs place i.0 n i.1 in
      subst (λ z. Bears ops e (Comment z)) r.1.2 (holding.held ops r.1.0 place e h are (contains_from runs r.0 r.1.0 r.1.1) r.1.3 at),
  λ bears.
      let r = holding.covered n ops place e h are at bears in
      let j = contains_at runs r.0 r.1 in
      let i = number_of runs place j.0 r.0 j.1 r.3 in
      subst (λ z. Contains (numbers_at runs place) z) r.2 (contains_from (numbers_at runs place) i.0 r.0.number i.1),
)
