use Rattle.std.proofs.Common.{◌≡◌, ◌↔◌, ◌∙◌, ℕ, List, Option, None, Some, Bor, length, get_or, length-set, ap, refl, sym, subst, arith}
use Rattle.std.specs.List.{slice_get, Contains}
use Rattle.std.specs.List.Sorted.{IsStrictlyIncreasing}
use Rattle.std.specs.Option.{option_copied}
use Rattle.std.proofs.lemmas.Option.{slice_get_within}
use Rattle.change_ops.specs.declared.attribute.Attribute.TheVariants.{Comment}
use Rattle.change_ops.specs.declared.attribute.Key.TheVariants.{Row}
use Rattle.change_ops.specs.declared.keys.TheConstants.{KEYS}
use Rattle.change_ops.specs.declared.value.Value.{Value}
use Rattle.char_sequence.specs.Order.{Shows, IsAt}
use Rattle.mark_anchors.specs.Format.{Bears}
use Rattle.mark_anchors.specs.Marks.{AreMarks}
use Rattle.mark_anchors.specs.CommentRuns.{numbers_at}
use Rattle.mark_anchors.specs.Placed.{ArePlaced}
use Rattle.mark_anchors.specs.Resolution.{ResolvedMarks}
use Rattle.mark_anchors.proofs.Borne.{borne_at}
use Rattle.mark_anchors.proofs.Counting.{increasing_at}
use Rattle.mark_anchors.proofs.Decisions.{IsRowAt, IsRowTyped, all_typed, copied_length, read_value, row_typed}
use Rattle.mark_anchors.proofs.Lists.{read_at, set_more}
use Rattle.mark_anchors.proofs.resolved.ResolvedMarks.decided_at.Goals as goal

pub value_at-requires : goal.value_at-requires
value_at-requires c =
    λ i p at.
    let operations = c.self.inside.operations.now in
    let held = c.self.invariant.rows in
    let long : length c.self.inside.rows.items ≡ KEYS = held.sized in
    let placed : ArePlaced c.self.inside.sequence.now.elements operations (Row c.loop-row.row) c.index.result.now =
    held.each c.loop-row.row c.index.result.now (read_at c.self.inside.rows.items c.loop-row.row c.index.result.now c.index.ensures (omega arith)) in
    let q = placed.placed i p at in
    slice_get_within operations p.index q.0 q.1

pub loop-row-preserved : goal.loop-row-preserved
loop-row-preserved c =
    let es = c.self.inside.sequence.now.elements in
    let operations = c.self.inside.operations.now in
    let place : ℕ = c.args.place in
    let old : List (Option (Bor Value)) = c.loop-row.values in
    let row : ℕ = c.loop-row.row in
    let read : Option (Bor Value) = c.value_at.result in
    let sized : length old ≡ KEYS = c.loop-row.invariant.sized in
    let held = c.self.invariant.rows in
    let long : length c.self.inside.rows.items ≡ KEYS = held.sized in
    let placed : ArePlaced es operations (Row row) c.index.result.now = held.each row c.index.result.now (read_at c.self.inside.rows.items row c.index.result.now c.index.ensures (omega arith)) in
    record {
      sized = length-set old row read ∙ sized;
      there =
          set_more (λ k x. IsRowAt es operations place k (option_copied x)) old row read None (omega arith) c.loop-row.invariant.there
          (λ ops e shows marks at value. c.value_at.ensures.bears es ops row e.id shows marks placed (e, at, refl) value);
      typed = set_more (λ k x. IsRowTyped k (option_copied x)) old row read None (omega arith) c.loop-row.invariant.typed (row_typed row read (c.value_at.ensures.typed es row placed));
    }

pub new-requires : goal.new-requires
new-requires c =
    let sized : length c.loop-row.values ≡ KEYS = c.loop-row.invariant.sized in
    all_typed c.loop-row.values (λ row value within is. c.loop-row.invariant.typed row (omega arith) value is)

pub returns : goal.returns
returns c =
    λ ops e shows marks at.
    let es = c.self.inside.sequence.now.elements in
    let operations = c.self.inside.operations.now in
    let place : ℕ = c.args.place in
    let values : List (Option (Bor Value)) = c.loop-row.values in
    let sized : length values ≡ KEYS = c.loop-row.invariant.sized in
    let held = c.self.invariant in
    let h : Shows es ops = subst (λ v. Shows v.elements ops) (sym c.self.view_is) shows in
    let are : AreMarks ops operations = subst (λ v. AreMarks ops v.marks) (sym c.self.view_is) marks in
    let stands : IsAt es e.id place = (e, subst (λ v. slice_get v.elements place ≡ Some e) (sym c.self.view_is) at, refl) in
    let numbers : numbers_at c.self.inside.comments place ≡ numbers_at c.args.self.now.runs place = ap (λ (v : ResolvedMarks). numbers_at v.runs place) c.self.view_is in
    let borne = borne_at es operations c.self.inside.comments ops e.id place h are held.comments stands in
    record {
      sized = ap length c.new.ensures ∙ copied_length values ∙ sized;
      rows =
          λ row value less.
          rw (ap (λ (l : List (Option Value)). get_or l row None) c.new.ensures ∙ read_value values row (get_or values row None) (omega arith) refl)
          (c.loop-row.invariant.there row (omega arith) ops e h are (subst (λ v. slice_get v.elements place ≡ Some e) (sym c.self.view_is) at) value);
      comments = λ n. subst (λ (l : List ℕ). Contains l n ↔ Bears ops e.id (Comment n)) numbers (borne n);
      rising = subst IsStrictlyIncreasing numbers (increasing_at c.self.inside.comments place held.orderly);
    }
