use Rattle.std.proofs.Common.{◌≡◌, ◌+◌, ◌++◌, List, ℕ, true, false, drop, sym, ap, subst, ◌∙◌}
use Rattle.std.specs.List.{flat_map}
use Rattle.std.specs.String.{string_bytes}
use Rattle.change_ops.specs.Changes.{Change}
use Rattle.change_ops.specs.Spelling.{change_text}
use Rattle.change_join.specs.Joined.{can_join, both_of, joined}
use Rattle.change_join.specs.Joints.{IsJoint}
use Rattle.change_join.specs.declared.joint.Joint.{Joint}
use Rattle.change_join.proofs.Texts.{texts_with, texts_none, texts_begun, texts_joined, texts_apart, texts_done}
use Rattle.change_join.proofs.joining.joined_text.Goals.{then-can_take+in_ok-take, else-can_take+in_ok-write+in_ok-joint-2}
use Rattle.change_join.proofs.joining.joined_text.Goals as goal

pub returns-in_default : goal.returns-in_default
returns-in_default c = texts_none c.args.changes.now (string_bytes c.new-text.result) c.in_default.ensures.cases c.new-text.ensures.bytes

pub loop-change-init : goal.loop-change-init
loop-change-init c = (
  c.in-Some.first.now,
  c.in_ok-joint.ensures,
  texts_begun c.args.changes.now c.in-Some.others.now c.in-Some.first.now (string_bytes c.new-text.result) c.in-Some.ensures.cases.0 c.new-text.ensures.bytes,
)

pub loop-change-preserved : goal.loop-change-preserved
loop-change-preserved c =
    let change : Change = c.loop-change.invariant.0 in
    let is : IsJoint change c.loop-change.joint = c.loop-change.invariant.1 in
    let so_far = c.loop-change.invariant.2 in
    let next : Change = c.change-item.result in
    let others = c.in-Some.others.now in
    let at = c.loop-change.change-index in
    let test : c.can_take.result ≡ can_join change next = c.can_take.ensures change is in
    let total = flat_map change_text (joined c.args.changes.now) in
    elim c.if-can_take.branch [
      | then-can_take+in_ok-take w ↦
          let can : can_join change next ≡ true = sym test ∙ w.if-can_take.true in
          let text : string_bytes c.if-can_take.text ≡ string_bytes c.loop-change.text = ap (λ (t : _). string_bytes t) w.text-is in (
            both_of change next,
            subst (λ (j : Joint). IsJoint (both_of change next) j) (sym w.joint-is) (w.in_ok-take.ensures change is can),
            ap (λ (x : List ℕ). x ++ texts_with (both_of change next) (drop (at + 1) others)) text
                ∙ texts_joined others change next at (string_bytes c.loop-change.text) total c.loop-change-test.true c.change-item.is can so_far,
          )
      | else-can_take+in_ok-write+in_ok-joint-2 w ↦
          let no : can_join change next ≡ false = sym test ∙ w.if-can_take.false in
          let written : string_bytes c.if-can_take.text ≡ string_bytes c.loop-change.text ++ change_text change = ap (λ (t : _). string_bytes t) w.text-is ∙ w.in_ok-write.ensures change is in (
            next,
            subst (λ (j : Joint). IsJoint next j) (sym w.joint-is) w.in_ok-joint-2.ensures,
            texts_apart others change next at (string_bytes c.loop-change.text) (string_bytes c.if-can_take.text) total c.loop-change-test.true c.change-item.is no written so_far,
          )
    ]

pub returns : goal.returns
returns c =
    let change : Change = c.loop-change.invariant.0 in
    let is : IsJoint change c.loop-change.joint = c.loop-change.invariant.1 in
    texts_done c.in-Some.others.now change c.loop-change.change-index (string_bytes c.loop-change.text) (string_bytes c.write-2.new.out) _ c.loop-change-test.false (c.in_ok-write-2.ensures change is) c.loop-change.invariant.2
