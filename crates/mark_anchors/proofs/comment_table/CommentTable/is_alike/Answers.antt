use Rattle.std.proofs.Common.{◌≡◌, ◌<◌, ◌≤◌, ◌∙◌, [], ℕ, List, sym, subst, ⊎_elim, All}
use Rattle.std.specs.List.{Contains}
use Rattle.std.proofs.lemmas.Bool.{false≢true}
use Rattle.std.proofs.lemmas.List.Sorted.{Contains-permutation, IsPermutation-sym}
use Rattle.mark_anchors.specs.CommentLists.{AreAlike, IsSteady}
use Rattle.mark_anchors.specs.declared.comment_runs.CommentRun.{CommentRun}
use Rattle.mark_anchors.proofs.Steady.{all_steady, alike_both, begun_alone, ended_alone, none_of, one_alone}
use Rattle.mark_anchors.proofs.comment_table.CommentTable.is_alike.Goals as goal

pub returns-then-are_steady : goal.returns-then-are_steady
returns-then-are_steady c =
    let runs : List CommentRun = c.self.inside.runs.items in
    let first : ℕ = c.args.first in
    let second : ℕ = c.args.second in
    let begun : List CommentRun = c.begun_between-begun.result.now in
    let ended : List CommentRun = c.ended_between-ended.result.now in
    let changes : List CommentRun → List CommentRun → Type 0 = λ rs changed. All (λ run. IsSteady rs run.number first second) changed in (
      λ is.
          subst (λ (rs : List CommentRun). AreAlike rs first second) c.self.view_is
          (alike_both runs c.self.inside.begins.items c.self.inside.ends.items begun ended first second c.self.invariant.0 c.requires
          (subst (λ (l : List CommentRun). (run : CommentRun) → Contains l run → first < run.from → run.from ≤ second → Contains begun run) c.deref.ensures.value c.begun_between-begun.ensures.between)
          (subst (λ (l : List CommentRun). (run : CommentRun) → Contains l run → first < run.to → run.to ≤ second → Contains ended run) c.deref-2.ensures.value c.ended_between-ended.ensures.between)
          (subst (λ (rs : List CommentRun). changes rs begun) c.deref-3.ensures.value (c.are_steady.ensures.0 c.if-are_steady.true))
          (subst (λ (rs : List CommentRun). changes rs ended) c.deref-then-are_steady.ensures.value (c.are_steady-then-are_steady.ensures.0 is))),
      λ same.
          c.are_steady-then-are_steady.ensures.1
          (subst (λ (rs : List CommentRun). changes rs ended) (sym c.deref-then-are_steady.ensures.value)
          (all_steady runs ended first second (subst (λ (rs : List CommentRun). AreAlike rs first second) (sym c.self.view_is) same))),
    )

pub returns-else-are_steady : goal.returns-else-are_steady
returns-else-are_steady c =
    let runs : List CommentRun = c.self.inside.runs.items in
    let first : ℕ = c.args.first in
    let second : ℕ = c.args.second in
    let begun : List CommentRun = c.begun_between-begun.result.now in
    let changes : List CommentRun → List CommentRun → Type 0 = λ rs changed. All (λ run. IsSteady rs run.number first second) changed in (
      λ is. absurd (false≢true (sym c.if-are_steady.false ∙ is)),
      λ same.
          c.are_steady.ensures.1
          (subst (λ (rs : List CommentRun). changes rs begun) (sym c.deref-3.ensures.value)
          (all_steady runs begun first second (subst (λ (rs : List CommentRun). AreAlike rs first second) (sym c.self.view_is) same))),
    )

pub are_steady-requires-clause-among : goal.are_steady-requires-clause-among
are_steady-requires-clause-among c =
    let runs : List CommentRun = c.self.inside.runs.items in
    let begins : List CommentRun = c.self.inside.begins.items in
    λ run held.
    subst (λ (l : List CommentRun). Contains l run) (sym c.deref-3.ensures.value)
    (Contains-permutation begins runs run (IsPermutation-sym runs begins c.self.invariant.0.beginning.same)
    (subst (λ (l : List CommentRun). Contains l run) c.deref.ensures.value (c.begun_between-begun.ensures.among run held)))

pub are_steady-requires-then-are_steady-clause-among : goal.are_steady-requires-then-are_steady-clause-among
are_steady-requires-then-are_steady-clause-among c =
    let runs : List CommentRun = c.self.inside.runs.items in
    let ends : List CommentRun = c.self.inside.ends.items in
    λ run held.
    subst (λ (l : List CommentRun). Contains l run) (sym c.deref-then-are_steady.ensures.value)
    (Contains-permutation ends runs run (IsPermutation-sym runs ends c.self.invariant.0.ending.same)
    (subst (λ (l : List CommentRun). Contains l run) c.deref-2.ensures.value (c.ended_between-ended.ensures.among run held)))

pub returns-then-is_empty : goal.returns-then-is_empty
returns-then-is_empty c =
    let runs : List CommentRun = c.self.inside.runs.items in
    let begins : List CommentRun = c.self.inside.begins.items in
    let ends : List CommentRun = c.self.inside.ends.items in
    let first : ℕ = c.args.first in
    let second : ℕ = c.args.second in
    let begun : List CommentRun = c.begun_between-begun.result.now in
    let ended : List CommentRun = c.ended_between-ended.result.now in
    let orderly = c.self.invariant.0.orderly in
    let begins_same = c.self.invariant.0.beginning.same in
    let ends_same = c.self.invariant.0.ending.same in (
      λ is. absurd (false≢true is),
      λ alike.
          let same : AreAlike runs first second = subst (λ (rs : List CommentRun). AreAlike rs first second) (sym c.self.view_is) alike in
          absurd (⊎_elim
          (λ (one : (run : CommentRun) × Contains begun run × (ended ≡ [])).
          let held = subst (λ (l : List CommentRun). Contains l one.0) c.deref.ensures.value (c.begun_between-begun.ensures.among one.0 one.1) in
          let inside = c.begun_between-begun.ensures.inside one.0 one.1 in
          begun_alone runs first second c.requires orderly same one.0 (Contains-permutation begins runs one.0 (IsPermutation-sym runs begins begins_same) held) inside.0 inside.1
          (λ other among after upto.
          none_of ended other one.2
          (c.ended_between-ended.ensures.between other (subst (λ (l : List CommentRun). Contains l other) (sym c.deref-2.ensures.value) (Contains-permutation runs ends other ends_same among)) after upto)))
          (λ (one : (run : CommentRun) × Contains ended run × (begun ≡ [])).
          let held = subst (λ (l : List CommentRun). Contains l one.0) c.deref-2.ensures.value (c.ended_between-ended.ensures.among one.0 one.1) in
          let inside = c.ended_between-ended.ensures.inside one.0 one.1 in
          ended_alone runs first second c.requires orderly same one.0 (Contains-permutation ends runs one.0 (IsPermutation-sym runs ends ends_same) held) inside.0 inside.1
          (λ other among after upto.
          none_of begun other one.2
          (c.begun_between-begun.ensures.between other (subst (λ (l : List CommentRun). Contains l other) (sym c.deref.ensures.value) (Contains-permutation runs begins other begins_same among)) after upto)))
          (one_alone begun ended c.is_empty.result c.is_empty-2.result c.is_empty.ensures c.is_empty-2.ensures c.if-is_empty.true)),
    )
