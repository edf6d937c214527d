use Rattle.std.proofs.Common.{◌≡◌, ◌∙◌, ◌-◌, ◌≤◌, ◌⊎◌, inl, inr, ℕ, List, length, get_or, sym, arith}
use Rattle.std.proofs.lemmas.Bool.{leb-true, ltb-true}
use Rattle.mark_anchors.specs.CommentLists.{end_of}
use Rattle.mark_anchors.specs.declared.comment_runs.CommentRun.{CommentRun}
use Rattle.mark_anchors.proofs.Nearby.{runs_before, runs_behind, runs_counted}
use Rattle.mark_anchors.proofs.comment_table.is_ended_up_to.Goals as goal
use Rattle.mark_anchors.proofs.comment_table.is_ended_up_to.Goals.{then-count-ends+then-count-eq0, then-count-ends+else-count-eq0, else-count-ends}

pub returns-then-count-ends-2-clause-count : goal.returns-then-count-ends-2-clause-count
returns-then-count-ends-2-clause-count c =
    let runs : List CommentRun = c.args.ends.now in
    let place : ℕ = c.args.place in
    let count : ℕ = c.args.count in
    let within : count ≤ length runs = omega arith in
    let before : (count ≡ 0) ⊎ ((e : CommentRun) × (end_of (get_or runs (count - 1) e) ≤ place)) =
    elim c.if-count-ends.branch [
      | then-count-ends+then-count-eq0 w ↦ let none = w.if-count-eq0.true in inl (omega arith)
      | then-count-ends+else-count-eq0 w ↦ inr (w.index-ends-count.result, leb-true _ _ (sym w.value-is ∙ c.if-ends-count.true))
      | else-count-ends w ↦ absurd (let past = w.if-count-ends.false in omega arith)
    ] in
    λ told.
    runs_counted end_of runs c.requires place count within
    (runs_before end_of runs c.requires place count within before)
    (runs_behind end_of runs c.requires place count within (inl (omega arith)))

pub returns-then-count-ends-2-clause-first : goal.returns-then-count-ends-2-clause-first
returns-then-count-ends-2-clause-first c =
    let runs : List CommentRun = c.args.ends.now in
    let place : ℕ = c.args.place in
    let count : ℕ = c.args.count in
    let within : count ≤ length runs = omega arith in
    let before : (count ≡ 0) ⊎ ((e : CommentRun) × (end_of (get_or runs (count - 1) e) ≤ place)) =
    elim c.if-count-ends.branch [
      | then-count-ends+then-count-eq0 w ↦ let none = w.if-count-eq0.true in inl (omega arith)
      | then-count-ends+else-count-eq0 w ↦ inr (w.index-ends-count.result, leb-true _ _ (sym w.value-is ∙ c.if-ends-count.true))
      | else-count-ends w ↦ absurd (let past = w.if-count-ends.false in omega arith)
    ] in
    λ told. runs_before end_of runs c.requires place count within before

pub returns-else-count-ends-2-clause-count : goal.returns-else-count-ends-2-clause-count
returns-else-count-ends-2-clause-count c =
    let runs : List CommentRun = c.args.ends.now in
    let place : ℕ = c.args.place in
    let count : ℕ = c.args.count in
    let within : count ≤ length runs = omega arith in
    let before : (count ≡ 0) ⊎ ((e : CommentRun) × (end_of (get_or runs (count - 1) e) ≤ place)) =
    elim c.if-count-ends.branch [
      | then-count-ends+then-count-eq0 w ↦ let none = w.if-count-eq0.true in inl (omega arith)
      | then-count-ends+else-count-eq0 w ↦ inr (w.index-ends-count.result, leb-true _ _ (sym w.value-is ∙ c.if-ends-count.true))
      | else-count-ends w ↦ absurd (let past = w.if-count-ends.false in omega arith)
    ] in
    λ told.
    runs_counted end_of runs c.requires place count within
    (runs_before end_of runs c.requires place count within before)
    (runs_behind end_of runs c.requires place count within (inr (c.index-ends-count-else-count-ends-2.result, ltb-true place _ told)))

pub returns-else-count-ends-2-clause-first : goal.returns-else-count-ends-2-clause-first
returns-else-count-ends-2-clause-first c =
    let runs : List CommentRun = c.args.ends.now in
    let place : ℕ = c.args.place in
    let count : ℕ = c.args.count in
    let within : count ≤ length runs = omega arith in
    let before : (count ≡ 0) ⊎ ((e : CommentRun) × (end_of (get_or runs (count - 1) e) ≤ place)) =
    elim c.if-count-ends.branch [
      | then-count-ends+then-count-eq0 w ↦ let none = w.if-count-eq0.true in inl (omega arith)
      | then-count-ends+else-count-eq0 w ↦ inr (w.index-ends-count.result, leb-true _ _ (sym w.value-is ∙ c.if-ends-count.true))
      | else-count-ends w ↦ absurd (let past = w.if-count-ends.false in omega arith)
    ] in
    λ told. runs_before end_of runs c.requires place count within before

pub returns-else-count-ends-2-clause-rest : goal.returns-else-count-ends-2-clause-rest
returns-else-count-ends-2-clause-rest c =
    let runs : List CommentRun = c.args.ends.now in
    let place : ℕ = c.args.place in
    let count : ℕ = c.args.count in
    let within : count ≤ length runs = omega arith in
    λ told. runs_behind end_of runs c.requires place count within (inr (c.index-ends-count-else-count-ends-2.result, ltb-true place _ told))
