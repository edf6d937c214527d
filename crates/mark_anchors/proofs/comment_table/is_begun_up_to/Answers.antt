use Rattle.std.proofs.Common.{◌≡◌, ◌∙◌, ◌-◌, ◌≤◌, ◌⊎◌, inl, inr, ℕ, List, length, get_or, sym, arith}
use Rattle.std.proofs.lemmas.Bool.{leb-true, ltb-true}
use Rattle.mark_anchors.specs.CommentLists.{begin_of}
use Rattle.mark_anchors.specs.declared.comment_runs.CommentRun.{CommentRun}
use Rattle.mark_anchors.proofs.Nearby.{runs_before, runs_behind, runs_counted}
use Rattle.mark_anchors.proofs.comment_table.is_begun_up_to.Goals as goal
use Rattle.mark_anchors.proofs.comment_table.is_begun_up_to.Goals.{then-count-begins+then-count-eq0, then-count-begins+else-count-eq0, else-count-begins}

pub returns-then-count-begins-2-clause-count : goal.returns-then-count-begins-2-clause-count
returns-then-count-begins-2-clause-count c =
    let runs : List CommentRun = c.args.begins.now in
    let place : ℕ = c.args.place in
    let count : ℕ = c.args.count in
    let within : count ≤ length runs = omega arith in
    let before : (count ≡ 0) ⊎ ((e : CommentRun) × (begin_of (get_or runs (count - 1) e) ≤ place)) =
    elim c.if-count-begins.branch [
      | then-count-begins+then-count-eq0 w ↦ let none = w.if-count-eq0.true in inl (omega arith)
      | then-count-begins+else-count-eq0 w ↦ inr (w.index-begins-count.result, leb-true _ _ (sym w.value-is ∙ c.if-begins-count.true))
      | else-count-begins w ↦ absurd (let past = w.if-count-begins.false in omega arith)
    ] in
    λ told.
    runs_counted begin_of runs c.requires place count within
    (runs_before begin_of runs c.requires place count within before)
    (runs_behind begin_of runs c.requires place count within (inl (omega arith)))

pub returns-then-count-begins-2-clause-first : goal.returns-then-count-begins-2-clause-first
returns-then-count-begins-2-clause-first c =
    let runs : List CommentRun = c.args.begins.now in
    let place : ℕ = c.args.place in
    let count : ℕ = c.args.count in
    let within : count ≤ length runs = omega arith in
    let before : (count ≡ 0) ⊎ ((e : CommentRun) × (begin_of (get_or runs (count - 1) e) ≤ place)) =
    elim c.if-count-begins.branch [
      | then-count-begins+then-count-eq0 w ↦ let none = w.if-count-eq0.true in inl (omega arith)
      | then-count-begins+else-count-eq0 w ↦ inr (w.index-begins-count.result, leb-true _ _ (sym w.value-is ∙ c.if-begins-count.true))
      | else-count-begins w ↦ absurd (let past = w.if-count-begins.false in omega arith)
    ] in
    λ told. runs_before begin_of runs c.requires place count within before

pub returns-else-count-begins-2-clause-count : goal.returns-else-count-begins-2-clause-count
returns-else-count-begins-2-clause-count c =
    let runs : List CommentRun = c.args.begins.now in
    let place : ℕ = c.args.place in
    let count : ℕ = c.args.count in
    let within : count ≤ length runs = omega arith in
    let before : (count ≡ 0) ⊎ ((e : CommentRun) × (begin_of (get_or runs (count - 1) e) ≤ place)) =
    elim c.if-count-begins.branch [
      | then-count-begins+then-count-eq0 w ↦ let none = w.if-count-eq0.true in inl (omega arith)
      | then-count-begins+else-count-eq0 w ↦ inr (w.index-begins-count.result, leb-true _ _ (sym w.value-is ∙ c.if-begins-count.true))
      | else-count-begins w ↦ absurd (let past = w.if-count-begins.false in omega arith)
    ] in
    λ told.
    runs_counted begin_of runs c.requires place count within
    (runs_before begin_of runs c.requires place count within before)
    (runs_behind begin_of runs c.requires place count within (inr (c.index-begins-count-else-count-begins-2.result, ltb-true place _ told)))

pub returns-else-count-begins-2-clause-first : goal.returns-else-count-begins-2-clause-first
returns-else-count-begins-2-clause-first c =
    let runs : List CommentRun = c.args.begins.now in
    let place : ℕ = c.args.place in
    let count : ℕ = c.args.count in
    let within : count ≤ length runs = omega arith in
    let before : (count ≡ 0) ⊎ ((e : CommentRun) × (begin_of (get_or runs (count - 1) e) ≤ place)) =
    elim c.if-count-begins.branch [
      | then-count-begins+then-count-eq0 w ↦ let none = w.if-count-eq0.true in inl (omega arith)
      | then-count-begins+else-count-eq0 w ↦ inr (w.index-begins-count.result, leb-true _ _ (sym w.value-is ∙ c.if-begins-count.true))
      | else-count-begins w ↦ absurd (let past = w.if-count-begins.false in omega arith)
    ] in
    λ told. runs_before begin_of runs c.requires place count within before

pub returns-else-count-begins-2-clause-rest : goal.returns-else-count-begins-2-clause-rest
returns-else-count-begins-2-clause-rest c =
    let runs : List CommentRun = c.args.begins.now in
    let place : ℕ = c.args.place in
    let count : ℕ = c.args.count in
    let within : count ≤ length runs = omega arith in
    λ told. runs_behind begin_of runs c.requires place count within (inr (c.index-begins-count-else-count-begins-2.result, ltb-true place _ told))
