-- Runs that a search for a place passes over, and what is left behind the one that it finds.
use Rattle.std.proofs.Common.{◌≡◌, ℕ, zero, suc, ◌+◌, ◌-◌, ◌<◌, false, List, [], ◌∷◌, Some, length, drop, take, get_or, sym, ap, ◌∙◌, arith}
use Rattle.std.specs.List.{slice_get}
use Rattle.std.proofs.lemmas.List.{take_rest}
use Rattle.std.proofs.lemmas.Option.{same_Some, none-some}
use Rattle.mark_anchors.specs.CommentRuns.{has_place, numbers_at}
use Rattle.mark_anchors.specs.declared.comment_runs.CommentRun.{CommentRun}
use Rattle.mark_anchors.proofs.Lists.{read_at}
use Rattle.mark_anchors.proofs.Running.{numbers_past}

passed : (runs : List CommentRun) (i : ℕ) (run : CommentRun) (place : ℕ) → slice_get runs i ≡ Some run → has_place run place ≡ false → numbers_at (drop i runs) place ≡ numbers_at (drop (suc i) runs) place
passed [] i run place g not = absurd (none-some run g)
passed (first ∷ runs) zero run place g not =
    let same : first ≡ run = same_Some first run g in
    numbers_past first runs place (ap (λ z. has_place z place) same ∙ not)
passed (first ∷ runs) (suc i) run place g not = passed runs i run place g not

-- a run that doesn't have the place
pub run_passed : (runs : List CommentRun) (i : ℕ) (run : CommentRun) (place : ℕ) → slice_get runs i ≡ Some run → has_place run place ≡ false → numbers_at (drop i runs) place ≡ numbers_at (drop (i + 1) runs) place
run_passed runs i run place g not =
    let next : suc i ≡ i + 1 = omega arith in
    passed runs i run place g not ∙ ap (λ k. numbers_at (drop k runs) place) next

-- what is left behind a run that has the place, as the part of a slice
pub numbers_rest : (runs : List CommentRun) (place k : ℕ) (run : CommentRun) → run ≡ get_or runs k run → k < length runs → ((r : CommentRun) → slice_get runs k ≡ Some r → numbers_at runs place ≡ r.number ∷ numbers_at (drop (k + 1) runs) place) → numbers_at runs place ≡ run.number ∷ numbers_at (take (length runs - (k + 1)) (drop (k + 1) runs)) place
numbers_rest runs place k run is within found =
    found run (read_at runs k run is within) ∙ ap (λ (l : List CommentRun). run.number ∷ numbers_at l place) (sym (take_rest runs (k + 1)))
