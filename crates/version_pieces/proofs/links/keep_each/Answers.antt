use Rattle.std.proofs.Common.{◌≡◌, ◌∙◌, ℕ, ◌<◌, ◌≤◌, List, Some, length, refl, sym, subst, arith, ⊎_elim}
use Rattle.std.specs.List.{slice_get}
use Rattle.std.proofs.lemmas.Bool.{cases_lt}
use Rattle.std.proofs.lemmas.Option.{same_Some, slice_get_read, slice_get_within}
use Rattle.format_runs.specs.Runs.{Run}
use Rattle.version_pieces.specs.Links.{IsLinked}
use Rattle.version_pieces.proofs.links.keep_each.Goals as goal

pub loop-run-preserved : goal.loop-run-preserved
loop-run-preserved c i run less is =
    let runs : List Run = c.args.runs.now in
    let at : ℕ = c.loop-run.run-index in
    let item : Run = c.run-item.result in
    let here : slice_get runs at ≡ Some item = slice_get_read runs (length runs) at item refl c.loop-run-test.true c.run-item.is in
    ⊎_elim
    (λ (earlier : i < at). c.loop-run.invariant i run earlier is)
    (λ (last : at ≤ i).
    let e : at ≡ i = omega arith in
    subst (λ (r : Run). IsLinked r.format) (same_Some item run (sym (subst (λ (k : ℕ). slice_get runs k ≡ Some item) e here) ∙ is)) (subst IsLinked c.format.ensures c.keeps_link.ensures))
    (cases_lt i at)

pub returns : goal.returns
returns c i run is =
    let within : i < length c.args.runs.now = slice_get_within c.args.runs.now i run is in
    c.loop-run.invariant i run (omega (arith, c.loop-run-test.false)) is
