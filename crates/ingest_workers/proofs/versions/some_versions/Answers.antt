use Rattle.std.proofs.Common.{◌≡◌, ◌+◌, ◌∙◌, ◌∷◌, ◌++◌, [], Some, sym, ap, arith, slice_get}
use Rattle.std.proofs.lemmas.Option.{slice_get_within}
use Rattle.ingest_workers.proofs.Looking.{take_next}
use Rattle.ingest_workers.proofs.versions.some_versions.Goals as goal

pub loop-index-preserved : goal.loop-index-preserved
loop-index-preserved g c =
    let from = c.args.from in
    let index = c.loop-index.index in
    let versions = c.args.core.now.versions in
    let here : slice_get versions (from + index) ≡ Some c.in-Some.token = sym c.in-Some.ensures in
    record {
      some = c.in_ok-push.ensures.items ∙ ap (λ l. l ++ c.in-Some.token ∷ []) c.loop-index.invariant.some ∙ take_next from index versions c.in-Some.token here;
      few = omega (arith, slice_get_within versions (from + index) c.in-Some.token here);
    }
