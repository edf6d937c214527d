use Rattle.std.proofs.Common.{sym, ◌∙◌}
use Rattle.std.proofs.lemmas.Result.{IfOk-weaker}
use Rattle.change_store.proofs.ReadingLemmas.{reads_store, reads_only, kept_still, kept_read}
use Rattle.change_store.proofs.rows.read.Goals as goal

pub returns-clause-found : goal.returns-clause-found
returns-clause-found g c clean has =
    IfOk-weaker c.texts_of.result _ _ (λ texts is. reads_store _ _ _ texts.items has (c.in_ok-rows.ensures.ok clean) (sym c.as_slice.ensures.value ∙ is)) c.texts_of.ensures

pub returns-clause-same : goal.returns-clause-same
returns-clause-same g c clean has = IfOk-weaker c.texts_of.result _ _ (λ _ _. reads_only _ _ _ has (c.in_ok-rows.ensures.ok clean)) c.texts_of.ensures

pub returns-clause-kept : goal.returns-clause-kept
returns-clause-kept g c count before kept =
    IfOk-weaker c.texts_of.result _ _
    (λ texts is. kept_read _ _ count before _ c.query_all.ensures.survives.clean kept (λ clean. c.in_ok-rows.ensures.ok clean) texts.items (sym c.as_slice.ensures.value ∙ is)) c.texts_of.ensures

pub returns-clause-still : goal.returns-clause-still
returns-clause-still g c count before kept =
    IfOk-weaker c.texts_of.result _ _ (λ _ _. kept_still _ _ count before _ c.query_all.ensures.survives.clean kept (λ clean. c.in_ok-rows.ensures.ok clean)) c.texts_of.ensures
