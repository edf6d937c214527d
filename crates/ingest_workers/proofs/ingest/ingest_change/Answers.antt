use Rattle.std.proofs.Common.{sym, ap, ◌∙◌}
use Rattle.std.proofs.lemmas.Result.{err_from_is_err_and}
use Rattle.span_flatten.specs.Version.{Version}
use Rattle.core_history.specs.Shares.{accepted_count}
use Rattle.ingest_workers.proofs.Numbers.{numbered}
use Rattle.ingest_workers.proofs.ingest.ingest_change.Goals as goal

pub returns-in_err-token-clause-call : goal.returns-in_err-token-clause-call
returns-in_err-token-clause-call g c =
    let p = err_from_is_err_and c.from_residual.result c.from_residual.ensures.1 in rw (p.1, p.2) c.in_err-token.ensures.call

pub returns-clause-call : goal.returns-clause-call
returns-clause-call g c =
    (c.in_ok-token.token, sym (c.number.ensures ∙ ap (λ (v : Version). v.number) c.look.ensures), c.in_ok-token.ensures.call)

pub returns-clause-numbered : goal.returns-clause-numbered
returns-clause-numbered g c =
    numbered g.N.Naming.size c.deref_mut.result.now.core c.submit.new.self.core _ _ c.args.change c.in_ok-token.token c.number.result (accepted_count c.submit.new.share) c.in_ok-token.ensures.event
    (c.number.ensures ∙ ap (λ (v : Version). v.number) c.look.ensures) c.in_ok-token.ensures.call c.in_ok-token.ensures.within
