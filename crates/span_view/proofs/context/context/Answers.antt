use Rattle.std.proofs.Common.{sym, ap}
use Rattle.span_context.specs.declared.context.Facts.{Facts}
use Rattle.span_view.specs.ContextOf.{link_of}
use Rattle.span_view.proofs.context.context.Goals as goal

pub returns-clause-fits : goal.returns-clause-fits
returns-clause-fits c =
    let told = c.facts.ensures.value in
    c.new.ensures.fits c.args.span.now.text (link_of c.args.span.now) (sym (ap (λ (f : Facts). f.text_len) told)) (sym (ap (λ (f : Facts). f.link_len) told))
