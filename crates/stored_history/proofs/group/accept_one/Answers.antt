use Rattle.std.proofs.Common.{map, ◌++◌, ◌∷◌, [], sym, ap, ◌∙◌}
use Rattle.change_ops.specs.Spelling.{change_text}
use Rattle.change_history.specs.Chronicle.{Chronicle}
use Rattle.stored_history.proofs.Answering.{refused_answered, texts_grow}
use Rattle.stored_history.proofs.group.accept_one.Goals as goal

pub returns-in_err-accept_spelled-clause-answered : goal.returns-in_err-accept_spelled-clause-answered
returns-in_err-accept_spelled-clause-answered c =
    refused_answered c.args.history.now.size c.from_residual.result c.args.history.now.changes c.accept_spelled.new.self.changes c.args.change c.in_err-accept_spelled.field-0.0 c.from_residual.ensures.1 c.in_err-accept_spelled.ensures.1 (ap (λ (h : Chronicle). h.changes) c.in_err-accept_spelled.ensures.0)

pub returns-in_err-accept_spelled-clause-texts : goal.returns-in_err-accept_spelled-clause-texts
returns-in_err-accept_spelled-clause-texts c = λ before all.
    ap (λ ts. before ++ ts) c.in-Ok.ensures.same ∙ all ∙ ap (λ cs. map change_text cs) (sym (ap (λ (h : Chronicle). h.changes) c.in_err-accept_spelled.ensures.0))

pub accept_spelled-requires : goal.accept_spelled-requires
accept_spelled-requires c = record { spelled = c.in-Ok-again.ensures ∙ c.in-Ok.ensures.written.0.1 }

pub returns-clause-texts : goal.returns-clause-texts
returns-clause-texts c = λ before all.
    texts_grow before c.args.texts.now.items c.push_reserved.new.self.items c.in-Ok.written.text c.args.history.now.changes c.accept_spelled.new.self.changes c.args.change all
    (c.push_reserved.ensures.items ∙ ap (λ ts. ts ++ c.in-Ok.written.text ∷ []) c.in-Ok.ensures.same) c.in-Ok.ensures.written.0 (ap (λ (h : Chronicle). h.changes) c.in_ok-accept_spelled.ensures.0)
