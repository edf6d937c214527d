use Rattle.std.proofs.Common.{◌≡◌, sym, ap, ◌∙◌}
use Rattle.change_history.specs.Chronicle.{Chronicle}
use Rattle.stored_history.specs.Stored.{Stored}
use Rattle.stored_history.proofs.Answering.{nothing_added}
use Rattle.stored_history.proofs.history.StoredHistory.accept.Goals as goal

pub returns-in-Ok-keep-clause-untouched : goal.returns-in-Ok-keep-clause-untouched
returns-in-Ok-keep-clause-untouched g c = λ same.
    let before : c.accept_all.new.history.changes ≡ c.self.inside.history.changes =
    ap (λ (h : Chronicle). h.changes) (sym c.in-Ok-keep.ensures.ok) ∙ same ∙ sym (ap (λ (s : Stored g.row.L.Denot). s.changes) c.self.view_is) in
    c.in-Ok-keep.ensures.none (c.deref.ensures.value ∙ nothing_added c.self.inside.history.changes c.accept_all.new.history.changes c.in-Ok.group.texts.items c.in-Ok.ensures.texts before)
    ∙ ap (λ (s : Stored g.row.L.Denot). s.log) c.self.view_is
