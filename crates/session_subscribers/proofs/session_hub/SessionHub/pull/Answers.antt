use Rattle.std.proofs.Common.{◌≡◌, get_or, sym, ap, subst, ◌∙◌}
use Rattle.session_subscribers.specs.Holding.{Held, index_in}
use Rattle.session_subscribers.proofs.Pulls.{none_pulled, pulled_ok, pulled_err}
use Rattle.session_subscribers.proofs.session_hub.SessionHub.pull.Goals as goal

pub returns-in_default-clause-ok : goal.returns-in_default-clause-ok
returns-in_default-clause-ok g c = none_pulled _ _ _ _ _ _ _ (sym (c.in_default.ensures ∙ ap (λ l. index_in l c.args.id) c.as_slice.ensures.value))

pub returns-clause-ok : goal.returns-clause-ok
returns-clause-ok g c =
    let held = c.args.held.now.items in
    let there = sym (c.in-Some.ensures ∙ ap (λ l. index_in l c.args.id) c.as_slice.ensures.value) in
    let read = subst (λ (z : Held). z ≡ get_or held c.in-Some.index z) (sym c.one.view_is) c.index_mut-one.ensures.value in
    pulled_ok c.pull_from-reply.result g.N.Naming.size _ _ _ c.args.id c.args.count c.in-Some.index held (record { id = c.one.inside.id; reader = c.one.inside.reader }) c.pull_from-reply.new.reader _ _
    there read c.pull_from-reply.ensures.ok

pub returns-clause-err : goal.returns-clause-err
returns-clause-err g c =
    let held = c.args.held.now.items in
    let there = sym (c.in-Some.ensures ∙ ap (λ l. index_in l c.args.id) c.as_slice.ensures.value) in
    let read = subst (λ (z : Held). z ≡ get_or held c.in-Some.index z) (sym c.one.view_is) c.index_mut-one.ensures.value in
    pulled_err c.pull_from-reply.result g.N.Naming.size _ _ c.args.id c.args.count c.in-Some.index held (record { id = c.one.inside.id; reader = c.one.inside.reader }) c.pull_from-reply.new.reader _ _
    there read c.pull_from-reply.ensures.err
