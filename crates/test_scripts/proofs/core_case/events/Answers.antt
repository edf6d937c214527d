use Rattle.std.proofs.Common.{◌≡◌, None, [], ◌∷◌, ◌++◌, All, sym, subst}
use Rattle.std.proofs.lemmas.List.Elements.{All-push}
use Rattle.feeds.specs.Orderly.{ListSink}
use Rattle.hub_core.specs.Runs.{IsFreshEvent}
use Rattle.test_scripts.proofs.core_case.events.Goals as goal

pub loop-line-preserved-then-eq : goal.loop-line-preserved-then-eq
loop-line-preserved-then-eq g c =
    let more : c.push_event.new.events.items ≡ c.loop-line.events.items ++ c.in-Ok.event ∷ [] = c.in_ok-push_event.ensures in
    subst (All (IsFreshEvent (λ (s : ListSink). s.sent) (λ (s : ListSink). None) g.N.Naming.size)) (sym more) (All-push (IsFreshEvent (λ (s : ListSink). s.sent) (λ (s : ListSink). None) g.N.Naming.size) c.loop-line.events.items c.in-Ok.event c.loop-line.invariant c.in-Ok.ensures)

pub loop-line-preserved : goal.loop-line-preserved
loop-line-preserved g c =
    let more : c.push_event.new.events.items ≡ c.loop-line.events.items ++ c.in-Ok.event ∷ [] = c.in_ok-push_event.ensures in
    subst (All (IsFreshEvent (λ (s : ListSink). s.sent) (λ (s : ListSink). None) g.N.Naming.size)) (sym more) (All-push (IsFreshEvent (λ (s : ListSink). s.sent) (λ (s : ListSink). None) g.N.Naming.size) c.loop-line.events.items c.in-Ok.event c.loop-line.invariant c.in-Ok.ensures)
