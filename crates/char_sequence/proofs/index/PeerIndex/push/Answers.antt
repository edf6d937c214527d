use Rattle.std.proofs.Common.{sym, ◌∙◌, subst, ap}
use Rattle.char_sequence.specs.Named.{name_among}
use Rattle.char_sequence.proofs.Naming.{IsAboveNamed, rising_pushed, push_named, push_others}
use Rattle.char_sequence.proofs.index.PeerIndex.push.Goals as goal

pub invariant_of-self : goal.invariant_of-self
invariant_of-self c =
    let above = subst (λ v. IsAboveNamed v.counters v.names c.args.counter) (sym c.self.view_is) c.requires.above in
    rising_pushed _ _ _ _ c.args.counter c.args.name c.self.invariant above c.push_reserved.ensures.items c.push_reserved-2.ensures.items

pub returns-clause-here : goal.returns-clause-here
returns-clause-here c =
    let above = subst (λ v. IsAboveNamed v.counters v.names c.args.counter) (sym c.self.view_is) c.requires.above in
    push_named _ _ _ _ c.args.counter c.args.name c.self.invariant above c.push_reserved.ensures.items c.push_reserved-2.ensures.items

pub returns-clause-others : goal.returns-clause-others
returns-clause-others c =
    λ q off.
    push_others _ _ _ _ c.args.counter c.args.name c.self.invariant c.push_reserved.ensures.items c.push_reserved-2.ensures.items q off ∙ ap (λ v. name_among v.counters v.names q) c.self.view_is
