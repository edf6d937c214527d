use Rattle.std.proofs.Common.{◌≡◌, ◌≤◌, ◌+◌, ◌%◌, ◌^◌, ℕ, subst, sym, ap, ◌∙◌, rules, arith}
use Rattle.std.specs.Bool.{IsTrue}
use Rattle.std.proofs.lemmas.Result.{IfOk-weaker}
use Rattle.span_context.specs.Profile.{context_length}
use Rattle.span_context.specs.declared.profile.Profile.{Profile}
use Rattle.semantics.specs.Memory.{stack_base}
use Rattle.abstract_state.specs.declared.known.Known.{Known}
use Rattle.abstract_state.specs.Known.{ContainsKnown}
use Rattle.abstract_state.specs.State.{lengths_of, bytes_of}
use Rattle.abstract_state.proofs.Memories.{loads_lent, loads_set, loads_field, number_fits}
use Rattle.abstract_state.specs.Frame.{IsMarkedAt}
use Rattle.abstract_state.specs.Addresses.{content_of}
use Rattle.abstract_state.specs.Stacks.{slots_of}
use Rattle.abstract_state.specs.Situation.{least_of}
use Rattle.abstract_state.specs.Loading.{readable}
use Rattle.abstract_state.proofs.Frames.{address_is, stack_byte_of}
use Rattle.abstract_state.proofs.state.AbsState.bytes.Goals as goal

pub returns-then-reaches-clause-sound : goal.returns-then-reaches-clause-sound
returns-then-reaches-clause-sound c = λ span s n profile a k.
    let address = subst (λ (v : Known). ContainsKnown v (lengths_of span) n) c.in-Lent.is k in
    let yes : IsTrue c.reaches.result = search rules in
    let there = c.reaches.ensures.sound yes (lengths_of span) address.0 a.bounds address.2 in
    loads_lent span s.stack c.in-Lent.address.region _ there.0 c.args.count (ap (λ (m : ℕ). (m + c.args.offset) % 2 ^ 64) address.1 ∙ there.1) there.2

pub returns-in-Context-clause-sound : goal.returns-in-Context-clause-sound
returns-in-Context-clause-sound c = IfOk-weaker c.part_of_context.result _ _
    (λ done at span s n profile a k.
    let address = at span n profile (subst (λ (v : Known). ContainsKnown v (lengths_of span) n) c.in-Context.is k) in
    let within = subst (λ (p : Profile). address.0 + c.args.count ≤ context_length p) (sym profile) address.2 in
    (_, loads_field span s.stack _ address.0 c.args.count address.1 within, number_fits c.args.count address.0 span.bytes.context span.whole.context_bytes))
    c.part_of_context.ensures.sound

pub returns-in-Context-clause-rule : goal.returns-in-Context-clause-rule
returns-in-Context-clause-rule c =
    let slots = slots_of c.args.self.now.stack in
    let least = least_of c.args.self.now.bounds in
    c.part_of_context.ensures.rule slots least ∙ ap (λ (k : Known). readable c.args.profile slots least (content_of k) c.args.offset c.args.count) (sym c.in-Context.is)

pub returns-then-are_set-clause-sound : goal.returns-then-are_set-clause-sound
returns-then-are_set-clause-sound c = λ span s n profile a k.
    let base_is = subst (λ (v : Known). ContainsKnown v (lengths_of span) n) c.in-Stack.is k in
    let yes : IsTrue c.are_set.result = search rules in
    let at = c.in_ok-p-in-Stack.ensures.at stack_base (omega arith) in
    loads_set span s.stack _ c.in_ok-p-in-Stack.p c.args.count (ap (λ (m : ℕ). (m + c.args.offset) % 2 ^ 64) base_is ∙ at) c.in_ok-p-in-Stack.ensures.within
    (c.are_set.ensures.contains yes (lengths_of span) (bytes_of s.stack) a.stack)

pub returns-in-Number-clause-stack : goal.returns-in-Number-clause-stack
returns-in-Number-clause-stack c = λ p h m. let address = address_is p c.args.offset c.args.base h in let bad = sym c.in-Number.is ∙ address.1 in absurd (cc)

pub returns-in-Context-clause-stack : goal.returns-in-Context-clause-stack
returns-in-Context-clause-stack c = λ p h m. let address = address_is p c.args.offset c.args.base h in let bad = sym c.in-Context.is ∙ address.1 in absurd (cc)

pub returns-else-reaches-clause-stack : goal.returns-else-reaches-clause-stack
returns-else-reaches-clause-stack c = λ p h m. let address = address_is p c.args.offset c.args.base h in let bad = sym c.in-Lent.is ∙ address.1 in absurd (cc)

pub returns-in_err-p-in-Stack-clause-stack : goal.returns-in_err-p-in-Stack-clause-stack
returns-in_err-p-in-Stack-clause-stack c = λ p h m.
    let bad = c.in_err-p-in-Stack.ensures.floor p (stack_byte_of p c.args.offset c.args.base c.in-Stack.address c.in-Stack.is h) m.within in absurd (cc)

pub returns-else-are_set-clause-stack : goal.returns-else-are_set-clause-stack
returns-else-are_set-clause-stack c = λ p h m.
    let found = c.in_ok-p-in-Stack.ensures.floor p (stack_byte_of p c.args.offset c.args.base c.in-Stack.address c.in-Stack.is h) m.within in
    let same : c.in_ok-p-in-Stack.p ≡ p = cc in
    let yes : IsTrue c.are_set.result = c.are_set.ensures.marked (λ j b. subst (λ (i : ℕ). IsMarkedAt c.args.self.now.stack (i + j)) (sym same) (m.marked j b)) in
    search rules
