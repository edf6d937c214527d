use Rattle.std.proofs.Common.{◌≡◌, ◌+◌, ◌%◌, ◌/◌, ◌*◌, ◌^◌, ℕ, subst, ap, ◌∙◌, arith}
use Rattle.std.proofs.lemmas.Option.{IfSome_then}
use Rattle.span_context.specs.declared.size.Size.{Size}
use Rattle.semantics.specs.Memory.{stack_base, bytes_in, load}
use Rattle.abstract_state.specs.declared.known.Known.{Known}
use Rattle.abstract_state.specs.Known.{ContainsKnown}
use Rattle.abstract_state.specs.State.{lengths_of, bytes_of, HasNumber}
use Rattle.abstract_state.proofs.Addresses.{known_fits}
use Rattle.abstract_state.proofs.Memories.{loads_back}
use Rattle.abstract_state.specs.declared.slot.Slot.TheVariants.{Spilled}
use Rattle.abstract_state.specs.State.{slot_at}
use Rattle.abstract_state.specs.Frame.{IsMarkedAt}
use Rattle.abstract_state.proofs.Frames.{stack_byte_of, spilled_number}
use Rattle.abstract_state.proofs.state.AbsState.fill.Goals as goal

pub returns-clause-sound : goal.returns-clause-sound
returns-clause-sound c = IfSome_then c.filled.result c.filled.ensures.contains
    (λ k h span s n a b.
    let base_is = subst (λ (v : Known). ContainsKnown v (lengths_of span) n) c.in-Stack-Double.is-0 b in
    let held = h (lengths_of span) (bytes_of s.stack) a.stack in
    let at = c.in-Ok.ensures.at stack_base (omega arith) in
    let whole : 8 * (c.in-Ok.p / 8) ≡ c.in-Ok.p = omega (arith, c.if-p-ne0.false) in
    let address = ap (λ (m : ℕ). (m + c.args.offset) % 2 ^ 64) base_is ∙ at in
    let bytes = subst (λ (m : ℕ). HasNumber (bytes_of s.stack) m held.0) whole held.2 in
    let eight = loads_back span s.stack _ c.in-Ok.p held.0 address c.in-Ok.ensures.within bytes (known_fits k (lengths_of span) held.0 held.1) in
    (held.0, ap (λ (z : Size). load span.bytes s.stack ((n + c.args.offset) % 2 ^ 64) (bytes_in z)) c.in-Stack-Double.is-1 ∙ eight, held.1))

pub returns-in_default-clause-spilled : goal.returns-in_default-clause-spilled
returns-in_default-clause-spilled c = λ i known h less z is. absurd (c.in_default.not-Double-1 z)

pub returns-in_default-offset_in_stack-clause-spilled : goal.returns-in_default-offset_in_stack-clause-spilled
returns-in_default-offset_in_stack-clause-spilled c = λ i known h less z is.
    let bad = c.in_default-offset_in_stack.ensures.floor (8 * i) (stack_byte_of (8 * i) c.args.offset c.args.base c.in-Stack-Double.address c.in-Stack-Double.is-0 h) (omega arith) in absurd (cc)

pub returns-then-p-ne0-clause-spilled : goal.returns-then-p-ne0-clause-spilled
returns-then-p-ne0-clause-spilled c = λ i known h less z is.
    let found = c.in-Ok.ensures.floor (8 * i) (stack_byte_of (8 * i) c.args.offset c.args.base c.in-Stack-Double.address c.in-Stack-Double.is-0 h) (omega arith) in
    let same : c.in-Ok.p ≡ 8 * i = cc in
    absurd (omega (arith, same, c.if-p-ne0.true))

pub returns-clause-spilled : goal.returns-clause-spilled
returns-clause-spilled c = λ i known h less z is.
    let found = c.in-Ok.ensures.floor (8 * i) (stack_byte_of (8 * i) c.args.offset c.args.base c.in-Stack-Double.address c.in-Stack-Double.is-0 h) (omega arith) in
    let same : c.in-Ok.p ≡ 8 * i = cc in
    let slot : i ≡ c.in-Ok.p / 8 = omega (arith, same) in
    c.filled.ensures.there known (subst (λ (n : ℕ). slot_at c.args.self.now.stack n ≡ Spilled known) slot is)

pub returns-clause-marked : goal.returns-clause-marked
returns-clause-marked c = λ p h m.
    let eight : bytes_in c.args.size ≡ 8 = ap (λ (z : Size). bytes_in z) c.in-Stack-Double.is-1 in
    let found = c.in-Ok.ensures.floor p (stack_byte_of p c.args.offset c.args.base c.in-Stack-Double.address c.in-Stack-Double.is-0 h) (omega (arith, eight, m.within)) in
    let same : c.in-Ok.p ≡ p = cc in
    let first : IsMarkedAt c.args.self.now.stack c.in-Ok.p = subst (λ (n : ℕ). IsMarkedAt c.args.self.now.stack n) (omega (arith, same)) (m.marked 0 (omega (arith, eight))) in
    spilled_number c.filled.result (slot_at c.args.self.now.stack (c.in-Ok.p / 8)) (c.in-Ok.p % 8) c.filled.ensures.spilled first
