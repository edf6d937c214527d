use Rattle.std.proofs.Common.{◌≡◌, ◌+◌, ◌%◌, ◌/◌, ◌*◌, ◌≤◌, ◌^◌, ℕ, List, Option, Ok, false, refl, subst, ap, ◌∙◌, sym, rules, arith}
use Rattle.semantics.specs.Memory.{stack_base, bytes_in, store, stored}
use Rattle.abstract_state.specs.declared.known.Known.{Known}
use Rattle.abstract_state.specs.Known.{ContainsKnown}
use Rattle.abstract_state.specs.State.{lengths_of, bytes_of, Bytes, HasNumber, Contains, Spares, with_stack}
use Rattle.abstract_state.specs.declared.refusal.Refusal.TheVariants as refusal
use Rattle.abstract_state.specs.Known.{IsNumber}
use Rattle.abstract_state.specs.Stacks.{slots_of}
use Rattle.abstract_state.specs.Addresses.{content_of}
use Rattle.abstract_state.specs.Loading.{is_whole}
use Rattle.abstract_state.proofs.Loading.{number_written, elsewhere_written, is_whole_true, whole_stored, part_stored, address_stored, not_whole_place, not_whole_count, leaves_ok, leaves_err, leaves_same}
use Rattle.abstract_state.proofs.Loads.{stores_stack}
use Rattle.abstract_state.proofs.Memories.{after_store, store_spares, store_fills, store_number}
use Rattle.std.specs.Bool.{IsTrue}
use Rattle.span_context.specs.declared.size.Size.{Size}
use Rattle.abstract_state.specs.Frame.{StoresSlots, SpillsSlot}
use Rattle.abstract_state.proofs.Frames.{address_is, stack_byte_of, no_number, spill_stores}
use Rattle.abstract_state.proofs.state.AbsState.store.Goals.{else-count-eq8-via-then-count-eq8+else-p-eq0, else-count-eq8-via-else-count-eq8}
use Rattle.abstract_state.proofs.state.AbsState.store.Goals as goal

pub returns-then-p-eq0-clause-sound : goal.returns-then-p-eq0-clause-sound
returns-then-p-eq0-clause-sound c = λ span s n v a kb kv.
    let base_is = subst (λ (k : Known). ContainsKnown k (lengths_of span) n) c.in-Stack.is kb in
    let eight : 8 ≡ bytes_in c.args.size = sym c.if-count-eq8.true ∙ c.count-count.ensures.value in
    let within : c.in_ok-p.p + 8 ≤ 512 = omega (arith, c.in_ok-p.ensures.within, c.if-count-eq8.true) in
    let address = ap (λ (m : ℕ). (m + c.args.offset) % 2 ^ 64) base_is ∙ c.in_ok-p.ensures.at stack_base (omega arith) in
    let whole : 8 * (c.in_ok-p.p / 8) ≡ c.in_ok-p.p = omega (arith, c.if-p-eq0.true) in
    let new : Bytes = bytes_of (stored s.stack c.in_ok-p.p 8 v) in
    let slots = c.spill.ensures.contains (lengths_of span) (bytes_of s.stack) new v a.stack kv
    (subst (λ (m : ℕ). HasNumber new m v) (sym whole) (store_number s.stack c.in_ok-p.p v a.long within))
    (subst (λ (m : ℕ). Spares m 8 (bytes_of s.stack) new) (sym whole) (store_spares s.stack c.in_ok-p.p 8 v a.long within)) in
    subst (λ (k : ℕ). (x : List (Option ℕ)) × (store span.bytes s.stack ((n + c.args.offset) % 2 ^ 64) k v ≡ Ok x) × Contains (record c.args.self.now { stack = c.spill.new.slots }) (lengths_of span) (with_stack s x)) eight (
      stored s.stack c.in_ok-p.p 8 v,
      ap (λ (m : ℕ). store span.bytes s.stack m 8 v) address ∙ stores_stack span.bytes s.stack c.in_ok-p.p 8 v within,
      after_store c.args.self.now (record c.args.self.now { stack = c.spill.new.slots }) (lengths_of span) s c.in_ok-p.p 8 v a within refl refl slots,
    )

pub returns-clause-sound : goal.returns-clause-sound
returns-clause-sound c = λ span s n v a kb kv.
    let base_is = subst (λ (k : Known). ContainsKnown k (lengths_of span) n) c.in-Stack.is kb in
    let count = c.count-count.result in
    let within : c.in_ok-p.p + count ≤ 512 = c.in_ok-p.ensures.within in
    let address = ap (λ (m : ℕ). (m + c.args.offset) % 2 ^ 64) base_is ∙ c.in_ok-p.ensures.at stack_base (omega arith) in
    let new : Bytes = bytes_of (stored s.stack c.in_ok-p.p count v) in
    let slots = c.overwrite.ensures.contains (lengths_of span) (bytes_of s.stack) new a.stack
    (store_spares s.stack c.in_ok-p.p count v a.long within) (store_fills s.stack c.in_ok-p.p count v a.long within) in
    subst (λ (k : ℕ). (x : List (Option ℕ)) × (store span.bytes s.stack ((n + c.args.offset) % 2 ^ 64) k v ≡ Ok x) × Contains (record c.args.self.now { stack = c.overwrite.new.slots }) (lengths_of span) (with_stack s x)) c.count-count.ensures.value (
      stored s.stack c.in_ok-p.p count v,
      ap (λ (m : ℕ). store span.bytes s.stack m count v) address ∙ stores_stack span.bytes s.stack c.in_ok-p.p count v within,
      after_store c.args.self.now (record c.args.self.now { stack = c.overwrite.new.slots }) (lengths_of span) s c.in_ok-p.p count v a within refl refl slots,
    )

pub returns-then-is_number-clause-stores : goal.returns-then-is_number-clause-stores
returns-then-is_number-clause-stores c = λ p h within n. let yes : IsTrue c.is_number.result = search rules in absurd (no_number p c.args.offset c.args.base (c.is_number.ensures.0 yes) h)

pub returns-then-is_number-clause-spills : goal.returns-then-is_number-clause-spills
returns-then-is_number-clause-spills c = λ i h less z. let yes : IsTrue c.is_number.result = search rules in absurd (no_number (8 * i) c.args.offset c.args.base (c.is_number.ensures.0 yes) h)

pub returns-in_default-clause-stores : goal.returns-in_default-clause-stores
returns-in_default-clause-stores c = λ p h within n. let address = address_is p c.args.offset c.args.base h in absurd (c.in_default.not-Stack address.0 address.1)

pub returns-in_default-clause-spills : goal.returns-in_default-clause-spills
returns-in_default-clause-spills c = λ i h less z. let address = address_is (8 * i) c.args.offset c.args.base h in absurd (c.in_default.not-Stack address.0 address.1)

pub returns-in_err-p-clause-stores : goal.returns-in_err-p-clause-stores
returns-in_err-p-clause-stores c = λ p h within n.
    let bad = c.in_err-p.ensures.floor p (stack_byte_of p c.args.offset c.args.base c.in-Stack.address c.in-Stack.is h) (omega (arith, within, c.count-count.ensures.value)) in absurd (cc)

pub returns-in_err-p-clause-spills : goal.returns-in_err-p-clause-spills
returns-in_err-p-clause-spills c = λ i h less z.
    let eight = c.count-count.ensures.value ∙ ap (λ (k : Size). bytes_in k) z in
    let bad = c.in_err-p.ensures.floor (8 * i) (stack_byte_of (8 * i) c.args.offset c.args.base c.in-Stack.address c.in-Stack.is h) (omega (arith, eight)) in absurd (cc)

pub returns-then-p-eq0-clause-stores : goal.returns-then-p-eq0-clause-stores
returns-then-p-eq0-clause-stores c = λ p h within n.
    let found = c.in_ok-p.ensures.floor p (stack_byte_of p c.args.offset c.args.base c.in-Stack.address c.in-Stack.is h) (omega (arith, within, c.count-count.ensures.value)) in
    let same : c.in_ok-p.p ≡ p = cc in
    let eight : bytes_in c.args.size ≡ 8 = sym c.count-count.ensures.value ∙ c.if-count-eq8.true in
    let whole : p ≡ 8 * (c.in_ok-p.p / 8) = omega (arith, same, c.if-p-eq0.true) in
    (refl, spill_stores p (bytes_in c.args.size) (c.in_ok-p.p / 8) c.args.value c.args.self.now.stack c.spill.new.slots eight whole n c.spill.ensures.spills)

pub returns-then-p-eq0-clause-spills : goal.returns-then-p-eq0-clause-spills
returns-then-p-eq0-clause-spills c = λ i h less z.
    let eight = c.count-count.ensures.value ∙ ap (λ (k : Size). bytes_in k) z in
    let found = c.in_ok-p.ensures.floor (8 * i) (stack_byte_of (8 * i) c.args.offset c.args.base c.in-Stack.address c.in-Stack.is h) (omega (arith, eight)) in
    let same : c.in_ok-p.p ≡ 8 * i = cc in
    let slot : c.in_ok-p.p / 8 ≡ i = omega (arith, same) in
    (refl, subst (λ (k : ℕ). SpillsSlot k c.args.value c.args.self.now.stack c.spill.new.slots) slot c.spill.ensures.spills)

pub returns-clause-stores : goal.returns-clause-stores
returns-clause-stores c = λ p h within n.
    let found = c.in_ok-p.ensures.floor p (stack_byte_of p c.args.offset c.args.base c.in-Stack.address c.in-Stack.is h) (omega (arith, within, c.count-count.ensures.value)) in
    let same : c.in_ok-p.p ≡ p = cc in (
      refl,
      subst (λ (k : ℕ). StoresSlots p k c.args.self.now.stack c.overwrite.new.slots) c.count-count.ensures.value
          (subst (λ (k : ℕ). StoresSlots k c.count-count.result c.args.self.now.stack c.overwrite.new.slots) same c.overwrite.ensures.stores),
    )

pub returns-clause-spills : goal.returns-clause-spills
returns-clause-spills c = λ i h less z.
    let eight = c.count-count.ensures.value ∙ ap (λ (k : Size). bytes_in k) z in
    let found = c.in_ok-p.ensures.floor (8 * i) (stack_byte_of (8 * i) c.args.offset c.args.base c.in-Stack.address c.in-Stack.is h) (omega (arith, eight)) in
    let same : c.in_ok-p.p ≡ 8 * i = cc in
    absurd (elim c.else-count-eq8.branch [ else-count-eq8-via-then-count-eq8+else-p-eq0 w ↦ omega (arith, same, w.if-p-eq0.false) | else-count-eq8-via-else-count-eq8 w ↦ w.if-count-eq8.false eight ])

pub returns-then-is_number-clause-rule : goal.returns-then-is_number-clause-rule
returns-then-is_number-clause-rule c =
    let yes : IsTrue c.is_number.result = search rules in
    let slots = slots_of c.args.self.now.stack in
    leaves_same slots slots _ refusal.NotAnAddress (number_written slots c.args.base c.args.offset (bytes_in c.args.size) (content_of c.args.value) (c.is_number.ensures.0 yes))

pub returns-in_default-clause-rule : goal.returns-in_default-clause-rule
returns-in_default-clause-rule c =
    let slots = slots_of c.args.self.now.stack in
    let no : IsNumber c.args.base → ⊥ = λ n. let yes : IsTrue c.is_number.result = c.is_number.ensures.1 n in absurd (cc) in
    leaves_same slots slots _ refusal.ReadOnlyStore (elsewhere_written slots c.args.base c.args.offset (bytes_in c.args.size) (content_of c.args.value) no c.in_default.not-Stack)

pub returns-in_err-p-clause-rule : goal.returns-in_err-p-clause-rule
returns-in_err-p-clause-rule c =
    let slots = slots_of c.args.self.now.stack in
    leaves_err slots slots c.args.base c.in-Stack.address c.args.offset c.count-count.result (bytes_in c.args.size) (content_of c.args.value) _ _ c.in-Stack.is c.count-count.ensures.value (sym c.offset_in_stack.ensures.rule ∙ c.in_err-p.was) (search rules)

pub returns-then-p-eq0-clause-rule : goal.returns-then-p-eq0-clause-rule
returns-then-p-eq0-clause-rule c =
    let slots = slots_of c.args.self.now.stack in
    leaves_ok slots _ c.args.base c.in-Stack.address c.args.offset c.count-count.result (bytes_in c.args.size) c.in_ok-p.p (content_of c.args.value) _ _ c.in-Stack.is c.count-count.ensures.value (sym c.offset_in_stack.ensures.rule ∙ c.in_ok-p.was)
    (whole_stored slots c.in_ok-p.p c.count-count.result (content_of c.args.value) (is_whole_true c.in_ok-p.p c.count-count.result c.if-count-eq8.true c.if-p-eq0.true))
    (refl, λ i h. c.spill.ensures.rule i)

pub returns-then-not-is_number-clause-rule : goal.returns-then-not-is_number-clause-rule
returns-then-not-is_number-clause-rule c =
    let slots = slots_of c.args.self.now.stack in
    let no : IsNumber c.args.value → ⊥ = λ n. let yes : IsTrue c.is_number-2.result = c.is_number-2.ensures.1 n in absurd (cc) in
    let part : is_whole c.in_ok-p.p c.count-count.result ≡ false = elim c.else-count-eq8.branch [ else-count-eq8-via-then-count-eq8+else-p-eq0 w ↦ not_whole_place _ _ w.if-p-eq0.false | else-count-eq8-via-else-count-eq8 w ↦ not_whole_count _ _ w.if-count-eq8.false ] in
    leaves_ok slots slots c.args.base c.in-Stack.address c.args.offset c.count-count.result (bytes_in c.args.size) c.in_ok-p.p (content_of c.args.value) _ _ c.in-Stack.is c.count-count.ensures.value (sym c.offset_in_stack.ensures.rule ∙ c.in_ok-p.was)
    (address_stored slots c.in_ok-p.p c.count-count.result c.args.value part no) refl

pub returns-clause-rule : goal.returns-clause-rule
returns-clause-rule c =
    let slots = slots_of c.args.self.now.stack in
    let yes : IsTrue c.is_number-2.result = search rules in
    let part : is_whole c.in_ok-p.p c.count-count.result ≡ false = elim c.else-count-eq8.branch [ else-count-eq8-via-then-count-eq8+else-p-eq0 w ↦ not_whole_place _ _ w.if-p-eq0.false | else-count-eq8-via-else-count-eq8 w ↦ not_whole_count _ _ w.if-count-eq8.false ] in
    leaves_ok slots _ c.args.base c.in-Stack.address c.args.offset c.count-count.result (bytes_in c.args.size) c.in_ok-p.p (content_of c.args.value) _ _ c.in-Stack.is c.count-count.ensures.value (sym c.offset_in_stack.ensures.rule ∙ c.in_ok-p.was)
    (part_stored slots c.in_ok-p.p c.count-count.result c.args.value part (c.is_number-2.ensures.0 yes))
    (refl, c.overwrite.ensures.rule)
