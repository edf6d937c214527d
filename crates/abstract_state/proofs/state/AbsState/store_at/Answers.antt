use Rattle.std.proofs.Common.{◌≡◌, ◌+◌, ◌*◌, ◌%◌, ◌^◌, true, false, ℕ, Ok, refl, sym, subst, ap, ◌∙◌, ◌∷◌}
use Rattle.std.proofs.lemmas.Int.{to_z-of_z}
use Rattle.std.specs.Int.{cast_unsigned, w16, w64}
use Rattle.semantics.specs.Memory.{store, bytes_in}
use Rattle.abstract_state.specs.State.{lengths_of}
use Rattle.abstract_state.proofs.Steps.{stores}
use Rattle.abstract_state.specs.declared.state.AbsReg.TheVariants.{Set}
use Rattle.abstract_state.specs.declared.known.Known.{Known}
use Rattle.abstract_state.specs.Exact.{Exactly}
use Rattle.abstract_state.specs.Frame.{IsStackByte, SpillsSlot}
use Rattle.bpf_words.specs.Flow.{read_operand}
use Rattle.abstract_state.proofs.Unsets.{first_unset, rest_unset, none_unset, neither_unset}
use Rattle.abstract_state.proofs.Performs.{refused}
use Rattle.abstract_state.specs.Addresses.{content_of}
use Rattle.abstract_state.specs.Stacks.{slots_of}
use Rattle.abstract_state.specs.declared.step.Flow.TheVariants.{Live}
use Rattle.abstract_state.specs.Loading.{Leaves, written}
use Rattle.abstract_state.specs.Situation.{situation_of, AnswersStep}
use Rattle.abstract_state.specs.Stepping.{Outcome}
use Rattle.abstract_state.proofs.Stepping.{out_is, given, denied, store_unread, store_value_unread, store_is, unstored, stores_slots}
use Rattle.abstract_state.proofs.state.AbsState.store_at.Goals as goal

pub returns-in_err-a-clause-performs : goal.returns-in_err-a-clause-performs
returns-in_err-a-clause-performs c =
    refused _ _ _ _ c.from_residual.result c.in_err-a.field-0.0 c.from_residual.ensures.1
    (λ none. absurd none)
    (first_unset c.args.self.now c.args.base (read_operand c.args.value) _ c.in_err-a.ensures.unset)

pub returns-in_err-b-clause-performs : goal.returns-in_err-b-clause-performs
returns-in_err-b-clause-performs c =
    refused _ _ _ _ c.from_residual-in_err-b.result c.in_err-b.field-0.0 c.from_residual-in_err-b.ensures.1
    (λ none. absurd none)
    (rest_unset c.args.self.now c.args.base (read_operand c.args.value) _ c.in_err-b.ensures.unset)

pub returns-in_err-store-clause-performs : goal.returns-in_err-store-clause-performs
returns-in_err-store-clause-performs c =
    refused _ _ _ _ c.from_residual-in_err-store.result c.in_err-store.field-0.0 c.from_residual-in_err-store.ensures.1
    (λ none. absurd none)
    (none_unset c.args.self.now (c.args.base ∷ read_operand c.args.value) _ c.in_err-store.ensures.not_unset (neither_unset c.args.self.now c.args.base (read_operand c.args.value) c.in_ok-a.ensures.set c.in_ok-b.ensures.set))

pub returns-clause-performs : goal.returns-clause-performs
returns-clause-performs c = record {
  sound = λ span s held.
      let same : c.displacement.result ≡ cast_unsigned w64 c.args.offset = c.displacement.ensures ∙ ap (cast_unsigned w64) (to_z-of_z w16 c.args.offset c.ranges.offset) in
      let a = c.in_ok-a.ensures.sound (lengths_of span) s held in
      let b = c.in_ok-b.ensures.sound (lengths_of span) s held in
      let t = c.in_ok-store.ensures.sound span s a.0 b.0 held a.2 b.2 in (
        _,
        stores span s c.args.size c.args.base c.args.offset c.args.value a.0 b.0 t.0 a.1 b.1
            (subst (λ (o : ℕ). store span.bytes s.stack ((a.0 + o) % 2 ^ 64) (bytes_in c.args.size) b.0 ≡ Ok t.0) same t.1),
        (_, refl, t.2),
      );
  others = c.in_ok-store.ensures.registers;
  memory = c.in_ok-store.ensures.bounds;
  floor = λ _. refl;
  numbers = λ none. absurd none;
  unset = tt;
  set = neither_unset c.args.self.now c.args.base (read_operand c.args.value) c.in_ok-a.ensures.set c.in_ok-b.ensures.set;
}

pub returns-in_err-a-clause-stores : goal.returns-in_err-a-clause-stores
returns-in_err-a-clause-stores c = λ p h within number. let bad : false ≡ true = (c.in_err-a.ensures.frame p _ h).0 in absurd (cc)

pub returns-in_err-a-clause-spills : goal.returns-in_err-a-clause-spills
returns-in_err-a-clause-spills c = λ i r known h less z v held. let bad : false ≡ true = (c.in_err-a.ensures.frame (8 * i) _ h).0 in absurd (cc)

pub returns-in_err-b-clause-stores : goal.returns-in_err-b-clause-stores
returns-in_err-b-clause-stores c = λ p h within number. let bad : false ≡ true = c.in_err-b.ensures.floor number in absurd (cc)

pub returns-in_err-b-clause-spills : goal.returns-in_err-b-clause-spills
returns-in_err-b-clause-spills c = λ i r known h less z v held. let bad : false ≡ true = (c.in_err-b.ensures.holds r (Exactly known) v held).0 in absurd (cc)

pub returns-in_err-store-clause-stores : goal.returns-in_err-store-clause-stores
returns-in_err-store-clause-stores c = λ p h within number.
    let same : c.displacement.result ≡ cast_unsigned w64 c.args.offset = c.displacement.ensures ∙ ap (cast_unsigned w64) (to_z-of_z w16 c.args.offset c.ranges.offset) in
    let byte = subst (λ (n : ℕ). IsStackByte p n (Set c.in_ok-a.a)) (sym same) (c.in_ok-a.ensures.frame p _ h).1 in
    let bad : false ≡ true = (c.in_err-store.ensures.stores p byte within (c.in_ok-b.ensures.numbers number)).0 in absurd (cc)

pub returns-in_err-store-clause-spills : goal.returns-in_err-store-clause-spills
returns-in_err-store-clause-spills c = λ i r known h less z v held.
    let same : c.displacement.result ≡ cast_unsigned w64 c.args.offset = c.displacement.ensures ∙ ap (cast_unsigned w64) (to_z-of_z w16 c.args.offset c.ranges.offset) in
    let byte = subst (λ (n : ℕ). IsStackByte (8 * i) n (Set c.in_ok-a.a)) (sym same) (c.in_ok-a.ensures.frame (8 * i) _ h).1 in
    let bad : false ≡ true = (c.in_err-store.ensures.spills i byte less z).0 in absurd (cc)

pub returns-clause-stores : goal.returns-clause-stores
returns-clause-stores c = λ p h within number.
    let same : c.displacement.result ≡ cast_unsigned w64 c.args.offset = c.displacement.ensures ∙ ap (cast_unsigned w64) (to_z-of_z w16 c.args.offset c.ranges.offset) in
    let byte = subst (λ (n : ℕ). IsStackByte p n (Set c.in_ok-a.a)) (sym same) (c.in_ok-a.ensures.frame p _ h).1 in
    (refl, (c.in_ok-store.ensures.stores p byte within (c.in_ok-b.ensures.numbers number)).1)

pub returns-clause-spills : goal.returns-clause-spills
returns-clause-spills c = λ i r known h less z v held.
    let same : c.displacement.result ≡ cast_unsigned w64 c.args.offset = c.displacement.ensures ∙ ap (cast_unsigned w64) (to_z-of_z w16 c.args.offset c.ranges.offset) in
    let byte = subst (λ (n : ℕ). IsStackByte (8 * i) n (Set c.in_ok-a.a)) (sym same) (c.in_ok-a.ensures.frame (8 * i) _ h).1 in
    let is = (c.in_ok-b.ensures.holds r (Exactly known) v held).1 in
    (refl, subst (λ (k : Known). SpillsSlot i k c.args.self.now.stack c.store.new.self.stack) is (c.in_ok-store.ensures.spills i byte less z).1)

pub returns-in_err-a-clause-rule : goal.returns-in_err-a-clause-rule
returns-in_err-a-clause-rule c =
    store_unread c.args.size c.args.base c.args.offset c.args.value (situation_of c.args.self.now) c.in_err-a.field-0.0 c.from_residual.result _
    (denied content_of _ _ _ c.read.ensures.rule c.in_err-a.was) (out_is _ _ c.from_residual.ensures.1)

pub returns-in_err-b-clause-rule : goal.returns-in_err-b-clause-rule
returns-in_err-b-clause-rule c =
    store_value_unread c.args.size c.args.base c.args.offset c.args.value (situation_of c.args.self.now) (content_of c.in_ok-a.a) c.in_err-b.field-0.0 c.from_residual-in_err-b.result _
    (given content_of _ _ _ c.read.ensures.rule c.in_ok-a.was)
    (denied content_of _ _ _ c.operand.ensures.rule c.in_err-b.was) (out_is _ _ c.from_residual-in_err-b.ensures.1)

pub returns-in_err-store-clause-rule : goal.returns-in_err-store-clause-rule
returns-in_err-store-clause-rule c =
    let same : c.displacement.result ≡ cast_unsigned w64 c.args.offset = c.displacement.ensures ∙ ap (cast_unsigned w64) (to_z-of_z w16 c.args.offset c.ranges.offset) in
    let left = given content_of _ _ _ c.read.ensures.rule c.in_ok-a.was in
    let right = given content_of _ _ _ c.operand.ensures.rule c.in_ok-b.was in
    let leaves = subst (λ (n : ℕ). Leaves (written (slots_of c.args.self.now.stack) (content_of c.in_ok-a.a) n (bytes_in c.args.size) (content_of c.in_ok-b.b)) c.store.result (slots_of c.store.new.self.stack)) same c.store.ensures.rule in
    subst (λ (r : Outcome). AnswersStep r c.from_residual-in_err-store.result c.store.new.self) (sym (store_is c.args.size c.args.base c.args.offset c.args.value (situation_of c.args.self.now) (content_of c.in_ok-a.a) (content_of c.in_ok-b.b) left right))
    (unstored (situation_of c.args.self.now) _ _ c.store.result c.in_err-store.field-0.0 _ _ leaves c.in_err-store.was (out_is _ _ c.from_residual-in_err-store.ensures.1))

pub returns-clause-rule : goal.returns-clause-rule
returns-clause-rule c =
    let same : c.displacement.result ≡ cast_unsigned w64 c.args.offset = c.displacement.ensures ∙ ap (cast_unsigned w64) (to_z-of_z w16 c.args.offset c.ranges.offset) in
    let left = given content_of _ _ _ c.read.ensures.rule c.in_ok-a.was in
    let right = given content_of _ _ _ c.operand.ensures.rule c.in_ok-b.was in
    let leaves = subst (λ (n : ℕ). Leaves (written (slots_of c.args.self.now.stack) (content_of c.in_ok-a.a) n (bytes_in c.args.size) (content_of c.in_ok-b.b)) c.store.result (slots_of c.store.new.self.stack)) same c.store.ensures.rule in
    subst (λ (r : Outcome). AnswersStep r (Ok Live) c.store.new.self) (sym (store_is c.args.size c.args.base c.args.offset c.args.value (situation_of c.args.self.now) (content_of c.in_ok-a.a) (content_of c.in_ok-b.b) left right))
    (stores_slots c.args.self.now c.store.new.self _ c.store.result leaves c.in_ok-store.was c.store.ensures.registers c.store.ensures.bounds)
