use Rattle.std.proofs.Common.{◌≡◌, ◌*◌, true, false, ℕ, Option, None, Err, Ok, option_map, rules, subst, sym, ap, ◌∙◌, refl, ◌<◌, ◌^◌}
use Rattle.std.proofs.lemmas.Result.{IfOk-weaker}
use Rattle.abstract_state.specs.declared.known.Known.{Known}
use Rattle.abstract_state.specs.Known.{ContainsKnown}
use Rattle.abstract_state.specs.State.{lengths_of, LoadsIn}
use Rattle.semantics.specs.Memory.{bytes_in}
use Rattle.abstract_state.specs.Frame.{AreMarked}
use Rattle.abstract_state.specs.Stacks.{slots_of}
use Rattle.abstract_state.specs.Situation.{least_of}
use Rattle.abstract_state.specs.Addresses.{content_of, answer_of}
use Rattle.abstract_state.specs.Loading.{filled, readable, a_number, any_of}
use Rattle.abstract_state.proofs.Loading.{loaded_else}
use Rattle.abstract_state.proofs.Frames.{address_is}
use Rattle.abstract_state.proofs.state.AbsState.load.Goals as goal

pub returns-in-Context-clause-sound : goal.returns-in-Context-clause-sound
returns-in-Context-clause-sound c = IfOk-weaker c.field.result _ _
    (λ o h span s n same a b. h span s n same a (subst (λ (v : Known). ContainsKnown v (lengths_of span) n) c.in-Context.is b))
    c.field.ensures.sound

pub returns-in-Some-clause-sound : goal.returns-in-Some-clause-sound
returns-in-Some-clause-sound c = λ span s n same a b. let given = c.in-Some.ensures.sound span s n a b in (given.0, given.1, (_, refl, given.2))

pub returns-clause-sound : goal.returns-clause-sound
returns-clause-sound c = λ span s n same a b.
    let bytes = subst (λ (k : ℕ). LoadsIn c.args.profile c.args.self.now c.args.base c.args.offset k (λ lengths v. v < 256 ^ k)) c.count.ensures.value c.in_ok-bytes.ensures.sound in
    let given = bytes span s n same a b in
    (given.0, given.1, (_, refl, c.loaded.ensures.contains (lengths_of span) given.0 given.2))

pub returns-in-Some-clause-lent_numbers : goal.returns-in-Some-clause-lent_numbers
returns-in-Some-clause-lent_numbers c = λ p e. absurd (c.in-Some.ensures.stack_alone p e)

pub returns-in-Context-clause-spilled : goal.returns-in-Context-clause-spilled
returns-in-Context-clause-spilled c = λ i known h less z is. let address = address_is (8 * i) c.args.offset c.args.base h in let bad = sym c.in-Context.is ∙ address.1 in absurd (cc)

pub returns-in-Context-clause-marked : goal.returns-in-Context-clause-marked
returns-in-Context-clause-marked c = λ p h m. let address = address_is p c.args.offset c.args.base h in let bad = sym c.in-Context.is ∙ address.1 in absurd (cc)

pub returns-in-Some-clause-spilled : goal.returns-in-Some-clause-spilled
returns-in-Some-clause-spilled c = λ i known h less z is. ap (λ (o : Option Known). Ok o) (c.in-Some.ensures.spilled i known h less z is)

pub returns-in-Some-clause-marked : goal.returns-in-Some-clause-marked
returns-in-Some-clause-marked c = λ p h m. (refl, c.in-Some.ensures.marked p h m)

pub returns-in_err-bytes-clause-spilled : goal.returns-in_err-bytes-clause-spilled
returns-in_err-bytes-clause-spilled c = λ i known h less z is. absurd (c.in_default-fill.not-Some known (c.fill.ensures.spilled i known h less z is))

pub returns-in_err-bytes-clause-marked : goal.returns-in_err-bytes-clause-marked
returns-in_err-bytes-clause-marked c = λ p h m.
    let bad : false ≡ true = c.in_err-bytes.ensures.stack p h (subst (λ (k : ℕ). AreMarked c.args.self.now.stack p k) (sym c.count.ensures.value) m) in absurd (cc)

pub returns-clause-spilled : goal.returns-clause-spilled
returns-clause-spilled c = λ i known h less z is. absurd (c.in_default-fill.not-Some known (c.fill.ensures.spilled i known h less z is))

pub returns-in_err-bytes-clause-rule : goal.returns-in_err-bytes-clause-rule
returns-in_err-bytes-clause-rule c =
    let slots = slots_of c.args.self.now.stack in
    let bounds = least_of c.args.self.now.bounds in
    let none : filled slots (content_of c.args.base) c.args.offset c.args.size ≡ None = sym c.fill.ensures.rule ∙ ap (option_map content_of) c.in_default-fill.is in
    let out : c.from_residual.result ≡ Err c.in_err-bytes.field-0.0 = search rules in
    let bytes : readable c.args.profile slots bounds (content_of c.args.base) c.args.offset (bytes_in c.args.size) ≡ Err c.in_err-bytes.field-0.0 = subst (λ (n : ℕ). readable c.args.profile slots bounds (content_of c.args.base) c.args.offset n ≡ Err c.in_err-bytes.field-0.0) c.count.ensures.value (sym c.bytes.ensures.rule ∙ c.in_err-bytes.was) in
    ap (answer_of (option_map content_of)) out ∙ sym (loaded_else c.args.profile slots bounds c.args.base c.args.offset c.args.size c.in_default.not-Context none ∙ ap (answer_of (a_number (any_of c.args.size))) bytes)
