use Rattle.std.proofs.Common.{◌≡◌, ◌+◌, ◌%◌, ◌^◌, true, false, ℕ, Ok, refl, sym, subst, ap, ◌∙◌, arith, [], ◌∷◌, Some}
use Rattle.std.proofs.lemmas.Int.{to_z-of_z}
use Rattle.std.specs.Int.{cast_unsigned, w16, w64}
use Rattle.semantics.specs.Memory.{load, bytes_in_signed}
use Rattle.semantics.specs.Value.{with_sign}
use Rattle.abstract_state.specs.State.{lengths_of}
use Rattle.abstract_state.proofs.Steps.{loads_signed, sign_fits}
use Rattle.abstract_state.specs.declared.state.AbsReg.TheVariants.{Set}
use Rattle.abstract_state.specs.Exact.{AnyNumber, Exactly}
use Rattle.abstract_state.specs.Frame.{IsStackByte}
use Rattle.abstract_state.specs.declared.known.Known.TheVariants.{Lent}
use Rattle.abstract_state.proofs.Exact.{set_exactly}
use Rattle.abstract_state.proofs.Unsets.{all_unset, none_unset}
use Rattle.abstract_state.proofs.Performs.{refused}
use Rattle.abstract_state.specs.Addresses.{content_of, ANumber, answer_of}
use Rattle.bpf_words.specs.declared.instruction.Width.TheVariants.{Full}
use Rattle.abstract_state.specs.Estimate.{Estimate, unknown}
use Rattle.abstract_state.specs.declared.known.Known.TheVariants.{Number}
use Rattle.abstract_state.specs.Stacks.{slots_of}
use Rattle.abstract_state.specs.Loading.{readable, a_number}
use Rattle.abstract_state.specs.Situation.{least_of}
use Rattle.abstract_state.proofs.Stepping.{out_is, given, denied, unread, unmade, writes}
use Rattle.abstract_state.proofs.state.AbsState.load_signed_into.Goals as goal

pub returns-in_err-a-clause-performs : goal.returns-in_err-a-clause-performs
returns-in_err-a-clause-performs c =
    refused _ _ _ _ c.from_residual.result c.in_err-a.field-0.0 c.from_residual.ensures.1
    (λ none. absurd none)
    (all_unset c.args.self.now (c.args.base ∷ []) _ c.in_err-a.ensures.unset)

pub returns-in_err-load_signed-clause-performs : goal.returns-in_err-load_signed-clause-performs
returns-in_err-load_signed-clause-performs c =
    refused _ _ _ _ c.from_residual-in_err-load_signed.result c.in_err-load_signed.field-0.0 c.from_residual-in_err-load_signed.ensures.1
    (λ none. absurd none)
    (none_unset c.args.self.now (c.args.base ∷ []) _ c.in_err-load_signed.ensures.not_unset c.in_ok-a.ensures.set)

pub returns-clause-performs : goal.returns-clause-performs
returns-clause-performs c = record {
  sound = λ span s profile held.
      let same : c.displacement.result ≡ cast_unsigned w64 c.args.offset = c.displacement.ensures ∙ ap (cast_unsigned w64) (to_z-of_z w16 c.args.offset c.ranges.offset) in
      let a = c.in_ok-a.ensures.sound (lengths_of span) s held in
      let v = c.in_ok-load_signed.ensures.sound span s a.0 profile held a.2 in (
        _,
        loads_signed span s c.args.size c.args.destination c.args.base c.args.offset a.0 v.0 c.requires a.1
            (subst (λ (o : ℕ). load span.bytes s.stack ((a.0 + o) % 2 ^ 64) (bytes_in_signed c.args.size) ≡ Ok v.0) same v.1),
        c.write.ensures.sound (lengths_of span) s (with_sign c.args.size v.0) held (_, refl, c.unknown.ensures.contains (lengths_of span) (with_sign c.args.size v.0) (sign_fits c.args.size v.0)),
      );
  others = c.write.ensures.others;
  memory = c.write.ensures.memory;
  floor = λ _. refl;
  numbers = λ none. absurd none;
  unset = tt;
  set = c.in_ok-a.ensures.set;
}

pub returns-in_err-a-clause-lent : goal.returns-in_err-a-clause-lent
returns-in_err-a-clause-lent c = λ o p e short h within.
    let bad : false ≡ true = (c.in_err-a.ensures.holds (Exactly (Lent p)) (set_exactly _ _ h)).0 in absurd (cc)

pub returns-in_err-load_signed-clause-lent : goal.returns-in_err-load_signed-clause-lent
returns-in_err-load_signed-clause-lent c = λ o p e short h within.
    let same : c.displacement.result ≡ cast_unsigned w64 c.args.offset = c.displacement.ensures ∙ ap (cast_unsigned w64) (to_z-of_z w16 c.args.offset c.ranges.offset) in
    let at : c.displacement.result ≡ o = same ∙ ap (cast_unsigned w64) e ∙ omega arith in
    let is = (c.in_ok-a.ensures.holds (Exactly (Lent p)) (set_exactly _ _ h)).1 in
    let bad : false ≡ true = c.in_err-load_signed.ensures.lent p.region p is refl (omega arith) (omega arith) in
    absurd (cc)

pub returns-in_err-a-clause-stack : goal.returns-in_err-a-clause-stack
returns-in_err-a-clause-stack c = λ p h m. let bad : false ≡ true = (c.in_err-a.ensures.frame p _ h).0 in absurd (cc)

pub returns-in_err-load_signed-clause-stack : goal.returns-in_err-load_signed-clause-stack
returns-in_err-load_signed-clause-stack c = λ p h m.
    let same : c.displacement.result ≡ cast_unsigned w64 c.args.offset = c.displacement.ensures ∙ ap (cast_unsigned w64) (to_z-of_z w16 c.args.offset c.ranges.offset) in
    let byte = subst (λ (n : ℕ). IsStackByte p n (Set c.in_ok-a.a)) (sym same) (c.in_ok-a.ensures.frame p _ h).1 in
    let bad : false ≡ true = c.in_err-load_signed.ensures.marked p byte m in absurd (cc)

pub returns-clause-lent : goal.returns-clause-lent
returns-clause-lent c = λ o p e short h within. (refl, c.write.ensures.holds AnyNumber tt)

pub returns-clause-stack : goal.returns-clause-stack
returns-clause-stack c = λ p h m. (refl, c.write.ensures.holds AnyNumber tt)

pub returns-in_err-a-clause-rule : goal.returns-in_err-a-clause-rule
returns-in_err-a-clause-rule c =
    unread _ _ _ _ c.in_err-a.field-0.0 c.from_residual.result _
    (denied content_of _ _ _ c.read.ensures.rule c.in_err-a.was) (out_is _ _ c.from_residual.ensures.1)

pub returns-in_err-load_signed-clause-rule : goal.returns-in_err-load_signed-clause-rule
returns-in_err-load_signed-clause-rule c =
    let same : c.displacement.result ≡ cast_unsigned w64 c.args.offset = c.displacement.ensures ∙ ap (cast_unsigned w64) (to_z-of_z w16 c.args.offset c.ranges.offset) in
    let at = c.load_signed.ensures.rule ∙ ap (λ (n : ℕ). readable c.args.profile (slots_of c.args.self.now.stack) (least_of c.args.self.now.bounds) (content_of c.in_ok-a.a) n (bytes_in_signed c.args.size)) same in
    unmade _ _ _ _ (content_of c.in_ok-a.a) c.in_err-load_signed.field-0.0 c.from_residual-in_err-load_signed.result _
    (given content_of _ _ _ c.read.ensures.rule c.in_ok-a.was)
    (ap (answer_of (a_number (unknown Full))) (sym at ∙ c.in_err-load_signed.was)) (out_is _ _ c.from_residual-in_err-load_signed.ensures.1)

pub returns-clause-rule : goal.returns-clause-rule
returns-clause-rule c =
    let same : c.displacement.result ≡ cast_unsigned w64 c.args.offset = c.displacement.ensures ∙ ap (cast_unsigned w64) (to_z-of_z w16 c.args.offset c.ranges.offset) in
    let at = c.load_signed.ensures.rule ∙ ap (λ (n : ℕ). readable c.args.profile (slots_of c.args.self.now.stack) (least_of c.args.self.now.bounds) (content_of c.in_ok-a.a) n (bytes_in_signed c.args.size)) same in
    writes _ _ _ _ (content_of c.in_ok-a.a) (Some (Number c.unknown.result)) c.write.result _
    (given content_of _ _ _ c.read.ensures.rule c.in_ok-a.was)
    (ap (answer_of (a_number (unknown Full))) (sym at ∙ c.in_ok-load_signed.was) ∙ ap (λ (e : Estimate). Ok (Some (ANumber e))) (sym c.unknown.ensures.rule)) c.write.ensures.rule
