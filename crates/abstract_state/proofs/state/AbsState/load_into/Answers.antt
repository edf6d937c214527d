use Rattle.std.proofs.Common.{true, false, ◌≡◌, ◌+◌, ◌*◌, ◌%◌, ◌^◌, ℕ, Some, Ok, refl, arith, sym, subst, ap, ◌∙◌, [], ◌∷◌, option_map}
use Rattle.abstract_state.specs.Kinds.{IsNumberField}
use Rattle.abstract_state.specs.Lent.{begin_field, end_field, limit_of}
use Rattle.abstract_state.specs.Exact.{LentIn, AnyNumber, Exactly}
use Rattle.abstract_state.specs.declared.known.Known.TheVariants.{Lent}
use Rattle.abstract_state.proofs.Exact.{any_number, set_exactly}
use Rattle.abstract_state.proofs.Regions.{begin_low, end_low}
use Rattle.std.proofs.lemmas.Int.{to_z-of_z}
use Rattle.std.specs.Int.{cast_unsigned, w16, w64}
use Rattle.semantics.specs.Memory.{load, bytes_in}
use Rattle.abstract_state.specs.State.{lengths_of}
use Rattle.abstract_state.proofs.Steps.{loads}
use Rattle.abstract_state.specs.declared.state.AbsReg.TheVariants.{Set}
use Rattle.abstract_state.specs.Frame.{IsStackByte}
use Rattle.abstract_state.proofs.Frames.{exactly}
use Rattle.abstract_state.proofs.Unsets.{all_unset, none_unset}
use Rattle.abstract_state.proofs.Performs.{refused}
use Rattle.abstract_state.specs.Addresses.{content_of}
use Rattle.abstract_state.specs.Stacks.{slots_of}
use Rattle.abstract_state.specs.Loading.{loaded}
use Rattle.abstract_state.specs.Situation.{least_of}
use Rattle.abstract_state.proofs.Stepping.{out_is, given, denied, unread, unmade, writes}
use Rattle.abstract_state.proofs.state.AbsState.load_into.Goals as goal

pub returns-in_err-a-clause-performs : goal.returns-in_err-a-clause-performs
returns-in_err-a-clause-performs c =
    refused _ _ _ _ c.from_residual.result c.in_err-a.field-0.0 c.from_residual.ensures.1
    (λ reads. (c.in_err-a.ensures.context 0 reads.0).0)
    (all_unset c.args.self.now (c.args.base ∷ []) _ c.in_err-a.ensures.unset)

pub returns-in_err-known-clause-performs : goal.returns-in_err-known-clause-performs
returns-in_err-known-clause-performs c =
    let same : c.displacement.result ≡ cast_unsigned w64 c.args.offset = c.displacement.ensures ∙ ap (cast_unsigned w64) (to_z-of_z w16 c.args.offset c.ranges.offset) in
    refused _ _ _ _ c.from_residual-in_err-known.result c.in_err-known.field-0.0 c.from_residual-in_err-known.ensures.1
    (λ reads. c.in_err-known.ensures.floor (c.in_ok-a.ensures.context 0 reads.0).1 (subst (λ (n : ℕ). IsNumberField c.args.size n) (sym same) reads.1))
    (none_unset c.args.self.now (c.args.base ∷ []) _ c.in_err-known.ensures.not_unset c.in_ok-a.ensures.set)

pub returns-clause-performs : goal.returns-clause-performs
returns-clause-performs c =
    let same : c.displacement.result ≡ cast_unsigned w64 c.args.offset = c.displacement.ensures ∙ ap (cast_unsigned w64) (to_z-of_z w16 c.args.offset c.ranges.offset) in
    record {
      sound = λ span s profile held.
          let a = c.in_ok-a.ensures.sound (lengths_of span) s held in
          let v = c.in_ok-known.ensures.sound span s a.0 profile held a.2 in (
            _,
            loads span s c.args.size c.args.destination c.args.base c.args.offset a.0 v.0 c.requires a.1
                (subst (λ (o : ℕ). load span.bytes s.stack ((a.0 + o) % 2 ^ 64) (bytes_in c.args.size) ≡ Ok v.0) same v.1),
            c.write.ensures.sound (lengths_of span) s _ held v.2,
          );
      others = c.write.ensures.others;
      memory = c.write.ensures.memory;
      floor = λ _. refl;
      numbers = λ reads. c.write.ensures.numbers (c.in_ok-known.ensures.numbers (c.in_ok-a.ensures.context 0 reads.0).1 (subst (λ (n : ℕ). IsNumberField c.args.size n) (sym same) reads.1));
      unset = tt;
      set = c.in_ok-a.ensures.set;
    }

pub returns-in_err-a-clause-begin : goal.returns-in_err-a-clause-begin
returns-in_err-a-clause-begin c = λ region lends e z p. let bad : false ≡ true = (c.in_err-a.ensures.context 0 p).0 in absurd (cc)

pub returns-in_err-a-clause-end : goal.returns-in_err-a-clause-end
returns-in_err-a-clause-end c = λ region lends e z p. let bad : false ≡ true = (c.in_err-a.ensures.context 0 p).0 in absurd (cc)

pub returns-in_err-a-clause-lent : goal.returns-in_err-a-clause-lent
returns-in_err-a-clause-lent c = λ o p e short h within.
    let bad : false ≡ true = (c.in_err-a.ensures.holds (Exactly (Lent p)) (set_exactly _ _ h)).0 in absurd (cc)

pub returns-in_err-known-clause-begin : goal.returns-in_err-known-clause-begin
returns-in_err-known-clause-begin c = λ region lends e z p.
    let low = begin_low region in
    let same : c.displacement.result ≡ cast_unsigned w64 c.args.offset = c.displacement.ensures ∙ ap (cast_unsigned w64) (to_z-of_z w16 c.args.offset c.ranges.offset) in
    let at : c.displacement.result ≡ begin_field region = same ∙ ap (cast_unsigned w64) e ∙ omega arith in
    let bad : false ≡ true = (c.in_err-known.ensures.begin region lends (c.in_ok-a.ensures.context 0 p).1 z (omega arith) at).0 in absurd (cc)

pub returns-in_err-known-clause-end : goal.returns-in_err-known-clause-end
returns-in_err-known-clause-end c = λ region lends e z p.
    let low = end_low region in
    let same : c.displacement.result ≡ cast_unsigned w64 c.args.offset = c.displacement.ensures ∙ ap (cast_unsigned w64) (to_z-of_z w16 c.args.offset c.ranges.offset) in
    let at : c.displacement.result ≡ end_field region = same ∙ ap (cast_unsigned w64) e ∙ omega arith in
    let bad : false ≡ true = (c.in_err-known.ensures.end region lends (c.in_ok-a.ensures.context 0 p).1 z (omega arith) at).0 in absurd (cc)

pub returns-in_err-known-clause-lent : goal.returns-in_err-known-clause-lent
returns-in_err-known-clause-lent c = λ o p e short h within.
    let same : c.displacement.result ≡ cast_unsigned w64 c.args.offset = c.displacement.ensures ∙ ap (cast_unsigned w64) (to_z-of_z w16 c.args.offset c.ranges.offset) in
    let at : c.displacement.result ≡ o = same ∙ ap (cast_unsigned w64) e ∙ omega arith in
    let is = (c.in_ok-a.ensures.holds (Exactly (Lent p)) (set_exactly _ _ h)).1 in
    let bad : false ≡ true = c.in_err-known.ensures.lent p.region p is refl (omega arith) (omega arith) in absurd (cc)

pub returns-clause-begin : goal.returns-clause-begin
returns-clause-begin c = λ region lends e z p.
    let low = begin_low region in
    let same : c.displacement.result ≡ cast_unsigned w64 c.args.offset = c.displacement.ensures ∙ ap (cast_unsigned w64) (to_z-of_z w16 c.args.offset c.ranges.offset) in
    let at : c.displacement.result ≡ begin_field region = same ∙ ap (cast_unsigned w64) e ∙ omega arith in
    (refl, c.write.ensures.holds (LentIn region 0 0 (Some 0)) (c.in_ok-known.ensures.begin region lends (c.in_ok-a.ensures.context 0 p).1 z (omega arith) at).1)

pub returns-clause-end : goal.returns-clause-end
returns-clause-end c = λ region lends e z p.
    let low = end_low region in
    let same : c.displacement.result ≡ cast_unsigned w64 c.args.offset = c.displacement.ensures ∙ ap (cast_unsigned w64) (to_z-of_z w16 c.args.offset c.ranges.offset) in
    let at : c.displacement.result ≡ end_field region = same ∙ ap (cast_unsigned w64) e ∙ omega arith in
    (refl, c.write.ensures.holds (LentIn region 0 (limit_of region) (Some 0)) (c.in_ok-known.ensures.end region lends (c.in_ok-a.ensures.context 0 p).1 z (omega arith) at).1)

pub returns-clause-lent : goal.returns-clause-lent
returns-clause-lent c = λ o p e short h within.
    let is = (c.in_ok-a.ensures.holds (Exactly (Lent p)) (set_exactly _ _ h)).1 in
    (refl, c.write.ensures.holds AnyNumber (any_number c.in_ok-known.known (c.in_ok-known.ensures.lent_numbers p is)))

pub returns-in_err-a-clause-stack : goal.returns-in_err-a-clause-stack
returns-in_err-a-clause-stack c = λ p h m. let bad : false ≡ true = (c.in_err-a.ensures.frame p _ h).0 in absurd (cc)

pub returns-in_err-a-clause-spilled : goal.returns-in_err-a-clause-spilled
returns-in_err-a-clause-spilled c = λ i known h less z is. let bad : false ≡ true = (c.in_err-a.ensures.frame (8 * i) _ h).0 in absurd (cc)

pub returns-in_err-known-clause-stack : goal.returns-in_err-known-clause-stack
returns-in_err-known-clause-stack c = λ p h m.
    let same : c.displacement.result ≡ cast_unsigned w64 c.args.offset = c.displacement.ensures ∙ ap (cast_unsigned w64) (to_z-of_z w16 c.args.offset c.ranges.offset) in
    let byte = subst (λ (n : ℕ). IsStackByte p n (Set c.in_ok-a.a)) (sym same) (c.in_ok-a.ensures.frame p _ h).1 in
    let bad : false ≡ true = (c.in_err-known.ensures.marked p byte m).0 in absurd (cc)

pub returns-in_err-known-clause-spilled : goal.returns-in_err-known-clause-spilled
returns-in_err-known-clause-spilled c = λ i known h less z is.
    let same : c.displacement.result ≡ cast_unsigned w64 c.args.offset = c.displacement.ensures ∙ ap (cast_unsigned w64) (to_z-of_z w16 c.args.offset c.ranges.offset) in
    let byte = subst (λ (n : ℕ). IsStackByte (8 * i) n (Set c.in_ok-a.a)) (sym same) (c.in_ok-a.ensures.frame (8 * i) _ h).1 in
    let bad = c.in_err-known.ensures.spilled i known byte less z is in absurd (cc)

pub returns-clause-stack : goal.returns-clause-stack
returns-clause-stack c = λ p h m.
    let same : c.displacement.result ≡ cast_unsigned w64 c.args.offset = c.displacement.ensures ∙ ap (cast_unsigned w64) (to_z-of_z w16 c.args.offset c.ranges.offset) in
    let byte = subst (λ (n : ℕ). IsStackByte p n (Set c.in_ok-a.a)) (sym same) (c.in_ok-a.ensures.frame p _ h).1 in
    (refl, c.write.ensures.holds AnyNumber (any_number c.in_ok-known.known (c.in_ok-known.ensures.marked p byte m).1))

pub returns-clause-spilled : goal.returns-clause-spilled
returns-clause-spilled c = λ i known h less z is.
    let same : c.displacement.result ≡ cast_unsigned w64 c.args.offset = c.displacement.ensures ∙ ap (cast_unsigned w64) (to_z-of_z w16 c.args.offset c.ranges.offset) in
    let byte = subst (λ (n : ℕ). IsStackByte (8 * i) n (Set c.in_ok-a.a)) (sym same) (c.in_ok-a.ensures.frame (8 * i) _ h).1 in
    let back = c.in_ok-known.ensures.spilled i known byte less z is in
    let there : c.in_ok-known.known ≡ Some known = cc in
    (refl, c.write.ensures.holds (Exactly known) (exactly c.in_ok-known.known known there))

pub returns-in_err-a-clause-rule : goal.returns-in_err-a-clause-rule
returns-in_err-a-clause-rule c =
    unread _ _ _ _ c.in_err-a.field-0.0 c.from_residual.result _
    (denied content_of _ _ _ c.read.ensures.rule c.in_err-a.was) (out_is _ _ c.from_residual.ensures.1)

pub returns-in_err-known-clause-rule : goal.returns-in_err-known-clause-rule
returns-in_err-known-clause-rule c =
    let same : c.displacement.result ≡ cast_unsigned w64 c.args.offset = c.displacement.ensures ∙ ap (cast_unsigned w64) (to_z-of_z w16 c.args.offset c.ranges.offset) in
    let at = c.load.ensures.rule ∙ ap (λ (n : ℕ). loaded c.args.profile (slots_of c.args.self.now.stack) (least_of c.args.self.now.bounds) (content_of c.in_ok-a.a) n c.args.size) same in
    unmade _ _ _ _ (content_of c.in_ok-a.a) c.in_err-known.field-0.0 c.from_residual-in_err-known.result _
    (given content_of _ _ _ c.read.ensures.rule c.in_ok-a.was)
    (denied (option_map content_of) _ _ _ at c.in_err-known.was) (out_is _ _ c.from_residual-in_err-known.ensures.1)

pub returns-clause-rule : goal.returns-clause-rule
returns-clause-rule c =
    let same : c.displacement.result ≡ cast_unsigned w64 c.args.offset = c.displacement.ensures ∙ ap (cast_unsigned w64) (to_z-of_z w16 c.args.offset c.ranges.offset) in
    let at = c.load.ensures.rule ∙ ap (λ (n : ℕ). loaded c.args.profile (slots_of c.args.self.now.stack) (least_of c.args.self.now.bounds) (content_of c.in_ok-a.a) n c.args.size) same in
    writes _ _ _ _ (content_of c.in_ok-a.a) c.in_ok-known.known c.write.result _
    (given content_of _ _ _ c.read.ensures.rule c.in_ok-a.was)
    (given (option_map content_of) _ _ _ at c.in_ok-known.was) c.write.ensures.rule
