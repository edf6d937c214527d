use Rattle.std.proofs.Common.{◌≡◌, ◌+◌, true, false, None, refl, arith, ◌↔◌, ◌∷◌, option_map, subst, sym, Ok}
use Rattle.abstract_state.specs.Exact.{LentIn, NumberIn, tail_after}
use Rattle.bpf_words.specs.declared.instruction.Width.TheVariants.{Full}
use Rattle.semantics.specs.Value.{value_of}
use Rattle.abstract_state.specs.State.{lengths_of}
use Rattle.abstract_state.proofs.Steps.{computes}
use Rattle.abstract_state.specs.declared.refusal.Refusal.TheVariants.{UnsetRegister}
use Rattle.abstract_state.specs.Unset.{HasUnset}
use Rattle.bpf_words.specs.Flow.{read_operand}
use Rattle.abstract_state.proofs.Unsets.{first_unset, rest_unset, none_unset, neither_unset}
use Rattle.abstract_state.proofs.Performs.{refused, first_number, first_reads}
use Rattle.abstract_state.specs.Addresses.{content_of}
use Rattle.abstract_state.specs.Situation.{situation_of, AnswersStep}
use Rattle.abstract_state.specs.Stepping.{Outcome}
use Rattle.abstract_state.proofs.Stepping.{out_is, given, denied, unread, unmade, writes, compute_unread, compute_is}
use Rattle.abstract_state.proofs.state.AbsState.compute.Goals as goal

pub returns-in_err-a-clause-performs : goal.returns-in_err-a-clause-performs
returns-in_err-a-clause-performs c =
    refused _ _ _ _ c.from_residual.result c.in_err-a.field-0.0 c.from_residual.ensures.1
    (λ reads. c.in_err-a.ensures.floor (first_number c.args.self.now c.args.operation c.args.destination c.requires.reads reads.0))
    (first_reads c.args.operation c.args.destination (read_operand c.args.operand) (λ rs. (c.in_err-a.field-0.0 ≡ UnsetRegister) ↔ HasUnset c.args.self.now rs) c.requires.reads
    (first_unset c.args.self.now c.args.destination (read_operand c.args.operand) _ c.in_err-a.ensures.unset))

pub returns-in_err-b-clause-performs : goal.returns-in_err-b-clause-performs
returns-in_err-b-clause-performs c =
    refused _ _ _ _ c.from_residual-in_err-b.result c.in_err-b.field-0.0 c.from_residual-in_err-b.ensures.1
    (λ reads. c.in_err-b.ensures.floor reads.1)
    (first_reads c.args.operation c.args.destination (read_operand c.args.operand) (λ rs. (c.in_err-b.field-0.0 ≡ UnsetRegister) ↔ HasUnset c.args.self.now rs) c.requires.reads
    (rest_unset c.args.self.now c.args.destination (read_operand c.args.operand) _ c.in_err-b.ensures.unset))

pub returns-in_err-known-clause-performs : goal.returns-in_err-known-clause-performs
returns-in_err-known-clause-performs c =
    refused _ _ _ _ c.from_residual-in_err-known.result c.in_err-known.field-0.0 c.from_residual-in_err-known.ensures.1
    (λ reads. c.in_err-known.ensures.floor (c.in_ok-a.ensures.numbers (first_number c.args.self.now c.args.operation c.args.destination c.requires.reads reads.0)) (c.in_ok-b.ensures.numbers reads.1))
    (first_reads c.args.operation c.args.destination (read_operand c.args.operand) (λ rs. (c.in_err-known.field-0.0 ≡ UnsetRegister) ↔ HasUnset c.args.self.now rs) c.requires.reads
    (none_unset c.args.self.now (c.args.destination ∷ read_operand c.args.operand) _ c.in_err-known.ensures.not_unset (neither_unset c.args.self.now c.args.destination (read_operand c.args.operand) c.in_ok-a.ensures.set c.in_ok-b.ensures.set)))

pub returns-clause-performs : goal.returns-clause-performs
returns-clause-performs c = record {
  sound = λ span s held.
      let a = c.in_ok-a.ensures.sound (lengths_of span) s held in
      let b = c.in_ok-b.ensures.sound (lengths_of span) s held in (
        _,
        computes span s c.args.width c.args.operation c.args.destination c.args.operand a.0 b.0 c.requires.frame c.requires.reads a.1 b.1,
        c.write.ensures.sound (lengths_of span) s _ held (c.in_ok-known.ensures.sound (lengths_of span) a.0 b.0 a.2 b.2),
      );
  others = c.write.ensures.others;
  memory = c.write.ensures.memory;
  floor = λ _. refl;
  numbers = λ reads. c.write.ensures.numbers (c.in_ok-known.ensures.numbers (c.in_ok-a.ensures.numbers (first_number c.args.self.now c.args.operation c.args.destination c.requires.reads reads.0)) (c.in_ok-b.ensures.numbers reads.1));
  unset = tt;
  set = first_reads c.args.operation c.args.destination (read_operand c.args.operand) (λ rs. HasUnset c.args.self.now rs → ⊥) c.requires.reads (neither_unset c.args.self.now c.args.destination (read_operand c.args.operand) c.in_ok-a.ensures.set c.in_ok-b.ensures.set);
}

pub returns-in_err-a-clause-adds : goal.returns-in_err-a-clause-adds
returns-in_err-a-clause-adds c = λ region k n t w o e h near. let bad : false ≡ true = (c.in_err-a.ensures.holds (LentIn region n n t) h).0 in absurd (cc)

pub returns-in_err-known-clause-adds : goal.returns-in_err-known-clause-adds
returns-in_err-known-clause-adds c = λ region k n t w o e h near.
    let bad : false ≡ true = (c.in_err-known.ensures.adds region o w n k t (c.in_ok-a.ensures.holds (LentIn region n n t) h).1 (c.in_ok-b.ensures.constant region k e (omega arith)).1 near).0 in absurd (cc)

pub returns-clause-adds : goal.returns-clause-adds
returns-clause-adds c = λ region k n t w o e h near. (
  refl,
  c.write.ensures.holds (LentIn region (n + k) (n + k) (tail_after t k))
      (c.in_ok-known.ensures.adds region o w n k t (c.in_ok-a.ensures.holds (LentIn region n n t) h).1 (c.in_ok-b.ensures.constant region k e (omega arith)).1 near).1,
)

pub returns-in_err-a-clause-folds : goal.returns-in_err-a-clause-folds
returns-in_err-a-clause-folds c = λ region m n w f h o. let bad : false ≡ true = (c.in_err-a.ensures.holds (NumberIn region m m None) h).0 in absurd (cc)

pub returns-in_err-b-clause-folds : goal.returns-in_err-b-clause-folds
returns-in_err-b-clause-folds c = λ region m n w f h o. let bad : false ≡ true = (c.in_err-b.ensures.one region n o).0 in absurd (cc)

pub returns-in_err-known-clause-folds : goal.returns-in_err-known-clause-folds
returns-in_err-known-clause-folds c = λ region m n w f h o.
    let bad : false ≡ true = (c.in_err-known.ensures.folds region w m n f (c.in_ok-a.ensures.holds (NumberIn region m m None) h).1 (c.in_ok-b.ensures.one region n o).1).0 in absurd (cc)

pub returns-clause-folds : goal.returns-clause-folds
returns-clause-folds c = λ region m n w f h o.
    let v = value_of c.args.operation Full m n in
    (refl, c.write.ensures.holds (NumberIn region v v None) (c.in_ok-known.ensures.folds region w m n f (c.in_ok-a.ensures.holds (NumberIn region m m None) h).1 (c.in_ok-b.ensures.one region n o).1).1)

pub returns-in_err-a-clause-rule : goal.returns-in_err-a-clause-rule
returns-in_err-a-clause-rule c =
    compute_unread c.args.profile c.args.width c.args.operation c.args.destination c.args.operand (situation_of c.args.self.now) c.in_err-a.field-0.0 c.from_residual.result c.args.self.now
    (denied content_of _ _ _ c.read.ensures.rule c.in_err-a.was) (out_is _ _ c.from_residual.ensures.1)

pub returns-in_err-b-clause-rule : goal.returns-in_err-b-clause-rule
returns-in_err-b-clause-rule c =
    let is = compute_is c.args.profile c.args.width c.args.operation c.args.destination c.args.operand (situation_of c.args.self.now) (content_of c.in_ok-a.a) (given content_of _ _ _ c.read.ensures.rule c.in_ok-a.was) in
    subst (λ (r : Outcome). AnswersStep r c.from_residual-in_err-b.result c.args.self.now) (sym is)
    (unread _ _ _ _ c.in_err-b.field-0.0 _ _ (denied content_of _ _ _ c.operand.ensures.rule c.in_err-b.was) (out_is _ _ c.from_residual-in_err-b.ensures.1))

pub returns-in_err-known-clause-rule : goal.returns-in_err-known-clause-rule
returns-in_err-known-clause-rule c =
    let is = compute_is c.args.profile c.args.width c.args.operation c.args.destination c.args.operand (situation_of c.args.self.now) (content_of c.in_ok-a.a) (given content_of _ _ _ c.read.ensures.rule c.in_ok-a.was) in
    subst (λ (r : Outcome). AnswersStep r c.from_residual-in_err-known.result c.args.self.now) (sym is)
    (unmade _ _ _ _ (content_of c.in_ok-b.b) c.in_err-known.field-0.0 _ _ (given content_of _ _ _ c.operand.ensures.rule c.in_ok-b.was)
    (denied (option_map content_of) _ _ _ c.compute.ensures.rule c.in_err-known.was) (out_is _ _ c.from_residual-in_err-known.ensures.1))

pub returns-clause-rule : goal.returns-clause-rule
returns-clause-rule c =
    let is = compute_is c.args.profile c.args.width c.args.operation c.args.destination c.args.operand (situation_of c.args.self.now) (content_of c.in_ok-a.a) (given content_of _ _ _ c.read.ensures.rule c.in_ok-a.was) in
    subst (λ (r : Outcome). AnswersStep r (Ok c.write.result) c.write.new.self) (sym is)
    (writes _ _ _ _ (content_of c.in_ok-b.b) c.in_ok-known.known c.write.result _ (given content_of _ _ _ c.operand.ensures.rule c.in_ok-b.was)
    (given (option_map content_of) _ _ _ c.compute.ensures.rule c.in_ok-known.was) c.write.ensures.rule)
