use Rattle.std.proofs.Common.{◌≡◌, true, false, None, refl, subst, option_map}
use Rattle.abstract_state.specs.Exact.{LentIn, NumberIn, Exactly, NoLess, IsNoLess}
use Rattle.std.specs.Option.{IfSome}
use Rattle.abstract_state.specs.declared.known.Known.{Known}
use Rattle.abstract_state.specs.State.{lengths_of}
use Rattle.abstract_state.proofs.Steps.{moves}
use Rattle.abstract_state.proofs.Exact.{one_number}
use Rattle.bpf_words.specs.Flow.{read_operand}
use Rattle.abstract_state.proofs.Unsets.{all_unset, none_unset}
use Rattle.abstract_state.proofs.Performs.{refused}
use Rattle.abstract_state.specs.Addresses.{content_of}
use Rattle.abstract_state.proofs.Stepping.{out_is, given, denied, unread, unmade, writes}
use Rattle.abstract_state.proofs.state.AbsState.move_to.Goals as goal

pub returns-in_err-b-clause-performs : goal.returns-in_err-b-clause-performs
returns-in_err-b-clause-performs c =
    refused _ _ _ _ c.from_residual.result c.in_err-b.field-0.0 c.from_residual.ensures.1
    (λ reads. c.in_err-b.ensures.floor reads.1)
    (all_unset c.args.self.now (read_operand c.args.operand) _ c.in_err-b.ensures.unset)

pub returns-in_err-known-clause-performs : goal.returns-in_err-known-clause-performs
returns-in_err-known-clause-performs c =
    refused _ _ _ _ c.from_residual-in_err-known.result c.in_err-known.field-0.0 c.from_residual-in_err-known.ensures.1
    (λ reads. c.in_err-known.ensures.floor (c.in_ok-b.ensures.numbers reads.1))
    (none_unset c.args.self.now (read_operand c.args.operand) _ c.in_err-known.ensures.not_unset c.in_ok-b.ensures.set)

pub returns-clause-performs : goal.returns-clause-performs
returns-clause-performs c = record {
  sound = λ span s a.
      let b = c.in_ok-b.ensures.sound (lengths_of span) s a in (
        _,
        moves span s c.args.width c.args.destination c.args.operand b.0 c.requires b.1,
        c.write.ensures.sound (lengths_of span) s _ a (c.in_ok-known.ensures.sound (lengths_of span) b.0 b.2),
      );
  others = c.write.ensures.others;
  memory = c.write.ensures.memory;
  floor = λ _. refl;
  numbers = λ reads. c.write.ensures.numbers (c.in_ok-known.ensures.numbers (c.in_ok-b.ensures.numbers reads.1));
  unset = tt;
  set = c.in_ok-b.ensures.set;
}

pub returns-in_err-b-clause-lent : goal.returns-in_err-b-clause-lent
returns-in_err-b-clause-lent c = λ region r n t w e h. let bad : false ≡ true = (c.in_err-b.ensures.holds r (LentIn region n n t) e h).0 in absurd (cc)

pub returns-in_err-known-clause-lent : goal.returns-in_err-known-clause-lent
returns-in_err-known-clause-lent c = λ region r n t w e h.
    let bad : false ≡ true = (c.in_err-known.ensures.lent region w n t (c.in_ok-b.ensures.holds r (LentIn region n n t) e h).1).0 in absurd (cc)

pub returns-clause-lent : goal.returns-clause-lent
returns-clause-lent c = λ region r n t w e h.
    (refl, c.write.ensures.holds (LentIn region n n t) (c.in_ok-known.ensures.lent region w n t (c.in_ok-b.ensures.holds r (LentIn region n n t) e h).1).1)

pub returns-in_err-b-clause-copies : goal.returns-in_err-b-clause-copies
returns-in_err-b-clause-copies c = λ region n w o. let bad : false ≡ true = (c.in_err-b.ensures.one region n o).0 in absurd (cc)

pub returns-in_err-known-clause-copies : goal.returns-in_err-known-clause-copies
returns-in_err-known-clause-copies c = λ region n w o.
    let bad : false ≡ true = c.in_err-known.ensures.floor (one_number region n n None _ (c.in_ok-b.ensures.one region n o).1) in absurd (cc)

pub returns-clause-copies : goal.returns-clause-copies
returns-clause-copies c = λ region n w o. (refl, c.write.ensures.holds (NumberIn region n n None) (c.in_ok-known.ensures.constant region w n None (c.in_ok-b.ensures.one region n o).1))

pub returns-in_err-b-clause-moves : goal.returns-in_err-b-clause-moves
returns-in_err-b-clause-moves c = λ r known w e h. let bad : false ≡ true = (c.in_err-b.ensures.holds r (Exactly known) e h).0 in absurd (cc)

pub returns-in_err-known-clause-moves : goal.returns-in_err-known-clause-moves
returns-in_err-known-clause-moves c = λ r known w e h. let bad : false ≡ true = (c.in_err-known.ensures.whole w).0 in absurd (cc)

pub returns-clause-moves : goal.returns-clause-moves
returns-clause-moves c = λ r known w e h.
    let same = (c.in_ok-b.ensures.holds r (Exactly known) e h).1 in
    (refl, c.write.ensures.holds (NoLess known) (subst (λ (k : Known). IfSome c.in_ok-known.known (λ v. IsNoLess k v)) same (c.in_ok-known.ensures.whole w).1))

pub returns-in_err-b-clause-rule : goal.returns-in_err-b-clause-rule
returns-in_err-b-clause-rule c =
    unread _ _ _ _ c.in_err-b.field-0.0 c.from_residual.result _
    (denied content_of _ _ _ c.operand.ensures.rule c.in_err-b.was) (out_is _ _ c.from_residual.ensures.1)

pub returns-in_err-known-clause-rule : goal.returns-in_err-known-clause-rule
returns-in_err-known-clause-rule c =
    unmade _ _ _ _ (content_of c.in_ok-b.b) c.in_err-known.field-0.0 c.from_residual-in_err-known.result _
    (given content_of _ _ _ c.operand.ensures.rule c.in_ok-b.was)
    (denied (option_map content_of) _ _ _ c.moved.ensures.rule c.in_err-known.was) (out_is _ _ c.from_residual-in_err-known.ensures.1)

pub returns-clause-rule : goal.returns-clause-rule
returns-clause-rule c =
    writes _ _ _ _ (content_of c.in_ok-b.b) c.in_ok-known.known c.write.result _
    (given content_of _ _ _ c.operand.ensures.rule c.in_ok-b.was)
    (given (option_map content_of) _ _ _ c.moved.ensures.rule c.in_ok-known.was) c.write.ensures.rule
