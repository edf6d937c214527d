use Rattle.std.proofs.Common.{[], ◌∷◌, refl, option_map}
use Rattle.abstract_state.specs.State.{lengths_of}
use Rattle.abstract_state.proofs.Steps.{extends}
use Rattle.abstract_state.proofs.Unsets.{all_unset, none_unset}
use Rattle.abstract_state.proofs.Performs.{refused}
use Rattle.abstract_state.specs.Addresses.{content_of}
use Rattle.abstract_state.proofs.Stepping.{out_is, given, denied, unread, unmade, writes}
use Rattle.abstract_state.proofs.state.AbsState.extend.Goals as goal

pub returns-in_err-a-clause-performs : goal.returns-in_err-a-clause-performs
returns-in_err-a-clause-performs c =
    refused _ _ _ _ c.from_residual.result c.in_err-a.field-0.0 c.from_residual.ensures.1
    (λ number. c.in_err-a.ensures.floor number)
    (all_unset c.args.self.now (c.args.source ∷ []) _ c.in_err-a.ensures.unset)

pub returns-in_err-known-clause-performs : goal.returns-in_err-known-clause-performs
returns-in_err-known-clause-performs c =
    refused _ _ _ _ c.from_residual-in_err-known.result c.in_err-known.field-0.0 c.from_residual-in_err-known.ensures.1
    (λ number. c.in_err-known.ensures.floor (c.in_ok-a.ensures.numbers number))
    (none_unset c.args.self.now (c.args.source ∷ []) _ c.in_err-known.ensures.not_unset c.in_ok-a.ensures.set)

pub returns-clause-performs : goal.returns-clause-performs
returns-clause-performs c = record {
  sound = λ span s held.
      let a = c.in_ok-a.ensures.sound (lengths_of span) s held in (
        _,
        extends span s c.args.extension c.args.destination c.args.source a.0 c.requires a.1,
        c.write.ensures.sound (lengths_of span) s _ held (c.in_ok-known.ensures.sound (lengths_of span) a.0 a.2),
      );
  others = c.write.ensures.others;
  memory = c.write.ensures.memory;
  floor = λ _. refl;
  numbers = λ _. c.write.ensures.numbers c.in_ok-known.ensures.numbers;
  unset = tt;
  set = c.in_ok-a.ensures.set;
}

pub returns-in_err-a-clause-rule : goal.returns-in_err-a-clause-rule
returns-in_err-a-clause-rule c =
    unread _ _ _ _ c.in_err-a.field-0.0 c.from_residual.result _
    (denied content_of _ _ _ c.read.ensures.rule c.in_err-a.was) (out_is _ _ c.from_residual.ensures.1)

pub returns-in_err-known-clause-rule : goal.returns-in_err-known-clause-rule
returns-in_err-known-clause-rule c =
    unmade _ _ _ _ (content_of c.in_ok-a.a) c.in_err-known.field-0.0 c.from_residual-in_err-known.result _
    (given content_of _ _ _ c.read.ensures.rule c.in_ok-a.was)
    (denied (option_map content_of) _ _ _ c.extend.ensures.rule c.in_err-known.was) (out_is _ _ c.from_residual-in_err-known.ensures.1)

pub returns-clause-rule : goal.returns-clause-rule
returns-clause-rule c =
    writes _ _ _ _ (content_of c.in_ok-a.a) c.in_ok-known.known c.write.result _
    (given content_of _ _ _ c.read.ensures.rule c.in_ok-a.was)
    (given (option_map content_of) _ _ _ c.extend.ensures.rule c.in_ok-known.was) c.write.ensures.rule
