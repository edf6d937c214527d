use Rattle.std.proofs.Common.{refl, subst, ◌≡◌}
use Rattle.abstract_state.specs.State.{lengths_of}
use Rattle.abstract_state.proofs.Steps.{loads_wide}
use Rattle.abstract_state.specs.Addresses.{ANumber}
use Rattle.abstract_state.specs.Estimate.{Estimate}
use Rattle.abstract_state.specs.declared.step.Flow.TheVariants.{Live}
use Rattle.abstract_state.specs.Situation.{situation_of, put, IsSituation}
use Rattle.abstract_state.proofs.state.AbsState.load_wide.Goals as goal

pub returns-clause-performs : goal.returns-clause-performs
returns-clause-performs c = record {
  sound = λ span s held. (
    _,
    loads_wide span s c.args.destination c.args.value c.requires,
    c.write.ensures.sound (lengths_of span) s c.args.value held (_, refl, c.constant.ensures.contains (lengths_of span)),
  );
  others = c.write.ensures.others;
  memory = c.write.ensures.memory;
  floor = λ _. refl;
  numbers = λ _. c.write.ensures.numbers tt;
  unset = tt;
  set = λ none. none;
}

pub returns-clause-rule : goal.returns-clause-rule
returns-clause-rule c = subst (λ (e : Estimate). (c.write.result ≡ Live) × IsSituation c.write.new.self (put c.args.destination (ANumber e) (situation_of c.args.self.now))) c.constant.ensures.rule c.write.ensures.rule
