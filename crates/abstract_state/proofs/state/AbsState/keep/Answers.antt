use Rattle.std.proofs.Common.{subst}
use Rattle.semantics.specs.State.{State}
use Rattle.abstract_state.specs.State.{Contains}
use Rattle.abstract_state.proofs.Branches.{put_back}
use Rattle.abstract_state.proofs.KindLaws.{put_keeps}
use Rattle.abstract_state.proofs.state.AbsState.keep.Goals as goal

pub returns-clause-sound : goal.returns-clause-sound
returns-clause-sound c = λ lengths s n a e k.
    subst (λ (t : State). Contains c.put.new.self lengths t) (put_back s c.args.register n e) (c.put.ensures.contains lengths s n a k)

pub returns-clause-kinds : goal.returns-clause-kinds
returns-clause-kinds c = λ was number. put_keeps c.args.self.now c.put.new.self c.args.register c.args.known was number c.put.ensures.others c.put.ensures.there
