use Rattle.std.proofs.Common.{ap, sym, ◌∙◌, subst}
use Rattle.std.proofs.lemmas.Bool.{iff_false}
use Rattle.std.proofs.lemmas.Result.{err_from_is_err_and}
use Rattle.replica.specs.Buffers.{Buffered}
use Rattle.replica.specs.Replicas.{state_of, IsState}
use Rattle.replica.proofs.Delivering.{covered, takes, settled_state}
use Rattle.replica.proofs.Showing.{shows}
use Rattle.replica.proofs.replica.Replica.deliver.Goals as goal

pub returns-then-covers-clause-delivered : goal.returns-then-covers-clause-delivered
returns-then-covers-clause-delivered c = covered c.args.self.now c.self.inside.buffer c.self.inside.stopped c.args.message c.self.view_is (c.covers.ensures.0 c.if-covers.true)

pub returns-then-covers-clause-shown : goal.returns-then-covers-clause-shown
returns-then-covers-clause-shown c = shows c.args.self.now (subst IsState c.self.view_is c.self.invariant)

pub hold-requires : goal.hold-requires
hold-requires c = iff_false c.covers.ensures c.if-covers.false

pub invariant_of-self : goal.invariant_of-self
invariant_of-self c = subst (λ (b : Buffered). IsState (state_of b c.self.inside.stopped)) (sym c.in_err-hold.ensures) c.self.invariant

pub returns-in_err-hold-clause-delivered : goal.returns-in_err-hold-clause-delivered
returns-in_err-hold-clause-delivered c =
    let p = err_from_is_err_and c.from_residual.result c.from_residual.ensures.1 in
    rw p.1 (ap (λ (b : Buffered). state_of b c.self.inside.stopped) c.in_err-hold.ensures ∙ c.self.view_is)

pub returns-in_err-hold-clause-shown : goal.returns-in_err-hold-clause-shown
returns-in_err-hold-clause-shown c = shows (state_of c.hold.new.self c.self.inside.stopped) (subst (λ (b : Buffered). IsState (state_of b c.self.inside.stopped)) (sym c.in_err-hold.ensures) c.self.invariant)

pub invariant_of-self-2 : goal.invariant_of-self-2
invariant_of-self-2 c = settled_state c.hold.new.self c.settle-self-inside.new.self c.settle-self-inside.result c.settle-self-inside.ensures.kept c.settle-self-inside.ensures.settled

pub returns-clause-delivered : goal.returns-clause-delivered
returns-clause-delivered c = takes c.args.self.now c.self.inside.buffer c.hold.new.self c.settle-self-inside.new.self c.self.inside.stopped c.settle-self-inside.result c.args.message c.self.view_is c.in_ok-hold.ensures c.settle-self-inside.ensures.settled

pub returns-clause-shown : goal.returns-clause-shown
returns-clause-shown c = shows (state_of c.settle-self-inside.new.self c.settle-self-inside.result) (settled_state c.hold.new.self c.settle-self-inside.new.self c.settle-self-inside.result c.settle-self-inside.ensures.kept c.settle-self-inside.ensures.settled)
