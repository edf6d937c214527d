use Rattle.std.proofs.Common.{◌≡◌, ◌↔◌, true, false, subst}
use Rattle.replica.specs.Messages.{Message, Overlap}
use Rattle.replica.proofs.Soundness.{overlaps_so, overlaps_not, other_peer, behind_all, before_all}
use Rattle.replica.proofs.message.Message.overlaps.Goals as goal

pub returns-then-ours-theirs : goal.returns-then-ours-theirs
returns-then-ours-theirs c =
    let a : Message = record { previous = c.self.inside.previous; change = c.self.inside.change } in
    let b : Message = record { previous = c.other.inside.previous; change = c.other.inside.change } in
    subst (λ (x : Message). (false ≡ true) ↔ Overlap x c.args.other.now) c.self.view_is
    (subst (λ (y : Message). (false ≡ true) ↔ Overlap a y) c.other.view_is
    (overlaps_not a b (other_peer a b c.node-ours.result c.node-theirs.result c.node-ours.ensures.value c.node-theirs.ensures.value c.if-ours-theirs.true)))

pub returns-then-self-other : goal.returns-then-self-other
returns-then-self-other c =
    let a : Message = record { previous = c.self.inside.previous; change = c.self.inside.change } in
    let b : Message = record { previous = c.other.inside.previous; change = c.other.inside.change } in
    subst (λ (x : Message). (false ≡ true) ↔ Overlap x c.args.other.now) c.self.view_is
    (subst (λ (y : Message). (false ≡ true) ↔ Overlap a y) c.other.view_is
    (overlaps_not a b (behind_all a b c.self.inside.last c.other.inside.last c.self.invariant c.other.invariant c.if-self-other.true)))

pub returns-then-other-self : goal.returns-then-other-self
returns-then-other-self c =
    let a : Message = record { previous = c.self.inside.previous; change = c.self.inside.change } in
    let b : Message = record { previous = c.other.inside.previous; change = c.other.inside.change } in
    subst (λ (x : Message). (false ≡ true) ↔ Overlap x c.args.other.now) c.self.view_is
    (subst (λ (y : Message). (false ≡ true) ↔ Overlap a y) c.other.view_is
    (overlaps_not a b (before_all a b c.self.inside.last c.other.inside.last c.self.invariant c.other.invariant c.if-other-self.true)))

pub returns : goal.returns
returns c =
    let a : Message = record { previous = c.self.inside.previous; change = c.self.inside.change } in
    let b : Message = record { previous = c.other.inside.previous; change = c.other.inside.change } in
    subst (λ (x : Message). (true ≡ true) ↔ Overlap x c.args.other.now) c.self.view_is
    (subst (λ (y : Message). (true ≡ true) ↔ Overlap a y) c.other.view_is
    (overlaps_so a b c.self.inside.last c.other.inside.last c.node-ours.result c.node-theirs.result c.self.invariant c.other.invariant c.node-ours.ensures.value c.node-theirs.ensures.value c.if-ours-theirs.false c.if-self-other.false c.if-other-self.false))
