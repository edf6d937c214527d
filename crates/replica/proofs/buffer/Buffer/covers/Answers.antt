use Rattle.std.proofs.Common.{◌≡◌, ◌≤◌, ◌<◌, ℕ, ap, ◌∙◌, subst, arith, refl}
use Rattle.change_ops.specs.Changes.{Change}
use Rattle.char_sequence.specs.Newest.{IsLastCounter}
use Rattle.change_history.specs.Accepted.{operations_of}
use Rattle.replica.proofs.Opening.{opened, covered_there, covered_held}
use Rattle.replica.proofs.buffer.Buffer.covers.Goals as goal

pub returns-then-previous-last : goal.returns-then-previous-last
returns-then-previous-last c =
    let o = opened c.args.self.now c.self.inside.history c.self.inside.held.items c.self.inside.known c.self.view_is c.self.invariant in
    let node : c.node.result ≡ c.args.message.now.change.node = c.node.ensures.value ∙ ap (λ (x : Change). x.node) c.change.ensures in
    let is = subst (λ (n : ℕ). IsLastCounter (operations_of c.self.inside.history.changes) n c.last_counter-last.result) node c.last_counter-last.ensures in
    let previous = c.previous.ensures.value in
    let high : c.args.message.now.previous < c.last_counter-last.result = omega (arith, c.if-previous-last.true) in
    (λ yes. covered_there c.args.self.now c.self.inside.history c.self.inside.held.items c.self.inside.known o c.args.message.now c.last_counter-last.result c.previous.ensures.sound is high, λ h. refl)

pub returns : goal.returns
returns c =
    let o = opened c.args.self.now c.self.inside.history c.self.inside.held.items c.self.inside.known c.self.view_is c.self.invariant in
    let node : c.node.result ≡ c.args.message.now.change.node = c.node.ensures.value ∙ ap (λ (x : Change). x.node) c.change.ensures in
    let is = subst (λ (n : ℕ). IsLastCounter (operations_of c.self.inside.history.changes) n c.last_counter-last.result) node c.last_counter-last.ensures in
    let previous = c.previous.ensures.value in
    let low : c.last_counter-last.result ≤ c.args.message.now.previous = omega (arith, c.if-previous-last.false) in
    covered_held c.args.self.now c.self.inside.history c.self.inside.held.items c.self.inside.known o c.args.message.now c.last_counter-last.result c.previous.ensures.sound is c.is_overlapped.result c.deref.result.now low c.deref.ensures.value c.is_overlapped.ensures
