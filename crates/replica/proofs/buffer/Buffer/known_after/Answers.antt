use Rattle.std.proofs.Common.{◌≡◌, ℕ, ap, sym, ◌∙◌, subst}
use Rattle.std.proofs.lemmas.Result.{err_from_is_err_and}
use Rattle.change_ops.specs.Changes.{Change}
use Rattle.char_sequence.specs.Newest.{IsLastCounter}
use Rattle.change_history.specs.Accepted.{operations_of}
use Rattle.replica.proofs.Opening.{opened, last_there, last_low}
use Rattle.replica.proofs.Waiting.{behind_last, some_before, pass_blocked, pass_follows}
use Rattle.replica.proofs.buffer.Buffer.known_after.Goals as goal

pub earlier-requires : goal.earlier-requires
earlier-requires c =
    let o = opened c.args.self.now c.self.inside.history c.self.inside.held.items c.self.inside.known c.self.view_is c.self.invariant in
    let node : c.node.result ≡ c.args.message.now.change.node = c.node.ensures.value ∙ ap (λ (x : Change). x.node) c.change.ensures in
    let is = subst (λ (n : ℕ). IsLastCounter (operations_of c.self.inside.history.changes) n c.last_counter-last.result) node c.last_counter-last.ensures in
    let low = last_low c.args.self.now c.self.inside.history c.self.inside.held.items c.self.inside.known o c.args.message.now c.last_counter-last.result c.previous.ensures.sound is c.requires in
    some_before c.last_counter-last.result c.args.message.now.previous low (λ same. c.if-last-previous.true (same ∙ sym c.previous.ensures.value))

pub returns-then-last-previous : goal.returns-then-last-previous
returns-then-last-previous c =
    let o = opened c.args.self.now c.self.inside.history c.self.inside.held.items c.self.inside.known c.self.view_is c.self.invariant in
    let node : c.node.result ≡ c.args.message.now.change.node = c.node.ensures.value ∙ ap (λ (x : Change). x.node) c.change.ensures in
    let is = subst (λ (n : ℕ). IsLastCounter (operations_of c.self.inside.history.changes) n c.last_counter-last.result) node c.last_counter-last.ensures in
    let low = last_low c.args.self.now c.self.inside.history c.self.inside.held.items c.self.inside.known o c.args.message.now c.last_counter-last.result c.previous.ensures.sound is c.requires in
    let there = last_there c.args.self.now c.self.inside.history c.self.inside.held.items c.self.inside.known o c.args.message.now c.last_counter-last.result c.previous.ensures.sound is in
    behind_last c.args.self.now.accepted c.args.message.now c.last_counter-last.result c.earlier.result low there (λ same. c.if-last-previous.true (same ∙ sym c.previous.ensures.value)) c.earlier.ensures

pub returns-in_err-pass_all : goal.returns-in_err-pass_all
returns-in_err-pass_all c =
    let o = opened c.args.self.now c.self.inside.history c.self.inside.held.items c.self.inside.known c.self.view_is c.self.invariant in
    let p = err_from_is_err_and c.from_residual-in_err-pass_all.result c.from_residual-in_err-pass_all.ensures.1 in
    let same : c.in_ok-known.known ≡ c.self.inside.known = c.in_ok-known.ensures.cases in
    rw (p.1, p.2) (pass_blocked c.args.self.now c.args.message.now c.lines.result.now c.in_ok-known.known c.pass_all.new.self c.in_err-pass_all.field-0.0 (c.lines.ensures.value ∙ ap (λ (x : Change). x.lines) c.change-2.ensures) (rw same o.knows) c.in_err-pass_all.ensures)

pub returns : goal.returns
returns c =
    let o = opened c.args.self.now c.self.inside.history c.self.inside.held.items c.self.inside.known c.self.view_is c.self.invariant in
    let node : c.node.result ≡ c.args.message.now.change.node = c.node.ensures.value ∙ ap (λ (x : Change). x.node) c.change.ensures in
    let is = subst (λ (n : ℕ). IsLastCounter (operations_of c.self.inside.history.changes) n c.last_counter-last.result) node c.last_counter-last.ensures in
    let there = last_there c.args.self.now c.self.inside.history c.self.inside.held.items c.self.inside.known o c.args.message.now c.last_counter-last.result c.previous.ensures.sound is in
    let same : c.in_ok-known.known ≡ c.self.inside.known = c.in_ok-known.ensures.cases in
    pass_follows c.args.self.now c.args.message.now c.lines.result.now c.in_ok-known.known c.pass_all.new.self c.last_counter-last.result (c.lines.ensures.value ∙ ap (λ (x : Change). x.lines) c.change-2.ensures) (rw same o.knows) there (c.if-last-previous.false ∙ c.previous.ensures.value) c.in_ok-pass_all.ensures
