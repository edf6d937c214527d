use Rattle.std.proofs.Common.{◌≡◌, ◌<◌, List, length, ap, sym, ◌∙◌, subst}
use Rattle.std.specs.List.{slice_get}
use Rattle.mark_anchors.proofs.Lists.{contains_from}
use Rattle.replica.specs.Messages.{Message}
use Rattle.replica.specs.Buffers.{Buffered}
use Rattle.replica.proofs.Opening.{opened}
use Rattle.replica.proofs.buffer.Buffer.held_at.Goals as goal

pub message_at-requires : goal.message_at-requires
message_at-requires c =
    let same : c.args.self.now.held ≡ c.deref.result.now = ap (λ (b : Buffered). b.held) (sym c.self.view_is) ∙ sym c.deref.ensures.value in
    subst (λ (ms : List Message). c.args.index < length ms) same c.requires

pub returns-clause-at : goal.returns-clause-at
returns-clause-at c =
    let same : c.args.self.now.held ≡ c.deref.result.now = ap (λ (b : Buffered). b.held) (sym c.self.view_is) ∙ sym c.deref.ensures.value in
    ap (λ (ms : List Message). slice_get ms c.args.index) same ∙ c.message_at.ensures

pub returns-clause-apart : goal.returns-clause-apart
returns-clause-apart c = λ h.
    let o = opened c.args.self.now c.self.inside.history c.self.inside.held.items c.self.inside.known c.self.view_is c.self.invariant in
    let same : c.args.self.now.held ≡ c.deref.result.now = ap (λ (b : Buffered). b.held) (sym c.self.view_is) ∙ sym c.deref.ensures.value in
    let at = ap (λ (ms : List Message). slice_get ms c.args.index) same ∙ c.message_at.ensures in
    o.kept.apart h.0 c.message_at.result.now h.1 (contains_from c.args.self.now.held c.args.index c.message_at.result.now at) h.2
