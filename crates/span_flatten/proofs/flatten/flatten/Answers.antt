use Rattle.std.proofs.Common.{sym, subst}
use Rattle.span_flatten.specs.Version.{IsVersion}
use Rattle.span_flatten.specs.Window.{IsFlattened}
use Rattle.span_flatten.proofs.Taking.{window_version}
use Rattle.span_flatten.proofs.flatten.flatten.Goals as goal

pub returns : goal.returns
returns c =
    λ ops h m.
    subst (λ v. IsVersion ops c.args.number v) (sym c.into_version.ensures.value)
    (window_version c.args.sequence.now.elements c.args.marks.now c.len.result c.args.number c.in_ok-window.window.text c.in_ok-window.window.rows c.len.ensures.value c.into_version.ensures.whole
    (subst (λ ms. IsFlattened c.args.sequence.now.elements ms 0 c.len.result c.in_ok-window.window) c.in_ok-resolved.ensures.marks c.in_ok-window.ensures) ops h m)
