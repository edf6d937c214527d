use Rattle.std.proofs.Common.{rules, ◌≤◌}
use Rattle.feeds.proofs.Reuse.{stretch_of}
use Rattle.feeds.proofs.stretch.compared.Goals as goal

pub returns : goal.returns
returns c =
    let p = c.span_count-before_end.result in
    let q = c.span_count-after_end.result in
    let in_p : c.min-most.result ≤ p = search rules in
    let in_q : c.min-most.result ≤ q = search rules in
    stretch_of c.args.before.now c.args.after.now p q c.alike_front-front.result c.alike_back-back.result c.min-most.result
    c.span_count-before_end.ensures.value c.span_count-after_end.ensures.value c.alike_front-front.ensures.few c.alike_back-back.ensures.few
    in_p in_q c.alike_front-front.ensures.alike c.alike_back-back.ensures.alike
