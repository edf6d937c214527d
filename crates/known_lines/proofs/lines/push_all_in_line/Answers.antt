use Rattle.std.proofs.Common.{◌≡◌, ◌++◌, [], Bool, true, false, string_bytes, ap, sym, ◌∙◌, arith}
use Rattle.std.proofs.lemmas.List.{append-nil}
use Rattle.known_lines.proofs.Lists.{lines_left, in_line_done}
use Rattle.known_lines.proofs.lines.push_all_in_line.Goals as goal

pub returns-in_ok-push_str : goal.returns-in_ok-push_str
returns-in_ok-push_str c =
    let all = in_line_done string_bytes c.args.lines.now c.args.others.now c.loop-index.index c.loop-index.some _ (string_bytes c.loop-index.text) (omega arith) c.loop-index.invariant.written in
    let none : c.loop-index.some ≡ false = c.if-not-some.true in
    c.in_ok-push_str.ensures.bytes ∙ ap (λ (some : Bool). string_bytes c.loop-index.text ++ lines_left some []) (sym none) ∙ all

pub returns-else-not-some : goal.returns-else-not-some
returns-else-not-some c =
    let all = in_line_done string_bytes c.args.lines.now c.args.others.now c.loop-index.index c.loop-index.some _ (string_bytes c.loop-index.text) (omega arith) c.loop-index.invariant.written in
    let more : c.loop-index.some ≡ true = c.if-not-some.false in
    sym (append-nil (string_bytes c.loop-index.text)) ∙ ap (λ (some : Bool). string_bytes c.loop-index.text ++ lines_left some []) (sym more) ∙ all
