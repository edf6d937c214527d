use Rattle.std.proofs.Common.{◌≡◌, ◌++◌, List, ℕ, sym, ap, subst, ◌∙◌}
use Rattle.std.specs.String.{string_bytes}
use Rattle.change_ops.specs.Spelling.{header_text, lines_text, change_text}
use Rattle.change_ops.specs.Refusals.{Line}
use Rattle.change_join.proofs.Headers.{first_line}
use Rattle.change_join.proofs.Joints.{pushed}
use Rattle.change_join.proofs.joint.write_lines.Goals as goal

pub returns : goal.returns
returns c =
    let change = c.args.change.now in
    let alone : string_bytes c.write_change.new.out ≡ change_text change = c.in_ok-write_change.ensures.ok ∙ ap (λ (x : List ℕ). x ++ change_text change) c.new-text.ensures.bytes in
    let lent : c.deref.result.now ≡ change_text change = c.deref.ensures ∙ alone in
    let cut : Line c.deref.result.now (header_text change) (lines_text change.lines) =
    subst (λ (x : List ℕ). Line x (header_text change) (lines_text change.lines)) (sym lent) (first_line change c.requires) in
    let behind : c.behind_first_line.result.now ≡ lines_text change.lines = c.behind_first_line.ensures (header_text change) (lines_text change.lines) cut in
    pushed c.push_str.result (string_bytes c.args.out.now) (string_bytes c.push_str.new.self) c.behind_first_line.result.now (lines_text change.lines) c.push_str.ensures.bytes behind
