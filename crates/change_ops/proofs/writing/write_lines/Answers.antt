use Rattle.std.proofs.Common.{rules, ◌≡◌, ◌++◌, ◌∷◌, []}
use Rattle.std.specs.String.{string_bytes}
use Rattle.change_ops.specs.Spelling.{line_text}
use Rattle.change_ops.proofs.Appending.{line_more, lines_done}
use Rattle.change_ops.proofs.writing.write_lines.Goals as goal

pub returns : goal.returns
returns c = lines_done c.args.lines.now c.loop-line.line-index _ _ c.loop-line-test.false c.loop-line.invariant

pub loop-line-preserved : goal.loop-line-preserved
loop-line-preserved c =
    let written : string_bytes c.write_line.new.out ≡ string_bytes c.loop-line.out ++ line_text c.line-item.result = c.in_ok-write_line.ensures in
    let pushed : string_bytes c.push.new.self ≡ string_bytes c.write_line.new.out ++ 10 ∷ [] = search rules in
    let all : string_bytes c.push.new.self ≡ (string_bytes c.loop-line.out ++ line_text c.line-item.result) ++ 10 ∷ [] = rw (← written) pushed in
    line_more c.args.lines.now c.line-item.result c.loop-line.line-index _ _ _ c.loop-line-test.true c.line-item.is all c.loop-line.invariant
