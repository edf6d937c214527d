use Rattle.std.proofs.Common.{rules}
use Rattle.span_lines.proofs.Calls.{written_out, nothing_gathered}
use Rattle.span_lines.proofs.writing.write_displayed.Goals as goal

pub returns-in-Ok : goal.returns-in-Ok
returns-in-Ok g c =
    written_out g.W.Write.contents _ c.write.new.self c.write_out.new.self _ _ _ c.write_out.result c.in-Ok.ensures.writes (nothing_gathered _ _ c.new.ensures) c.write_out.ensures.written c.write_out.ensures.same (search rules)
