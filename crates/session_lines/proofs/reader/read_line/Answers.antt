use Rattle.std.proofs.Common.{sym, subst, arith}
use Rattle.session_lines.proofs.Lining.{SoFar, begun, so_far_more, so_far_kept, arrives}
use Rattle.session_lines.proofs.reader.read_line.Goals.{in-Ok+in-None, in-Err+else-ne}
use Rattle.session_lines.proofs.reader.read_line.Goals as goal

pub arrival_of-requires : goal.arrival_of-requires
arrival_of-requires g c = begun _ _ c.loop.line.items _ _ _ c.loop.invariant.rest c.in-Ok.ensures.ok (omega (arith, c.loop.line.ok.0, c.len.ensures, c.loop.invariant.rest.short))

pub returns-in-Some : goal.returns-in-Some
returns-in-Some g c = arrives _ _ _ c.loop.line.items _ _ _ _ _ c.loop.invariant c.in-Ok.ensures.ok c.in-Some.ensures

pub loop-preserved : goal.loop-preserved
loop-preserved g c = elim c.match-append_part.branch [
  | in-Ok+in-None w ↦ subst (λ v. SoFar (g.B.Read.remaining c.args.reader.now) (g.B.Read.remaining c.append_part.new.reader) v.items) (sym w.line-is) (so_far_more _ _ _ c.loop.line.items _ _ _ _ c.loop.invariant w.in-Ok.ensures.ok w.in-None.ensures)
  | in-Err+else-ne w ↦ subst (λ v. SoFar (g.B.Read.remaining c.args.reader.now) (g.B.Read.remaining c.append_part.new.reader) v.items) (sym w.line-is) (so_far_kept _ _ _ c.loop.line.items _ c.loop.invariant w.in-Err.ensures.err.0 w.in-Err.ensures.err.1)
]
