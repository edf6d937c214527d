use Rattle.std.proofs.Common.{ℕ, take, arith, sym, subst}
use Rattle.std.specs.Io.KnownBytes.{Consumes}
use Rattle.hub_commands.specs.Pieces.{HasRead}
use Rattle.hub_commands.proofs.Gathering.{begun, read_more, read_kept, read_whole}
use Rattle.hub_commands.proofs.pieces.take_from.Goals.{in-Ok+in_ok-push_piece-in-Ok, in-Err+else-ne}
use Rattle.hub_commands.proofs.pieces.take_from.Goals as goal

pub loop-init : goal.loop-init
loop-init g c = λ terms new. begun (g.G.Gather.keeps terms) (g.R.Read.remaining c.args.reader.now) c.args.kept.now new

pub returns-in-Ok-eq0 : goal.returns-in-Ok-eq0
returns-in-Ok-eq0 g c = λ terms begins.
    let old = g.R.Read.remaining c.loop.reader in
    let new = g.R.Read.remaining c.read.new.self in
    let given = c.in-Ok-eq0.ensures.bytes in
    let none = subst (λ (n : ℕ). Consumes old new (take n c.read.new.buf)) c.in-Ok-eq0.field-0-test given.0 in
    let ends = given.1 c.in-Ok-eq0.field-0-test (omega (arith, c.read.auto.buf, c.loop.auto.piece, c.requires)) in
    read_whole (g.G.Gather.keeps terms) (g.R.Read.remaining c.args.reader.now) old new c.loop.kept (c.loop.invariant terms begins) none ends

pub loop-preserved : goal.loop-preserved
loop-preserved g c = λ terms begins.
    let first = g.R.Read.remaining c.args.reader.now in
    let old = g.R.Read.remaining c.loop.reader in
    let new = g.R.Read.remaining c.read.new.self in
    elim c.match-read.branch [
      | in-Ok+in_ok-push_piece-in-Ok w ↦ subst (λ kept. HasRead (g.G.Gather.keeps terms) first new kept) (sym w.kept-is)
          (read_more (g.G.Gather.keeps terms) first old new (take w.in-Ok.len c.read.new.buf) c.loop.kept w.push_piece.new.self (c.loop.invariant terms begins) w.in-Ok.ensures.bytes.0
          (w.in_ok-push_piece-in-Ok.ensures terms))
      | in-Err+else-ne w ↦ subst (λ kept. HasRead (g.G.Gather.keeps terms) first new kept) (sym w.kept-is)
          (read_kept (g.G.Gather.keeps terms) first old new c.loop.kept (c.loop.invariant terms begins) w.in-Err.ensures.bytes)
    ]
