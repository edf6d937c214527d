use Rattle.std.proofs.Common.{◌≡◌}
use Rattle.std.specs.Fmt.{styled_signed_decimal}
use Rattle.assembler_lines.specs.Pieces.{spell}
use Rattle.disassembler.specs.Canonical.{signed}
use Rattle.disassembler.proofs.parts.SignedDisplay.fmt.Goals as goal
use Rattle.disassembler.proofs.Signs.{plus_text}

pub returns-clause-writes : goal.returns-clause-writes
returns-clause-writes g c =
    let e : styled_signed_decimal c.laid_out.result c.args.self.now.0 ≡ spell (signed c.args.self.now.0) = rw c.laid_out.ensures (plus_text c.args.self.now.0) in
    rw (← e) c.write.ensures.writes
