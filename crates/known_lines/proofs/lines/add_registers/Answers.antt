use Rattle.std.proofs.Common.{map, string_bytes, ap, sym, ◌∙◌, ℕ, arith}
use Rattle.std.proofs.lemmas.List.{get_or_read}
use Rattle.abstract_state.specs.declared.state.AbsReg.{AbsReg}
use Rattle.abstract_state.specs.declared.state.AbsReg.TheVariants.{Unset}
use Rattle.abstract_state.specs.Situation.{register_of, registers_of}
use Rattle.known_lines.specs.KnownLines.{register_line}
use Rattle.known_lines.proofs.Lists.{added}
use Rattle.known_lines.proofs.lines.add_registers.Goals as goal

pub loop-number-preserved : goal.loop-number-preserved
loop-number-preserved c =
    let number = c.loop-number.number in
    let read = get_or_read c.args.registers.now number c.index-registers-number.result (omega (arith, c.told-registers)) c.index-registers-number.is Unset in
    added string_bytes (λ (i : ℕ). register_line i (registers_of c.args.registers.now i)) (map string_bytes c.args.lines.now.items) c.loop-number.lines.items c.push.new.self.items c.in_ok-register_line.field-0 number
    c.in_ok-push.ensures.items (c.in_ok-register_line.ensures ∙ ap (λ (r : AbsReg). register_line number (register_of r)) (sym c.index-registers-number.is ∙ read)) c.loop-number.invariant
