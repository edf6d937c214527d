use Rattle.std.proofs.Common.{refl, ap, sym, arith, ◌∙◌}
use Rattle.assembler_lines.specs.Slots.{lines_of, first_slot}
use Rattle.assembler.proofs.labels.Labels.new.Goals as goal

pub invariant_of-result : goal.invariant_of-result
unfolding first_slot
invariant_of-result c = record {
  left = ap lines_of (c.as_bytes-2.ensures.value ∙ sym c.as_bytes.ensures.value);
  held = λ name. rw c.new.ensures.empty refl;
  at_slot = refl;
  fits = omega arith;
}
