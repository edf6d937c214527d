use Rattle.std.proofs.Common.{◌≡◌, ℕ, List, length, ap, sym, arith, ◌∙◌}
use Rattle.assembler_lines.specs.Slots.{lines_of, first_slot}
use Rattle.assembler.specs.Lines.{lines_left}
use Rattle.assembler.specs.Text.{bytes_before}
use Rattle.assembler.proofs.Reading.{left_within, left_here, left_more, lines_few, none_left}
use Rattle.assembler.proofs.Slots.{at_slot_more}
use Rattle.assembler.proofs.Assembling.{bytes_more, right_more, right_none, text_whole}
use Rattle.assembler.proofs.assembly.assemble.Goals as goal

pub loop-rest-init : goal.loop-rest-init
unfolding first_slot bytes_before
loop-rest-init c = record {
  same = c.new-labels.ensures.same;
  left = ap lines_of c.as_bytes.ensures.value;
  within = omega arith;
  right = right_none (lines_of c.args.source.now);
  whole = c.new-bytes.ensures.items;
  at_slot = ap length c.new-bytes.ensures.items;
}

pub append_line-requires-clause-room : goal.append_line-requires-clause-room
append_line-requires-clause-room c =
    let source = c.args.source.now in
    let left = sym c.first_line.ensures ∙ ap lines_left (sym c.in-Some.is) ∙ c.loop-rest.invariant.left in
    let within = left_within (lines_of source) c.loop-rest.index c.first_line.result.0.now (lines_left c.first_line.result.1) left in
    omega (arith, within, lines_few source)

pub overflow_add-index : goal.overflow_add-index
overflow_add-index c =
    let source = c.args.source.now in
    let left = sym c.first_line.ensures ∙ ap lines_left (sym c.in-Some.is) ∙ c.loop-rest.invariant.left in
    let within = left_within (lines_of source) c.loop-rest.index c.first_line.result.0.now (lines_left c.first_line.result.1) left in
    omega (arith, within, lines_few source)

pub append_line-requires-clause-slot : goal.append_line-requires-clause-slot
append_line-requires-clause-slot c =
    let same = ap (λ (source : List ℕ). first_slot (lines_of source) c.loop-rest.index) c.loop-rest.invariant.same in
    omega (arith, same, c.loop-rest.invariant.at_slot, c.len-slot.ensures)

pub loop-rest-preserved : goal.loop-rest-preserved
loop-rest-preserved c =
    let source = c.args.source.now in
    let lines = lines_of source in
    let index = c.loop-rest.index in
    let line = c.first_line.result.0.now in
    let left = sym c.first_line.ensures ∙ ap lines_left (sym c.in-Some.is) ∙ c.loop-rest.invariant.left in
    let within = left_within lines index line (lines_left c.first_line.result.1) left in
    let here = left_here lines index line (lines_left c.first_line.result.1) left in
    let same : c.loop-rest.labels.source.now ≡ source = c.loop-rest.invariant.same in
    record {
      same = ap (λ text. text.now) c.in_ok-append_line.ensures.same ∙ same;
      left = left_more lines index line (lines_left c.first_line.result.1) left;
      within = omega (arith, within);
      right = right_more lines index (rw same at c.in_ok-append_line.ensures.right) c.loop-rest.invariant.right;
      whole = bytes_more lines index c.loop-rest.bytes.items c.append_line.new.bytes.items c.loop-rest.invariant.whole (rw same at c.in_ok-append_line.ensures.appended);
      at_slot = at_slot_more lines index c.loop-rest.bytes.items c.append_line.new.bytes.items within c.loop-rest.invariant.at_slot
          (rw same at c.in_ok-append_line.ensures.right) (rw same at c.in_ok-append_line.ensures.appended);
    }

pub returns-clause-text : goal.returns-clause-text
returns-clause-text c =
    let lines = lines_of c.args.source.now in
    let all = none_left lines c.loop-rest.index (sym (ap lines_left c.in_default.is) ∙ c.loop-rest.invariant.left) in
    text_whole lines c.loop-rest.index c.loop-rest.bytes.items (omega (arith, all, c.loop-rest.invariant.within)) c.loop-rest.invariant.right c.loop-rest.invariant.whole
