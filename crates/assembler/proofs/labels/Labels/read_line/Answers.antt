use Rattle.std.proofs.Common.{◌<◌, ◌^◌, length, arith, refl, sym, ◌∙◌}
use Rattle.std.specs.Prelude.{sum_by}
use Rattle.assembler_lines.specs.Slots.{lines_of}
use Rattle.assembler.specs.Lines.{lines_left}
use Rattle.assembler.proofs.Labelling.{labels_step, first_slot_more, room_for, fits_more}
use Rattle.assembler.proofs.Reading.{left_within, left_here, left_more, lines_few}
use Rattle.assembler.proofs.Assembling.{room_of}
use Rattle.assembler.proofs.labels.Labels.read_line.Goals as goal

pub overflow_add-self : goal.overflow_add-self
overflow_add-self c =
    let source = c.args.self.now.source.now in
    let left = sym c.first_line.ensures ∙ sym c.requires.text ∙ c.args.self.now.left in
    let within = left_within (lines_of source) c.args.self.now.count c.first_line.result.0.now (lines_left c.first_line.result.1) left in
    omega (arith, within, lines_few source)

pub overflow_add-self-2 : goal.overflow_add-self-2
overflow_add-self-2 c =
    let source = c.args.self.now.source.now in
    let lines = lines_of source in
    let count = c.args.self.now.count in
    let line = c.first_line.result.0.now in
    let left = sym c.first_line.ensures ∙ sym c.requires.text ∙ c.args.self.now.left in
    let within = left_within lines count line (lines_left c.first_line.result.1) left in
    let here = left_here lines count line (lines_left c.first_line.result.1) left in
    let room = room_for lines count c.args.self.now.slot line within here c.args.self.now.fits in
    let all : sum_by length lines < 2 ^ 64 = room_of source lines refl (omega arith) in
    omega (arith, c.slots.ensures.bound, room, all)

pub invariant_of-self-2 : goal.invariant_of-self-2
invariant_of-self-2 c =
    let source = c.args.self.now.source.now in
    let lines = lines_of source in
    let count = c.args.self.now.count in
    let line = c.first_line.result.0.now in
    let left = sym c.first_line.ensures ∙ sym c.requires.text ∙ c.args.self.now.left in
    let within = left_within lines count line (lines_left c.first_line.result.1) left in
    let here = left_here lines count line (lines_left c.first_line.result.1) left in
    record {
      left = left_more lines count line (lines_left c.first_line.result.1) left;
      held = labels_step lines count c.args.self.now.slot c.args.self.now.known c.define_in.new.known line within here c.args.self.now.at_slot c.args.self.now.held c.in_ok-is_label.ensures.defined;
      at_slot = rw c.slots.ensures.value (sym (first_slot_more lines count within ∙ rw (here, ← c.args.self.now.at_slot) refl));
      fits = fits_more lines count c.args.self.now.slot c.slots.result line within here c.args.self.now.fits c.slots.ensures.bound;
    }
