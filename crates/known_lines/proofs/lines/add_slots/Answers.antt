use Rattle.std.proofs.Common.{◌≡◌, ◌++◌, map, string_bytes, ap, sym, ◌∙◌, ℕ, [], arith}
use Rattle.std.proofs.lemmas.List.{get_or_read}
use Rattle.std.specs.List.{range_with_len}
use Rattle.abstract_state.specs.declared.slot.Slot.{Slot}
use Rattle.abstract_state.specs.declared.slot.Slot.TheVariants.{Marks}
use Rattle.abstract_state.specs.Stacks.{eight_of, slots_of}
use Rattle.known_lines.specs.KnownLines.{slot_line}
use Rattle.known_lines.proofs.Lists.{added}
use Rattle.known_lines.proofs.lines.add_slots.Goals as goal

pub loop-index-preserved : goal.loop-index-preserved
loop-index-preserved c =
    let index = c.loop-index.index in
    let read = get_or_read c.args.slots.now index c.index-slots-index.result (omega (arith, c.told-slots)) c.index-slots-index.is (Marks []) in
    added string_bytes (λ (i : ℕ). slot_line i (slots_of c.args.slots.now i)) (map string_bytes c.args.lines.now.items) c.loop-index.lines.items c.push.new.self.items c.in_ok-slot_line.field-0 index
    c.in_ok-push.ensures.items (c.in_ok-slot_line.ensures ∙ ap (λ (slot : Slot). slot_line index (eight_of slot)) (sym c.index-slots-index.is ∙ read)) c.loop-index.invariant

pub returns : goal.returns
returns c =
    let all : c.loop-index.index ≡ 64 = omega arith in
    c.loop-index.invariant
    ∙ ap (λ (n : ℕ). map string_bytes c.args.lines.now.items ++ map (λ (i : ℕ). slot_line i (slots_of c.args.slots.now i)) (range_with_len 0 n)) all
