use Rattle.std.proofs.Common.{◌≤◌, length, ap, ◌∙◌, arith, string_bytes, vec_capacity}
use Rattle.std.specs.String.{string_capacity}
use Rattle.char_sequence.specs.Chunks.{IsChunk, IsTextOf}
use Rattle.char_sequence.specs.Visible.{visible_text, visible_count}
use Rattle.char_sequence.proofs.RunPlaced.{put_length, floor_run}
use Rattle.char_sequence.proofs.chunk.Chunk.insert_between.Goals as goal

pub write_text-requires : goal.write_text-requires
write_text-requires c =
    let items = c.self.inside.items.items in
    let same = ap length c.self.view_is in
    let within = c.requires.within in
    let room = c.requires.room in
    let size = put_length items c.put_elements.new.items.items c.args.index c.args.id c.args.characters.now (omega (arith, same, within)) c.put_elements.ensures.items in
    let read = ap length c.deref.ensures.value in
    let wide = c.self.invariant.1.room in
    omega (arith, same, room, size, read, wide)

pub count_visible-self-inside-requires : goal.count_visible-self-inside-requires
count_visible-self-inside-requires c =
    let items = c.self.inside.items.items in
    let same = ap length c.self.view_is in
    let within = c.requires.within in
    let room = c.requires.room in
    let size = put_length items c.put_elements.new.items.items c.args.index c.args.id c.args.characters.now (omega (arith, same, within)) c.put_elements.ensures.items in
    let read = ap length c.deref-2.ensures.value in
    let few : length c.deref-2.result.now ≤ 262144 = omega (arith, same, room, size, read) in
    few

pub invariant_of-self : goal.invariant_of-self
invariant_of-self c =
    let items = c.self.inside.items.items in
    let new = c.put_elements.new.items.items in
    let same = ap length c.self.view_is in
    let within = c.requires.within in
    let room = c.requires.room in
    let low : c.args.index ≤ length items = omega (arith, same, within) in
    let size = put_length items new c.args.index c.args.id c.args.characters.now low c.put_elements.ensures.items in
    let some = c.self.invariant.0.some in
    let enough = c.self.invariant.0.room in
    let kept = c.put_elements.ensures.capacity in
    let grown = c.write_text.ensures.capacity in
    let wide = c.self.invariant.1.room in
    let chunk : IsChunk new (vec_capacity c.put_elements.new.items) = record { some = omega (arith, size, some); few = omega (arith, size, same, room); room = omega (arith, enough, kept) } in
    let text : IsTextOf new (string_bytes c.write_text.new.text) (string_capacity c.write_text.new.text) =
    record { shown = c.write_text.ensures.bytes ∙ ap visible_text c.deref.ensures.value; room = omega (arith, grown, wide) } in (
      chunk,
      text,
      floor_run c.args.characters.now items new c.args.index c.args.id c.self.inside.floor _ low c.put_elements.ensures.items c.self.invariant.2 c.lesser-self-inside.ensures.first c.lesser-self-inside.ensures.second,
      c.count_visible-self-inside.ensures ∙ ap visible_count c.deref-2.ensures.value,
    )
