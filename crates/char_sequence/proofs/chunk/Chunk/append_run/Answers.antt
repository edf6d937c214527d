use Rattle.std.proofs.Common.{◌≡◌, ◌+◌, ◌++◌, length, drop, ap, ◌∙◌, sym, arith, rules, string_bytes, vec_capacity, length-append}
use Rattle.std.specs.String.{string_len, string_capacity}
use Rattle.char_sequence.specs.Chunks.{IsChunk, IsTextOf}
use Rattle.char_sequence.specs.Visible.{visible_text}
use Rattle.char_sequence.specs.RunElements.{elements_from}
use Rattle.char_sequence.proofs.VisibleText.{visible_append, visible_most}
use Rattle.char_sequence.proofs.RunPlaced.{put_length, floor_run, insert_all_end, appended_shown, appended_part}
use Rattle.char_sequence.proofs.chunk.Chunk.append_run.Goals as goal

pub push_with_room-requires : goal.push_with_room-requires
push_with_room-requires c =
    let items = c.self.inside.items.items in
    let new = c.push_elements.new.items.items in
    let part = c.split_at.result.1.now in
    let same = ap length c.self.view_is in
    let room = c.requires.room in
    let start : c.len-start.result ≡ length items = search rules in
    let read = c.split_at.ensures.back ∙ ap (drop c.len-start.result) c.deref.ensures.value in
    let is = appended_part items new part c.args.id c.args.characters.now c.len-start.result start c.push_elements.ensures.items read in
    let whole = c.push_elements.ensures.items ∙ sym (insert_all_end (elements_from c.args.id c.args.characters.now) items) in
    let size = put_length items new (length items) c.args.id c.args.characters.now (omega arith) whole in
    let of_part : length new ≡ length items + length part = ap length (c.push_elements.ensures.items ∙ ap (λ l. items ++ l) (sym is)) ∙ length-append items part in
    let was : string_len c.self.inside.text ≡ length (string_bytes c.self.inside.text) = search rules in
    let shown = ap length c.self.invariant.1.shown in
    let most = visible_most items in
    let more = visible_most part in
    let wide = c.self.invariant.1.room in
    omega (arith, same, room, size, of_part, was, shown, most, more, wide)

pub invariant_of-self : goal.invariant_of-self
invariant_of-self c =
    let items = c.self.inside.items.items in
    let new = c.push_elements.new.items.items in
    let added = elements_from c.args.id c.args.characters.now in
    let part = c.split_at.result.1.now in
    let same = ap length c.self.view_is in
    let room = c.requires.room in
    let start : c.len-start.result ≡ length items = search rules in
    let read = c.split_at.ensures.back ∙ ap (drop c.len-start.result) c.deref.ensures.value in
    let is = appended_part items new part c.args.id c.args.characters.now c.len-start.result start c.push_elements.ensures.items read in
    let whole = c.push_elements.ensures.items ∙ sym (insert_all_end added items) in
    let size = put_length items new (length items) c.args.id c.args.characters.now (omega arith) whole in
    let some = c.self.invariant.0.some in
    let enough = c.self.invariant.0.room in
    let kept = c.push_elements.ensures.capacity in
    let grown = c.push_with_room.ensures.capacity in
    let wide = c.self.invariant.1.room in
    let count = c.self.invariant.3 in
    let more = appended_shown items new c.args.id c.args.characters.now c.push_elements.ensures.items in
    let chunk : IsChunk new (vec_capacity c.push_elements.new.items) = record { some = omega (arith, size, some); few = omega (arith, size, same, room); room = omega (arith, enough, kept) } in
    let text : IsTextOf new (string_bytes c.push_with_room.new.text) (string_capacity c.push_with_room.new.text) = record {
      shown =
          c.push_with_room.ensures.bytes
          ∙ ap (λ z. z ++ visible_text part) c.self.invariant.1.shown
          ∙ ap (λ z. visible_text items ++ visible_text z) is
          ∙ sym (visible_append items added)
          ∙ ap visible_text (sym c.push_elements.ensures.items);
      room = omega (arith, grown, wide);
    } in (
      chunk,
      text,
      floor_run c.args.characters.now items new (length items) c.args.id c.self.inside.floor _ (omega arith) whole c.self.invariant.2 c.lesser-self-inside.ensures.first c.lesser-self-inside.ensures.second,
      omega (arith, count, more),
    )
