use Rattle.std.proofs.Common.{◌≡◌, ◌-◌, ◌++◌, length, slice_range, string_bytes, ap, sym, refl, ◌∙◌, arith}
use Rattle.std.proofs.lemmas.Slice.{pushed}
use Rattle.char_sequence.specs.Visible.{visible_text}
use Rattle.char_sequence.proofs.Ranges.{range_whole}
use Rattle.char_sequence.proofs.visible.push_within.Goals as goal

pub unwrap-requires : goal.unwrap-requires
unwrap-requires c =
    let chunk = c.args.chunk.now in
    let a = c.args.from - c.args.start in
    let b = c.args.to - c.args.start in
    let items = c.as_slice-items.ensures.value in
    let piece : c.part-piece.result.now ≡ slice_range chunk a b = c.part-piece.ensures.value ∙ ap (λ z. slice_range z a b) items in
    let whole : slice_range chunk a b ≡ chunk = range_whole chunk a b (sym (ap length piece) ∙ c.if-is_whole.ensures refl ∙ ap length items) in
    let size = ap length (c.text.ensures.value ∙ ap visible_text (sym whole)) in
    let room = c.requires.room in
    c.push_str.ensures.succeeds (omega (arith, size, room))

pub push_with_room-requires : goal.push_with_room-requires
push_with_room-requires c =
    let a = c.args.from - c.args.start in
    let b = c.args.to - c.args.start in
    let same = ap (λ z. length (visible_text z)) (c.part-piece.ensures.value ∙ ap (λ z. slice_range z a b) c.as_slice-items.ensures.value) in
    let room = c.requires.room in
    omega (arith, same, room)

pub returns-then-is_whole-clause-bytes : goal.returns-then-is_whole-clause-bytes
returns-then-is_whole-clause-bytes c =
    let chunk = c.args.chunk.now in
    let a = c.args.from - c.args.start in
    let b = c.args.to - c.args.start in
    let items = c.as_slice-items.ensures.value in
    let piece : c.part-piece.result.now ≡ slice_range chunk a b = c.part-piece.ensures.value ∙ ap (λ z. slice_range z a b) items in
    let whole : slice_range chunk a b ≡ chunk = range_whole chunk a b (sym (ap length piece) ∙ c.if-is_whole.ensures refl ∙ ap length items) in
    let front = string_bytes c.args.text.now in
    let same : front ≡ front = refl in
    pushed _ same c.unwrap.ensures c.push_str.ensures.bytes ∙ ap (λ bs. front ++ bs) (c.text.ensures.value ∙ ap visible_text (sym whole))

pub returns-else-is_whole-clause-bytes : goal.returns-else-is_whole-clause-bytes
returns-else-is_whole-clause-bytes c =
    let a = c.args.from - c.args.start in
    let b = c.args.to - c.args.start in
    c.push_with_room.ensures.bytes
    ∙ ap (λ z. string_bytes c.args.text.now ++ visible_text z) (c.part-piece.ensures.value ∙ ap (λ z. slice_range z a b) c.as_slice-items.ensures.value)
