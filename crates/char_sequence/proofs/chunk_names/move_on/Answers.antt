use Rattle.std.proofs.Common.{set, slice_index, ap, sym, ◌∙◌, arith}
use Rattle.std.proofs.lemmas.Option.{same_Some, slice_get-get_or}
use Rattle.std.proofs.lemmas.List.Edits.{map_over_more}
use Rattle.char_sequence.specs.Chunks.{moved}
use Rattle.char_sequence.proofs.chunk_names.move_on.Goals as goal

pub loop-name-preserved : goal.loop-name-preserved
loop-name-preserved c =
    let now = c.loop-name.positions in
    let i = c.loop-name.name in
    let at = slice_index now i in
    let low = c.loop-name-test.true in
    let is = same_Some at _ (sym (slice_get-get_or now i 0 (omega (arith, low))) ∙ slice_get-get_or now i at (omega (arith, low))) in
    ap (set now i) c.moved.ensures ∙ map_over_more (moved c.args.position) c.args.positions.now now i at (omega (arith, low)) c.loop-name.invariant is
