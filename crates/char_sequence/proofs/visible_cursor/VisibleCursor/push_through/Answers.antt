use Rattle.std.proofs.Common.{◌+◌, ◌++◌, length, string_bytes, refl, ap, ◌∙◌, arith, length-drop}
use Rattle.char_sequence.specs.Chunks.{joined}
use Rattle.char_sequence.proofs.Joined.{start_within}
use Rattle.char_sequence.specs.Visible.{visible_text, visible_count}
use Rattle.char_sequence.proofs.Ranges.{next_range, next_left, rest_within}
use Rattle.char_sequence.proofs.PlaceTables.{far_enough}
use Rattle.char_sequence.proofs.visible_cursor.VisibleCursor.push_through.Goals as goal

pub overflow_add-to : goal.overflow_add-to
overflow_add-to c =
    let cs = c.self.inside.chunks.now in
    let size = ap length c.self.view_is in
    let left = length-drop c.self.inside.read (joined cs) in
    let few = c.self.invariant.1 in
    let within = c.requires in
    let read = c.self.invariant.0 in
    omega (arith, size, left, few, within, read)

pub push_visible-requires-clause-few : goal.push_visible-requires-clause-few
push_visible-requires-clause-few c =
    let same = ap (λ z. length (joined z)) c.split_at.ensures.front in
    let within = start_within c.self.inside.chunks.now c.min-count_through.result in
    let few = c.self.invariant.1 in
    omega (arith, same, within, few)

pub invariant_of-self : goal.invariant_of-self
invariant_of-self c =
    let cs = c.self.inside.chunks.now in
    let size = ap length c.self.view_is in
    let left = length-drop c.self.inside.read (joined cs) in
    let within = c.requires in
    let read = c.self.invariant.0 in
    rest_within cs c.split_at-2.result.1.now c.chunk_at-last.result.position c.chunk_at-last.result.start (c.self.inside.read + c.args.count) c.chunk_at-last.ensures.start c.chunk_at-last.ensures.reached
    (omega (arith, size, left, within, read)) c.split_at-2.ensures.back c.self.invariant.1

pub returns-clause-text : goal.returns-clause-text
returns-clause-text c =
    let cs = c.self.inside.chunks.now in
    let q = c.min-count_through.result in
    let size = ap length c.self.view_is in
    let left = length-drop c.self.inside.read (joined cs) in
    let within = c.requires in
    let read = c.self.invariant.0 in
    let least = c.min-count_through.ensures in
    let far = far_enough cs (c.self.inside.read + c.args.count) q c.chunk_at-last.result c.chunk_at-last.ensures (omega (arith, size, left, within, read)) (omega (arith, least)) in
    c.in_ok-characters.ensures.ok
    ∙ ap (λ z. string_bytes c.args.text.now ++ visible_text z) (next_range cs c.split_at.result.0.now q c.self.inside.read (c.self.inside.read + c.args.count) c.args.count c.args.self.now refl far c.split_at.ensures.front c.self.view_is)

pub returns-clause-characters : goal.returns-clause-characters
returns-clause-characters c =
    let cs = c.self.inside.chunks.now in
    let q = c.min-count_through.result in
    let size = ap length c.self.view_is in
    let left = length-drop c.self.inside.read (joined cs) in
    let within = c.requires in
    let read = c.self.invariant.0 in
    let least = c.min-count_through.ensures in
    let far = far_enough cs (c.self.inside.read + c.args.count) q c.chunk_at-last.result c.chunk_at-last.ensures (omega (arith, size, left, within, read)) (omega (arith, least)) in
    c.in_ok-characters.ensures.count
    ∙ ap visible_count (next_range cs c.split_at.result.0.now q c.self.inside.read (c.self.inside.read + c.args.count) c.args.count c.args.self.now refl far c.split_at.ensures.front c.self.view_is)

pub returns-clause-left : goal.returns-clause-left
returns-clause-left c =
    next_left c.self.inside.chunks.now c.split_at-2.result.1.now c.chunk_at-last.result.position c.chunk_at-last.result.start c.self.inside.read (c.self.inside.read + c.args.count) c.args.count c.args.self.now
    refl c.chunk_at-last.ensures.start c.chunk_at-last.ensures.reached c.split_at-2.ensures.back c.self.view_is
