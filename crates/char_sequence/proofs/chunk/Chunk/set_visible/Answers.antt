use Rattle.std.proofs.Common.{◌≡◌, ℕ, ◌-◌, Some, length, set, take, ap, sym, refl, ◌∙◌, arith, rules, string_bytes, Bool, List}
use Rattle.std.specs.List.{slice_get}
use Rattle.std.specs.String.{string_len, string_capacity}
use Rattle.std.proofs.lemmas.List.{set-get_or}
use Rattle.std.proofs.lemmas.Option.{same_Some}
use Rattle.char_sequence.specs.declared.sequence.Element.{Element}
use Rattle.char_sequence.specs.Chunks.{IsTextOf}
use Rattle.char_sequence.specs.Visible.{visible_text}
use Rattle.char_sequence.proofs.Floors.{floor_changed, chunk_changed, shown_text, hidden_text, begins_within, room_beside, was_hidden, was_shown, same_flag, one_more, one_less}
use Rattle.char_sequence.proofs.Chunking.{here_at, marked}
use Rattle.char_sequence.proofs.chunk.Chunk.set_visible.Goals as goal

-- the element of a chunk, where the chunk is seen as its elements
seen : (items now : List Element) (k : ℕ) (was x : Element) (v : Bool) → items ≡ now → slice_get items k ≡ Some was → slice_get now k ≡ Some x → set items k (marked v was) ≡ set now k (marked v x)
seen items now k was x v same at here =
    let one : was ≡ x = same_Some was x (sym at ∙ ap (λ z. slice_get z k) same ∙ here) in
    ap (λ e. set items k (marked v e)) one ∙ ap (λ z. set z k (marked v x)) same

pub returns-then-element-visible : goal.returns-then-element-visible
returns-then-element-visible c =
    λ x here.
    let items = c.self.inside.items.items in
    let was = c.index.result.now in
    let size = ap length c.self.view_is in
    let within = c.requires in
    let at : slice_get items c.args.index ≡ Some was = here_at items c.args.index was (omega (arith, size, within)) c.index.ensures in
    let as_asked : was.visible ≡ c.args.visible = same_flag was.visible c.args.visible c.if-element-visible.true in
    let same : set items c.args.index was ≡ items = ap (set items c.args.index) c.index.ensures ∙ set-get_or items c.args.index was in
    sym c.self.view_is
    ∙ sym same
    ∙ ap (λ b. set items c.args.index (marked b was)) as_asked
    ∙ seen items c.args.self.now c.args.index was x c.args.visible c.self.view_is at here

pub write_at-requires-clause-room : goal.write_at-requires-clause-room
write_at-requires-clause-room c =
    let items = c.self.inside.items.items in
    let was = c.index.result.now in
    let size = ap length c.self.view_is in
    let within = c.requires in
    let at : slice_get items c.args.index ≡ Some was = here_at items c.args.index was (omega (arith, size, within)) c.index.ensures in
    let beside = room_beside items c.args.index was at (was_hidden was.visible c.args.visible c.if-element-visible.false c.if-visible.true) in
    let long : string_len c.self.inside.text ≡ length (string_bytes c.self.inside.text) = search rules in
    let shown = ap length c.self.invariant.1.shown in
    let few = c.self.invariant.0.few in
    let wide = c.self.invariant.1.room in
    omega (arith, beside, long, shown, few, wide)

pub invariant_of-self : goal.invariant_of-self
invariant_of-self c =
    let items = c.self.inside.items.items in
    let was = c.index.result.now in
    let new = marked c.args.visible was in
    let size = ap length c.self.view_is in
    let within = c.requires in
    let at : slice_get items c.args.index ≡ Some was = here_at items c.args.index was (omega (arith, size, within)) c.index.ensures in
    let hidden = was_hidden was.visible c.args.visible c.if-element-visible.false c.if-visible.true in
    let before = c.text_before-at.ensures.value ∙ ap (λ z. length (visible_text (take c.args.index z))) (sym c.self.view_is) in
    let grown = c.write_at.ensures.capacity in
    let wide = c.self.invariant.1.room in
    let count = c.self.invariant.3 in
    let more = one_more items c.args.index was new at hidden c.if-visible.true in
    let text : IsTextOf (set items c.args.index new) (string_bytes c.write_at.new.text) (string_capacity c.write_at.new.text) = record {
      shown = shown_text items c.args.index c.text_before-at.result was new (string_bytes c.self.inside.text) _ at hidden c.self.invariant.1.shown before c.write_at.ensures.bytes;
      room = omega (arith, grown, wide);
    } in
    (chunk_changed items c.args.index _ new c.self.invariant.0, text, floor_changed items c.args.index was new c.self.inside.floor at refl c.self.invariant.2, omega (arith, count, more))

pub remove-requires-clause-in_bounds : goal.remove-requires-clause-in_bounds
remove-requires-clause-in_bounds c =
    let items = c.self.inside.items.items in
    let was = c.index.result.now in
    let size = ap length c.self.view_is in
    let within = c.requires in
    let at : slice_get items c.args.index ≡ Some was = here_at items c.args.index was (omega (arith, size, within)) c.index.ensures in
    let before = c.text_before-at.ensures.value ∙ ap (λ z. length (visible_text (take c.args.index z))) (sym c.self.view_is) in
    let long : string_len c.self.inside.text ≡ length (string_bytes c.self.inside.text) = search rules in
    let inside = begins_within items c.args.index c.text_before-at.result was (string_bytes c.self.inside.text) at (was_shown was.visible c.args.visible c.if-element-visible.false c.if-visible.false) c.self.invariant.1.shown before in
    omega (arith, long, inside)

pub invariant_of-self-else-visible : goal.invariant_of-self-else-visible
invariant_of-self-else-visible c =
    let items = c.self.inside.items.items in
    let was = c.index.result.now in
    let new = marked c.args.visible was in
    let size = ap length c.self.view_is in
    let within = c.requires in
    let at : slice_get items c.args.index ≡ Some was = here_at items c.args.index was (omega (arith, size, within)) c.index.ensures in
    let visible = was_shown was.visible c.args.visible c.if-element-visible.false c.if-visible.false in
    let before = c.text_before-at.ensures.value ∙ ap (λ z. length (visible_text (take c.args.index z))) (sym c.self.view_is) in
    let kept = c.remove.ensures.capacity in
    let wide = c.self.invariant.1.room in
    let count = c.self.invariant.3 in
    let less = one_less items c.args.index was new at visible c.if-visible.false in
    let rest = c.remove.ensures.bytes in
    let text : IsTextOf (set items c.args.index new) (string_bytes c.remove.new.self) (string_capacity c.remove.new.self) = record {
      shown = hidden_text items c.args.index c.text_before-at.result was new c.remove.result (string_bytes c.self.inside.text) _ rest.0 at visible c.if-visible.false c.self.invariant.1.shown before rest.1 rest.2;
      room = omega (arith, kept, wide);
    } in
    (chunk_changed items c.args.index _ new c.self.invariant.0, text, floor_changed items c.args.index was new c.self.inside.floor at refl c.self.invariant.2, ap (λ n. n - 1) count ∙ less)

pub returns-then-visible : goal.returns-then-visible
returns-then-visible c =
    λ x here.
    let items = c.self.inside.items.items in
    let size = ap length c.self.view_is in
    let within = c.requires in
    seen items c.args.self.now c.args.index c.index.result.now x c.args.visible c.self.view_is (here_at items c.args.index c.index.result.now (omega (arith, size, within)) c.index.ensures) here

pub returns-else-visible : goal.returns-else-visible
returns-else-visible c =
    λ x here.
    let items = c.self.inside.items.items in
    let size = ap length c.self.view_is in
    let within = c.requires in
    seen items c.args.self.now c.args.index c.index.result.now x c.args.visible c.self.view_is (here_at items c.args.index c.index.result.now (omega (arith, size, within)) c.index.ensures) here
