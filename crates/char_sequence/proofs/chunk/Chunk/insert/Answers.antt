use Rattle.std.proofs.Common.{cond, ◌≡◌, ◌<◌, ◌≤◌, length, take, sym, ap, subst, ◌∙◌, arith, rules, string_bytes, vec_capacity}
use Rattle.std.specs.List.{insert}
use Rattle.std.specs.String.{string_len, string_capacity}
use Rattle.std.specs.String.Boundary.{IsSplitPoint}
use Rattle.std.proofs.lemmas.List.Sums.{sum_by-insert}
use Rattle.char_sequence.specs.declared.sequence.Element.{Element}
use Rattle.char_sequence.specs.Visible.{visible_text, visible_count}
use Rattle.char_sequence.proofs.VisibleText.{visible_most}
use Rattle.char_sequence.proofs.Floors.{chunk_inserted, put_text}
use Rattle.char_sequence.proofs.chunk.Chunk.insert.Goals as goal

pub write_at-requires-clause-split : goal.write_at-requires-clause-split
write_at-requires-clause-split c =
    subst (λ z. IsSplitPoint z c.text_before-at.result) (sym (c.self.invariant.1.shown ∙ ap visible_text c.self.view_is)) c.text_before-at.ensures.split

pub write_at-requires-clause-room : goal.write_at-requires-clause-room
write_at-requires-clause-room c =
    let items = c.self.inside.items.items in
    let few : length items < 64 = search rules in
    let was : string_len c.self.inside.text ≡ length (string_bytes c.self.inside.text) = search rules in
    let shown = ap length c.self.invariant.1.shown in
    let most = visible_most items in
    let wide = c.self.invariant.1.room in
    omega (arith, few, was, shown, most, wide)

pub invariant_of-self : goal.invariant_of-self
invariant_of-self c =
    let items = c.self.inside.items.items in
    let within : c.args.index ≤ length items = search rules in
    let few : length items < 64 = search rules in
    let new : c.insert.new.self.items ≡ insert items c.args.index c.args.element = search rules in
    let capacity : 64 ≤ vec_capacity c.insert.new.self = let grown = c.insert.ensures.capacity in let old = c.self.invariant.0.room in omega (arith, grown, old) in
    let wide : 256 ≤ string_capacity c.write_at.new.text = let grown = c.write_at.ensures.capacity in let old = c.self.invariant.1.room in omega (arith, grown, old) in
    let before = c.text_before-at.ensures.value ∙ ap (λ z. length (visible_text (take c.args.index z))) (sym c.self.view_is) in
    let shown = c.self.invariant.3 in
    let one = c.shown_by.ensures in
    let put = ap visible_count new ∙ sum_by-insert (λ (e : Element). cond e.visible 1 0) items c.args.index c.args.element in
    let kept =
    chunk_inserted items _ _ _ c.args.index _ c.args.element c.self.inside.floor _ c.self.invariant.2 within few new capacity wide
    (put_text items _ c.args.index c.text_before-at.result c.args.element (string_bytes c.self.inside.text) _ within new c.self.invariant.1.shown before c.write_at.ensures.bytes)
    c.lesser-self-inside.ensures.first
    c.lesser-self-inside.ensures.second in
    (kept.0, kept.1, kept.2, omega (arith, shown, one, put))
