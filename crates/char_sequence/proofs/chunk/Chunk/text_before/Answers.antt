use Rattle.std.proofs.Common.{◌≡◌, length, take, string_bytes, sym, ap, ◌∙◌, arith, rules}
use Rattle.std.proofs.lemmas.List.{take_all}
use Rattle.std.proofs.lemmas.Str.{IsUtf8-string_bytes}
use Rattle.char_sequence.specs.Visible.{visible_text}
use Rattle.char_sequence.proofs.Boundaries.{front_split}
use Rattle.char_sequence.proofs.chunk.Chunk.text_before.Goals as goal

pub returns-then-index-count-clause-value : goal.returns-then-index-count-clause-value
returns-then-index-count-clause-value c =
    let items = c.self.inside.items.items in
    let count : c.len-count.result ≡ length items = search rules in
    let size : c.len.result ≡ length (string_bytes c.self.inside.text) = search rules in
    let end = c.if-index-count.true in
    let all : take c.args.index items ≡ items = take_all c.args.index items (omega (arith, count, end)) in
    size ∙ ap length c.self.invariant.1.shown ∙ ap (λ z. length (visible_text z)) (sym all) ∙ ap (λ z. length (visible_text (take c.args.index z))) c.self.view_is

pub returns-then-index-count-clause-split : goal.returns-then-index-count-clause-split
returns-then-index-count-clause-split c =
    let size : c.len.result ≡ length (string_bytes c.self.inside.text) = search rules in
    let same = size ∙ ap length c.self.invariant.1.shown ∙ ap (λ z. length (visible_text z)) c.self.view_is in
    (omega (arith, same), λ some less. absurd (omega (arith, same, less)))

pub visible_len-requires : goal.visible_len-requires
visible_len-requires c =
    let items = ap length c.deref.ensures.value in
    let front = c.split_at.ensures.front_len in
    let within = c.requires in
    let same = ap length c.self.view_is in
    let few = c.self.invariant.0.few in
    omega (arith, items, front, within, same, few)

pub returns-else-index-count-clause-value : goal.returns-else-index-count-clause-value
returns-else-index-count-clause-value c =
    c.visible_len.ensures.value
    ∙ ap (λ z. length (visible_text z)) c.split_at.ensures.front
    ∙ ap (λ z. length (visible_text (take c.args.index z))) (c.deref.ensures.value ∙ c.self.view_is)

pub returns-else-index-count-clause-split : goal.returns-else-index-count-clause-split
returns-else-index-count-clause-split c =
    let value =
    c.visible_len.ensures.value
    ∙ ap (λ z. length (visible_text z)) c.split_at.ensures.front
    ∙ ap (λ z. length (visible_text (take c.args.index z))) (c.deref.ensures.value ∙ c.self.view_is)
    in
    front_split c.args.self.now c.args.index c.visible_len.result (string_bytes c.self.inside.text) (IsUtf8-string_bytes c.self.inside.text) (c.self.invariant.1.shown ∙ ap visible_text c.self.view_is) value
