use Rattle.std.proofs.Common.{◌≡◌, ◌∙◌, ◌-◌, ◌++◌, ◌∷◌, [], ℕ, List, length, take, drop, refl, sym, ap, subst, rules, string_bytes}
use Rattle.std.specs.List.{slice_range}
use Rattle.std.proofs.lemmas.Str.{IsUtf8-string_bytes}
use Rattle.char_sequence.specs.declared.sequence.Element.{Element}
use Rattle.char_sequence.specs.Visible.{visible_text, visible_count}
use Rattle.mark_anchors.specs.Ranges.{IsFormatAt}
use Rattle.span_flatten.specs.declared.version.Row.{Row}
use Rattle.span_flatten.specs.Version.{IsWhole}
use Rattle.span_flatten.specs.Window.{IsFlattened}
use Rattle.span_flatten.proofs.Uniform.{empty_flattened, one_whole, one_flattened}
use Rattle.span_flatten.proofs.flatten.flatten_uniform.Goals as goal

-- the text was empty, and what was read stood at the first place
spelt_from : (es : List Element) (low high : ℕ) (old text : List ℕ) (left : List Element) → old ≡ [] → left ≡ drop low es → text ≡ old ++ visible_text (take (high - low) left) → text ≡ visible_text (slice_range es low high)
spelt_from es low high old text left empty at grown = grown ∙ ap (λ t. t ++ visible_text (take (high - low) left)) empty ∙ ap (λ l. visible_text (take (high - low) l)) at

pub returns-then-end-eq0 : goal.returns-then-end-eq0
returns-then-end-eq0 c =
    λ marks place from to uniform is.
    let es : List Element = c.args.sequence.now.elements in
    let low : ℕ = c.args.low in
    let high : ℕ = c.args.high in
    let text : List ℕ = string_bytes c.push_next.new.text in
    let empty : string_bytes c.new-text.result ≡ [] = search rules in
    let spelt = spelt_from es low high _ text c.visible_from-cursor.result empty c.visible_from-cursor.ensures c.in_ok-characters.ensures.text in
    let ended : c.len-end.result ≡ length text = search rules in
    subst (λ (r : List Row). IsFlattened es marks low high (record { text = text; rows = r })) (sym c.new-rows.ensures.items)
    (empty_flattened es low high c.requires.order text spelt (sym ended ∙ c.if-end-eq0.true) marks)

pub invariant_of-result-2 : goal.invariant_of-result-2
invariant_of-result-2 c =
    let es : List Element = c.args.sequence.now.elements in
    let low : ℕ = c.args.low in
    let high : ℕ = c.args.high in
    let text : List ℕ = string_bytes c.push_next.new.text in
    let empty : string_bytes c.new-text.result ≡ [] = search rules in
    let spelt = spelt_from es low high _ text c.visible_from-cursor.result empty c.visible_from-cursor.ensures c.in_ok-characters.ensures.text in
    let ended : c.len-end.result ≡ length text = search rules in
    let row : Row = record { start = 0; end = c.len-end.result; characters = c.in_ok-characters.characters; format = c.in_ok-clone.field-0 } in
    subst (λ (r : List Row). IsWhole text r) (sym (c.in_ok-push.ensures.items ∙ ap (λ (r : List Row). r ++ row ∷ []) c.in_ok-rows.ensures.items))
    (one_whole es low high c.requires.order text spelt (λ none. c.if-end-eq0.false (ended ∙ none)) (IsUtf8-string_bytes c.push_next.new.text) row refl ended
    (c.in_ok-characters.ensures.characters ∙ ap (λ l. visible_count (take (high - low) l)) c.visible_from-cursor.ensures) c.len-count.ensures.bytes)

pub returns : goal.returns
returns c =
    λ marks place from to uniform is.
    let es : List Element = c.args.sequence.now.elements in
    let low : ℕ = c.args.low in
    let high : ℕ = c.args.high in
    let text : List ℕ = string_bytes c.push_next.new.text in
    let empty : string_bytes c.new-text.result ≡ [] = search rules in
    let spelt = spelt_from es low high _ text c.visible_from-cursor.result empty c.visible_from-cursor.ensures c.in_ok-characters.ensures.text in
    let ended : c.len-end.result ≡ length text = search rules in
    let row : Row = record { start = 0; end = c.len-end.result; characters = c.in_ok-characters.characters; format = c.in_ok-clone.field-0 } in
    subst (λ (r : List Row). IsFlattened es marks low high (record { text = text; rows = r })) (sym (c.in_ok-push.ensures.items ∙ ap (λ (r : List Row). r ++ row ∷ []) c.in_ok-rows.ensures.items))
    (one_flattened es low high c.requires.order text spelt (λ none. c.if-end-eq0.false (ended ∙ none)) (IsUtf8-string_bytes c.push_next.new.text) row refl ended
    (c.in_ok-characters.ensures.characters ∙ ap (λ l. visible_count (take (high - low) l)) c.visible_from-cursor.ensures)
    c.requires.within marks place from to uniform (subst (IsFormatAt es marks place) (sym c.in_ok-clone.ensures.cases) is))
