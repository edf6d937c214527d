use Rattle.std.proofs.Common.{◌≡◌, ◌∙◌, ◌+◌, ◌-◌, ◌<◌, ◌≤◌, ◌++◌, ℕ, List, length, take, drop, refl, sym, ap, subst, arith, rules, string_bytes, length-append}
use Rattle.std.specs.List.{slice_range}
use Rattle.std.proofs.lemmas.List.{drop-drop}
use Rattle.std.proofs.lemmas.Str.{IsUtf8-string_bytes}
use Rattle.change_ops.specs.declared.operation.Op.{Op}
use Rattle.char_sequence.specs.declared.sequence.Element.{Element}
use Rattle.char_sequence.specs.Visible.{visible_text, visible_count}
use Rattle.mark_anchors.specs.Formatting.{Format}
use Rattle.span_flatten.specs.Spans.{Span}
use Rattle.span_flatten.specs.Taken.{IsLastFormat}
use Rattle.span_flatten.proofs.Taking.{FormattedRange, more_of, taken_empty, piece_more, taken_more, count_spelt, count_few, some_between, uniform_range}
use Rattle.span_flatten.proofs.flatten.take_in.Goals as goal

-- what is left behind the place
left_behind : (es left left' : List Element) (from to : ℕ) → from ≤ to → left ≡ drop from es → left' ≡ drop (to - from) left → left' ≡ drop to es
left_behind es left left' from to order at moved =
    let sum : from + (to - from) ≡ to = omega arith in
    moved ∙ ap (drop (to - from)) at ∙ drop-drop (to - from) from es ∙ ap (λ n. drop n es) sum

pub returns-then-start-end-clause-taken : goal.returns-then-start-end-clause-taken
returns-then-start-end-clause-taken c =
    λ low t.
    let es : List Element = c.args.sweep.now.resolution.elements in
    let from : ℕ = c.args.from in
    let to : ℕ = c.args.to in
    let text : List ℕ = string_bytes c.args.text.now in
    let text' : List ℕ = string_bytes c.push_next.new.text in
    let grown : text' ≡ text ++ visible_text (slice_range es from to) = c.in_ok-characters.ensures.text ∙ ap (λ l. text ++ visible_text (take (to - from) l)) c.requires.at in
    let started : c.len-start.result ≡ length text = search rules in
    let ended : c.len-end.result ≡ length text' = search rules in
    taken_empty es c.args.sweep.now.resolution.marks low from to text text' c.args.rows.now.items c.requires.order grown (sym started ∙ c.if-start-end.true ∙ ended) t

pub returns-then-start-end-clause-at : goal.returns-then-start-end-clause-at
returns-then-start-end-clause-at c = left_behind c.args.sweep.now.resolution.elements c.args.cursor.now c.push_next.new.self c.args.from c.args.to c.requires.order c.requires.at c.in_ok-characters.ensures.left

pub returns-clause-taken : goal.returns-clause-taken
returns-clause-taken c =
    λ low t.
    let es : List Element = c.args.sweep.now.resolution.elements in
    let marks : List Op = c.args.sweep.now.resolution.marks in
    let from : ℕ = c.args.from in
    let to : ℕ = c.args.to in
    let text : List ℕ = string_bytes c.args.text.now in
    let text' : List ℕ = string_bytes c.push_next.new.text in
    let rows = c.args.rows.now.items in
    let grown : text' ≡ text ++ visible_text (slice_range es from to) = c.in_ok-characters.ensures.text ∙ ap (λ l. text ++ visible_text (take (to - from) l)) c.requires.at in
    let started : c.len-start.result ≡ length text = search rules in
    let ended : c.len-end.result ≡ length text' = search rules in
    let grew : length text ≡ length text' → ⊥ = λ same. c.if-start-end.false (started ∙ same ∙ sym ended) in
    let some : from < to = some_between c.args.cursor.now from to text text' c.requires.order c.in_ok-characters.ensures.text grew in
    let told = c.in_ok-add_row.ensures.draft in
    let format : Format = told.0 in
    let range : FormattedRange = record { from = from; to = to; format = format } in
    let of = uniform_range es marks from to format some c.requires.within c.requires.uniform told.1 in
    let piece : Span = record { text = visible_text (slice_range es from to); format = format } in
    let is = piece_more es range text text' grown grew (IsUtf8-string_bytes c.args.text.now) (IsUtf8-string_bytes c.push_next.new.text) in
    let characters = c.in_ok-characters.ensures.characters ∙ ap (λ l. visible_count (take (to - from) l)) c.requires.at ∙ count_spelt (slice_range es from to) is.utf8 in
    let draft = told.2 t.shown (more_of format (slice_range es from to)) piece text text' is refl grown started ended characters t.draft in
    taken_more es marks range text text' rows some of grown low t grew c.add_row.new.rows.items draft c.in_ok-add_row.ensures.count

pub returns-clause-formatted : goal.returns-clause-formatted
returns-clause-formatted c =
    subst (λ p. IsLastFormat c.args.sweep.now.resolution.elements c.args.sweep.now.resolution.marks p c.add_row.new.rows.items) (sym c.add_row.ensures.place) c.in_ok-add_row.ensures.formatted

pub returns-clause-at : goal.returns-clause-at
returns-clause-at c = left_behind c.args.sweep.now.resolution.elements c.args.cursor.now c.push_next.new.self c.args.from c.args.to c.requires.order c.requires.at c.in_ok-characters.ensures.left

pub add_row-requires-clause-there : goal.add_row-requires-clause-there
add_row-requires-clause-there c =
    let text : List ℕ = string_bytes c.args.text.now in
    let text' : List ℕ = string_bytes c.push_next.new.text in
    let started : c.len-start.result ≡ length text = search rules in
    let ended : c.len-end.result ≡ length text' = search rules in
    let some : c.args.from < c.args.to = some_between c.args.cursor.now c.args.from c.args.to text text' c.requires.order c.in_ok-characters.ensures.text (λ same. c.if-start-end.false (started ∙ same ∙ sym ended)) in
    let within : c.args.to ≤ length c.args.sweep.now.resolution.elements = c.requires.within in
    omega arith

pub add_row-requires-clause-counted : goal.add_row-requires-clause-counted
add_row-requires-clause-counted c =
    let started : c.len-start.result ≡ length (string_bytes c.args.text.now) = search rules in
    λ k d h. let few = c.requires.counted k d h in omega (arith, few, started)

pub add_row-requires-clause-within : goal.add_row-requires-clause-within
add_row-requires-clause-within c =
    let part : List Element = take (c.args.to - c.args.from) c.args.cursor.now in
    let started : c.len-start.result ≡ length (string_bytes c.args.text.now) = search rules in
    let ended : c.len-end.result ≡ length (string_bytes c.push_next.new.text) = search rules in
    let grown = ap length c.in_ok-characters.ensures.text ∙ length-append (string_bytes c.args.text.now) (visible_text part) in
    let count = c.in_ok-characters.ensures.characters in
    let few = count_few part in
    omega (arith, started, ended, grown, count, few)
