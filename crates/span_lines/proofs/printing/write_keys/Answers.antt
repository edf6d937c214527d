use Rattle.std.proofs.Common.{◌∙◌, ap, sym, ◌++◌, codes}
use Rattle.std.proofs.Output.{has_written_append, has_written_of_eq}
use Rattle.span_lines.specs.SpanLines.{keys_of}
use Rattle.span_lines.proofs.Commas.{keys_written, keys_begun, some_text, plain_text}
use Rattle.span_lines.proofs.printing.write_keys.Goals as goal

pub returns-then-begun : goal.returns-then-begun
returns-then-begun g c = λ plain ok.
    let format = c.args.format.now in
    let further = c.args.further in
    let count = c.further_rows.result in
    let early = c.in_ok-begun.begun in
    let older = c.in_ok-begun-2.begun in
    let last = c.in_ok-begun-3.begun in
    let one = c.in_ok-begun.ensures.writes plain in
    let two = c.in_ok-begun-2.ensures.writes one.plain in
    let three = c.in_ok-begun-3.ensures.writes two.plain in
    let text = keys_written format further count early older c.further_rows.ensures c.in_ok-begun.ensures.begun c.in_ok-begun-2.ensures.begun in
    let begun = keys_begun format further count early older last c.further_rows.ensures c.in_ok-begun.ensures.begun c.in_ok-begun-2.ensures.begun c.in_ok-begun-3.ensures.begun in
    has_written_of_eq _ _ _ _ _ (text ∙ some_text (keys_of further format) (sym begun ∙ c.if-begun.true))
    (has_written_append _ _ _ _ _ _ (has_written_append _ _ _ _ _ _ one two) three)

pub returns-else-begun : goal.returns-else-begun
returns-else-begun g c = λ plain ok.
    let format = c.args.format.now in
    let further = c.args.further in
    let count = c.further_rows.result in
    let early = c.in_ok-begun.begun in
    let older = c.in_ok-begun-2.begun in
    let last = c.in_ok-begun-3.begun in
    let one = c.in_ok-begun.ensures.writes plain in
    let two = c.in_ok-begun-2.ensures.writes one.plain in
    let three = c.in_ok-begun-3.ensures.writes two.plain in
    let text = keys_written format further count early older c.further_rows.ensures c.in_ok-begun.ensures.begun c.in_ok-begun-2.ensures.begun in
    let begun = keys_begun format further count early older last c.further_rows.ensures c.in_ok-begun.ensures.begun c.in_ok-begun-2.ensures.begun c.in_ok-begun-3.ensures.begun in
    has_written_of_eq _ _ _ _ _ (ap (λ l. l ++ codes "plain") text ∙ plain_text (keys_of further format) (sym begun ∙ c.if-begun.false))
    (has_written_append _ _ _ _ _ _ (has_written_append _ _ _ _ _ _ (has_written_append _ _ _ _ _ _ one two) three) (c.write_str.ensures.writes three.plain ok))
