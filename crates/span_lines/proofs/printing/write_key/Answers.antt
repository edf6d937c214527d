use Rattle.std.proofs.Common.{arith, ◌≡◌, ◌^◌, ◌<◌, ◌++◌, Some, codes, if◌then◌else◌, [], ◌∷◌, sym, ap, ◌∙◌, append-nil, subst}
use Rattle.std.proofs.Output.{has_written_of_eq}
use Rattle.std.specs.Fmt.{DisplaysOnOk, ◌++?◌, styled_digits_output}
use Rattle.change_ops.specs.Keys.{word_of}
use Rattle.change_ops.specs.Spelling.{last_digits}
use Rattle.change_ops.proofs.Numerals.{six_written}
use Rattle.mark_anchors.specs.Values.{lent}
use Rattle.mark_anchors.specs.declared.value_ref.ValueRef.{ValueRef}
use Rattle.span_lines.specs.SpanLines.{parted, key_with}
use Rattle.span_lines.proofs.printing.write_key.Goals as goal

pub returns-in-Color : goal.returns-in-Color
returns-in-Color g c = λ plain ok.
    let number = c.rgb.result in
    let small : number < 16 ^ 6 = omega (arith, c.rgb.ensures.limit) in
    let comma = if c.args.behind then 44 ∷ [] else [] in
    let word = c.word-word.result.now in
    let shown : styled_digits_output c.in_radix.result c.laid_out.result ≡ Some (last_digits 6 number) = rw (c.laid_out.ensures, c.in_radix.ensures) (ap Some (six_written number small)) in
    let wrote =
    subst (λ o. DisplaysOnOk g.W.Write.write_str_gives c.args.f.now c.write-in-Color.result (Some comma ++? (Some word ++? (Some (codes "=") ++? o))) c.write-in-Color.new.self) shown c.write-in-Color.ensures.writes plain ok in
    let text : comma ++ (word ++ (codes "=" ++ last_digits 6 number)) ≡ parted c.args.behind (key_with c.args.row (Some (lent c.args.value))) =
    ap (λ w. comma ++ (w ++ (codes "=" ++ last_digits 6 number))) c.word-word.ensures
    ∙ ap (λ n. comma ++ (word_of c.args.row ++ (codes "=" ++ last_digits 6 n))) c.rgb.ensures.value
    ∙ sym (append-nil (comma ++ (word_of c.args.row ++ (codes "=" ++ last_digits 6 c.in-Color.color))))
    ∙ ap (λ (v : ValueRef). parted c.args.behind (key_with c.args.row (Some (lent v)))) (sym c.in-Color.is) in
    has_written_of_eq _ _ _ _ _ text wrote
