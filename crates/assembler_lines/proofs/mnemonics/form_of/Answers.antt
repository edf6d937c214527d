use Rattle.std.proofs.Common.{rules, ◌≡◌, ◌∙◌, ap}
use Rattle.std.specs.Prelude.{slice_index}
use Rattle.std.specs.List.{find}
use Rattle.std.specs.Str.{bytes_eq}
use Rattle.assembler_lines.specs.Mnemonics.{name_of, forms_on}
use Rattle.assembler_lines.proofs.Looking.{found_there}
use Rattle.assembler_lines.proofs.mnemonics.form_of.Goals as goal

pub returns : goal.returns
returns c =
    let word = c.args.word.now in
    let second : c.unwrap_or-second.result ≡ slice_index word 1 = search rules in
    let among : c.forms_on.result.now ≡ forms_on (slice_index word 1) = c.forms_on.ensures ∙ ap forms_on second in
    c.form_among.ensures ∙ ap (find (λ form. bytes_eq (name_of form) word)) among ∙ found_there word
