use Rattle.std.proofs.Common.{sym, ◌∙◌, rules, tests}
use Rattle.std.specs.Str.{bytes_eq}
use Rattle.std.proofs.lemmas.Iterator.{YieldsList-from_slice}
use Rattle.std.proofs.lemmas.Iterator.Search.{position_from_yields_List}
use Rattle.change_ops.specs.Keys.{word_in_row}
use Rattle.change_ops.specs.declared.keys.Row.{Row}
use Rattle.change_ops.proofs.Places.{place_mapped_in}
use Rattle.change_ops.proofs.keys.row_in.Goals as goal

pub returns : goal.returns
returns c =
    position_from_yields_List (λ (row : Row). bytes_eq (word_in_row row) c.args.word.now) _ _ _ c.position.ensures.ran (YieldsList-from_slice c.args.rows.now cc) (λ x b q k. search (rules, tests))
    ∙ sym (place_mapped_in word_in_row c.args.rows.now c.args.word.now)
