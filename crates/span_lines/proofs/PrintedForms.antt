-- The keys before the comments are those of the first two forms of changes, and those behind them are of the third.
use Rattle.std.proofs.Common.{◌≡◌, true, refl}
use Rattle.std.specs.Prelude.{Bool, not, take, drop}
use Rattle.std.specs.List.{list_all}
use Rattle.change_ops.specs.Keys.{forms, is_at_most}
use Rattle.change_ops.specs.declared.line.Form.{Form}
use Rattle.change_ops.specs.declared.line.Form.TheVariants.{Second}
use Rattle.span_lines.specs.declared.printing.TheConstants.{BEFORE_COMMENTS}

abbrev is_early : Form → Bool
is_early form = is_at_most form Second

pub earlier_before : list_all is_early (take BEFORE_COMMENTS forms) ≡ true
unfolding forms
earlier_before = refl

pub further_behind : list_all (λ form. not (is_early form)) (drop BEFORE_COMMENTS forms) ≡ true
unfolding forms
further_behind = refl
