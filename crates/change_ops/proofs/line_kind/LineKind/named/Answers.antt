use Rattle.std.proofs.Common.{◌≡◌, ◌<◌, None, Some, sym, ◌∙◌, arith}
use Rattle.std.proofs.lemmas.Bool.{ltb-true}
use Rattle.std.proofs.lemmas.Grind.{common_steps}
use Rattle.change_ops.specs.LineKinds.{kind_words, kind_at}
use Rattle.change_ops.specs.declared.line_kind.TheConstants.{KINDS}
use Rattle.change_ops.proofs.Places.{found_within}
use Rattle.change_ops.proofs.Tables.{kinds_count}
use Rattle.change_ops.proofs.line_kind.LineKind.named.Goals as goal

pub returns-in_err-place : goal.returns-in_err-place
unfolding kind_words
returns-in_err-place c =
    let none : kind_at c.args.word.now ≡ None = sym c.place_of.ensures ∙ c.in_err-place.was in
    let given : c.from_residual.result ≡ None = grind (arith, common_steps) in
    given ∙ sym none

pub returns-then-place-lt-KINDS : goal.returns-then-place-lt-KINDS
unfolding kind_words
returns-then-place-lt-KINDS c = sym c.in_ok-place.was ∙ c.place_of.ensures

pub returns-else-place-lt-KINDS : goal.returns-else-place-lt-KINDS
unfolding kind_words
returns-else-place-lt-KINDS c =
    let found : kind_at c.args.word.now ≡ Some c.in_ok-place.place = sym c.place_of.ensures ∙ c.in_ok-place.was in
    let below : c.in_ok-place.place < KINDS = ltb-true _ _ (found_within kind_words c.args.word.now KINDS c.in_ok-place.place kinds_count found) in
    absurd (omega arith)
