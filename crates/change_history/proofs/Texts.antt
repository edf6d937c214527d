-- The text of a change is of that change.
use Rattle.std.proofs.Common.{◌≡◌, ℕ, List, [], ◌∙◌, sym, ap}
use Rattle.std.proofs.lemmas.List.{append-nil}
use Rattle.change_ops.specs.Changes.{Change, IsChange}
use Rattle.change_ops.specs.Spelling.{change_text}
use Rattle.change_ops.proofs.ChangeLaws.{change_again}
use Rattle.change_history.specs.Texts.{read_change, change_of}

pub text_is_of : (change : Change) (text : List ℕ) → IsChange change → text ≡ change_text change → change_of text ≡ change
text_is_of change text valid spelled =
    ap change_of (spelled ∙ sym (append-nil (change_text change))) ∙ ap read_change (change_again change [] valid)
