-- The texts of some of the accepted changes.
use Rattle.std.proofs.Common.{◌≡◌, ℕ, ◌<◌, ◌≤◌, Bool, false, List, length, map, take, drop, ap, subst, ◌∙◌, ⊎_elim}
use Rattle.std.specs.Prelude.{IsTrue, ◌↔◌}
use Rattle.std.proofs.lemmas.Bool.{cases_lt, false≢true}
use Rattle.std.proofs.lemmas.List.{take-map, drop-map}
use Rattle.change_ops.specs.Changes.{Change}
use Rattle.change_ops.specs.Spelling.{change_text}

pub some_spelled : (changes : List Change) (texts slice some : List (List ℕ)) (from most : ℕ) → texts ≡ map change_text changes → slice ≡ texts → some ≡ take most (drop from slice)
    → some ≡ map change_text (take most (drop from changes))
some_spelled changes texts slice some from most spelled same is =
    is
    ∙ ap (λ l. take most (drop from l)) (same ∙ spelled)
    ∙ ap (take most) (drop-map change_text from changes)
    ∙ take-map change_text most (drop from changes)

pub not_lacking : (lacks : Bool) (changes : List Change) (from : ℕ) → (IsTrue lacks ↔ (length changes < from)) → lacks ≡ false → from ≤ length changes
not_lacking lacks changes from told isnt = ⊎_elim (λ less. absurd (false≢true (subst (λ b. IsTrue b) isnt (told.1 less)))) (λ more. more) (cases_lt (length changes) from)
