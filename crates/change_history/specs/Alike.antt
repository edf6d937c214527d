-- Changes of the same operations, in whatever lines of whichever form, are accepted alike and make the same version.
use Rattle.std.specs.Prelude.{◌≡◌, ◌↔◌, ℕ, List, [], ◌∷◌, ◌++◌}
use Rattle.change_ops.specs.Changes.{Change, operations}
use Rattle.change_ops.specs.declared.size.Size.{Size}
use Rattle.span_flatten.specs.Version.{Version, IsVersion}
use Rattle.change_history.specs.Accepted.{operations_of, IsAccepted, IsRefused}
use Rattle.change_history.specs.declared.refusal.Refusal.{Refusal}
use Rattle.change_history.specs.declared.refusal.SubmitError.TheVariants.{Refused}

-- refused after these, at whichever line
abbrev pub IsRefusedFor : Size → List Change → Change → Refusal → Type 0
IsRefusedFor size changes change refusal = (index : ℕ) × IsRefused size changes change (Refused index refusal)

pub record AreAlike (size : Size) (changes : List Change) (a b : Change) : Type 0 where
  pub accepted : IsAccepted size changes a ↔ IsAccepted size changes b
  pub refused : (refusal : Refusal) → IsRefusedFor size changes a refusal ↔ IsRefusedFor size changes b refusal
  pub version : (number : ℕ) (version : Version)
      → IsVersion (operations_of (changes ++ a ∷ [])) number version
      ↔ IsVersion (operations_of (changes ++ b ∷ [])) number version

abbrev pub FormsAreAlike : Type 0
FormsAreAlike =
    (size : Size) (changes : List Change) (a b : Change) → operations a ≡ operations b → AreAlike size changes a b
