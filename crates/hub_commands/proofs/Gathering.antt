-- What was read of a reader, piece by piece.
use Rattle.std.proofs.Common.{ℕ, List, [], ◌++◌, append_assoc, Option, Some, None, refl, sym, ap, subst, ◌∙◌}
use Rattle.std.specs.Prelude.{IfSome}
use Rattle.std.specs.Io.KnownBytes.{Keeps as Stays, Consumes, IsAtEnd}
use Rattle.hub_commands.specs.Pieces.{HasRead}
use Rattle.std.proofs.lemmas.List.{append-nil}

module _ {K : Type 0} (Keeps : List ℕ → K → Type 0) where
  pub begun : (known : Option (List ℕ)) (kept : K) → Keeps [] kept → HasRead Keeps known known kept
  begun None kept h = tt
  begun (Some input) kept h = ([], refl, h)

  pub read_more : (old new later : Option (List ℕ)) (piece : List ℕ) (kept more : K) → HasRead Keeps old new kept → Consumes new later piece
      → ((input : List ℕ) → Keeps input kept → Keeps (input ++ piece) more) → HasRead Keeps old later more
  read_more None new later piece kept more h taken step = tt
  read_more (Some input) None later piece kept more h taken step = absurd h
  read_more (Some input) (Some rest) None piece kept more h taken step = absurd taken
  read_more (Some input) (Some rest) (Some left) piece kept more h taken step =
      (h.0 ++ piece, h.1 ∙ ap (λ (xs : List ℕ). h.0 ++ xs) taken ∙ sym (append_assoc h.0 piece left), step h.0 h.2)

  pub read_kept : (old new later : Option (List ℕ)) (kept : K) → HasRead Keeps old new kept → Stays new later → HasRead Keeps old later kept
  read_kept None new later kept h same = tt
  read_kept (Some input) None later kept h same = absurd h
  read_kept (Some input) (Some rest) None kept h same = absurd same
  read_kept (Some input) (Some rest) (Some left) kept h same = (h.0, h.1 ∙ ap (λ (xs : List ℕ). h.0 ++ xs) (sym same), h.2)

  -- nothing more was there
  pub read_whole : (old new later : Option (List ℕ)) (kept : K) → HasRead Keeps old new kept → Consumes new later [] → IsAtEnd later
      → IfSome old (λ input. Keeps input kept)
  read_whole None new later kept h taken ends = tt
  read_whole (Some input) None later kept h taken ends = absurd h
  read_whole (Some input) (Some rest) None kept h taken ends = absurd taken
  read_whole (Some input) (Some rest) (Some left) kept h taken ends =
      subst (λ (xs : List ℕ). Keeps xs kept) (sym (h.1 ∙ ap (λ (xs : List ℕ). h.0 ++ xs) (taken ∙ ends) ∙ append-nil h.0)) h.2
