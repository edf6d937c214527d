-- What a row of calls appended.
use Rattle.std.proofs.Common.{◌≡◌, ℕ, List, [], ◌∷◌, ◌++◌, Option, Some, None, IfSome, refl, subst, ap, sym, ◌∙◌, append-nil, Result, Ok, Err, OnOk}
use Rattle.std.proofs.KnownBytes.{Appends-nil, Appends-trans}
use Rattle.std.specs.Io.KnownBytes.{Appends, Keeps, append_known}
use Rattle.std.specs.Prelude.{⊤}
use Rattle.std.specs.List.{FoldsTo, concat}
use Rattle.std.specs.Fmt.{WritesText}
use Rattle.span_lines.specs.declared.writing.Pieces.{Pieces}
use Rattle.span_lines.specs.Pieces.{given, Takes}

module _ {W : Type 0} (contents : W → Option (List ℕ)) where
  calls_append : (p : Pieces W) (parts : List (List ℕ)) (q : Pieces W) → FoldsTo (λ old bs new. Takes contents old bs new) p parts q → Takes contents p (concat parts) q
  calls_append p [] q calls = subst (λ x. Takes contents p [] x) calls (Appends-nil (given contents p), refl)
  calls_append p (part ∷ parts) q calls =
      let more = calls_append calls.0 parts q calls.2 in
      (Appends-trans (given contents p) (given contents calls.0) (given contents q) part (concat parts) calls.1.0 more.0, more.1 ∙ calls.1.1)

  -- a text was given in pieces, and then all was written
  pub written_out : {E : Type 0} (p q r : Pieces W) (o : Option (List ℕ)) (w : W) (old : Option (List ℕ)) (result : Result ⊤ E) → WritesText (λ old bs new. Takes contents old bs new) p o q
      → Keeps old (given contents p)
      → OnOk result (Keeps (given contents q) (contents r.writer.now)) → r.writer.ghost_name ≡ q.writer.ghost_name
      → (p.writer.ghost_name ≡ r.writer.ghost_name → w ≡ r.writer.now)
      → OnOk result (IfSome o (Appends old (contents w)))
  written_out p q r o w old (Err e) writes first last same back = tt
  written_out p q r None w old (Ok done) writes first last same back = tt
  written_out p q r (Some bs) w old (Ok done) writes first last same back =
      let all = subst (λ l. Takes contents p l q) writes.whole (calls_append p writes.parts q writes.calls) in
      subst (λ x. Appends old (contents x) bs) (sym (back (sym (same ∙ all.1)))) (kept old (given contents p) (given contents q) (contents r.writer.now) bs first all.0 last)
    where
      kept : (a b c d : Option (List ℕ)) (bs : List ℕ) → Keeps a b → Appends b c bs → Keeps c d → Appends a d bs
      kept None b c d bs p q r = tt
      kept (Some x) None c d bs p q r = absurd p
      kept (Some x) (Some y) None d bs p q r = absurd q
      kept (Some x) (Some y) (Some z) None bs p q r = absurd r
      kept (Some x) (Some y) (Some z) (Some w) bs p q r = r ∙ q ∙ ap (λ l. l ++ bs) p

-- nothing is gathered yet
pub nothing_gathered : (known : Option (List ℕ)) (bs : List ℕ) → bs ≡ [] → Keeps known (append_known known bs)
nothing_gathered None bs none = tt
nothing_gathered (Some xs) bs none = ap (λ l. xs ++ l) none ∙ append-nil xs
