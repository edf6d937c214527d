-- The canonical text line by line, as a loop writes it.
use Rattle.std.proofs.Common.{◌≡◌, ℕ, zero, suc, ◌+◌, List, [], ◌∷◌, ◌++◌, take, Option, Some, refl, ap, add-one}
use Rattle.std.specs.Prelude.{slice_get}
use Rattle.std.proofs.lemmas.List.{append_assoc, append-nil}
use Rattle.bpf_words.specs.declared.instruction.Insn.{Insn}
use Rattle.disassembler.specs.Canonical.{line_of, canonical}

more : (program : List (Option Insn)) (i : ℕ) (entry : Option Insn) → slice_get program i ≡ Some entry → canonical (take (suc i) program) ≡ canonical (take i program) ++ line_of entry
unfolding canonical
more [] i entry h = (cc)
more (first ∷ program) zero entry h = let same : first ≡ entry = cc in rw append-nil (ap line_of same)
more (first ∷ program) (suc i) entry h = rw append_assoc (ap (λ (rest : List ℕ). line_of first ++ rest) (more program i entry h))

pub line_more : (program : List (Option Insn)) (i : ℕ) (entry : Option Insn) → slice_get program i ≡ Some entry → canonical (take (i + 1) program) ≡ canonical (take i program) ++ line_of entry
line_more program i entry h = rw add-one (more program i entry h)

pub no_line : canonical [] ≡ []
unfolding canonical
no_line = refl

pub ruleset listing = (line_more, no_line)
