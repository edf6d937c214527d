use Rattle.std.proofs.Common.{◌≡◌, ◌++◌, ℕ, List, length, IsUtf8}
use Rattle.std.specs.Str.{chars}
use Rattle.text_pieces.proofs.extract.Extract.passes.Given as goal

abbrev pub invariant-loop-rest : goal.invariant-loop-rest
invariant-loop-rest l = record {
  utf8 : IsUtf8 l.rest;
  passed : (done : List ℕ) × (chars l.text ≡ done ++ chars l.rest) × (l.initial.self ≡ done ++ l.self);
}

abbrev pub decreases-loop-rest : goal.decreases-loop-rest
decreases-loop-rest l = length (chars l.rest)
