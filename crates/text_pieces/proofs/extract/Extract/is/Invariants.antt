use Rattle.std.proofs.Common.{◌≡◌, ◌++◌, ℕ, List, length, IsUtf8}
use Rattle.std.specs.Str.{chars}
use Rattle.text_pieces.proofs.extract.Extract.is.Given as goal

abbrev pub invariant-loop-part : goal.invariant-loop-part
invariant-loop-part l = record {
  utf8 : IsUtf8 l.rest;
  passed : (done : List ℕ) × (chars l.fn.text ≡ done ++ chars l.rest) × (l.fn.self ≡ done ++ l.self);
}

abbrev pub decreases-loop-part : goal.decreases-loop-part
decreases-loop-part l = length l.self
