-- Windows in place of ranges, one more, and by other marks.
use Rattle.std.proofs.Common.{suc, List, [], ◌∷◌, ◌++◌, refl, arith}
use Rattle.std.specs.List.{Contains}
use Rattle.change_ops.specs.declared.operation.Op.{Op}
use Rattle.char_sequence.specs.declared.sequence.Element.{Element}
use Rattle.mark_places.specs.declared.range.PlaceRange.{PlaceRange}
use Rattle.span_flatten.specs.Window.{Window, IsFlattened}
use Rattle.version_glyphs.specs.Replacements.{AreReplacements}
use Rattle.version_glyphs.specs.declared.replacement.Replacement.{Replacement}

module _ (old new : List Element) where
  pub replaced_more : (marks : List Op) (os ns : List PlaceRange) (rs : List Replacement) (o n : PlaceRange) (r : Replacement)
      → AreReplacements old new marks os ns rs → AreReplacements old new marks (o ∷ []) (n ∷ []) (r ∷ [])
      → AreReplacements old new marks (os ++ o ∷ []) (ns ++ n ∷ []) (rs ++ r ∷ [])
  replaced_more marks [] [] [] o n r are one = one
  replaced_more marks (p ∷ os) (m ∷ ns) (q ∷ rs) o n r (from, to, flat, whole, text, rest) one =
      (from, to, flat, whole, text, replaced_more marks os ns rs o n r rest one)
  replaced_more marks [] [] (q ∷ rs) o n r are one = absurd are
  replaced_more marks [] (m ∷ ns) rs o n r are one = absurd are
  replaced_more marks (p ∷ os) [] rs o n r are one = absurd are
  replaced_more marks (p ∷ os) (m ∷ ns) [] o n r are one = absurd are

  -- what some marks give the characters of each range, others give them too
  pub replaced_by_all : (marks chosen : List Op) (os ns : List PlaceRange) (rs : List Replacement)
      → ((n : PlaceRange) (w : Window) → Contains ns n → IsFlattened new chosen n.low n.high w → IsFlattened new marks n.low n.high w)
      → AreReplacements old new chosen os ns rs → AreReplacements old new marks os ns rs
  replaced_by_all marks chosen [] [] [] by are = are
  replaced_by_all marks chosen (p ∷ os) (m ∷ ns) (q ∷ rs) by (from, to, flat, whole, text, rest) = (
    from,
    to,
    by m q.window (0, omega arith, refl) flat,
    whole,
    text,
    replaced_by_all marks chosen os ns rs (λ n w held. by n w (suc held.0, omega (arith, held.1), held.2)) rest,
  )
  replaced_by_all marks chosen [] [] (q ∷ rs) by are = absurd are
  replaced_by_all marks chosen [] (m ∷ ns) rs by are = absurd are
  replaced_by_all marks chosen (p ∷ os) [] rs by are = absurd are
  replaced_by_all marks chosen (p ∷ os) (m ∷ ns) [] by are = absurd are
