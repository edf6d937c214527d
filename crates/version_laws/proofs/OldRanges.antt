-- Which places of the old elements the ranges are that a change leaves the others of: they are found by those of the new
-- elements.
use Rattle.std.proofs.Common.{◌≡◌, ℕ, ◌+◌, ◌-◌, ◌≤◌, List, [], ◌∷◌, length, drop, ap, arith, length-drop, length-take-le}
use Rattle.std.specs.List.{slice_range}
use Rattle.char_sequence.specs.declared.sequence.Element.{Element}
use Rattle.mark_places.specs.declared.range.PlaceRange.{PlaceRange}
use Rattle.mark_places.specs.PlaceRanges.{AreApart}
use Rattle.version_laws.specs.Ranges.{AreChangedWithin}
use Rattle.version_laws.proofs.Ranging.{within_apart}

-- the places are those of old elements, or the one behind them
pub old_within : (old new : List Element) (os ns : List PlaceRange) (a b : ℕ) → AreChangedWithin old new os ns a b → a ≤ length old
old_within old new [] [] a b are = are.0
old_within old new [] (n ∷ ns) a b are = absurd are
old_within old new (o ∷ os) [] a b are = absurd are
old_within old new (o ∷ os) (n ∷ ns) a b are =
    let from : a ≤ o.low = are.0 in
    let order : o.low ≤ o.high = are.1 in
    let rest : o.high ≤ length old = old_within old new os ns o.high n.high are.3 in
    omega arith

-- as many elements stand before a range as do before that of the new ones
pub low_found : (old new : List Element) (o n : PlaceRange) (os ns : List PlaceRange) (a b : ℕ) → AreChangedWithin old new (o ∷ os) (n ∷ ns) a b → AreApart (n ∷ ns) b (length new) → o.low ≡ a + (n.low - b)
low_found old new o n os ns a b are apart =
    let from : a ≤ o.low = are.0 in
    let order : o.low ≤ o.high = are.1 in
    let within : o.high ≤ length old = old_within old new os ns o.high n.high are.3 in
    let begins : b ≤ n.low = apart.0 in
    let new_order : n.low ≤ n.high = apart.1 in
    let new_within : n.high ≤ length new = within_apart ns n.high (length new) apart.2 in
    let was : length (slice_range old a o.low) ≡ o.low - a = length-take-le (o.low - a) (drop a old) (omega (arith, length-drop a old)) in
    let now : length (slice_range new b n.low) ≡ n.low - b = length-take-le (n.low - b) (drop b new) (omega (arith, length-drop b new)) in
    let same : length (slice_range old a o.low) ≡ length (slice_range new b n.low) = ap length are.2 in
    omega arith
