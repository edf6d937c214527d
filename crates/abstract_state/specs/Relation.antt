-- How two numbers stand to one another, and what is known of both sides of a comparison.
use Rattle.std.specs.Prelude.{◌≡◌, ◌≢◌, ℕ, ◌*◌, ◌<◌, ◌≤◌, ◌^◌, Option, Some, IfSome}
use Rattle.bpf_words.specs.declared.instruction.Width.{Width}
use Rattle.bpf_words.specs.declared.instruction.Comparison.{Comparison}
use Rattle.bpf_words.specs.declared.instruction.Comparison.TheVariants as is
use Rattle.semantics.specs.Value.{bits_of}
use Rattle.abstract_state.specs.declared.relation.Relation.{Relation}
use Rattle.abstract_state.specs.declared.relation.Relation.TheVariants.{Less, AtMost, Same, Apart, AtLeast, Greater}
use Rattle.abstract_state.specs.declared.relation.Sides.{Sides}
use Rattle.abstract_state.specs.declared.region.Region.{Region}
use Rattle.abstract_state.specs.Lent.{Lengths, tail_of}
use Rattle.abstract_state.specs.declared.quantity.Quantity.{Quantity}
use Rattle.abstract_state.specs.Quantity.{Contains}

abbrev pub Stands : Relation → ℕ → ℕ → Type 0
Stands Less m n = m < n
Stands AtMost m n = m ≤ n
Stands Same m n = m ≡ n
Stands Apart m n = m ≢ n
Stands AtLeast m n = n ≤ m
Stands Greater m n = n < m

-- the comparison reads its sides as numbers with a sign
abbrev pub IsSigned : Comparison → Type 0
IsSigned is.Equal = ⊥
IsSigned is.Greater = ⊥
IsSigned is.GreaterOrEqual = ⊥
IsSigned is.AnyBit = ⊥
IsSigned is.NotEqual = ⊥
IsSigned is.SignedGreater = Unit {0}
IsSigned is.SignedGreaterOrEqual = Unit {0}
IsSigned is.Less = ⊥
IsSigned is.LessOrEqual = ⊥
IsSigned is.SignedLess = Unit {0}
IsSigned is.SignedLessOrEqual = Unit {0}

-- where it does, both have the sign bit 0
abbrev pub SignsAgree : Comparison → Width → ℕ → ℕ → Type 0
SignsAgree comparison width m n = IsSigned comparison → (2 * m < 2 ^ bits_of width) × (2 * n < 2 ^ bits_of width)

-- both sides are there and contain the numbers
abbrev pub WithinBoth : Option Sides → Lengths → ℕ → ℕ → Type 0
WithinBoth o lengths m n = (s : Sides) × (o ≡ Some s) × Contains s.left lengths m × Contains s.right lengths n

-- neither side reaches further than before
abbrev pub NarrowsBoth : Option Sides → Quantity → Quantity → Type 0
NarrowsBoth o x y = IfSome o (λ s. (s.left.range.high ≤ x.range.high) × (s.right.range.high ≤ y.range.high))

-- a number from n on that is up to the region's end
abbrev pub EndsFrom : Region → ℕ → Quantity → Type 0
EndsFrom region n q = (n ≤ q.range.low) × ((u : ℕ) × (tail_of q.tails region ≡ Some u))
