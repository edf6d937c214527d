-- A number that is no greater is taken away from a number, or from an address in a lent region.
use Rattle.std.proofs.Common.{◌≡◌, ℕ, ◌-◌, ◌^◌, ◌<◌, ◌≤◌, Option, Some, None, Ok, sym, subst, arith}
use Rattle.std.specs.Option.{option_map_or}
use Rattle.span_context.specs.declared.profile.Profile.{Profile}
use Rattle.bpf_words.specs.declared.instruction.Insn.TheVariants.{Compute}
use Rattle.bpf_words.specs.declared.instruction.Arithmetic.TheVariants as is
use Rattle.bpf_words.specs.declared.instruction.Operand.{Operand}
use Rattle.bpf_words.specs.declared.instruction.Width.{Width}
use Rattle.bpf_words.specs.declared.instruction.Width.TheVariants.{Full}
use Rattle.semantics.specs.Value.{bits_of}
use Rattle.abstract_state.specs.Estimate.{Estimate, operand_cut, constant}
use Rattle.abstract_state.specs.Transfer.{sum, difference, complement, by_both, taken_away, applied, transferred}
use Rattle.abstract_state.specs.Addresses.{ANumber, from_region, computed}
use Rattle.abstract_state.specs.Situation.{Situation, operand_of}
use Rattle.abstract_state.specs.Stepping.{arithmetic, stepped}
use Rattle.guarded_rules.specs.Facts.{Register, Kind, Number, AddressIn, Property, Any, Of, Holds}
use Rattle.guarded_rules.specs.Says.{of_kind, HasProperty, Says, SaysIn, OnAnswer, OnSituation}
use Rattle.guarded_rules.specs.Sums.{Takes}
use Rattle.guarded_rules.proofs.Sums.{takes_say, no_complement}
use Rattle.guarded_rules.proofs.Values.{number_on, near_on}
use Rattle.guarded_rules.proofs.Steps.{computed_gives, kind_word}

abbrev taken_by : Profile → Width → Estimate → Estimate → Option ℕ → Option Estimate
taken_by profile width u v o = option_map_or (λ n. by_both profile (sum profile width u (constant n)) (difference width u v)) o (difference width u v)

pub taken_says : (profile : Profile) (width : Width) (p : Property) (u v : Estimate) → v.range.low ≤ v.range.high → u.range.high < 2 ^ bits_of width → v.range.high < 2 ^ (bits_of width - 1) → Takes (λ q. HasProperty q u) (λ q. HasProperty q v) p → SaysIn Number p (taken_away profile width u v)
unfolding taken_away
taken_says profile width p u v proper few half takes =
    let no : complement width v ≡ None = no_complement width v (omega (arith, proper, half)) in
    subst (λ (o : Option ℕ). SaysIn Number p (taken_by profile width u v o)) (sym no) (takes_say width p u v few takes)

takes_on : (profile : Profile) (k : Kind) (p : Property) (x y : Estimate) → SaysIn Number p (taken_away profile Full x y) → OnAnswer (Of k p) (computed profile is.Sub Full (of_kind k x) (ANumber y))
unfolding computed from_region transferred operand_cut applied
takes_on profile Number p x y h = number_on p (taken_away profile Full x y) h
takes_on profile (AddressIn r) p x y h = near_on r p (taken_away profile Full x y) h

pub take_gives : (profile : Profile) (d : ℕ) (operand : Operand) (s : Situation) (k : Kind) (p : Property) (x y : Estimate) → s.registers d ≡ Some (of_kind k x) → operand_of s.registers operand ≡ Ok (ANumber y) → Says k Any x → Says Number Any y → y.range.high < 2 ^ 63 → Takes (λ q. HasProperty q x) (λ q. HasProperty q y) p → OnSituation (Holds (Register d) (Of k p)) (stepped profile (Compute Full is.Sub d operand) s)
unfolding stepped arithmetic
take_gives profile d operand s k p x y ex ey one two half takes =
    computed_gives profile Full is.Sub d operand s (Of k p) (of_kind k x) (ANumber y) ex ey
    (takes_on profile k p x y (taken_says profile Full p x y two.proper (kind_word k x.range.high one.word) half takes))
