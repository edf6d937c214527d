-- The sample's walks, computed.
use Rattle.std.proofs.Common.{◌≡◌, ℕ, zero, suc, ◌<◌, ◌&&◌, Bool, true, false, Option, Some, None, Result, Ok, Err, refl, sym, subst, arith, ⊎_elim}
use Rattle.std.specs.Prelude.{slice_get}
use Rattle.std.proofs.lemmas.Bool.{cases_eq, and_parts}
use lib.Count.{count_leading_zeros}
use Rattle.span_context.specs.declared.profile.Profile.{Profile}
use Rattle.span_context.specs.declared.profile.Profile.TheVariants.{One, Two, Three}
use Rattle.known_bits.specs.KnownBits.{common_bits, bits_of_both, bits_of_either, bits_of_one, low_bits, agreed_bits, merged_bits}
use Rattle.intervals.specs.Interval.{sum_between, difference_between, and_between, low_between, hull_of}
use Rattle.abstract_state.specs.declared.refusal.Refusal.TheVariants.{PointerArithmetic}
use Rattle.abstract_state.specs.Estimate.{under_tail, under_tails, narrowed, normal, normal_cut, operand_cut, only, joined as joined_numbers}
use Rattle.abstract_state.specs.Comparing.{below, above, ordered, same, refined as refined_numbers, relation_of, reach, told_on}
use Rattle.abstract_state.specs.Transfer.{sum_bits, sum_tail, sum, difference_bits, difference_tails, difference, complement, added, taken_away, of_both, applied, transferred}
use Rattle.abstract_state.specs.Addresses.{displaced, from_context, from_stack, near, computed, moved, either}
use Rattle.abstract_state.specs.Stacks.{marks_of, both_set, either_eight}
use Rattle.abstract_state.specs.Loading.{text_field, link_field, lent_field, field_at, part_at, context_at, place, context_field, loaded}
use Rattle.abstract_state.specs.Situation.{raised_bound, longer, lengthened, joined as joined_situations}
use Rattle.abstract_state.specs.Edges.{sides_on, raised, refined, edge, branched}
use Rattle.abstract_state.specs.Stepping.{made, compute, arithmetic, exit, stepped}
use Rattle.value_marks.specs.Marking.{named, copied, shifted, computed as computed_marks, arithmetic as arithmetic_marks, place as place_of_mark, slot_of, loaded as loaded_marks, followed}
use Rattle.value_marks.specs.Telling.{tells, operand_tells, sides_tell}
use Rattle.bpf_words.specs.declared.instruction.Width.TheVariants.{Full}
use Rattle.bpf_words.specs.declared.instruction.Arithmetic.TheVariants.{Sub}
use Rattle.bpf_words.specs.declared.instruction.Operand.TheVariants.{Source}
use Rattle.bpf_words.specs.declared.instruction.Insn.{Insn}
use Rattle.bpf_words.specs.declared.instruction.Insn.TheVariants.{Compute}
use Rattle.abstract_state.specs.declared.refusal.Refusal.{Refusal}
use Rattle.tracked_state.specs.Tracked.{TrackedSituation}
use Rattle.tracked_state.specs.Rules.{TrackedWays}
use Rattle.verifier.proofs.Folding.{carried, known_refuses, carried_refuses}
use Rattle.verifier.specs.Awaited.{passed, stepped_over, awaited_at}
use Rattle.verifier.specs.Decides.{IsAllowed, IsRefusedAt, Refuses, led}
use Rattle.order_samples.specs.Samples.{joined_twice}
use Rattle.order_samples.proofs.Structured.{structured}

-- ---- context 3 refuses one
abbrev refusal_of : Result TrackedWays Refusal → Option Refusal
refusal_of (Ok w) = None
refusal_of (Err fault) = Some fault

abbrev refusal_by : Profile → ℕ → Insn → Option TrackedSituation → Option Refusal
refusal_by profile slot insn None = None
refusal_by profile slot insn (Some t) = refusal_of (led profile slot insn t)

err_of : (r : Result TrackedWays Refusal) (fault : Refusal) → refusal_of r ≡ Some fault → r ≡ Err fault
err_of (Ok w) fault is = absurd (cc (is))
err_of (Err other) fault is = cc

refuses_by : (profile : Profile) (slot : ℕ) (insn : Insn) (o : Option TrackedSituation) (fault : Refusal) → refusal_by profile slot insn o ≡ Some fault → Refuses profile slot insn o fault
refuses_by profile slot insn None fault is = absurd (cc (is))
refuses_by profile slot insn (Some t) fault is = err_of (led profile slot insn t) fault is

tenth : refusal_by Three 10 (Compute Full Sub 3 (Source 2)) (carried Three joined_twice 10) ≡ Some PointerArithmetic
unfolding count_leading_zeros common_bits bits_of_both bits_of_either bits_of_one low_bits agreed_bits merged_bits sum_between difference_between and_between low_between hull_of under_tail under_tails narrowed normal normal_cut operand_cut only joined_numbers below above ordered same refined_numbers relation_of reach told_on sum_bits sum_tail sum difference_bits difference_tails difference complement added taken_away of_both applied transferred displaced from_context from_stack near computed moved either marks_of both_set either_eight text_field link_field lent_field field_at part_at context_at place context_field loaded raised_bound longer lengthened joined_situations sides_on raised refined edge branched made compute arithmetic exit stepped named copied shifted computed_marks arithmetic_marks place_of_mark slot_of loaded_marks followed tells operand_tells sides_tell led passed stepped_over awaited_at
tenth = refl

pub refused_at : IsRefusedAt Three joined_twice 10 PointerArithmetic
refused_at = record {
  insn = Compute Full Sub 3 (Source 2);
  starts = refl;
  refused = known_refuses Three joined_twice 10 (Compute Full Sub 3 (Source 2)) PointerArithmetic
      (refuses_by Three 10 (Compute Full Sub 3 (Source 2)) (carried Three joined_twice 10) PointerArithmetic tenth);
}

-- ---- contexts 1 and 2 refuse none of its slots
abbrev is_answer : Result TrackedWays Refusal → Bool
is_answer (Ok w) = true
is_answer (Err fault) = false

abbrev grants : Profile → ℕ → Insn → Option TrackedSituation → Bool
grants profile slot insn None = true
grants profile slot insn (Some t) = is_answer (led profile slot insn t)

abbrev grants_at : Profile → ℕ → Option (Option Insn) → Bool
grants_at profile slot None = true
grants_at profile slot (Some None) = true
grants_at profile slot (Some (Some insn)) = grants profile slot insn (carried profile joined_twice slot)

abbrev grants_below : Profile → ℕ → Bool
grants_below profile zero = true
grants_below profile (suc end) = grants_below profile end && grants_at profile end (slice_get joined_twice end)

every_one : grants_below One 13 ≡ true
unfolding count_leading_zeros common_bits bits_of_both bits_of_either bits_of_one low_bits agreed_bits merged_bits sum_between difference_between and_between low_between hull_of under_tail under_tails narrowed normal normal_cut operand_cut only joined_numbers below above ordered same refined_numbers relation_of reach told_on sum_bits sum_tail sum difference_bits difference_tails difference complement added taken_away of_both applied transferred displaced from_context from_stack near computed moved either marks_of both_set either_eight text_field link_field lent_field field_at part_at context_at place context_field loaded raised_bound longer lengthened joined_situations sides_on raised refined edge branched made compute arithmetic exit stepped named copied shifted computed_marks arithmetic_marks place_of_mark slot_of loaded_marks followed tells operand_tells sides_tell led passed stepped_over awaited_at
every_one = refl

every_two : grants_below Two 13 ≡ true
unfolding count_leading_zeros common_bits bits_of_both bits_of_either bits_of_one low_bits agreed_bits merged_bits sum_between difference_between and_between low_between hull_of under_tail under_tails narrowed normal normal_cut operand_cut only joined_numbers below above ordered same refined_numbers relation_of reach told_on sum_bits sum_tail sum difference_bits difference_tails difference complement added taken_away of_both applied transferred displaced from_context from_stack near computed moved either marks_of both_set either_eight text_field link_field lent_field field_at part_at context_at place context_field loaded raised_bound longer lengthened joined_situations sides_on raised refined edge branched made compute arithmetic exit stepped named copied shifted computed_marks arithmetic_marks place_of_mark slot_of loaded_marks followed tells operand_tells sides_tell led passed stepped_over awaited_at
every_two = refl

granted : (profile : Profile) (end slot : ℕ) → slot < end → grants_below profile end ≡ true → grants_at profile slot (slice_get joined_twice slot) ≡ true
granted profile zero slot less all = absurd (omega arith)
granted profile (suc end) slot less all =
    let parts = and_parts (grants_below profile end) (grants_at profile end (slice_get joined_twice end)) all in
    ⊎_elim
    (λ (is : slot ≡ end). subst (λ (n : ℕ). grants_at profile n (slice_get joined_twice n) ≡ true) (sym is) parts.1)
    (λ (other : slot ≡ end → ⊥). granted profile end slot (omega arith) parts.0)
    (cases_eq slot end)

not_refused : (profile : Profile) (slot : ℕ) (insn : Insn) (o : Option TrackedSituation) (fault : Refusal) → grants profile slot insn o ≡ true → Refuses profile slot insn o fault → ⊥
not_refused profile slot insn None fault all refused = refused
not_refused profile slot insn (Some t) fault all refused =
    let wrong : is_answer (Err fault) ≡ true = subst (λ (r : Result TrackedWays Refusal). is_answer r ≡ true) refused all in
    absurd (cc)

allowed : (profile : Profile) → grants_below profile 13 ≡ true → IsAllowed profile joined_twice
allowed profile all = record {
  structured = structured;
  below = λ slot fault less r.
      let here : grants_at profile slot (Some (Some r.insn)) ≡ true =
      subst (λ (place : Option (Option Insn)). grants_at profile slot place ≡ true) r.starts (granted profile 13 slot less all) in
      not_refused profile slot r.insn (carried profile joined_twice slot) fault here (carried_refuses profile joined_twice slot r.insn fault r.refused);
}

pub accepted_by_one : IsAllowed One joined_twice
accepted_by_one = allowed One every_one

pub accepted_by_two : IsAllowed Two joined_twice
accepted_by_two = allowed Two every_two

pub refused_by_three : IsAllowed Three joined_twice → ⊥
refused_by_three allowed = allowed.below 10 PointerArithmetic (omega arith) refused_at
