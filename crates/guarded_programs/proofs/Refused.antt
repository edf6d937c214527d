-- Without its test the sample is refused, so it isn't guarded.
use Rattle.std.proofs.Common.{pos, refl, arith}
use Rattle.span_context.specs.declared.profile.Profile.{Profile}
use Rattle.span_context.specs.declared.profile.Profile.TheVariants.{One, Two, Three}
use Rattle.span_context.specs.declared.size.Size.TheVariants.{Byte}
use Rattle.bpf_words.specs.declared.instruction.Insn.TheVariants.{Load}
use Rattle.known_bits.specs.KnownBits.{merged_bits, common_bits}
use Rattle.abstract_state.specs.declared.refusal.Refusal.TheVariants.{TextBounds}
use Rattle.abstract_state.specs.Estimate.{under_tail, under_tails, narrowed, normal, normal_cut}
use Rattle.abstract_state.specs.Addresses.{moved}
use Rattle.abstract_state.specs.Loading.{text_field, link_field, lent_field, field_at, context_at, place, context_field, reaches, readable, filled, loaded}
use Rattle.abstract_state.specs.Stepping.{made, arithmetic}
use Rattle.abstract_state.specs.Stepping as steps
use Rattle.verifier.proofs.Folding.{carried, known_refuses}
use Rattle.verifier.specs.Awaited.{passed, stepped_over, awaited_at}
use Rattle.verifier.specs.Decides.{led, Refuses}
use Rattle.guarded_programs.specs.Outlines.{IsGuarded}
use Rattle.guarded_programs.specs.Sample.{unguarded}
use Rattle.guarded_programs.proofs.Walks.{guarded_allowed}

carried_refused : (profile : Profile) → Refuses profile 2 (Load Byte 0 1 (pos 0)) (carried profile unguarded 2) TextBounds
unfolding awaited_at stepped_over passed led steps.stepped arithmetic made moved normal_cut normal narrowed under_tails under_tail merged_bits common_bits loaded filled readable reaches place context_field context_at field_at lent_field link_field text_field
carried_refused One = refl
carried_refused Two = refl
carried_refused Three = refl

pub unguarded_not : (profile : Profile) → IsGuarded profile unguarded → ⊥
unguarded_not profile guarded =
    (guarded_allowed profile unguarded guarded).below 2 TextBounds (omega arith)
    (record { insn = Load Byte 0 1 (pos 0); starts = refl; refused = known_refuses profile unguarded 2 (Load Byte 0 1 (pos 0)) TextBounds (carried_refused profile) })
