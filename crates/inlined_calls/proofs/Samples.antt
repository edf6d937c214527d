-- The program of the sample is its functions inlined, and the one whose store isn't moved is not.
use Rattle.std.proofs.Common.{◌≡◌, ℕ, zero, suc, ℤ, pos, negsuc, ◌<◌, ◌+◌, List, [], ◌∷◌, length, Option, Some, None, refl, arith, lit<}
use Rattle.std.proofs.Common.{subst}
use Rattle.std.specs.Prelude.{slice_get, ◌⊎◌}
use Rattle.std.proofs.Common.{inl, inr}
use Rattle.span_context.specs.declared.size.Size.TheVariants.{Double}
use Rattle.bpf_words.specs.declared.instruction.Operand.TheVariants.{Source}
use Rattle.bpf_words.specs.declared.instruction.Insn.{Insn}
use Rattle.bpf_words.specs.declared.instruction.Insn.TheVariants.{Store}
use Rattle.inlined_calls.specs.Calls.{Body, Place, place_at, Work, work_at, slot_at, kept_by, below, cells, saves, restores}
use Rattle.inlined_calls.specs.Inlined.{Placed, placed, AllStand, behind, GoesOn, LeadsTo, Does, IsInlined}
use Rattle.inlined_calls.specs.Samples.{sample_functions, sample_program, unmoved_program, sample_places, call_of_sample}

-- a fact on each of a list
abbrev Each : (Placed → Type 0) → List Placed → Type 0
Each P [] = Unit {0}
Each P (here ∷ rest) = P here × Each P rest

listed : (P : Placed → Type 0) (places : List Placed) → Each P places → (index : ℕ) (here : Placed) → slice_get places index ≡ Some here → P here
listed P [] each index here is = let never : ⊥ = cc in absurd never
listed P (first ∷ rest) each zero here is = let same : first ≡ here = cc in subst P same each.0
listed P (first ∷ rest) each (suc index) here is = listed P rest each.1 index here is

abbrev DoesHere : Placed → Type 0
DoesHere here = (here.slot < length sample_program) × Does sample_program sample_places here.slot here.place (work_at sample_functions here.place)

all_do : Each DoesHere sample_places
unfolding AllStand behind work_at slot_at kept_by below cells saves restores
all_do = (
  (lit< tt, (tt, record { onward = pos 0; starts = refl; falls = λ _. (1, refl); jumps = λ d e. let never : ⊥ = cc in absurd never })),
  (
    (lit< tt, inl (record { all = (refl, tt); stands = (2, refl) })),
    (
      (lit< tt, (tt, record { onward = pos 0; starts = refl; falls = λ _. (3, refl); jumps = λ d e. let never : ⊥ = cc in absurd never })),
      (
        (lit< tt, (tt, record { onward = pos 0; starts = refl; falls = λ _. (4, refl); jumps = λ d e. let never : ⊥ = cc in absurd never })),
        (
          (lit< tt, (tt, record { onward = pos 0; starts = refl; falls = λ _. (5, refl); jumps = λ d e. let never : ⊥ = cc in absurd never })),
          (
            (lit< tt, inl (record { all = (refl, tt); stands = (6, refl) })),
            (
              (lit< tt, (tt, record { onward = pos 0; starts = refl; falls = λ _. (7, refl); jumps = λ d e. let never : ⊥ = cc in absurd never })),
              (
                (lit< tt, (tt, record { onward = pos 0; starts = refl; falls = λ e. let never : ⊥ = cc in absurd never; jumps = λ d e. let never : ⊥ = cc in absurd never })),
                tt,
              ),
            ),
          ),
        ),
      ),
    ),
  ),
)

pub sample_is_inlined : IsInlined sample_functions sample_program sample_places
sample_is_inlined = record {
  begins = (0, refl);
  within = λ slot place stands. (listed DoesHere sample_places all_do stands.0 (placed slot place) stands.1).0;
  does = λ slot place stands. (listed DoesHere sample_places all_do stands.0 (placed slot place) stands.1).1;
}

apart : (a b : ℕ) → negsuc a ≡ negsuc b → a < b → ⊥
apart a b same less =
    let numbers : a ≡ b = cc in
    absurd (omega arith)

pub unmoved_is_not : IsInlined sample_functions unmoved_program sample_places → ⊥
unfolding AllStand behind work_at slot_at kept_by below cells saves restores
unmoved_is_not inlined =
    let there : Some (Some (Store Double 10 (negsuc 7) (Source 1))) ≡ Some (Some (Store Double 10 (negsuc 23) (Source 1))) = (inlined.does 2 (place_at 1 0 (call_of_sample ∷ [])) (2, refl)).1.starts in
    let same : negsuc 7 ≡ negsuc 23 = cc in
    apart 7 23 same (lit< tt)
