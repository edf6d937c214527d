-- Bytes are refused for one reason alone, and no program is refused.
use Rattle.std.proofs.Common.{◌≡◌, ℕ, ◌<◌, ◌⊎◌, ⊎_elim, List, Some, refl, sym, ap, ◌∙◌, arith}
use Rattle.std.proofs.lemmas.Bool.{cases_order}
use Rattle.std.proofs.lemmas.Option.{same_Some, none-some}
use Rattle.bpf_words.specs.declared.refusal.SlotFault.{SlotFault}
use Rattle.bpf_words.specs.declared.refusal.WordError.{WordError}
use Rattle.bpf_words.specs.declared.refusal.WordError.TheVariants.{Empty, TooLong, LengthNotEight, Slot}
use Rattle.bpf_words.specs.Words.{IsProgram, IsRefused, FirstFault, fault_at}

-- no slot before the first fault is at fault
none-before : (bytes : List ℕ) (a b : ℕ) (f g : SlotFault) → FirstFault bytes a f → FirstFault bytes b g → a < b → ⊥
none-before bytes a b f g first second less = none-some f (sym (second.before a less) ∙ first.here)

same-fault : (bytes : List ℕ) (a b : ℕ) (f g : SlotFault) → FirstFault bytes a f → FirstFault bytes b g → a ≡ b → Slot b g ≡ Slot a f
same-fault bytes a b f g first second same =
    let one : Some g ≡ Some f = sym second.here ∙ ap (λ (k : ℕ). fault_at bytes k) (sym same) ∙ first.here in
    ap (λ (k : ℕ). Slot k g) (sym same) ∙ ap (λ (h : SlotFault). Slot a h) (same_Some g f one)

one-fault : (bytes : List ℕ) (a b : ℕ) (f g : SlotFault) → FirstFault bytes a f → FirstFault bytes b g → Slot b g ≡ Slot a f
one-fault bytes a b f g first second =
    ⊎_elim
    (λ (same : a ≡ b). same-fault bytes a b f g first second same)
    (λ (apart : (a < b) ⊎ (b < a)).
    ⊎_elim
    (λ (less : a < b). absurd (none-before bytes a b f g first second less))
    (λ (more : b < a). absurd (none-before bytes b a g f second first more))
    apart)
    (cases_order a b)

pub one-refusal : (bytes : List ℕ) (error other : WordError) → IsRefused bytes error → IsRefused bytes other → other ≡ error
one-refusal bytes Empty Empty is also = refl
one-refusal bytes Empty TooLong is also = absurd (omega arith)
one-refusal bytes Empty LengthNotEight is also = let some = also.0 in absurd (omega arith)
one-refusal bytes Empty (Slot b g) is also = let some = also.whole.some in absurd (omega arith)
one-refusal bytes TooLong Empty is also = absurd (omega arith)
one-refusal bytes TooLong TooLong is also = refl
one-refusal bytes TooLong LengthNotEight is also = let short = also.1 in absurd (omega arith)
one-refusal bytes TooLong (Slot b g) is also = let short = also.whole.short in absurd (omega arith)
one-refusal bytes LengthNotEight Empty is also = let some = is.0 in absurd (omega arith)
one-refusal bytes LengthNotEight TooLong is also = let short = is.1 in absurd (omega arith)
one-refusal bytes LengthNotEight LengthNotEight is also = refl
one-refusal bytes LengthNotEight (Slot b g) is also = absurd (is.2 also.whole.eights)
one-refusal bytes (Slot a f) Empty is also = let some = is.whole.some in absurd (omega arith)
one-refusal bytes (Slot a f) TooLong is also = let short = is.whole.short in absurd (omega arith)
one-refusal bytes (Slot a f) LengthNotEight is also = absurd (also.2 is.whole.eights)
one-refusal bytes (Slot a f) (Slot b g) is also = one-fault bytes a b f g is also

pub no-program-refused : (bytes : List ℕ) (error : WordError) → IsProgram bytes → IsRefused bytes error → ⊥
no-program-refused bytes Empty program refused = let some = program.whole.some in omega arith
no-program-refused bytes TooLong program refused = let short = program.whole.short in omega arith
no-program-refused bytes LengthNotEight program refused = refused.2 program.whole.eights
no-program-refused bytes (Slot slot fault) program refused =
    none-some fault (sym (program.sound slot refused.within) ∙ refused.here)

pub ruleset refusals = (one-refusal, no-program-refused)
