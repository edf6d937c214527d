-- What is known before a slot depends on the slots below it alone.
use Rattle.std.proofs.Common.{◌≡◌, ℕ, zero, suc, ◌<◌, ◌≤◌, Option, refl, sym, ap, ◌∙◌, arith}
use Rattle.std.specs.List.{slice_get}
use Rattle.span_context.specs.declared.profile.Profile.{Profile}
use Rattle.semantics.specs.Step.{Program}
use Rattle.tracked_state.specs.Tracked.{TrackedSituation}
use Rattle.verifier.specs.Decides.{Before, falls_into, jumps_to, known_from, known_before, arrived}
use Rattle.verifier.proofs.Folding.{known_follows}

abbrev Alike : Program → Program → ℕ → Type 0
Alike p q end = (k : ℕ) → k < end → slice_get p k ≡ slice_get q k

abbrev Agree : Before → Before → ℕ → Type 0
Agree b c end = (k : ℕ) → k < end → b k ≡ c k

falls_alike : (profile : Profile) (p q : Program) (b c : Before) (slot : ℕ) → Alike p q slot → Agree b c slot → falls_into profile p b slot ≡ falls_into profile q c slot
unfolding falls_into
falls_alike profile p q b c zero alike agree = refl
falls_alike profile p q b c (suc slot) alike agree =
    rw (alike slot (omega arith), agree slot (omega arith), falls_alike profile p q b c slot (λ k less. alike k (omega (arith, less))) (λ k less. agree k (omega (arith, less)))) refl

jumps_alike : (profile : Profile) (p q : Program) (b c : Before) (to slot : ℕ) → Alike p q slot → Agree b c slot → jumps_to profile p b to slot ≡ jumps_to profile q c to slot
unfolding jumps_to
jumps_alike profile p q b c to zero alike agree = refl
jumps_alike profile p q b c to (suc slot) alike agree =
    rw (alike slot (omega arith), agree slot (omega arith), jumps_alike profile p q b c to slot (λ k less. alike k (omega (arith, less))) (λ k less. agree k (omega (arith, less)))) refl

from_alike : (profile : Profile) (p q : Program) (b c : Before) (slot : ℕ) → Alike p q slot → Agree b c slot → known_from profile p b slot ≡ known_from profile q c slot
from_alike profile p q b c slot alike agree =
    ap (λ (o : Option TrackedSituation). arrived profile o (jumps_to profile p b slot slot)) (falls_alike profile p q b c slot alike agree)
    ∙ ap (λ (o : Option TrackedSituation). arrived profile (falls_into profile q c slot) o) (jumps_alike profile p q b c slot slot alike agree)

follows_alike : (profile : Profile) (p q : Program) (slot : ℕ) → Alike p q slot → Agree (known_before profile p) (known_before profile q) slot → known_before profile p slot ≡ known_before profile q slot
follows_alike profile p q slot alike agree =
    known_follows profile p slot ∙ from_alike profile p q (known_before profile p) (known_before profile q) slot alike agree ∙ sym (known_follows profile q slot)

known_alike : (profile : Profile) (p q : Program) (end slot : ℕ) → Alike p q end → slot ≤ end → known_before profile p slot ≡ known_before profile q slot
known_alike profile p q zero slot alike within =
    follows_alike profile p q slot (λ k less. absurd (omega (arith, less, within))) (λ k less. absurd (omega (arith, less, within)))
known_alike profile p q (suc end) slot alike within =
    follows_alike profile p q slot (λ k less. alike k (omega (arith, less, within)))
    (λ k less. known_alike profile p q end k (λ j below. alike j (omega (arith, below))) (omega (arith, less, within)))

pub known_same_below : (profile : Profile) (p q : Program) (slot : ℕ) → ((k : ℕ) → k < slot → slice_get p k ≡ slice_get q k) → known_before profile p slot ≡ known_before profile q slot
known_same_below profile p q slot alike = known_alike profile p q slot slot alike (omega arith)
