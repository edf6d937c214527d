-- Contexts 1 and 2 know the same before each slot, as long as context 1 refuses no instruction.
use Rattle.std.proofs.Common.{◌≡◌, ℕ, zero, suc, nat_eq, if◌then◌else◌, Bool, true, false, Option, Some, None, Result, Ok, Err, refl, sym, subst, ap, ◌∙◌}
use Rattle.std.specs.Prelude.{option_map, slice_get}
use Rattle.std.proofs.lemmas.Option.{slice_get_within}
use Rattle.span_context.specs.declared.profile.Profile.TheVariants.{One, Two}
use Rattle.bpf_words.specs.declared.instruction.Insn.{Insn}
use Rattle.bpf_words.specs.Flow.{StartsAt, jump_of}
use Rattle.semantics.specs.Step.{Program}
use Rattle.abstract_state.specs.declared.refusal.Refusal.{Refusal}
use Rattle.abstract_state.specs.Situation as alone
use Rattle.tracked_state.specs.Rules.{TrackedWays}
use Rattle.tracked_state.specs.Tracked.{TrackedSituation}
use Rattle.verifier.proofs.Folding.{known_is_carried, known_refuses}
use Rattle.verifier.specs.Awaited.{Waits, Awaited, led_on, passed, stepped_over, awaited_at}
use Rattle.verifier.specs.Decides.{led, jump_target, either_way, trimmed, arrived, known_before, Refuses, IsAllowed}
use Rattle.context_order.specs.LinkLength.{MayLoadLength, LoadsNoLength}
use Rattle.context_order.proofs.OneTwo.{Agrees, leads}

same_joined : (a b : alone.Situation) → alone.joined Two a b ≡ alone.joined One a b
unfolding alone.joined
same_joined a b = refl

same_way : (a b : Option TrackedSituation) → either_way Two a b ≡ either_way One a b
unfolding alone.joined
same_way None b = refl
same_way (Some a) None = refl
same_way (Some a) (Some b) = refl

-- what falls into a slot, and what waits at each
pub record SameAwaited (a b : Awaited) : Type 0 where
  falls : a.falling ≡ b.falling
  waits : (to : ℕ) → a.waiting to ≡ b.waiting to

jumped : (b : Bool) (x y taken : Option TrackedSituation) → x ≡ y → (if b then either_way Two x taken else x) ≡ (if b then either_way One y taken else y)
jumped true x y taken e = same_way x taken ∙ ap (λ z. either_way One z taken) e
jumped false x y taken e = e

led_on_same : (slot : ℕ) (insn : Insn) (v w : Waits) (r q : Result TrackedWays Refusal) → Agrees r q → ((e : Refusal) → r ≡ Err e → ⊥) → ((to : ℕ) → v to ≡ w to) → SameAwaited (led_on Two slot insn v q) (led_on One slot insn w r)
led_on_same slot insn v w (Err e) q agrees fine waits = absurd (fine e refl)
led_on_same slot insn v w (Ok u) q agrees fine waits =
    subst (λ (o : Result TrackedWays Refusal). SameAwaited (led_on Two slot insn v o) (led_on One slot insn w (Ok u))) (sym agrees)
    (record {
      falls = refl;
      waits = λ to. jumped (nat_eq to (jump_target slot (jump_of insn))) (v to) (w to) u.taken (waits to);
    })

passed_same : (slot : ℕ) (insn : Insn) (o : Option TrackedSituation) (v w : Waits) → ((fault : Refusal) → Refuses One slot insn o fault → ⊥) → (MayLoadLength insn o → ⊥) → ((to : ℕ) → v to ≡ w to) → SameAwaited (passed Two slot insn o v) (passed One slot insn o w)
unfolding passed
passed_same slot insn None v w fine other waits = record { falls = refl; waits = waits }
passed_same slot insn (Some t) v w fine other waits =
    led_on_same slot insn v w (led One slot insn t) (led Two slot insn t) (leads slot insn t other) fine waits

arrived_same : (slot : ℕ) (a b : Awaited) → SameAwaited a b → arrived Two a.falling (a.waiting slot) ≡ arrived One b.falling (b.waiting slot)
arrived_same slot a b same =
    ap (option_map trimmed)
    (same_way a.falling (a.waiting slot) ∙ ap (λ x. either_way One x (a.waiting slot)) same.falls ∙ ap (either_way One b.falling) (same.waits slot))

over_same : (slot : ℕ) (place : Option (Option Insn)) (a b : Awaited) → SameAwaited a b → ((insn : Insn) (fault : Refusal) → place ≡ Some (Some insn) → Refuses One slot insn (arrived One b.falling (b.waiting slot)) fault → ⊥) → ((insn : Insn) → place ≡ Some (Some insn) → MayLoadLength insn (arrived One b.falling (b.waiting slot)) → ⊥) → SameAwaited (stepped_over Two slot place a) (stepped_over One slot place b)
unfolding stepped_over
over_same slot None a b same fine other = same
over_same slot (Some None) a b same fine other = same
over_same slot (Some (Some insn)) a b same fine other =
    subst (λ (o : Option TrackedSituation). SameAwaited (passed Two slot insn o a.waiting) (passed One slot insn (arrived One b.falling (b.waiting slot)) b.waiting)) (sym (arrived_same slot a b same))
    (passed_same slot insn (arrived One b.falling (b.waiting slot)) a.waiting b.waiting (λ fault. fine insn fault refl) (other insn refl) same.waits)

allowed_at : (program : Program) (slot : ℕ) (insn : Insn) (fault : Refusal) → IsAllowed One program → StartsAt program slot insn → Refuses One slot insn (known_before One program slot) fault → ⊥
allowed_at program slot insn fault allowed starts refused =
    allowed.below slot fault (slice_get_within program slot (Some insn) starts) (record { insn = insn; starts = starts; refused = refused })

walks_same : (program : Program) (slot : ℕ) → IsAllowed One program → LoadsNoLength program → SameAwaited (awaited_at Two program slot) (awaited_at One program slot)
unfolding awaited_at
walks_same program zero allowed other = record { falls = refl; waits = λ to. refl }
walks_same program (suc slot) allowed other =
    over_same slot (slice_get program slot) (awaited_at Two program slot) (awaited_at One program slot) (walks_same program slot allowed other)
    (λ insn fault starts refused. allowed_at program slot insn fault allowed starts (known_refuses One program slot insn fault refused)) (λ insn starts may. other slot insn starts (subst (λ (o : Option TrackedSituation). MayLoadLength insn o) (sym (known_is_carried One program slot)) may))

known_same : (program : Program) (slot : ℕ) → IsAllowed One program → LoadsNoLength program → known_before Two program slot ≡ known_before One program slot
known_same program slot allowed other =
    known_is_carried Two program slot
    ∙ arrived_same slot (awaited_at Two program slot) (awaited_at One program slot) (walks_same program slot allowed other)
    ∙ sym (known_is_carried One program slot)

refused_by : (r q : Result TrackedWays Refusal) (fault : Refusal) → Agrees r q → q ≡ Err fault → (e : Refusal) × (r ≡ Err e)
refused_by (Err e) q fault agrees refused = (e, refl)
refused_by (Ok u) q fault agrees refused = absurd (cc)

refused_too : (slot : ℕ) (insn : Insn) (o : Option TrackedSituation) (fault : Refusal) → (MayLoadLength insn o → ⊥) → Refuses Two slot insn o fault → (e : Refusal) × Refuses One slot insn o e
refused_too slot insn None fault other refused = absurd refused
refused_too slot insn (Some t) fault other refused = refused_by (led One slot insn t) (led Two slot insn t) fault (leads slot insn t other) refused

pub allowed_too : (program : Program) → IsAllowed One program → LoadsNoLength program → IsAllowed Two program
allowed_too program allowed other = record {
  structured = allowed.structured;
  below = λ slot fault less refused.
      let known : Refuses Two slot refused.insn (known_before One program slot) fault =
      subst (λ (o : Option TrackedSituation). Refuses Two slot refused.insn o fault) (known_same program slot allowed other) refused.refused in
      let one = refused_too slot refused.insn (known_before One program slot) fault (other slot refused.insn refused.starts) known in
      allowed_at program slot refused.insn one.0 allowed refused.starts one.1;
}
