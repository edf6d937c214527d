-- The rules for whether r0 is set are sound, and a program has labels by them.
use Rattle.std.proofs.Common.{◌≡◌, ℕ, zero, suc, pos, Bool, true, false, Option, Some, None, Ok, refl, sym, ap, subst, arith, inl, inr}
use Rattle.std.specs.Prelude.{slice_get, slice_set, unwrap_or}
use Rattle.std.proofs.lemmas.Int.{ints}
use Rattle.span_context.specs.Context.{SpanBytes}
use Rattle.span_context.specs.declared.profile.Profile.{Profile}
use Rattle.bpf_words.specs.declared.instruction.Insn.{Insn}
use Rattle.bpf_words.specs.declared.instruction.Insn.TheVariants.{Compute, Negate, Extend, Convert, Jump, JumpLong, Branch, Load, LoadSigned, Store, LoadWide, Exit}
use Rattle.semantics.specs.State.{State, set_value, start}
use Rattle.semantics.specs.Step.{Returns, then_with, perform}
use Rattle.loop_labels.specs.Potential.{all_weighed}
use Rattle.loop_labels.specs.Labels.{Label}
use Rattle.loop_labels.specs.Rules.{Edges, Lands, AreSound, IsKeptBy, AreInductiveBy}
use Rattle.loop_labels.specs.Samples.{at_most}
use Rattle.loop_labels.specs.FirstSet.{HoldsFirst, is_first_set, first_edges, first_rules, jumps_and_returns, first_label, first_labels}

abbrev no_edges : Edges Bool
no_edges = record { taken = None; untaken = None }

same_edges : (these edges : Edges Bool) → Some these ≡ Some edges → these ≡ edges
same_edges these edges e = ap (λ (o : Option (Edges Bool)). unwrap_or o no_edges) e

first_written : (known : Bool) (bytes : SpanBytes) (state : State) (value : ℕ) → is_first_set known bytes state
    → HoldsFirst (slice_set state.registers 0 (Some value))
first_written false bytes state value contained =
    record { number = value; rest = contained.rest; set = ap (λ r. slice_set r 0 (Some value)) contained.is }
first_written true bytes state value contained =
    record { number = value; rest = contained.rest; set = ap (λ r. slice_set r 0 (Some value)) contained.set }

lands : (slot : ℕ) (insn : Insn) (known : Bool) (edges : Edges Bool) → first_edges slot insn known ≡ Some edges
    → (bytes : SpanBytes) (state : State) → is_first_set known bytes state
    → Lands is_first_set bytes insn edges (perform bytes state insn)
lands slot (Compute width operation destination operand) known edges e bytes state contained = absurd (cc)
lands slot (Negate width destination) known edges e bytes state contained = absurd (cc)
lands slot (Extend extension destination source) known edges e bytes state contained = absurd (cc)
lands slot (Convert conversion bits destination) known edges e bytes state contained = absurd (cc)
lands slot (Jump distance) known edges e bytes state contained =
    subst (λ o. Lands is_first_set bytes (Jump distance) o (perform bytes state (Jump distance)))
    (same_edges (record { taken = Some known; untaken = None }) edges e) (inl (refl, contained))
lands slot (JumpLong distance) known edges e bytes state contained = absurd (cc)
lands slot (Branch width comparison left right distance) known edges e bytes state contained = absurd (cc)
lands slot (Load size destination base offset) known edges e bytes state contained = absurd (cc)
lands slot (LoadSigned size destination base offset) known edges e bytes state contained = absurd (cc)
lands slot (Store size base offset operand) known edges e bytes state contained = absurd (cc)
lands slot (LoadWide zero value) known edges e bytes state contained =
    subst (λ o. Lands is_first_set bytes (LoadWide 0 value) o (perform bytes state (LoadWide 0 value)))
    (same_edges (record { taken = None; untaken = Some true }) edges e)
    (inr (refl, first_written known bytes state value contained))
lands slot (LoadWide (suc destination) value) known edges e bytes state contained = absurd (cc)
lands slot Exit true edges e bytes state contained =
    subst (λ r. Lands is_first_set bytes Exit edges (then_with (set_value (slice_get r 0)) (λ value. Ok (Returns value))))
    (sym contained.set) tt
lands slot Exit false edges e bytes state contained = absurd (cc)

anywhere : (known : Bool) (bytes : SpanBytes) (state : State) (slot : ℕ) → is_first_set known bytes state
    → is_first_set known bytes (record state { slot = slot })
anywhere false bytes state slot contained = contained
anywhere true bytes state slot contained = contained

widens : (known wider : Bool) → (wider ≡ true → known ≡ true) → (bytes : SpanBytes) (state : State)
    → is_first_set known bytes state → is_first_set wider bytes state
widens false false less bytes state contained = contained
widens true false less bytes state contained =
    record { first = Some contained.number; rest = contained.rest; is = contained.set }
widens true true less bytes state contained = contained
widens false true less bytes state contained = let clash : false ≡ true = less refl in absurd (cc)

pub first_sound : (profile : Profile) → AreSound profile first_rules
first_sound profile = record {
  entry = λ known is bytes span.
      subst (λ k. is_first_set k bytes start) (sym is) (record { first = None; rest = _; is = refl });
  anywhere = anywhere;
  edges = λ slot insn known edges e bytes state span contained. lands slot insn known edges e bytes state contained;
  widens = widens;
  is_positive = λ known p positive bytes state span contained. positive bytes state;
  falls = λ known insn behind p q less bytes state next distance span before moves after. less bytes state next;
}

-- ---- the labels
kept_at : (place : ℕ) (label : Label Bool) → slice_get first_labels place ≡ Some label
    → IsKeptBy first_rules jumps_and_returns first_labels label
unfolding all_weighed
kept_at zero label found =
    subst (IsKeptBy first_rules jumps_and_returns first_labels)
    (ap (λ (o : Option (Label Bool)). unwrap_or o (first_label 0 false 3)) found)
    (record {
      insn = Jump (pos 0);
      starts = refl;
      edges = record { taken = Some false; untaken = None };
      granted = refl;
      taken = record {
        label = first_label 1 false 2;
        among = record { place = 1; found = refl };
        there = refl;
        widens = λ e. e;
        falls = λ bytes state next. omega (arith, ints);
      };
      untaken = tt;
      positive = λ bytes state. omega (arith, ints);
    })
kept_at (suc zero) label found =
    subst (IsKeptBy first_rules jumps_and_returns first_labels)
    (ap (λ (o : Option (Label Bool)). unwrap_or o (first_label 0 false 3)) found)
    (record {
      insn = LoadWide 0 1;
      starts = refl;
      edges = record { taken = None; untaken = Some true };
      granted = refl;
      taken = tt;
      untaken = record {
        label = first_label 3 true 1;
        among = record { place = 2; found = refl };
        there = refl;
        widens = λ e. e;
        falls = λ bytes state next. omega (arith, ints);
      };
      positive = λ bytes state. omega (arith, ints);
    })
kept_at (suc (suc zero)) label found =
    subst (IsKeptBy first_rules jumps_and_returns first_labels)
    (ap (λ (o : Option (Label Bool)). unwrap_or o (first_label 0 false 3)) found)
    (record {
      insn = Exit;
      starts = refl;
      edges = record { taken = None; untaken = None };
      granted = refl;
      taken = tt;
      untaken = tt;
      positive = λ bytes state. omega (arith, ints);
    })
kept_at (suc (suc (suc place))) label found = absurd (cc)

pub first_inductive : AreInductiveBy first_rules jumps_and_returns first_labels (at_most 3)
first_inductive = record {
  begins = record {
    first = first_label 0 false 3;
    found = refl;
    at_start = refl;
    whole = refl;
    entry = false;
    starts = refl;
    widens = λ e. e;
  };
  kept = λ label among. kept_at among.place label among.found;
}
