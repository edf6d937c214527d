-- The labels of the program that counts to ten are inductive.
use Rattle.std.proofs.Common.{◌≡◌, ℕ, ℤ, zero, suc, pos, negsuc, ◌+◌, ◌*◌, ◌%◌, ◌^◌, ◌<◌, ◌≤◌, ◌+ℤ◌, ◌<ℤ◌, ◌≤ℤ◌, Bool, true, false, nat_lt, if◌then◌else◌, List, ◌∷◌, Option, Some, None, refl, sym, ap, subst, arith}
use Rattle.std.specs.Prelude.{slice_get, unwrap_or}
use Rattle.std.proofs.lemmas.Bool.{ltb-true, ltb-false}
use Rattle.std.proofs.lemmas.Int.{ints}
use Rattle.span_context.specs.Context.{SpanBytes}
use Rattle.span_context.specs.declared.profile.Profile.{Profile}
use Rattle.semantics.specs.State.{State}
use Rattle.semantics.specs.Step.{go_by, step}
use Rattle.loop_labels.specs.Potential.{potential_at, potential_of, all_weighed}
use Rattle.loop_labels.specs.Labels.{Label, Holds, HoldsLess, GoesOn, IsKept, AreInductive}
use Rattle.loop_labels.specs.Samples.{counts_to_ten, is_below, less_twice, at_most, label_at, counting_labels}

-- a state by its parts
explicit : (P : State → Type 0) (state : State) (slot : ℕ) (registers : List (Option ℕ)) → state.slot ≡ slot
    → state.registers ≡ registers → P (record { slot = slot; registers = registers; stack = state.stack }) → P state
explicit P state slot registers here is holds =
    subst (λ n. P (record { slot = n; registers = state.registers; stack = state.stack })) (sym here)
    (subst (λ r. P (record { slot = slot; registers = r; stack = state.stack })) (sym is) holds)

-- what is to be shown of a state at a label
pub record Keeps (label : Label (Option ℕ)) (bytes : SpanBytes) (state : State) : Type 0 where
  pub positive : pos 1 ≤ℤ potential_at bytes state label.potential
  pub goes_on : GoesOn is_below counting_labels bytes (potential_at bytes state label.potential)
      (step counts_to_ten bytes state)

abbrev at_first : Label (Option ℕ)
at_first = label_at 0 None (potential_of (at_most 22))

abbrev at_sum : Label (Option ℕ)
at_sum = label_at 1 (Some 10) (less_twice 21)

abbrev at_test : Label (Option ℕ)
at_test = label_at 2 (Some 11) (less_twice 22)

abbrev at_exit : Label (Option ℕ)
at_exit = label_at 3 (Some 11) (potential_of (at_most 1))

-- ---- where steps lead
to_sum : (bytes : SpanBytes) (number : ℕ) (rest stack : List (Option ℕ)) (left : ℤ) → number < 10
    → pos 21 <ℤ (left +ℤ pos (2 * number))
    → HoldsLess is_below counting_labels bytes left (record { slot = 1; registers = Some number ∷ rest; stack = stack })
unfolding all_weighed
to_sum bytes number rest stack left small enough = record {
  label = at_sum;
  among = record { place = 1; found = refl };
  holds = record { here = refl; contained = record { number = number; rest = rest; set = refl; small = small } };
  less = omega (arith, ints);
}

to_test : (bytes : SpanBytes) (number : ℕ) (rest stack : List (Option ℕ)) (left : ℤ) → number < 11
    → pos 22 <ℤ (left +ℤ pos (2 * number))
    → HoldsLess is_below counting_labels bytes left (record { slot = 2; registers = Some number ∷ rest; stack = stack })
unfolding all_weighed
to_test bytes number rest stack left small enough = record {
  label = at_test;
  among = record { place = 2; found = refl };
  holds = record { here = refl; contained = record { number = number; rest = rest; set = refl; small = small } };
  less = omega (arith, ints);
}

to_exit : (bytes : SpanBytes) (number : ℕ) (rest stack : List (Option ℕ)) (left : ℤ) → number < 11 → pos 1 <ℤ left
    → HoldsLess is_below counting_labels bytes left (record { slot = 3; registers = Some number ∷ rest; stack = stack })
unfolding all_weighed
to_exit bytes number rest stack left small enough = record {
  label = at_exit;
  among = record { place = 3; found = refl };
  holds = record { here = refl; contained = record { number = number; rest = rest; set = refl; small = small } };
  less = omega (arith, ints);
}

-- ---- each label
keeps_first : (bytes : SpanBytes) (r0 : Option ℕ) (rest stack : List (Option ℕ))
    → Keeps at_first bytes (record { slot = 0; registers = r0 ∷ rest; stack = stack })
unfolding all_weighed
keeps_first bytes r0 rest stack = record {
  positive = omega (arith, ints);
  goes_on = to_sum bytes 0 rest stack _ (omega arith) (omega (arith, ints));
}

sum_fits : (number : ℕ) → number < 10 → (number % 2 ^ 64 + 1) % 2 ^ 64 ≡ number + 1
sum_fits number small = omega arith

keeps_sum : (bytes : SpanBytes) (number : ℕ) (rest stack : List (Option ℕ)) → number < 10
    → Keeps at_sum bytes (record { slot = 1; registers = Some number ∷ rest; stack = stack })
unfolding all_weighed
keeps_sum bytes number rest stack small =
    let sum = sum_fits number small in
    record {
      positive = omega (arith, ints);
      goes_on = to_test bytes ((number % 2 ^ 64 + 1) % 2 ^ 64) rest stack _ (omega arith) (omega (arith, ints));
    }

keeps_test : (bytes : SpanBytes) (number : ℕ) (rest stack : List (Option ℕ)) → number < 11
    → Keeps at_test bytes (record { slot = 2; registers = Some number ∷ rest; stack = stack })
unfolding all_weighed
keeps_test bytes number rest stack small =
    record { positive = omega (arith, ints); goes_on = go (nat_lt (number % 2 ^ 64) 10) refl }
  where
    here : State
    here = record { slot = 2; registers = Some number ∷ rest; stack = stack }

    fits : number % 2 ^ 64 ≡ number
    fits = omega arith

    go : (b : Bool) → nat_lt (number % 2 ^ 64) 10 ≡ b
        → GoesOn is_below counting_labels bytes
        (potential_at bytes (record { slot = 2; registers = Some number ∷ rest; stack = stack }) (less_twice 22))
        (go_by counts_to_ten (record { slot = 2; registers = Some number ∷ rest; stack = stack })
        (if b then negsuc 1 else pos 0))
    go true e =
        let below : number % 2 ^ 64 < 10 = ltb-true (number % 2 ^ 64) 10 e in
        to_sum bytes number rest stack _ (omega arith) (omega (arith, ints))
    go false e =
        let above : 10 ≤ number % 2 ^ 64 = ltb-false (number % 2 ^ 64) 10 e in
        to_exit bytes number rest stack _ small (omega (arith, ints))

keeps_exit : (bytes : SpanBytes) (number : ℕ) (rest stack : List (Option ℕ))
    → Keeps at_exit bytes (record { slot = 3; registers = Some number ∷ rest; stack = stack })
unfolding all_weighed
keeps_exit bytes number rest stack = record { positive = omega (arith, ints); goes_on = tt }

-- ---- all of them
kept_from : (profile : Profile) (label : Label (Option ℕ))
    → ((bytes : SpanBytes) (state : State) → Holds is_below label bytes state → Keeps label bytes state)
    → IsKept is_below profile counts_to_ten counting_labels label
kept_from profile label keeps = record {
  positive = λ bytes state span holds. let some = (keeps bytes state holds).positive in omega (arith, ints);
  goes_on = λ bytes state span holds. (keeps bytes state holds).goes_on;
}

kept_at : (profile : Profile) (place : ℕ) (label : Label (Option ℕ)) → slice_get counting_labels place ≡ Some label
    → IsKept is_below profile counts_to_ten counting_labels label
kept_at profile zero label found =
    subst (IsKept is_below profile counts_to_ten counting_labels)
    (ap (λ (o : Option (Label (Option ℕ))). unwrap_or o at_first) found)
    (kept_from profile at_first (λ bytes state holds.
    explicit (Keeps at_first bytes) state 0 (holds.contained.first ∷ holds.contained.rest) holds.here holds.contained.is
    (keeps_first bytes holds.contained.first holds.contained.rest state.stack)))
kept_at profile (suc zero) label found =
    subst (IsKept is_below profile counts_to_ten counting_labels)
    (ap (λ (o : Option (Label (Option ℕ))). unwrap_or o at_first) found)
    (kept_from profile at_sum (λ bytes state holds.
    explicit (Keeps at_sum bytes) state 1 (Some holds.contained.number ∷ holds.contained.rest) holds.here
    holds.contained.set
    (keeps_sum bytes holds.contained.number holds.contained.rest state.stack holds.contained.small)))
kept_at profile (suc (suc zero)) label found =
    subst (IsKept is_below profile counts_to_ten counting_labels)
    (ap (λ (o : Option (Label (Option ℕ))). unwrap_or o at_first) found)
    (kept_from profile at_test (λ bytes state holds.
    explicit (Keeps at_test bytes) state 2 (Some holds.contained.number ∷ holds.contained.rest) holds.here
    holds.contained.set
    (keeps_test bytes holds.contained.number holds.contained.rest state.stack holds.contained.small)))
kept_at profile (suc (suc (suc zero))) label found =
    subst (IsKept is_below profile counts_to_ten counting_labels)
    (ap (λ (o : Option (Label (Option ℕ))). unwrap_or o at_first) found)
    (kept_from profile at_exit (λ bytes state holds.
    explicit (Keeps at_exit bytes) state 3 (Some holds.contained.number ∷ holds.contained.rest) holds.here
    holds.contained.set
    (keeps_exit bytes holds.contained.number holds.contained.rest state.stack)))
kept_at profile (suc (suc (suc (suc place)))) label found = absurd (cc)

pub counting_inductive : (profile : Profile)
    → AreInductive is_below profile counts_to_ten counting_labels (at_most 22)
counting_inductive profile = record {
  begins = record {
    first = at_first;
    found = refl;
    whole = refl;
    holds = λ bytes span. record { here = refl; contained = record { first = None; rest = _; is = refl } };
  };
  kept = λ label among. kept_at profile among.place label among.found;
}
