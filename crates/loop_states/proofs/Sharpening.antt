-- What an edge of a comparison says where one side is ahead of the other.
use Rattle.std.proofs.Common.{◌≡◌, ◌<◌, ◌≤◌, ℕ, zero, suc, Bool, true, false, not, nat_lt, nat_eq, nat_le, Option, Some, None, Ok, option_map, refl, sym, ◌∙◌, ap, arith}
use Rattle.std.proofs.lemmas.Bool.Decides.{nat_tests}
use Rattle.bpf_words.specs.declared.instruction.Width.{Width}
use Rattle.bpf_words.specs.declared.instruction.Comparison.{Comparison}
use Rattle.bpf_words.specs.declared.instruction.Comparison.TheVariants.{Equal, Greater, GreaterOrEqual, AnyBit, NotEqual}
use Rattle.bpf_words.specs.declared.instruction.Comparison.TheVariants.{SignedGreater, SignedGreaterOrEqual, Less}
use Rattle.bpf_words.specs.declared.instruction.Comparison.TheVariants.{LessOrEqual, SignedLess, SignedLessOrEqual}
use Rattle.bpf_words.specs.declared.instruction.Operand.{Operand}
use Rattle.bpf_words.specs.declared.instruction.Operand.TheVariants.{Immediate, Source}
use Rattle.semantics.specs.State.{State, register_of, operand_in}
use Rattle.semantics.specs.Value.{cut, holds_of}
use Rattle.abstract_state.specs.Lent.{Lengths}
use Rattle.tracked_state.specs.declared.state.TrackedState.{TrackedState}
use Rattle.tracked_state.specs.Tracked.{tracked_of}
use Rattle.loop_states.specs.declared.sharper.Outcomes.{Outcomes}
use Rattle.loop_states.specs.declared.sharper.Sharper.{Sharper}
use Rattle.loop_states.specs.declared.sharper.Sharper.TheVariants.{Same, Never, Where}
use Rattle.loop_states.specs.Contained.{ContainsInLoop}
use Rattle.loop_states.specs.Leads.{lead_in}
use Rattle.loop_states.specs.Sharper.{where_holding, others, on_edge, right_ahead, left_ahead, holding_where, told_by, sharper_by, sharper_in}
use Rattle.loop_states.proofs.Ahead.{IsAheadBy, ahead}

-- ---- how two numbers stand, and what outcomes allow
data Stand (a b : ℕ) : Type 0 where
  Below : a < b → Stand a b
  Alike : a ≡ b → Stand a b
  Above : b < a → Stand a b

stand : (a b : ℕ) → Stand a b
stand a b = by_less (nat_lt a b) refl
  where
    by_less : (x : Bool) → nat_lt a b ≡ x → Stand a b
    by_less true e = Below (grind (arith, nat_tests))
    by_less false e = by_equal (nat_eq a b) refl
      where
        by_equal : (y : Bool) → nat_eq a b ≡ y → Stand a b
        by_equal true f = Alike (grind (arith, nat_tests))
        by_equal false f = Above (grind (arith, nat_tests))

abbrev allows : {a b : ℕ} → Outcomes → Stand a b → Bool
allows o (Below h) = o.less
allows o (Alike h) = o.equal
allows o (Above h) = o.greater

-- ---- a comparison holds where its outcomes allow it
less_true : (a b : ℕ) → a < b → nat_lt a b ≡ true
less_true a b h = grind (arith, nat_tests)

less_false : (a b : ℕ) → b ≤ a → nat_lt a b ≡ false
less_false a b h = grind (arith, nat_tests)

most_true : (a b : ℕ) → a ≤ b → nat_le a b ≡ true
most_true a b h = grind (arith, nat_tests)

most_false : (a b : ℕ) → b < a → nat_le a b ≡ false
most_false a b h = grind (arith, nat_tests)

same_true : (a b : ℕ) → a ≡ b → nat_eq a b ≡ true
same_true a b h = grind (arith, nat_tests)

same_false_below : (a b : ℕ) → a < b → nat_eq a b ≡ false
same_false_below a b h = grind (arith, nat_tests)

same_false_above : (a b : ℕ) → b < a → nat_eq a b ≡ false
same_false_above a b h = grind (arith, nat_tests)

holds_as : (c : Comparison) (width : Width) (a b : ℕ) (o : Outcomes) (at : Stand a b) → where_holding c ≡ Some o → holds_of c width a b ≡ allows o at
holds_as Equal width a b o (Below h) e = let is : o ≡ record { less = false; equal = true; greater = false } = cc in same_false_below a b h ∙ ap (λ (p : Outcomes). p.less) (sym is)
holds_as Equal width a b o (Alike h) e = let is : o ≡ record { less = false; equal = true; greater = false } = cc in same_true a b h ∙ ap (λ (p : Outcomes). p.equal) (sym is)
holds_as Equal width a b o (Above h) e = let is : o ≡ record { less = false; equal = true; greater = false } = cc in same_false_above a b h ∙ ap (λ (p : Outcomes). p.greater) (sym is)
holds_as NotEqual width a b o (Below h) e = let is : o ≡ record { less = true; equal = false; greater = true } = cc in ap not (same_false_below a b h) ∙ ap (λ (p : Outcomes). p.less) (sym is)
holds_as NotEqual width a b o (Alike h) e = let is : o ≡ record { less = true; equal = false; greater = true } = cc in ap not (same_true a b h) ∙ ap (λ (p : Outcomes). p.equal) (sym is)
holds_as NotEqual width a b o (Above h) e = let is : o ≡ record { less = true; equal = false; greater = true } = cc in ap not (same_false_above a b h) ∙ ap (λ (p : Outcomes). p.greater) (sym is)
holds_as Less width a b o (Below h) e = let is : o ≡ record { less = true; equal = false; greater = false } = cc in less_true a b h ∙ ap (λ (p : Outcomes). p.less) (sym is)
holds_as Less width a b o (Alike h) e = let is : o ≡ record { less = true; equal = false; greater = false } = cc in less_false a b (omega (arith, h)) ∙ ap (λ (p : Outcomes). p.equal) (sym is)
holds_as Less width a b o (Above h) e = let is : o ≡ record { less = true; equal = false; greater = false } = cc in less_false a b (omega (arith, h)) ∙ ap (λ (p : Outcomes). p.greater) (sym is)
holds_as LessOrEqual width a b o (Below h) e = let is : o ≡ record { less = true; equal = true; greater = false } = cc in most_true a b (omega (arith, h)) ∙ ap (λ (p : Outcomes). p.less) (sym is)
holds_as LessOrEqual width a b o (Alike h) e = let is : o ≡ record { less = true; equal = true; greater = false } = cc in most_true a b (omega (arith, h)) ∙ ap (λ (p : Outcomes). p.equal) (sym is)
holds_as LessOrEqual width a b o (Above h) e = let is : o ≡ record { less = true; equal = true; greater = false } = cc in most_false a b h ∙ ap (λ (p : Outcomes). p.greater) (sym is)
holds_as Greater width a b o (Below h) e = let is : o ≡ record { less = false; equal = false; greater = true } = cc in less_false b a (omega (arith, h)) ∙ ap (λ (p : Outcomes). p.less) (sym is)
holds_as Greater width a b o (Alike h) e = let is : o ≡ record { less = false; equal = false; greater = true } = cc in less_false b a (omega (arith, h)) ∙ ap (λ (p : Outcomes). p.equal) (sym is)
holds_as Greater width a b o (Above h) e = let is : o ≡ record { less = false; equal = false; greater = true } = cc in less_true b a h ∙ ap (λ (p : Outcomes). p.greater) (sym is)
holds_as GreaterOrEqual width a b o (Below h) e = let is : o ≡ record { less = false; equal = true; greater = true } = cc in most_false b a h ∙ ap (λ (p : Outcomes). p.less) (sym is)
holds_as GreaterOrEqual width a b o (Alike h) e = let is : o ≡ record { less = false; equal = true; greater = true } = cc in most_true b a (omega (arith, h)) ∙ ap (λ (p : Outcomes). p.equal) (sym is)
holds_as GreaterOrEqual width a b o (Above h) e = let is : o ≡ record { less = false; equal = true; greater = true } = cc in most_true b a (omega (arith, h)) ∙ ap (λ (p : Outcomes). p.greater) (sym is)
holds_as AnyBit width a b o at e = absurd (cc)
holds_as SignedGreater width a b o at e = absurd (cc)
holds_as SignedGreaterOrEqual width a b o at e = absurd (cc)
holds_as SignedLess width a b o at e = absurd (cc)
holds_as SignedLessOrEqual width a b o at e = absurd (cc)

others_allow : {a b : ℕ} (o : Outcomes) (at : Stand a b) → allows (others o) at ≡ not (allows o at)
others_allow o (Below h) = refl
others_allow o (Alike h) = refl
others_allow o (Above h) = refl

not_true : (b : Bool) → b ≡ false → not b ≡ true
not_true b e = ap not e

edge_allows : {a b : ℕ} (taken : Bool) (o : Outcomes) (at : Stand a b) → allows o at ≡ taken → allows (on_edge taken o) at ≡ true
edge_allows true o at e = e
edge_allows false o at e = others_allow o at ∙ ap not e

-- ---- one side is ahead
right_allows : {a b : ℕ} (lead : Option ℕ) (o : Outcomes) (at : Stand a b) → IsAheadBy lead a b → allows o at ≡ true → allows (right_ahead lead o) at ≡ true
right_allows None o at far e = e
right_allows (Some zero) o (Below h) far e = e
right_allows (Some zero) o (Alike h) far e = e
right_allows (Some zero) o (Above h) far e = absurd (omega (arith, h, far))
right_allows (Some (suc more)) o (Below h) far e = e
right_allows (Some (suc more)) o (Alike h) far e = absurd (omega (arith, h, far))
right_allows (Some (suc more)) o (Above h) far e = absurd (omega (arith, h, far))

left_allows : {a b : ℕ} (lead : Option ℕ) (o : Outcomes) (at : Stand a b) → IsAheadBy lead b a → allows o at ≡ true → allows (left_ahead lead o) at ≡ true
left_allows None o at far e = e
left_allows (Some zero) o (Below h) far e = absurd (omega (arith, h, far))
left_allows (Some zero) o (Alike h) far e = e
left_allows (Some zero) o (Above h) far e = e
left_allows (Some (suc more)) o (Below h) far e = absurd (omega (arith, h, far))
left_allows (Some (suc more)) o (Alike h) far e = absurd (omega (arith, h, far))
left_allows (Some (suc more)) o (Above h) far e = e

-- ---- the comparison that holds then
abbrev pub Told : Sharper → Width → ℕ → ℕ → Type 0
Told Same width a b = Unit {0}
Told Never width a b = ⊥
Told (Where c) width a b = holds_of c width a b ≡ true

abbrev chosen : {a b : ℕ} → Bool → Bool → Bool → Stand a b → Bool
chosen less equal greater (Below h) = less
chosen less equal greater (Alike h) = equal
chosen less equal greater (Above h) = greater

never : false ≡ true → ⊥
never e = cc

told_where : (less equal greater : Bool) (width : Width) (a b : ℕ) (at : Stand a b) → chosen less equal greater at ≡ true → Told (holding_where less equal greater) width a b
told_where false false false width a b (Below h) e = never e
told_where false false false width a b (Alike h) e = never e
told_where false false false width a b (Above h) e = never e
told_where true false false width a b (Below h) e = less_true a b h
told_where true false false width a b (Alike h) e = absurd (never e)
told_where true false false width a b (Above h) e = absurd (never e)
told_where false true false width a b (Below h) e = absurd (never e)
told_where false true false width a b (Alike h) e = same_true a b h
told_where false true false width a b (Above h) e = absurd (never e)
told_where false false true width a b (Below h) e = absurd (never e)
told_where false false true width a b (Alike h) e = absurd (never e)
told_where false false true width a b (Above h) e = less_true b a h
told_where true true false width a b (Below h) e = most_true a b (omega (arith, h))
told_where true true false width a b (Alike h) e = most_true a b (omega (arith, h))
told_where true true false width a b (Above h) e = absurd (never e)
told_where false true true width a b (Below h) e = absurd (never e)
told_where false true true width a b (Alike h) e = most_true b a (omega (arith, h))
told_where false true true width a b (Above h) e = most_true b a (omega (arith, h))
told_where true false true width a b (Below h) e = ap not (same_false_below a b h)
told_where true false true width a b (Alike h) e = absurd (never e)
told_where true false true width a b (Above h) e = ap not (same_false_above a b h)
told_where true true true width a b at e = tt

chosen_is : {a b : ℕ} (o : Outcomes) (at : Stand a b) → chosen o.less o.equal o.greater at ≡ allows o at
chosen_is o (Below h) = refl
chosen_is o (Alike h) = refl
chosen_is o (Above h) = refl

told_both : (right left : Option ℕ) (o : Outcomes) (width : Width) (a b : ℕ) (at : Stand a b) → IsAheadBy right a b → IsAheadBy left b a → allows o at ≡ true → Told (told_by right left o) width a b
told_both right left o width a b at far back e =
    let p = left_ahead left (right_ahead right o) in
    told_where p.less p.equal p.greater width a b at
    (chosen_is p at ∙ left_allows left (right_ahead right o) at back (right_allows right o at far e))

told_sharper : (right left : Option ℕ) (c : Comparison) (taken : Bool) (width : Width) (a b : ℕ) (o : Option Outcomes) → where_holding c ≡ o → IsAheadBy right a b → IsAheadBy left b a → holds_of c width a b ≡ taken → Told (sharper_by right left (option_map (on_edge taken) o)) width a b
told_sharper None None c taken width a b o is far back holds = tt
told_sharper (Some d) left c taken width a b None is far back holds = tt
told_sharper None (Some d) c taken width a b None is far back holds = tt
told_sharper (Some d) left c taken width a b (Some o) is far back holds =
    let at = stand a b in
    told_both (Some d) left (on_edge taken o) width a b at far back (edge_allows taken o at (sym (holds_as c width a b o at is) ∙ holds))
told_sharper None (Some d) c taken width a b (Some o) is far back holds =
    let at = stand a b in
    told_both None (Some d) (on_edge taken o) width a b at far back (edge_allows taken o at (sym (holds_as c width a b o at is) ∙ holds))

pub told : (a : TrackedState) (width : Width) (c : Comparison) (left : ℕ) (right : Operand) (taken : Bool) (lengths : Lengths) (s : State) (m n : ℕ) → ContainsInLoop a lengths s → register_of s left ≡ Ok m → operand_in s right ≡ Ok n → holds_of c width (cut width m) (cut width n) ≡ taken → Told (sharper_in width c left right taken (tracked_of a)) width (cut width m) (cut width n)
told a width c left (Immediate value) taken lengths s m n held one other holds = tt
told a width c left (Source right) taken lengths s m n held one other holds =
    told_sharper (lead_in width (tracked_of a) left right) (lead_in width (tracked_of a) right left) c taken width (cut width m) (cut width n) (where_holding c) refl
    (ahead a width left right m n lengths s held one other) (ahead a width right left n m lengths s held other one) holds
