-- Steps back, one after the other.
use Rattle.std.proofs.Common.{◌≡◌, ℕ, suc, ◌-◌, ◌<◌, ◌≤◌, Bool, true, false, ℤ, ◌-ℤ◌, if◌then◌else◌, Option, Some, None, is_some, option_and_then, refl, ap, sym, ◌∙◌, subst, arith}
use Rattle.std.specs.Prelude.{IfSome}
use Rattle.std.specs.Option.{option_or}
use Rattle.span_context.specs.declared.profile.Profile.{Profile}
use Rattle.semantics.specs.Step.{Program}
use Rattle.abstract_state.specs.Situation.{Situation}
use Rattle.refusal_needs.specs.declared.wanted.Need.{Need}
use Rattle.refusal_needs.specs.declared.wanted.Wanted.{Wanted}
use Rattle.refusal_needs.specs.Wanted.{in_i64}
use Rattle.known_ways.specs.Ways.{ways_into, only_from, situation_before}
use Rattle.need_trails.specs.declared.back.End.{End}
use Rattle.need_trails.specs.declared.back.End.TheVariants.{Written, Lost, Joined, Start}
use Rattle.need_trails.specs.declared.back.Back.{Back}
use Rattle.need_trails.specs.declared.back.Back.TheVariants.{Ends, Same, Other}
use Rattle.need_trails.specs.declared.back.Trail.{Trail}
use Rattle.need_trails.specs.declared.distance.Pair.{Pair}
use Rattle.need_trails.specs.declared.copies.Neighbor.{Neighbor}
use Rattle.need_trails.specs.Trail.{EndsBy, GoesBelow, back_from, trail_at, onward, trail_from, insn_at, both_earlier, is_same_place, pair_before, distance_after, met, neighbor_at, first_neighbor}

-- ---- the trail
one_step : (profile : Profile) (program : Program) (n : ℕ) (wanted : Wanted) (slot at : ℕ) → trail_from profile program (suc n) wanted slot at ≡ onward (λ w s a. trail_from profile program n w s a) wanted slot (back_from profile program wanted at)
unfolding trail_from
one_step profile program n wanted slot at = refl

-- what is left of the trail is what a step makes of what is left of it behind that
left_of : (profile : Profile) (program : Program) (n steps : ℕ) (wanted : Wanted) (slot at : ℕ) (back : Back) (t : Trail) → steps ≡ suc n → back ≡ back_from profile program wanted at → trail_from profile program steps wanted slot at ≡ t
    → onward (λ w s a. trail_from profile program n w s a) wanted slot back ≡ t
left_of profile program n steps wanted slot at back t more is so_far =
    ap (onward (λ w s a. trail_from profile program n w s a) wanted slot) is
    ∙ sym (ap (λ (k : ℕ). trail_from profile program k wanted slot at) more ∙ one_step profile program n wanted slot at)
    ∙ so_far

pub trail_same : (profile : Profile) (program : Program) (n steps : ℕ) (wanted : Wanted) (slot at from : ℕ) (back : Back) (t : Trail) → steps ≡ suc n → back ≡ back_from profile program wanted at → back ≡ Same from → trail_from profile program steps wanted slot at ≡ t
    → trail_from profile program n wanted slot from ≡ t
trail_same profile program n steps wanted slot at from back t more is same so_far =
    sym (ap (onward (λ w s a. trail_from profile program n w s a) wanted slot) same)
    ∙ left_of profile program n steps wanted slot at back t more is so_far

pub trail_other : (profile : Profile) (program : Program) (n steps : ℕ) (wanted before : Wanted) (slot at from : ℕ) (back : Back) (t : Trail) → steps ≡ suc n → back ≡ back_from profile program wanted at → back ≡ Other from before → trail_from profile program steps wanted slot at ≡ t
    → trail_from profile program n before from from ≡ t
trail_other profile program n steps wanted before slot at from back t more is other so_far =
    sym (ap (onward (λ w s a. trail_from profile program n w s a) wanted slot) other)
    ∙ left_of profile program n steps wanted slot at back t more is so_far

pub trail_ends : (profile : Profile) (program : Program) (n steps : ℕ) (wanted : Wanted) (slot at : ℕ) (end : End) (back : Back) (t : Trail) → steps ≡ suc n → back ≡ back_from profile program wanted at → back ≡ Ends end → trail_from profile program steps wanted slot at ≡ t
    → trail_at wanted slot end ≡ t
trail_ends profile program n steps wanted slot at end back t more is ends so_far =
    sym (ap (onward (λ w s a. trail_from profile program n w s a) wanted slot) ends)
    ∙ left_of profile program n steps wanted slot at back t more is so_far

pub trail_out : (profile : Profile) (program : Program) (steps : ℕ) (wanted : Wanted) (slot at : ℕ) (t : Trail) → steps ≡ 0 → trail_from profile program steps wanted slot at ≡ t → trail_at wanted slot Start ≡ t
unfolding trail_from
trail_out profile program steps wanted slot at t none so_far =
    sym (ap (λ (k : ℕ). trail_from profile program k wanted slot at) none) ∙ so_far

-- ---- the distance
one_back : (profile : Profile) (program : Program) (n : ℕ) (pair : Pair) → distance_after profile program (suc n) pair
    ≡ (if is_same_place pair.first.place pair.second.place then in_i64 (pair.first.by -ℤ pair.second.by) else option_and_then (λ p. distance_after profile program n p) (pair_before profile program pair))
unfolding distance_after
one_back profile program n pair = refl

pub distance_met : (profile : Profile) (program : Program) (n steps : ℕ) (pair : Pair) (b : Bool) (t : Option ℤ) → steps ≡ suc n → b ≡ is_same_place pair.first.place pair.second.place → b ≡ true → distance_after profile program steps pair ≡ t
    → in_i64 (pair.first.by -ℤ pair.second.by) ≡ t
distance_met profile program n steps pair b t more is same so_far =
    sym (ap (λ (k : ℕ). distance_after profile program k pair) more ∙ one_back profile program n pair
    ∙ ap (λ (c : Bool). if c then in_i64 (pair.first.by -ℤ pair.second.by) else option_and_then (λ p. distance_after profile program n p) (pair_before profile program pair)) (sym is ∙ same))
    ∙ so_far

pub distance_on : (profile : Profile) (program : Program) (n steps : ℕ) (pair : Pair) (b : Bool) (o : Option Pair) (t : Option ℤ) → steps ≡ suc n → b ≡ is_same_place pair.first.place pair.second.place → b ≡ false → o ≡ pair_before profile program pair
    → distance_after profile program steps pair ≡ t → option_and_then (λ p. distance_after profile program n p) o ≡ t
distance_on profile program n steps pair b o t more is apart was so_far =
    ap (option_and_then (λ p. distance_after profile program n p)) was
    ∙ sym (ap (λ (k : ℕ). distance_after profile program k pair) more ∙ one_back profile program n pair
    ∙ ap (λ (c : Bool). if c then in_i64 (pair.first.by -ℤ pair.second.by) else option_and_then (λ p. distance_after profile program n p) (pair_before profile program pair)) (sym is ∙ apart))
    ∙ so_far

pub distance_last : (profile : Profile) (program : Program) (steps : ℕ) (pair : Pair) (t : Option ℤ) → steps ≡ 0 → distance_after profile program steps pair ≡ t → met pair ≡ t
unfolding distance_after
distance_last profile program steps pair t none so_far =
    sym (ap (λ (k : ℕ). distance_after profile program k pair) none) ∙ so_far

pub pair_some : (profile : Profile) (program : Program) (pair : Pair) (from : ℕ) → Some from ≡ only_from (ways_into profile program pair.slot) → both_earlier (situation_before profile program from) (insn_at program from) from pair ≡ pair_before profile program pair
unfolding pair_before
pair_some profile program pair from e =
    ap (λ (o : Option ℕ). option_and_then (λ f. both_earlier (situation_before profile program f) (insn_at program f) f pair) o) e

pub pair_none : (profile : Profile) (program : Program) (pair : Pair) → None ≡ only_from (ways_into profile program pair.slot) → None ≡ pair_before profile program pair
unfolding pair_before
pair_none profile program pair e =
    ap (λ (o : Option ℕ). option_and_then (λ f. both_earlier (situation_before profile program f) (insn_at program f) f pair) o) e

pub pair_below : (o : Option Pair) (from at : ℕ) → IfSome o (λ p. p.slot ≡ from) → from < at → IfSome o (λ p. p.slot < at)
pair_below None from at there less = tt
pair_below (Some p) from at there less = omega arith

pub some_below : (o : Option Pair) (p : Pair) (at : ℕ) → IfSome o (λ q. q.slot < at) → o ≡ Some p → p.slot < at
some_below o p at less is = subst (λ (x : Option Pair). IfSome x (λ q. q.slot < at)) is less

-- ---- the first register
one_register : (profile : Profile) (program : Program) (s : Situation) (slot number : ℕ) (need : Need) (n : ℕ) → first_neighbor profile program s slot number need (suc n)
    ≡ option_or (neighbor_at profile program s slot number need (9 - n)) (first_neighbor profile program s slot number need n)
unfolding first_neighbor
one_register profile program s slot number need n = refl

pub neighbor_left : (profile : Profile) (program : Program) (s : Situation) (slot number : ℕ) (need : Need) (register n steps : ℕ) (o t : Option Neighbor) → steps ≡ suc n → 9 - n ≡ register → o ≡ neighbor_at profile program s slot number need register
    → first_neighbor profile program s slot number need steps ≡ t → option_or o (first_neighbor profile program s slot number need n) ≡ t
neighbor_left profile program s slot number need register n steps o t more here is so_far =
    ap (λ (p : Option Neighbor). option_or p (first_neighbor profile program s slot number need n)) (is ∙ ap (neighbor_at profile program s slot number need) (sym here))
    ∙ sym (ap (first_neighbor profile program s slot number need) more ∙ one_register profile program s slot number need n)
    ∙ so_far

pub or_found : (o p t : Option Neighbor) → option_or o p ≡ t → is_some o ≡ true → o ≡ t
or_found None p t is some = absurd (cc)
or_found (Some n) p t is some = is

pub or_none : (o p t : Option Neighbor) → option_or o p ≡ t → is_some o ≡ false → p ≡ t
or_none None p t is some = is
or_none (Some n) p t is some = absurd (cc)

pub neighbor_none : (profile : Profile) (program : Program) (s : Situation) (slot number : ℕ) (need : Need) (steps : ℕ) (t : Option Neighbor) → steps ≡ 0 → first_neighbor profile program s slot number need steps ≡ t → None ≡ t
unfolding first_neighbor
neighbor_none profile program s slot number need steps t none so_far =
    sym (ap (first_neighbor profile program s slot number need) none) ∙ so_far

-- ---- where they end
pub ends_more : (m n : ℕ) (end : End) → m ≤ n → EndsBy m end → EndsBy n end
ends_more m n (Written at known) le h = tt
ends_more m n (Lost at) le h = tt
ends_more m n (Joined at) le h = omega arith
ends_more m n Start le h = tt

pub ends_within : (at n : ℕ) (back : Back) (end : End) → at ≤ n → GoesBelow at back → back ≡ Ends end → EndsBy n end
ends_within at n back end le below is = ends_more at n end le (subst (GoesBelow at) is below)

pub same_below : (at from : ℕ) (back : Back) → GoesBelow at back → back ≡ Same from → from < at
same_below at from back below is = subst (GoesBelow at) is below

pub other_below : (at from : ℕ) (before : Wanted) (back : Back) → GoesBelow at back → back ≡ Other from before → from < at
other_below at from before back below is = subst (GoesBelow at) is below
