-- What the rules give of few instructions.
use Rattle.std.proofs.Common.{◌≡◌, ◌≢◌, ℕ, ◌+◌, ◌<◌, ◌≤◌, ◌^◌, ◌&&◌, pos, Bool, true, false, cond, nat_eq, nat_lt, nat_le, Option, Some, None, option_map, refl, ◌∙◌, ap, arith}
use Rattle.std.proofs.lemmas.Bool.Decides.{nat_tests}
use Rattle.std.specs.Option.{option_map_or, option_or}
use Rattle.span_context.specs.declared.size.Size.{Size}
use Rattle.span_context.specs.declared.size.Size.TheVariants.{Word, Double}
use Rattle.bpf_words.specs.declared.instruction.Insn.TheVariants.{Compute, Load}
use Rattle.bpf_words.specs.declared.instruction.Width.TheVariants.{Narrow, Full}
use Rattle.bpf_words.specs.declared.instruction.Arithmetic.{Arithmetic}
use Rattle.bpf_words.specs.declared.instruction.Arithmetic.TheVariants.{Add, Sub}
use Rattle.bpf_words.specs.declared.instruction.Operand.TheVariants.{Source}
use Rattle.semantics.specs.State.{State}
use Rattle.abstract_state.specs.declared.region.Region.{Region}
use Rattle.abstract_state.specs.declared.region.Region.TheVariants.{Text, Link}
use Rattle.abstract_state.specs.Lent.{Lengths, base_of, end_field}
use Rattle.abstract_state.specs.Estimate.{Estimate, only}
use Rattle.abstract_state.specs.Addresses.{Content, ANumber, InContext}
use Rattle.abstract_state.specs.Situation.{Situation, read}
use Rattle.value_marks.specs.declared.mark.Mark.{Mark}
use Rattle.value_marks.specs.Mark.{raised_mark, lowered_mark}
use Rattle.value_marks.specs.Marking.{Marking, no_marks, mark_register, named, shifted}
use Rattle.value_marks.specs.Marking as marks
use Rattle.value_marks.specs.Bearing.{Bears}
use Rattle.value_marks.proofs.Moved.{same_place, other_place}
use Rattle.length_marks.specs.Names.{text_name, BearsIn, unless_named, without}
use Rattle.length_marks.specs.Lengths.{length_field, length_mark, mark_of_field, mark_at}
use Rattle.length_marks.specs.Sums.{number_in, raised_by, lowered_by, onto, sum_by, unwrapped, addend, narrow_mark, narrowed_by}
use Rattle.length_marks.specs.Following.{arithmetic, noted}
use Rattle.length_marks.specs.Laws.{SharesName, SumsTurn, CountsDown}

pub borne : (lengths : Lengths) (w : Marking) (s : State) → BearsIn lengths w s → Bears w s
borne lengths w s was = (was.0, was.2)

pub start : (lengths : Lengths) (s : State) → BearsIn lengths no_marks s
start lengths s = (
  λ k. cond (nat_eq k text_name) lengths.text lengths.link,
  record { text = refl; link = refl },
  record {
    registers = λ i h m n e stands. absurd (cc);
    slots = λ i h m n e stands. absurd (cc);
  },
)

-- ---- marks that are there
written : (d : ℕ) (x y : Option Mark) → cond (nat_eq d d) x y ≡ x
written d x y = ap (λ (b : Bool). cond b x y) (same_place d)

kept : (at : ℕ) (m : Mark) → m.origin ≢ at → unless_named at (Some m) ≡ Some m
kept at m apart = ap (λ (b : Bool). cond b None (Some m)) (other_place m.origin at apart)

still : (at e : ℕ) (m : Mark) (w : Marking) → m.origin ≢ at → w.registers e ≡ Some m → (without at w).registers e ≡ Some m
still at e m w apart is = ap (unless_named at) is ∙ kept at m apart

-- ---- lengths and ends
loaded_by : (at d base : ℕ) (size : Size) (offset : ℕ) (s : Situation) (w : Marking) (m : Mark) → s.registers base ≡ Some (InContext 0) → mark_at size (Some (InContext 0)) (pos offset) ≡ Some m → (noted at (Load size d base (pos offset)) s w).registers d ≡ Some m
unfolding noted
loaded_by at d base size offset s w m there is =
    ap (λ (o : Option Mark). (option_map_or (λ k. mark_register d (Some k) w) o (marks.loaded at size d base (pos offset) s w)).registers d) (ap (λ (c : Option Content). mark_at size c (pos offset)) there ∙ is)
    ∙ written d (Some m) (w.registers d)

length_says : (region : Region) → mark_at Word (Some (InContext 0)) (pos (length_field region)) ≡ Some (length_mark region)
unfolding mark_at mark_of_field
length_says Text = refl
length_says Link = refl

end_says : (region : Region) → mark_at Double (Some (InContext 0)) (pos (end_field region)) ≡ Some (raised_mark (base_of region) (length_mark region))
unfolding mark_at mark_of_field
end_says Text = refl
end_says Link = refl

pub shares_name : (region : Region) → SharesName region
shares_name region at d base s w there = (
  loaded_by at d base Word (length_field region) s (without at w) (length_mark region) there (length_says region),
  loaded_by at d base Double (end_field region) s (without at w) (raised_mark (base_of region) (length_mark region)) there (end_says region),
)

-- ---- sums of 64 bits
onto_known : (at d e n : ℕ) (m : Mark) (s : Situation) (w : Marking) → w.registers e ≡ Some m → number_in (read (s.registers d)) ≡ Some n → number_in (read (s.registers e)) ≡ None → (noted at (Compute Full Add d (Source e)) s w).registers d ≡ Some (raised_mark n m)
unfolding noted arithmetic sum_by onto named
onto_known at d e n m s w marked one none =
    ap (λ (o : Option ℕ). (sum_by at d (Source e) o (number_in (read (s.registers d))) s.registers w).registers d) none
    ∙ ap (λ (o : Option ℕ). (sum_by at d (Source e) None o s.registers w).registers d) one
    ∙ written d (option_map (raised_mark n) (named at (s.registers e) (w.registers e))) _
    ∙ ap (λ (o : Option Mark). option_map (raised_mark n) (named at (s.registers e) o)) marked

onto_marked : (at d e n : ℕ) (m : Mark) (s : Situation) (w : Marking) → w.registers e ≡ Some m → number_in (read (s.registers d)) ≡ Some n → (noted at (Compute Full Add e (Source d)) s w).registers e ≡ Some (raised_mark n m)
unfolding noted arithmetic sum_by
onto_marked at d e n m s w marked one =
    ap (λ (o : Option ℕ). (sum_by at e (Source d) o (number_in (read (s.registers e))) s.registers w).registers e) one
    ∙ written e (raised_by (Some n) (w.registers e)) (w.registers e)
    ∙ ap (λ (o : Option Mark). raised_by (Some n) o) marked

from_marked : (at d e n : ℕ) (m : Mark) (s : Situation) (w : Marking) → w.registers e ≡ Some m → number_in (read (s.registers d)) ≡ Some n → (noted at (Compute Full Sub e (Source d)) s w).registers e ≡ Some (lowered_mark n m)
unfolding noted arithmetic
from_marked at d e n m s w marked one =
    written e (lowered_by (number_in (read (s.registers d))) (w.registers e)) (w.registers e)
    ∙ ap (λ (o : Option ℕ). lowered_by o (w.registers e)) one
    ∙ ap (λ (o : Option Mark). lowered_by (Some n) o) marked

pub sums_turn : SumsTurn
sums_turn at d e n m s w apart marked one none =
    let there = still at e m w apart marked in (
      onto_known at d e n m s (without at w) there one none,
      onto_marked at d e n m s (without at w) there one,
      from_marked at d e n m s (without at w) there one,
    )

-- ---- counters of 32 bits
more_fails : (high : ℕ) → 1 ≤ high → nat_lt (high + 4294967295) (2 ^ 32) ≡ false
more_fails high h = grind (arith, nat_tests)

passes : (low high : ℕ) → 1 ≤ low → high < 2 ^ 32 → (nat_lt high (2 ^ 32) && nat_le (2 ^ 32) (low + 4294967295)) ≡ true
passes low high h k = grind (arith, nat_tests)

lowered_by_one : (a : Estimate) (m : Mark) → 1 ≤ a.range.low → a.range.low ≤ a.range.high → a.range.high < 2 ^ 32 → unwrapped a 4294967295 m ≡ Some (lowered_mark 1 m)
unfolding unwrapped
lowered_by_one a m some sorted small =
    let more = cond (nat_lt a.range.high (2 ^ 32) && nat_le (2 ^ 32) (a.range.low + 4294967295)) (Some (lowered_mark 1 m)) None in
    ap (λ (b : Bool). cond b (Some (raised_mark 4294967295 m)) more) (more_fails a.range.high (omega (arith, some, sorted)))
    ∙ ap (λ (b : Bool). cond b (Some (lowered_mark 1 m)) None) (passes a.range.low a.range.high some small)

narrow_by_one : (operation : Arithmetic) (n : ℕ) (a : Estimate) (m : Mark) → addend operation n ≡ 4294967295 → 1 ≤ a.range.low → a.range.low ≤ a.range.high → a.range.high < 2 ^ 32 → narrow_mark operation (Some (ANumber a)) n m ≡ Some (lowered_mark 1 m)
unfolding narrow_mark
narrow_by_one operation n a m is some sorted small =
    ap (λ (o : Option Mark). option_or o (shifted Narrow operation n m)) (ap (λ (k : ℕ). unwrapped a k m) is ∙ lowered_by_one a m some sorted small)

counted : (operation : Arithmetic) (d n : ℕ) (a : Estimate) (m : Mark) (s : Situation) (w : Marking) → addend operation n ≡ 4294967295 → w.registers d ≡ Some m → s.registers d ≡ Some (ANumber a) → 1 ≤ a.range.low → a.range.low ≤ a.range.high → a.range.high < 2 ^ 32 → (mark_register d (narrowed_by operation (s.registers d) (Some n) (w.registers d)) w).registers d ≡ Some (lowered_mark 1 m)
unfolding narrowed_by
counted operation d n a m s w is marked there some sorted small =
    written d (narrowed_by operation (s.registers d) (Some n) (w.registers d)) (w.registers d)
    ∙ ap (λ (o : Option Mark). narrowed_by operation (s.registers d) (Some n) o) marked
    ∙ ap (λ (c : Option Content). narrow_mark operation c n m) there
    ∙ narrow_by_one operation n a m is some sorted small

taken_one : addend Sub 1 ≡ 4294967295
unfolding addend
taken_one = refl

added_one : addend Add 18446744073709551615 ≡ 4294967295
unfolding addend
added_one = refl

pub counts_down : CountsDown
unfolding noted arithmetic only
counts_down at d a m s w apart marked there some sorted small =
    let kept_there = still at d m w apart marked in (
      counted Sub d 1 a m s (without at w) taken_one kept_there there some sorted small,
      counted Add d 18446744073709551615 a m s (without at w) added_one kept_there there some sorted small,
    )
