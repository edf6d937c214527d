-- How far holders are known to be ahead of one another, they are.
use Rattle.std.proofs.Common.{◌≡◌, ℕ, ℤ, pos, ◌+◌, ◌%◌, ◌^◌, ◌<◌, ◌≤◌, ◌+ℤ◌, ◌-ℤ◌, nat_eq, cond, Bool, true, false, List, length, get_or, Option, Some, None, option_and_then, refl, sym, ap, subst, ◌∙◌, ⊎_elim, arith}
use Rattle.std.proofs.lemmas.Int.{ints}
use Rattle.std.proofs.lemmas.Bool.{cases_lt}
use Rattle.std.proofs.lemmas.List.{get_or_past}
use Rattle.bpf_words.specs.declared.instruction.Width.{Width}
use Rattle.bpf_words.specs.declared.instruction.Width.TheVariants.{Narrow, Full}
use Rattle.intervals.specs.Interval.{Interval}
use Rattle.semantics.specs.State.{State}
use Rattle.semantics.specs.Value.{bits_of, cut}
use Rattle.loop_labels.specs.Potential as labels
use Rattle.abstract_state.specs.Lent.{Lengths}
use Rattle.abstract_state.specs.State.{Contains}
use Rattle.value_marks.specs.declared.mark.Mark.{Mark}
use Rattle.value_marks.specs.declared.marks.Marks.{Marks}
use Rattle.value_marks.specs.Mark.{Agrees, narrower, distance, mark_at}
use Rattle.value_marks.specs.Copies.{Bear, kept}
use Rattle.value_marks.proofs.Taught.{ahead_of as marks_ahead}
use Rattle.tracked_state.specs.declared.state.TrackedState.{TrackedState}
use Rattle.label_potentials.specs.declared.potential.Holder.{Holder}
use Rattle.label_potentials.specs.declared.potential.Holder.TheVariants.{Register, StackSlot}
use Rattle.label_potentials.specs.Views.{holder_of}
use Rattle.label_potentials.proofs.Held.{IsWhole}
use Rattle.potential_edges.specs.Same.{is_holder}
use Rattle.potential_edges.specs.Sources.{numbers_in, fits, stays}
use Rattle.potential_edges.specs.Ahead.{mark_of, unwrapped, ahead_within, ahead_by, ahead_by_marks, ahead_of_other, ahead_in}
use Rattle.potential_edges.proofs.Sources.{Spans, Stays, numbers_sound, stays_is, fits_below, same_number, and_none}

-- a holder's number is so much more than another's, where the marks are true
abbrev pub IsAheadBy : TrackedState → Holder → Holder → ℤ → Type 0
IsAheadBy a first second more =
    (lengths : Lengths) (s : State) → Contains a.state lengths s → Bear (kept a.copies) s → (base : ℕ)
    → labels.counted_from base (labels.number_in s (holder_of second))
    ≡ labels.counted_from base (labels.number_in s (holder_of first)) +ℤ more

-- ---- the same holder
pub holder_is : (a b : Holder) → is_holder a b ≡ true → a ≡ b
holder_is (Register a) (Register b) e = ap (λ (k : ℕ). Register k) (same_number a b e)
holder_is (Register a) (StackSlot b) e = absurd (cc)
holder_is (StackSlot a) (Register b) e = absurd (cc)
holder_is (StackSlot a) (StackSlot b) e = ap (λ (k : ℕ). StackSlot k) (same_number a b e)

not_ahead : (a : TrackedState) (first second : Holder) → first ≡ second → IsAheadBy a first second (pos 0)
not_ahead a first second same lengths s c bears base =
    sym (ap (λ h. labels.counted_from base (labels.number_in s (holder_of h))) same)
    ∙ and_none (labels.counted_from base (labels.number_in s (holder_of first)))

-- ---- numbers that agree modulo the width
stays_ahead : (width : Width) (ahead x y : ℕ) (from : Interval) → Stays width from (pos ahead) → from.low ≤ x
    → x ≤ from.high → y < 2 ^ bits_of width → cut width y ≡ cut width (x + ahead) → pos y ≡ pos x +ℤ pos ahead
stays_ahead Full ahead x y from they low high fit agree =
    let below = they.below in omega (arith, ints)
stays_ahead Narrow ahead x y from they low high fit agree =
    let below = they.below in omega (arith, ints)

stays_behind : (width : Width) (ahead x y : ℕ) (from : Interval)
    → Stays width from (pos ahead -ℤ pos (2 ^ bits_of width)) → from.low ≤ x → x ≤ from.high
    → y < 2 ^ bits_of width → cut width y ≡ cut width (x + ahead)
    → pos y ≡ pos x +ℤ (pos ahead -ℤ pos (2 ^ bits_of width))
stays_behind Full ahead x y from they low high fit agree =
    let below = they.below in let natural = they.natural in omega (arith, ints)
stays_behind Narrow ahead x y from they low high fit agree =
    let below = they.below in let natural = they.natural in omega (arith, ints)

unwrapped_is : (width : Width) (ahead x y : ℕ) (from : Interval) (more : ℤ) → unwrapped width ahead from ≡ Some more
    → from.low ≤ x → x ≤ from.high → y < 2 ^ bits_of width → cut width y ≡ cut width (x + ahead)
    → pos y ≡ pos x +ℤ more
unwrapped_is width ahead x y from more e low high fit agree = by_more (stays width from (pos ahead)) refl e
  where
    less : ℤ
    less = pos ahead -ℤ pos (2 ^ bits_of width)

    by_less : (b : Bool) → stays width from less ≡ b → cond b (Some less) None ≡ Some more → pos y ≡ pos x +ℤ more
    by_less true stay f =
        let same : less ≡ more = cc in
        subst (λ (z : ℤ). pos y ≡ pos x +ℤ z) same
        (stays_behind width ahead x y from (stays_is width from less stay) low high fit agree)
    by_less false stay f = absurd (cc)

    by_more : (b : Bool) → stays width from (pos ahead) ≡ b
        → cond b (Some (pos ahead)) (cond (stays width from less) (Some less) None) ≡ Some more → pos y ≡ pos x +ℤ more
    by_more true stay f =
        let same : pos ahead ≡ more = cc in
        subst (λ (z : ℤ). pos y ≡ pos x +ℤ z) same
        (stays_ahead width ahead x y from (stays_is width from (pos ahead) stay) low high fit agree)
    by_more false stay f = by_less (stays width from less) refl f

within_is : (width : Width) (ahead x y : ℕ) (from to : Interval) (more : ℤ)
    → ahead_within width ahead from to ≡ Some more → from.low ≤ x → x ≤ from.high → y ≤ to.high
    → cut width y ≡ cut width (x + ahead) → pos y ≡ pos x +ℤ more
within_is width ahead x y from to more e low high last agree = go (fits width to) refl e
  where
    go : (b : Bool) → fits width to ≡ b → cond b (unwrapped width ahead from) None ≡ Some more
        → pos y ≡ pos x +ℤ more
    go true small f =
        let below : to.high < 2 ^ bits_of width = fits_below width to small in
        unwrapped_is width ahead x y from more f low high (omega arith) agree
    go false small f = absurd (cc)

-- ---- registers that bear marks of one name
in_registers : (registers : List (Option ℕ)) (r n : ℕ) → length registers ≡ 11 → get_or registers r None ≡ Some n
    → r < 11
in_registers registers r n eleven e =
    ⊎_elim (λ (h : r < 11). h)
    (λ (h : 11 ≤ r). absurd (nothing (get_or registers r None) e (get_or_past registers r None (omega arith))))
    (cases_lt r 11)
  where
    nothing : (o : Option ℕ) → o ≡ Some n → o ≡ None → ⊥
    nothing o f g = absurd (cc)

agreed : (o : Option Marks) (s : State) (i j x y : ℕ) (m n : Mark) → Bear o s → i < 11 → j < 11
    → option_and_then (λ marks. mark_at marks.registers i) o ≡ Some m
    → option_and_then (λ marks. mark_at marks.registers j) o ≡ Some n → get_or s.registers i None ≡ Some x
    → get_or s.registers j None ≡ Some y → (origins : ℕ → ℕ) × Agrees origins m x × Agrees origins n y
agreed None s i j x y m n bears low high e f first second = absurd (cc)
agreed (Some marks) s i j x y m n bears low high e f first second =
    (bears.0, bears.1.registers i low m x e first, bears.1.registers j high n y f second)

counts_ahead : (x y base : ℕ) (more : ℤ) → pos y ≡ pos x +ℤ more → pos y -ℤ pos base ≡ (pos x -ℤ pos base) +ℤ more
counts_ahead x y base more e = omega (arith, ints)

registers_ahead : (a : TrackedState) (i j : ℕ) (m n : Mark) (from to : Interval) (more : ℤ) → Spans a.state i from
    → Spans a.state j to → mark_of a i ≡ Some m → mark_of a j ≡ Some n → m.origin ≡ n.origin
    → ahead_within (narrower m.width n.width) (distance (narrower m.width n.width) m n) from to ≡ Some more
    → IsAheadBy a (Register i) (Register j) more
registers_ahead a i j m n from to more one other first second same is lengths s c bears base =
    let x = one lengths s c in
    let y = other lengths s c in
    let low : i < 11 = in_registers s.registers i x.0 c.eleven x.1 in
    let high : j < 11 = in_registers s.registers j y.0 c.eleven y.1 in
    let both = agreed (kept a.copies) s i j x.0 y.0 m n bears low high first second x.1 y.1 in
    ap (labels.counted_from base) y.1
    ∙ counts_ahead x.0 y.0 base more
    (within_is (narrower m.width n.width) (distance (narrower m.width n.width) m n) x.0 y.0 from to more is x.2 x.3
    y.3 (marks_ahead both.0 m n x.0 y.0 same both.1 both.2))
    ∙ sym (ap (λ o. labels.counted_from base o +ℤ more) x.1)

by_marks_sound : (a : TrackedState) (i j : ℕ) (m n : Mark) (more : ℤ) → IsWhole a.state → mark_of a i ≡ Some m
    → mark_of a j ≡ Some n → ahead_by a.state i j m n ≡ Some more → IsAheadBy a (Register i) (Register j) more
by_marks_sound a i j m n more whole first second e = by_name (nat_eq m.origin n.origin) refl e
  where
    width : Width
    width = narrower m.width n.width

    by_to : (from : Interval) (o : Option Interval) → m.origin ≡ n.origin → numbers_in a.state i ≡ Some from
        → numbers_in a.state j ≡ o → option_and_then (ahead_within width (distance width m n) from) o ≡ Some more
        → IsAheadBy a (Register i) (Register j) more
    by_to from None same known held f = absurd (cc)
    by_to from (Some to) same known held f =
        registers_ahead a i j m n from to more (numbers_sound a.state i from whole known)
        (numbers_sound a.state j to whole held) first second same f

    by_from : (o : Option Interval) → m.origin ≡ n.origin → numbers_in a.state i ≡ o
        → option_and_then (λ from. option_and_then (ahead_within width (distance width m n) from)
        (numbers_in a.state j)) o ≡ Some more
        → IsAheadBy a (Register i) (Register j) more
    by_from None same known f = absurd (cc)
    by_from (Some from) same known f = by_to from (numbers_in a.state j) same known refl f

    by_name : (b : Bool) → nat_eq m.origin n.origin ≡ b
        → cond b (option_and_then (λ from. option_and_then (ahead_within width (distance width m n) from)
        (numbers_in a.state j)) (numbers_in a.state i)) None ≡ Some more
        → IsAheadBy a (Register i) (Register j) more
    by_name true same f = by_from (numbers_in a.state i) (same_number m.origin n.origin same) refl f
    by_name false same f = absurd (cc)

other_ahead : (a : TrackedState) (first second : Holder) (more : ℤ) → IsWhole a.state
    → ahead_of_other a first second ≡ Some more → IsAheadBy a first second more
other_ahead a (Register i) (Register j) more whole e = by_first (mark_of a i) refl e
  where
    by_second : (m : Mark) (o : Option Mark) → mark_of a i ≡ Some m → mark_of a j ≡ o
        → option_and_then (ahead_by a.state i j m) o ≡ Some more → IsAheadBy a (Register i) (Register j) more
    by_second m None one other f = absurd (cc)
    by_second m (Some n) one other f = by_marks_sound a i j m n more whole one other f

    by_first : (o : Option Mark) → mark_of a i ≡ o
        → option_and_then (λ m. option_and_then (ahead_by a.state i j m) (mark_of a j)) o ≡ Some more
        → IsAheadBy a (Register i) (Register j) more
    by_first None one f = absurd (cc)
    by_first (Some m) one f = by_second m (mark_of a j) one refl f
other_ahead a (Register i) (StackSlot j) more whole e = absurd (cc)
other_ahead a (StackSlot i) (Register j) more whole e = absurd (cc)
other_ahead a (StackSlot i) (StackSlot j) more whole e = absurd (cc)

pub ahead_sound : (a : TrackedState) (first second : Holder) (more : ℤ) → IsWhole a.state
    → ahead_in a first second ≡ Some more → IsAheadBy a first second more
ahead_sound a first second more whole e = go (is_holder first second) refl e
  where
    go : (b : Bool) → is_holder first second ≡ b → cond b (Some (pos 0)) (ahead_of_other a first second) ≡ Some more
        → IsAheadBy a first second more
    go true same f =
        let none : pos 0 ≡ more = cc in
        subst (λ (z : ℤ). IsAheadBy a first second z) none (not_ahead a first second (holder_is first second same))
    go false same f = other_ahead a first second more whole f
