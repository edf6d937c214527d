-- Where what a holder holds behind an instruction comes from.
use Rattle.std.proofs.Common.{◌≡◌, ◌≢◌, ℕ, ℤ, pos, negsuc, ◌+◌, ◌*◌, ◌^◌, ◌<◌, ◌≤◌, ◌+ℤ◌, ◌-ℤ◌, ◌≤ℤ◌, ◌<ℤ◌, nat_eq, nat_lt, int_le, int_lt, ◌&&◌, cond, Bool, true, false, List, length, get_or, set, Option, Some, None, option_and_then, Ok, unsigned_abs, refl, sym, ap, subst, ◌∙◌, arith}
use Rattle.std.proofs.lemmas.Bool.Decides.{nat_tests}
use Rattle.std.proofs.lemmas.Int.{ints}
use Rattle.std.proofs.lemmas.Grind.{common_steps}
use Rattle.std.specs.Int.{cast_unsigned, w64}
use Rattle.bpf_words.specs.declared.instruction.Arithmetic.{Arithmetic}
use Rattle.bpf_words.specs.declared.instruction.Arithmetic.TheVariants.{Add, Sub, Mul, Div, Or, And, Lsh, Rsh, Mod, Xor, Mov, Arsh, SignedDiv, SignedMod}
use Rattle.bpf_words.specs.declared.instruction.Width.{Width}
use Rattle.bpf_words.specs.declared.instruction.Width.TheVariants.{Narrow, Full}
use Rattle.bpf_words.specs.declared.instruction.Operand.TheVariants.{Immediate, Source as FromRegister}
use Rattle.bpf_words.specs.declared.instruction.Insn.{Insn}
use Rattle.bpf_words.specs.declared.instruction.Insn.TheVariants.{Compute, Negate, Extend, Convert, Jump, JumpLong, Branch, Load, LoadSigned, Store, LoadWide, Exit}
use Rattle.bpf_words.specs.declared.instruction.Operand.{Operand}
use Rattle.bpf_words.specs.Flow.{written_by}
use Rattle.intervals.specs.Interval.{Interval, interval_of, from_to}
use Rattle.semantics.specs.State.{State, register_of}
use Rattle.semantics.specs.Value.{bits_of, cut, value_of}
use Rattle.semantics.specs.Step.{On, first_of}
use Rattle.loop_labels.specs.Potential as labels
use Rattle.abstract_state.specs.declared.state.AbsState.{AbsState}
use Rattle.abstract_state.specs.Lent.{Lengths, base_of as region_base}
use Rattle.abstract_state.specs.Known.{ContainsKnown}
use Rattle.abstract_state.specs.declared.known.Known.{Known}
use Rattle.abstract_state.specs.declared.known.Known.TheVariants.{Number, Context, Stack, Lent}
use Rattle.abstract_state.specs.State.{Span, lengths_of, Contains, does, with_register}
use Rattle.value_marks.proofs.Machine.{unwound, wrote, holds_it}
use Rattle.value_marks.proofs.Held.{among}
use Rattle.value_marks.proofs.Moved.{some_same}
use Rattle.label_potentials.specs.declared.potential.Holder.{Holder}
use Rattle.label_potentials.specs.declared.potential.Holder.TheVariants.{Register, StackSlot}
use Rattle.potential_edges.specs.declared.source.Source.{Source}
use Rattle.semantics.specs.Memory.{stack_number}
use Rattle.label_potentials.specs.Views.{holder_of}
use Rattle.label_potentials.specs.Counts.{held_in}
use Rattle.potential_edges.specs.Sources.{exactly, shifts_by, shifts_of, between, ranged_by, ranged_in, is_lent, summed_in, from_register, from_slot, numbers_of, numbers_in, fits, stays, shift_of, shifted_by, shifted_in, moved_from, moved_in, from_other, computed_in, written_in, is_written, is_store, source_in}
use Rattle.label_potentials.proofs.Held.{IsWhole, held_sound}
use Rattle.potential_edges.proofs.Frame.{register_left, stack_left}

-- a step on from a contained state
pub record Steps (a : AbsState) (insn : Insn) (span : Span) (s next : State) : Type 0 where
  pub before : Contains a (lengths_of span) s
  pub far : ℤ
  pub goes : does span s insn ≡ Ok (On next far)

-- a holder holds behind it what another held before it, and so much more, from whatever base both count
abbrev pub IsMoreBehind : State → State → Holder → Holder → ℕ → ℤ → Type 0
IsMoreBehind s next holder from base more =
    labels.counted_from base (labels.number_in next (holder_of holder))
    ≡ labels.counted_from base (labels.number_in s (holder_of from)) +ℤ more

abbrev pub ComesExactly : AbsState → Insn → Holder → Holder → ℤ → Type 0
ComesExactly a insn holder from more =
    (span : Span) (s next : State) → Steps a insn span s next → (base : ℕ) → IsMoreBehind s next holder from base more

-- or more by a number between two
abbrev pub ComesFrom : AbsState → Insn → Holder → Source → Type 0
ComesFrom a insn holder source =
    (span : Span) (s next : State) → Steps a insn span s next → (base : ℕ)
    → (more : ℤ) × (source.low ≤ℤ more) × (more ≤ℤ source.high) × IsMoreBehind s next holder source.holder base more

itself : (z : ℤ) → z ≤ℤ z
itself z = omega (arith, ints)

comes_exactly : (a : AbsState) (insn : Insn) (holder from : Holder) (more : ℤ)
    → ComesExactly a insn holder from more → ComesFrom a insn holder (exactly from more)
comes_exactly a insn holder from more comes span s next steps base =
    (more, itself more, itself more, comes span s next steps base)

-- the number in a register lies in an interval, in each contained state
abbrev pub Spans : AbsState → ℕ → Interval → Type 0
Spans a register range =
    (lengths : Lengths) (s : State) → Contains a lengths s
    → (n : ℕ) × (get_or s.registers register None ≡ Some n) × (range.low ≤ n) × (n ≤ range.high)

-- an operation with an immediate gives so much more, where neither number has more bits than the width
pub record Shifts (operation : Arithmetic) (value by : ℤ) : Type 0 where
  pub reads : operation ≢ Mov
  pub gives : (width : Width) (n m : ℕ) → n < 2 ^ bits_of width → m < 2 ^ bits_of width → pos m ≡ pos n +ℤ by
      → value_of operation width (cut width n) (cut width (cast_unsigned w64 value)) ≡ m

-- ---- what isn't written
pub and_none : (z : ℤ) → z ≡ z +ℤ pos 0
and_none z = omega (arith, ints)

pub register_stays : (a : AbsState) (insn : Insn) (r : ℕ) → (written_by insn ≡ Some r → ⊥)
    → ComesExactly a insn (Register r) (Register r) (pos 0)
register_stays a insn r apart span s next steps base =
    ap (labels.counted_from base) (register_left span s next insn r steps.far apart steps.goes)
    ∙ and_none (labels.counted_from base (get_or s.registers r None))

pub slot_stays : (a : AbsState) (insn : Insn) (slot : ℕ) → is_store insn ≡ false
    → ComesExactly a insn (StackSlot slot) (StackSlot slot) (pos 0)
slot_stays a insn slot plain span s next steps base =
    ap (λ stack. labels.counted_from base (stack_number stack (8 * slot) 8))
    (stack_left span s next insn steps.far plain steps.goes)
    ∙ and_none (labels.counted_from base (labels.number_in s (labels.InStack slot)))

-- ---- what is written with a number that is so much more
written_there : (registers : List (Option ℕ)) (d v : ℕ) → d < length registers
    → get_or (set registers d (Some v)) d None ≡ Some v
written_there registers d v h = grind (arith, common_steps)

counts_more : (n m base : ℕ) (more : ℤ) → pos m ≡ pos n +ℤ more → pos m -ℤ pos base ≡ (pos n -ℤ pos base) +ℤ more
counts_more n m base more e = omega (arith, ints)

first_is : (s : State) (op : Arithmetic) (d : ℕ) → op ≢ Mov → first_of s op d ≡ register_of s d
first_is s Mov d h = absurd (h refl)
first_is s _ d h = refl

-- the register d holds m where r held n
comes : (s next : State) (d r n m value base : ℕ) (more : ℤ) → next ≡ with_register s d value → value ≡ m
    → d < length s.registers → get_or s.registers r None ≡ Some n → pos m ≡ pos n +ℤ more
    → IsMoreBehind s next (Register d) (Register r) base more
comes s next d r n m value base more is same inside held much =
    ap (λ (t : State). labels.counted_from base (get_or t.registers d None)) is
    ∙ ap (labels.counted_from base) (written_there s.registers d value inside)
    ∙ ap (λ (k : ℕ). pos k -ℤ pos base) same
    ∙ counts_more n m base more much
    ∙ sym (ap (λ o. labels.counted_from base o +ℤ more) held)

pub comes_shifted : (a : AbsState) (width : Width) (op : Arithmetic) (d : ℕ) (value by : ℤ) (range : Interval)
    → Shifts op value by
    → ((n : ℕ) → range.low ≤ n → n ≤ range.high
    → (m : ℕ) × (pos m ≡ pos n +ℤ by) × (n < 2 ^ bits_of width) × (m < 2 ^ bits_of width))
    → Spans a d range → ComesExactly a (Compute width op d (Immediate value)) (Register d) (Register d) by
comes_shifted a width op d value by range shifts within spans span s next steps base =
    let u = unwound (first_of s op d) _ _ steps.goes in
    let read : register_of s d ≡ Ok u.0 = sym (first_is s op d shifts.reads) ∙ u.1 in
    let inside : d < 11 = among s d u.0 steps.before.eleven read in
    let held = spans (lengths_of span) s steps.before in
    let same : held.0 ≡ u.0 = some_same held.0 u.0 (sym held.1 ∙ holds_it s d u.0 read) in
    let more = within held.0 held.2 held.3 in
    let eleven = steps.before.eleven in
    comes s next d d held.0 more.0 _ base by (wrote s next d _ _ steps.far u.2)
    (ap (λ (k : ℕ). value_of op width (cut width k) (cut width (cast_unsigned w64 value))) (sym same)
    ∙ shifts.gives width held.0 more.0 more.2 more.3 more.1) (omega arith) held.1 more.1

uncut : (width : Width) (n : ℕ) → n < 2 ^ bits_of width → cut width n ≡ n
uncut Full n h = omega arith
uncut Narrow n h = omega arith

-- any register that is written is one of the eleven where the run goes on: its value is then read again
pub comes_moved : (a : AbsState) (width : Width) (d r : ℕ) (range : Interval) → range.high < 2 ^ bits_of width
    → Spans a r range → d < 11
    → ComesExactly a (Compute width Mov d (FromRegister r)) (Register d) (Register r) (pos 0)
comes_moved a width d r range fits spans inside span s next steps base =
    let u = unwound (register_of s r) _ _ steps.goes in
    let held = spans (lengths_of span) s steps.before in
    let same : held.0 ≡ u.0 = some_same held.0 u.0 (sym held.1 ∙ holds_it s r u.0 u.1) in
    let high : held.0 ≤ range.high = held.3 in
    let small : held.0 < 2 ^ bits_of width = omega arith in
    let eleven = steps.before.eleven in
    comes s next d r held.0 held.0 _ base (pos 0) (wrote s next d _ _ steps.far u.2)
    (ap (cut width) (sym same) ∙ uncut width held.0 small) (omega arith) held.1 (and_none (pos held.0))

-- ---- numbers of an interval, and so much more
known_between : (k : Known) (range : Interval) (lengths : Lengths) (n : ℕ) → numbers_of k ≡ Some range
    → ContainsKnown k lengths n → (range.low ≤ n) × (n ≤ range.high)
known_between (Number q) range lengths n e c =
    let same : interval_of q.range ≡ range = cc in
    subst (λ (r : Interval). (r.low ≤ n) × (n ≤ r.high)) same (c.range.low, c.range.high)
known_between (Context p) range lengths n e c = absurd (cc)
known_between (Stack p) range lengths n e c = absurd (cc)
known_between (Lent p) range lengths n e (x, at, c) =
    let same : from_to (region_base p.region + p.offset.range.low) (region_base p.region + p.offset.range.high) ≡ range
    = cc in
    let low : p.offset.range.low ≤ x = c.range.low in
    let high : x ≤ p.offset.range.high = c.range.high in
    let first : region_base p.region + p.offset.range.low ≤ n = omega arith in
    let last : n ≤ region_base p.region + p.offset.range.high = omega arith in
    subst (λ (r : Interval). (r.low ≤ n) × (n ≤ r.high)) same (first, last)

pub numbers_sound : (a : AbsState) (r : ℕ) (range : Interval) → IsWhole a → numbers_in a r ≡ Some range
    → Spans a r range
numbers_sound a r range whole e = go (held_in a (Register r)) refl e
  where
    go : (o : Option Known) → held_in a (Register r) ≡ o → option_and_then numbers_of o ≡ Some range → Spans a r range
    go None is f = absurd (cc)
    go (Some k) is f = λ lengths s c.
        let n = held_sound a (Register r) k whole is lengths s c in
        let between = known_between k range lengths n.0 f n.2 in
        (n.0, n.1, between.0, between.1)

pub both_true : (a b : Bool) → a && b ≡ true → (a ≡ true) × (b ≡ true)
both_true true true e = (refl, refl)
both_true true false e = absurd (cc)
both_true false b e = absurd (cc)

test_le : (a b : ℤ) → int_le a b ≡ true → a ≤ℤ b
test_le a b e = omega (arith, ints)

test_lt : (a b : ℤ) → int_lt a b ≡ true → a <ℤ b
test_lt a b e = omega (arith, ints)

pub fits_below : (width : Width) (range : Interval) → fits width range ≡ true → range.high < 2 ^ bits_of width
fits_below width range e = grind (arith, nat_tests)

pub record Stays (width : Width) (range : Interval) (more : ℤ) : Type 0 where
  pub small : range.high < 2 ^ bits_of width
  pub natural : pos 0 ≤ℤ (pos range.low +ℤ more)
  pub below : (pos range.high +ℤ more) <ℤ pos (2 ^ bits_of width)

pub stays_is : (width : Width) (range : Interval) (more : ℤ) → stays width range more ≡ true → Stays width range more
stays_is width range more e =
    let both = both_true _ _ e in
    let last = both_true _ _ both.1 in
    record {
      small = fits_below width range both.0;
      natural = test_le (pos 0) (pos range.low +ℤ more) last.0;
      below = test_lt (pos range.high +ℤ more) (pos (2 ^ bits_of width)) last.1;
    }

within : (n low high bound : ℕ) (by : ℤ) → pos 0 ≤ℤ (pos low +ℤ by) → (pos high +ℤ by) <ℤ pos bound → high < bound
    → low ≤ n → n ≤ high → (m : ℕ) × (pos m ≡ pos n +ℤ by) × (n < bound) × (m < bound)
within n low high bound by least greatest small from to =
    let is : pos (unsigned_abs (pos n +ℤ by)) ≡ pos n +ℤ by = omega (arith, ints) in
    (unsigned_abs (pos n +ℤ by), is, omega arith, omega (arith, ints))

-- ---- a sum or a difference with an immediate
adds : (value by : ℤ) → value ≡ by → (width : Width) (n m : ℕ) → n < 2 ^ bits_of width → m < 2 ^ bits_of width
    → pos m ≡ pos n +ℤ by → value_of Add width (cut width n) (cut width (cast_unsigned w64 value)) ≡ m
adds (pos k) by same Full n m small fit more = omega (arith, ints)
adds (negsuc k) by same Full n m small fit more = omega (arith, ints)
adds (pos k) by same Narrow n m small fit more = omega (arith, ints)
adds (negsuc k) by same Narrow n m small fit more = omega (arith, ints)

takes : (value by : ℤ) → pos 0 -ℤ value ≡ by → (width : Width) (n m : ℕ) → n < 2 ^ bits_of width
    → m < 2 ^ bits_of width → pos m ≡ pos n +ℤ by
    → value_of Sub width (cut width n) (cut width (cast_unsigned w64 value)) ≡ m
takes (pos k) by same Full n m small fit more = omega (arith, ints)
takes (negsuc k) by same Full n m small fit more = omega (arith, ints)
takes (pos k) by same Narrow n m small fit more = omega (arith, ints)
takes (negsuc k) by same Narrow n m small fit more = omega (arith, ints)

pub shift_sound : (operation : Arithmetic) (value by : ℤ) → shift_of operation value ≡ Some by
    → Shifts operation value by
shift_sound Add value by e =
    let same : value ≡ by = cc in record { reads = λ f. absurd (cc); gives = adds value by same }
shift_sound Sub value by e =
    let same : pos 0 -ℤ value ≡ by = cc in record { reads = λ f. absurd (cc); gives = takes value by same }
shift_sound Mul value by e = absurd (cc)
shift_sound Div value by e = absurd (cc)
shift_sound Or value by e = absurd (cc)
shift_sound And value by e = absurd (cc)
shift_sound Lsh value by e = absurd (cc)
shift_sound Rsh value by e = absurd (cc)
shift_sound Mod value by e = absurd (cc)
shift_sound Xor value by e = absurd (cc)
shift_sound Mov value by e = absurd (cc)
shift_sound Arsh value by e = absurd (cc)
shift_sound SignedDiv value by e = absurd (cc)
shift_sound SignedMod value by e = absurd (cc)

pub shifted_sound : (a : AbsState) (width : Width) (op : Arithmetic) (d : ℕ) (value : ℤ) (source : Source) → IsWhole a
    → shifted_in a width op d value ≡ Some source
    → ComesFrom a (Compute width op d (Immediate value)) (Register d) source
shifted_sound a width op d value source whole e = by_shift (shift_of op value) refl e
  where
    by_stay : (by : ℤ) (range : Interval) (b : Bool) → shift_of op value ≡ Some by → numbers_in a d ≡ Some range
        → stays width range by ≡ b → cond b (Some (from_register d by)) None ≡ Some source
        → ComesFrom a (Compute width op d (Immediate value)) (Register d) source
    by_stay by range true is known stay f =
        let same : from_register d by ≡ source = cc in
        let they = stays_is width range by stay in
        subst (λ (u : Source). ComesFrom a (Compute width op d (Immediate value)) (Register d) u) same
        (comes_exactly a (Compute width op d (Immediate value)) (Register d) (Register d) by
        (comes_shifted a width op d value by range (shift_sound op value by is)
        (λ n low high. within n range.low range.high (2 ^ bits_of width) by they.natural they.below they.small low high)
        (numbers_sound a d range whole known)))
    by_stay by range false is known stay f = absurd (cc)

    by_numbers : (by : ℤ) (o : Option Interval) → shift_of op value ≡ Some by → numbers_in a d ≡ o
        → option_and_then (shifted_by width d by) o ≡ Some source
        → ComesFrom a (Compute width op d (Immediate value)) (Register d) source
    by_numbers by None is known f = absurd (cc)
    by_numbers by (Some range) is known f = by_stay by range (stays width range by) is known refl f

    by_shift : (o : Option ℤ) → shift_of op value ≡ o
        → option_and_then (λ more. option_and_then (shifted_by width d more) (numbers_in a d)) o ≡ Some source
        → ComesFrom a (Compute width op d (Immediate value)) (Register d) source
    by_shift None is f = absurd (cc)
    by_shift (Some by) is f = by_numbers by (numbers_in a d) is refl f

-- ---- a move
pub moved_sound : (a : AbsState) (width : Width) (d r : ℕ) (source : Source) → IsWhole a → d < 11
    → moved_in a width r ≡ Some source → ComesFrom a (Compute width Mov d (FromRegister r)) (Register d) source
moved_sound a width d r source whole inside e = by_numbers (numbers_in a r) refl e
  where
    by_fit : (range : Interval) (b : Bool) → numbers_in a r ≡ Some range → fits width range ≡ b
        → cond b (Some (from_register r (pos 0))) None ≡ Some source
        → ComesFrom a (Compute width Mov d (FromRegister r)) (Register d) source
    by_fit range true known small f =
        let same : from_register r (pos 0) ≡ source = cc in
        subst (λ (u : Source). ComesFrom a (Compute width Mov d (FromRegister r)) (Register d) u) same
        (comes_exactly a (Compute width Mov d (FromRegister r)) (Register d) (Register r) (pos 0)
        (comes_moved a width d r range (fits_below width range small) (numbers_sound a r range whole known) inside))
    by_fit range false known small f = absurd (cc)

    by_numbers : (o : Option Interval) → numbers_in a r ≡ o → option_and_then (moved_from width r) o ≡ Some source
        → ComesFrom a (Compute width Mov d (FromRegister r)) (Register d) source
    by_numbers None known f = absurd (cc)
    by_numbers (Some range) known f = by_fit range (fits width range) known refl f

-- ---- a sum or a difference of two registers
abbrev pub shift_with : Arithmetic → ℕ → ℤ
shift_with Sub n = pos 0 -ℤ pos n
shift_with operation n = pos n

abbrev pub IsShiftOf : Arithmetic → ℤ × ℤ → ℕ → Type 0
IsShiftOf operation more n = (more.0 ≤ℤ shift_with operation n) × (shift_with operation n ≤ℤ more.1)

adds_between : (low n high : ℕ) → low ≤ n → n ≤ high → (pos low ≤ℤ pos n) × (pos n ≤ℤ pos high)
adds_between low n high from to = (omega (arith, ints), omega (arith, ints))

takes_between : (low n high : ℕ) → low ≤ n → n ≤ high
    → ((pos 0 -ℤ pos high) ≤ℤ (pos 0 -ℤ pos n)) × ((pos 0 -ℤ pos n) ≤ℤ (pos 0 -ℤ pos low))
takes_between low n high from to = (omega (arith, ints), omega (arith, ints))

shift_between : (operation : Arithmetic) (by : Interval) (more : ℤ × ℤ) (n : ℕ) → by.low ≤ n → n ≤ by.high
    → shifts_by operation by ≡ Some more → IsShiftOf operation more n
shift_between Add by more n low high e =
    let same : (pos by.low, pos by.high) ≡ more = cc in
    subst (λ (m : ℤ × ℤ). IsShiftOf Add m n) same (adds_between by.low n by.high low high)
shift_between Sub by more n low high e =
    let same : (pos 0 -ℤ pos by.high, pos 0 -ℤ pos by.low) ≡ more = cc in
    subst (λ (m : ℤ × ℤ). IsShiftOf Sub m n) same (takes_between by.low n by.high low high)
shift_between Mul by more n low high e = absurd (cc)
shift_between Div by more n low high e = absurd (cc)
shift_between Or by more n low high e = absurd (cc)
shift_between And by more n low high e = absurd (cc)
shift_between Lsh by more n low high e = absurd (cc)
shift_between Rsh by more n low high e = absurd (cc)
shift_between Mod by more n low high e = absurd (cc)
shift_between Xor by more n low high e = absurd (cc)
shift_between Mov by more n low high e = absurd (cc)
shift_between Arsh by more n low high e = absurd (cc)
shift_between SignedDiv by more n low high e = absurd (cc)
shift_between SignedMod by more n low high e = absurd (cc)

shifts_between : (operation : Arithmetic) (by : Interval) (more : ℤ × ℤ) (n : ℕ) → by.low ≤ n → n ≤ by.high
    → shifts_of operation by ≡ Some more → IsShiftOf operation more n
shifts_between operation by more n low high e = go (nat_lt by.low (2 ^ 63) && nat_lt by.high (2 ^ 63)) e
  where
    go : (b : Bool) → cond b (shifts_by operation by) None ≡ Some more → IsShiftOf operation more n
    go true f = shift_between operation by more n low high f
    go false f = absurd (cc)

-- the instruction writes the first register's number and more by the second's
abbrev pub Computes : AbsState → Insn → ℕ → ℕ → ℕ → Width → Arithmetic → Type 0
Computes a insn d first second width operation =
    (span : Span) (s next : State) → Steps a insn span s next → (x y m : ℕ)
    → get_or s.registers first None ≡ Some x → get_or s.registers second None ≡ Some y → x < 2 ^ bits_of width
    → m < 2 ^ bits_of width → pos m ≡ pos x +ℤ shift_with operation y
    → (value : ℕ) × (next ≡ with_register s d value) × (value ≡ m) × (d < length s.registers)

sum_is : (width : Width) (x y m : ℕ) → x < 2 ^ bits_of width → m < 2 ^ bits_of width → pos m ≡ pos x +ℤ pos y
    → value_of Add width (cut width x) (cut width y) ≡ m
sum_is Full x y m small fit more = omega (arith, ints)
sum_is Narrow x y m small fit more = omega (arith, ints)

swapped_is : (width : Width) (x y m : ℕ) → x < 2 ^ bits_of width → m < 2 ^ bits_of width → pos m ≡ pos x +ℤ pos y
    → value_of Add width (cut width y) (cut width x) ≡ m
swapped_is Full x y m small fit more = omega (arith, ints)
swapped_is Narrow x y m small fit more = omega (arith, ints)

difference_is : (width : Width) (x y m : ℕ) → x < 2 ^ bits_of width → m < 2 ^ bits_of width
    → pos m ≡ pos x +ℤ (pos 0 -ℤ pos y) → value_of Sub width (cut width x) (cut width y) ≡ m
difference_is Full x y m small fit more = omega (arith, ints)
difference_is Narrow x y m small fit more = omega (arith, ints)

-- what two registers hold, where the instruction reads both
held_same : (s : State) (r n x : ℕ) → register_of s r ≡ Ok n → get_or s.registers r None ≡ Some x → n ≡ x
held_same s r n x read held = some_same n x (sym (holds_it s r n read) ∙ held)

computes_sum : (a : AbsState) (width : Width) (d r : ℕ)
    → Computes a (Compute width Add d (FromRegister r)) d d r width Add
computes_sum a width d r span s next steps x y m first second small fit more =
    let u = unwound (register_of s d) _ _ steps.goes in
    let t = unwound (register_of s r) _ _ u.2 in
    let inside : d < 11 = among s d u.0 steps.before.eleven u.1 in
    let eleven = steps.before.eleven in (
      _,
      wrote s next d _ _ steps.far t.2,
      ap (λ (k : ℕ). value_of Add width (cut width k) (cut width t.0)) (held_same s d u.0 x u.1 first)
          ∙ ap (λ (k : ℕ). value_of Add width (cut width x) (cut width k)) (held_same s r t.0 y t.1 second)
          ∙ sum_is width x y m small fit more,
      omega arith,
    )

computes_swapped : (a : AbsState) (width : Width) (d r : ℕ)
    → Computes a (Compute width Add d (FromRegister r)) d r d width Add
computes_swapped a width d r span s next steps x y m first second small fit more =
    let u = unwound (register_of s d) _ _ steps.goes in
    let t = unwound (register_of s r) _ _ u.2 in
    let inside : d < 11 = among s d u.0 steps.before.eleven u.1 in
    let eleven = steps.before.eleven in (
      _,
      wrote s next d _ _ steps.far t.2,
      ap (λ (k : ℕ). value_of Add width (cut width k) (cut width t.0)) (held_same s d u.0 y u.1 second)
          ∙ ap (λ (k : ℕ). value_of Add width (cut width y) (cut width k)) (held_same s r t.0 x t.1 first)
          ∙ swapped_is width x y m small fit more,
      omega arith,
    )

computes_difference : (a : AbsState) (width : Width) (d r : ℕ)
    → Computes a (Compute width Sub d (FromRegister r)) d d r width Sub
computes_difference a width d r span s next steps x y m first second small fit more =
    let u = unwound (register_of s d) _ _ steps.goes in
    let t = unwound (register_of s r) _ _ u.2 in
    let inside : d < 11 = among s d u.0 steps.before.eleven u.1 in
    let eleven = steps.before.eleven in (
      _,
      wrote s next d _ _ steps.far t.2,
      ap (λ (k : ℕ). value_of Sub width (cut width k) (cut width t.0)) (held_same s d u.0 x u.1 first)
          ∙ ap (λ (k : ℕ). value_of Sub width (cut width x) (cut width k)) (held_same s r t.0 y t.1 second)
          ∙ difference_is width x y m small fit more,
      omega arith,
    )

no_lower : (low : ℕ) (less more : ℤ) → pos 0 ≤ℤ (pos low +ℤ less) → less ≤ℤ more → pos 0 ≤ℤ (pos low +ℤ more)
no_lower low less more h i = omega (arith, ints)

no_higher : (high bound : ℕ) (less more : ℤ) → (pos high +ℤ more) <ℤ pos bound → less ≤ℤ more
    → (pos high +ℤ less) <ℤ pos bound
no_higher high bound less more h i = omega (arith, ints)

ranged_comes : (a : AbsState) (insn : Insn) (d first second : ℕ) (width : Width) (operation : Arithmetic)
    (range by : Interval) (more : ℤ × ℤ) → Computes a insn d first second width operation → Spans a first range
    → Spans a second by → Stays width range more.0 → Stays width range more.1 → shifts_of operation by ≡ Some more
    → ComesFrom a insn (Register d) (between first more)
ranged_comes a insn d first second width operation range by more computes one other least most is span s next steps
    base =
    let x = one (lengths_of span) s steps.before in
    let y = other (lengths_of span) s steps.before in
    let z = shift_with operation y.0 in
    let they = shifts_between operation by more y.0 y.2 y.3 is in
    let m = within x.0 range.low range.high (2 ^ bits_of width) z (no_lower range.low more.0 z least.natural they.0)
    (no_higher range.high (2 ^ bits_of width) z more.1 most.below they.1) least.small x.2 x.3 in
    let w = computes span s next steps x.0 y.0 m.0 x.1 y.1 m.2 m.3 m.1 in
    (z, they.0, they.1, comes s next d first x.0 m.0 w.0 base z w.1 w.2 w.3 x.1 m.1)

ranged_sound : (a : AbsState) (insn : Insn) (d first second : ℕ) (width : Width) (operation : Arithmetic)
    (source : Source) → IsWhole a → Computes a insn d first second width operation
    → ranged_in a width operation first second ≡ Some source → ComesFrom a insn (Register d) source
ranged_sound a insn d first second width operation source whole computes e = by_by (numbers_in a second) refl e
  where
    by_stays : (by range : Interval) (more : ℤ × ℤ) (b : Bool) → numbers_in a second ≡ Some by
        → shifts_of operation by ≡ Some more → numbers_in a first ≡ Some range
        → stays width range more.0 && stays width range more.1 ≡ b
        → cond b (Some (between first more)) None ≡ Some source → ComesFrom a insn (Register d) source
    by_stays by range more true known shift held both f =
        let same : between first more ≡ source = cc in
        let parts = both_true (stays width range more.0) (stays width range more.1) both in
        subst (λ (u : Source). ComesFrom a insn (Register d) u) same
        (ranged_comes a insn d first second width operation range by more computes
        (numbers_sound a first range whole held) (numbers_sound a second by whole known)
        (stays_is width range more.0 parts.0) (stays_is width range more.1 parts.1) shift)
    by_stays by range more false known shift held both f = absurd (cc)

    by_range : (by : Interval) (more : ℤ × ℤ) (o : Option Interval) → numbers_in a second ≡ Some by
        → shifts_of operation by ≡ Some more → numbers_in a first ≡ o
        → option_and_then (ranged_by width first more) o ≡ Some source → ComesFrom a insn (Register d) source
    by_range by more None known shift held f = absurd (cc)
    by_range by more (Some range) known shift held f =
        by_stays by range more (stays width range more.0 && stays width range more.1) known shift held refl f

    by_shift : (by : Interval) (o : Option (ℤ × ℤ)) → numbers_in a second ≡ Some by → shifts_of operation by ≡ o
        → option_and_then (λ more. option_and_then (ranged_by width first more) (numbers_in a first)) o ≡ Some source
        → ComesFrom a insn (Register d) source
    by_shift by None known shift f = absurd (cc)
    by_shift by (Some more) known shift f = by_range by more (numbers_in a first) known shift refl f

    by_by : (o : Option Interval) → numbers_in a second ≡ o
        → option_and_then (λ more. option_and_then (ranged_by width first more) (numbers_in a first))
        (option_and_then (shifts_of operation) o) ≡ Some source → ComesFrom a insn (Register d) source
    by_by None known f = absurd (cc)
    by_by (Some by) known f = by_shift by (shifts_of operation by) known refl f

summed_sound : (a : AbsState) (width : Width) (d r : ℕ) (source : Source) → IsWhole a
    → summed_in a width d r ≡ Some source → ComesFrom a (Compute width Add d (FromRegister r)) (Register d) source
summed_sound a width d r source whole e = go (is_lent (held_in a (Register r))) e
  where
    go : (b : Bool) → cond b (ranged_in a width Add r d) (ranged_in a width Add d r) ≡ Some source
        → ComesFrom a (Compute width Add d (FromRegister r)) (Register d) source
    go true f =
        ranged_sound a (Compute width Add d (FromRegister r)) d r d width Add source whole
        (computes_swapped a width d r) f
    go false f =
        ranged_sound a (Compute width Add d (FromRegister r)) d d r width Add source whole (computes_sum a width d r) f

-- ---- any instruction of which the register that it writes is one of the eleven
abbrev pub WritesOne : Insn → Type 0
WritesOne insn = (d : ℕ) → written_by insn ≡ Some d → d < 11

other_sound : (a : AbsState) (width : Width) (op : Arithmetic) (d r : ℕ) (source : Source) → IsWhole a → d < 11
    → from_other a width op d r ≡ Some source → ComesFrom a (Compute width op d (FromRegister r)) (Register d) source
other_sound a width Mov d r source whole inside e = moved_sound a width d r source whole inside e
other_sound a width Add d r source whole inside e = summed_sound a width d r source whole e
other_sound a width Sub d r source whole inside e =
    ranged_sound a (Compute width Sub d (FromRegister r)) d d r width Sub source whole
    (computes_difference a width d r) e
other_sound a width Mul d r source whole inside e = absurd (cc)
other_sound a width Div d r source whole inside e = absurd (cc)
other_sound a width Or d r source whole inside e = absurd (cc)
other_sound a width And d r source whole inside e = absurd (cc)
other_sound a width Lsh d r source whole inside e = absurd (cc)
other_sound a width Rsh d r source whole inside e = absurd (cc)
other_sound a width Mod d r source whole inside e = absurd (cc)
other_sound a width Xor d r source whole inside e = absurd (cc)
other_sound a width Arsh d r source whole inside e = absurd (cc)
other_sound a width SignedDiv d r source whole inside e = absurd (cc)
other_sound a width SignedMod d r source whole inside e = absurd (cc)

computed_sound : (a : AbsState) (width : Width) (op : Arithmetic) (d : ℕ) (operand : Operand) (source : Source)
    → IsWhole a → d < 11 → computed_in a width op d operand ≡ Some source
    → ComesFrom a (Compute width op d operand) (Register d) source
computed_sound a width op d (Immediate value) source whole inside e = shifted_sound a width op d value source whole e
computed_sound a width op d (FromRegister r) source whole inside e = other_sound a width op d r source whole inside e

pub same_number : (d r : ℕ) → nat_eq d r ≡ true → d ≡ r
same_number d r e = grind (arith, nat_tests)

written_sound : (a : AbsState) (insn : Insn) (r : ℕ) (source : Source) → IsWhole a → WritesOne insn
    → is_written r (written_by insn) ≡ true → written_in a insn ≡ Some source → ComesFrom a insn (Register r) source
written_sound a (Compute w op d operand) r source whole one is e =
    subst (λ (k : ℕ). ComesFrom a (Compute w op d operand) (Register k) source) (same_number d r is)
    (computed_sound a w op d operand source whole (one d refl) e)
written_sound a (Negate w d) r source whole one is e = absurd (cc)
written_sound a (Extend x d other) r source whole one is e = absurd (cc)
written_sound a (Convert c b d) r source whole one is e = absurd (cc)
written_sound a (Jump distance) r source whole one is e = absurd (cc)
written_sound a (JumpLong distance) r source whole one is e = absurd (cc)
written_sound a (Branch w c l other distance) r source whole one is e = absurd (cc)
written_sound a (Load z d base offset) r source whole one is e = absurd (cc)
written_sound a (LoadSigned z d base offset) r source whole one is e = absurd (cc)
written_sound a (Store z base offset value) r source whole one is e = absurd (cc)
written_sound a (LoadWide d value) r source whole one is e = absurd (cc)
written_sound a Exit r source whole one is e = absurd (cc)

is_itself : (r : ℕ) → nat_eq r r ≡ true
is_itself r = grind (arith, nat_tests)

unwritten : (r : ℕ) (o : Option ℕ) → is_written r o ≡ false → o ≡ Some r → ⊥
unwritten r None e is = absurd (cc)
unwritten r (Some d) e is =
    let same : d ≡ r = cc in
    let itself : nat_eq d r ≡ true = ap (λ (k : ℕ). nat_eq k r) same ∙ is_itself r in absurd (cc)

pub source_sound : (a : AbsState) (insn : Insn) (holder : Holder) (source : Source) → IsWhole a → WritesOne insn
    → source_in a insn holder ≡ Some source → ComesFrom a insn holder source
source_sound a insn (Register r) source whole one e = go (is_written r (written_by insn)) refl e
  where
    go : (b : Bool) → is_written r (written_by insn) ≡ b
        → cond b (written_in a insn) (Some (from_register r (pos 0))) ≡ Some source
        → ComesFrom a insn (Register r) source
    go true is f = written_sound a insn r source whole one is f
    go false is f =
        let same : from_register r (pos 0) ≡ source = cc in
        subst (λ (u : Source). ComesFrom a insn (Register r) u) same
        (comes_exactly a insn (Register r) (Register r) (pos 0)
        (register_stays a insn r (unwritten r (written_by insn) is)))
source_sound a insn (StackSlot slot) source whole one e = go (is_store insn) refl e
  where
    go : (b : Bool) → is_store insn ≡ b → cond b None (Some (from_slot slot)) ≡ Some source
        → ComesFrom a insn (StackSlot slot) source
    go true is f = absurd (cc)
    go false is f =
        let same : from_slot slot ≡ source = cc in
        subst (λ (u : Source). ComesFrom a insn (StackSlot slot) u) same
        (comes_exactly a insn (StackSlot slot) (StackSlot slot) (pos 0) (slot_stays a insn slot is))
