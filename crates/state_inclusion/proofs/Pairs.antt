-- Marks that follow, pair by pair, from what a first state knows, are true of each machine state that it contains.
use Rattle.std.proofs.Common.{◌≡◌, ◌⊎◌, ⊎_elim, inl, inr, ℕ, zero, suc, ◌+◌, ◌-◌, ◌*◌, ◌/◌, ◌%◌, ◌^◌, ◌<◌, ◌≤◌, Bool, true, false, cond, nat_lt, get_or, Option, Some, None, option_map, refl, sym, ap, ◌∙◌, subst, arith}
use Rattle.std.proofs.lemmas.Bool.{cases_lt, cases_eq}
use Rattle.std.proofs.lemmas.Bool.Decides.{nat_tests}
use Rattle.std.specs.Option.{option_and_then, unwrap_or}
use Rattle.bpf_words.specs.declared.instruction.Width.{Width}
use Rattle.bpf_words.specs.declared.instruction.Width.TheVariants.{Narrow, Full}
use Rattle.semantics.specs.State.{State}
use Rattle.semantics.specs.Memory.{stack_number, stack_base}
use Rattle.semantics.specs.Value.{cut}
use Rattle.span_context.specs.Context.{context_base}
use Rattle.abstract_state.specs.declared.known.Known.{Known}
use Rattle.abstract_state.specs.declared.known.Known.TheVariants.{Number, Context, Stack, Lent}
use Rattle.abstract_state.specs.declared.slot.Slot.{Slot}
use Rattle.abstract_state.specs.declared.slot.Slot.TheVariants.{Marks, Spilled}
use Rattle.abstract_state.specs.declared.state.AbsReg.{AbsReg}
use Rattle.abstract_state.specs.declared.state.AbsReg.TheVariants.{Unset, Set}
use Rattle.abstract_state.specs.declared.state.AbsState.{AbsState}
use Rattle.abstract_state.specs.Lent.{Lengths, base_of}
use Rattle.abstract_state.specs.Known.{ContainsKnown}
use Rattle.abstract_state.specs.State.{Contains, ContainsRegister, ContainsSlot, Bytes, bytes_of, slot_at, register_at}
use Rattle.abstract_state.specs.Estimate.{only, estimate_of}
use Rattle.abstract_state.specs.Addresses.{content_of, number_of}
use Rattle.abstract_state.specs.Stacks.{eight_of, whole_in}
use Rattle.abstract_state.specs.Situation.{register_of}
use Rattle.abstract_state.proofs.Addresses.{known_fits}
use Rattle.abstract_state.proofs.Loads.{number_back}
use Rattle.value_marks.specs.declared.mark.Mark.{Mark}
use Rattle.value_marks.specs.declared.marks.Marks.{Marks as TheMarks}
use Rattle.value_marks.specs.Mark.{narrower, distance, Agrees}
use Rattle.value_marks.specs.Marking.{Marking, marking_of, no_marks}
use Rattle.value_marks.specs.Bearing.{Bears, BearsBy, InRegister, InSlot}
use Rattle.value_marks.specs.Copies.{Bear, kept}
use Rattle.value_marks.proofs.Held.{only_so}
use Rattle.value_marks.proofs.Moved.{some_same, one_number}
use Rattle.value_marks.proofs.Words.{agree_narrower, distance_is}
use Rattle.tracked_state.specs.declared.state.TrackedState.{TrackedState}
use Rattle.tracked_state.specs.Tracked.{ContainsTracked, TrackedSituation, tracked_of}
use Rattle.state_inclusion.specs.declared.partners.Holder.{Holder}
use Rattle.state_inclusion.specs.Partners.{mark_at, mark_in, marks_in, holder_at, IsAheadByMarks, IsAheadByNumbers, IsMarkWithin, IsPairWithin, AreMarksWithin}
use Rattle.state_inclusion.proofs.Naming.{Places, names_have_values}

-- ---- what stands in a place of the machine
abbrev StandsIn : Bool → State → ℕ → ℕ → Type 0
StandsIn true s place n = InRegister s place n
StandsIn false s place n = InSlot s (place - 11) n

abbrev Stands : State → ℕ → ℕ → Type 0
Stands s place n = StandsIn (nat_lt place 11) s place n

is_register : (place : ℕ) → nat_lt place 11 ≡ true → place < 11
is_register place e = grind (arith, nat_tests)

is_slot : (place : ℕ) → place < 75 → nat_lt place 11 ≡ false → place - 11 < 64
is_slot place h e = let past : 11 ≤ place = grind (arith, nat_tests) in omega arith

-- it is one number
stands_one : (b : Bool) (s : State) (place m n : ℕ) → StandsIn b s place m → StandsIn b s place n → m ≡ n
stands_one true s place m n e f = some_same m n (sym e ∙ f)
stands_one false s place m n (small, bytes) (fits, again) = one_number s.stack (8 * (place - 11)) m n small fits bytes again

-- ---- and whether something stands there can be told
number_or_none : (o : Option ℕ) → ((n : ℕ) × (o ≡ Some n)) ⊎ (o ≡ None)
number_or_none None = inr refl
number_or_none (Some n) = inl (n, refl)

none_some : (o : Option ℕ) (n : ℕ) → o ≡ None → o ≡ Some n → ⊥
none_some o n e f = cc

is_byte : (o : Option ℕ) (v : ℕ) → (o ≡ Some v) ⊎ (o ≡ Some v → ⊥)
is_byte None v = inr (λ e. none_some None v refl e)
is_byte (Some b) v =
    ⊎_elim
    (λ (same : b ≡ v). inl (ap (λ (n : ℕ). Some n) same))
    (λ (other : b ≡ v → ⊥). inr (λ e. other (some_same b v e)))
    (cases_eq b v)

-- the first so many bytes are those of a number, or they aren't
abbrev AreBytes : Bytes → ℕ → ℕ → ℕ → Type 0
AreBytes bytes offset n count = (j : ℕ) → j < count → bytes (offset + j) ≡ Some (n / 256 ^ j % 256)

are_bytes : (bytes : Bytes) (offset n count : ℕ) → AreBytes bytes offset n count ⊎ (AreBytes bytes offset n count → ⊥)
are_bytes bytes offset n zero = inl (λ j h. absurd (omega arith))
are_bytes bytes offset n (suc count) =
    ⊎_elim
    (λ (all : AreBytes bytes offset n count).
    ⊎_elim
    (λ (last : bytes (offset + count) ≡ Some (n / 256 ^ count % 256)).
    inl
    (λ j h.
    ⊎_elim
    (λ (below : j < count). all j below)
    (λ (most : count ≤ j). let same : count ≡ j = omega arith in subst (λ (i : ℕ). bytes (offset + i) ≡ Some (n / 256 ^ i % 256)) same last)
    (cases_lt j count)))
    (λ (other : bytes (offset + count) ≡ Some (n / 256 ^ count % 256) → ⊥). inr (λ whole. other (whole count (omega arith))))
    (is_byte (bytes (offset + count)) (n / 256 ^ count % 256)))
    (λ (some : AreBytes bytes offset n count → ⊥). inr (λ whole. some (λ j h. whole j (omega arith))))
    (are_bytes bytes offset n count)

-- the number in eight bytes of the stack is the one that stands there
read_back : (m n : ℕ) → n < 2 ^ 64 → Some (n % 256 ^ 8) ≡ Some m → n ≡ m
read_back m n small e = let same = some_same (n % 256 ^ 8) m e in omega arith

stands_in_slot : (s : State) (slot : ℕ) → ((n : ℕ) × InSlot s slot n) ⊎ ((n : ℕ) → InSlot s slot n → ⊥)
stands_in_slot s slot =
    ⊎_elim
    (λ (there : (m : ℕ) × (stack_number s.stack (8 * slot) 8 ≡ Some m)).
    let is = λ (n : ℕ) (in_slot : InSlot s slot n). read_back there.0 n in_slot.0 (sym (number_back s.stack (8 * slot) 8 n in_slot.1) ∙ there.1) in
    ⊎_elim
    (λ (small : there.0 < 2 ^ 64).
    ⊎_elim
    (λ (all : AreBytes (bytes_of s.stack) (8 * slot) there.0 8). inl (there.0, (small, all)))
    (λ (other : AreBytes (bytes_of s.stack) (8 * slot) there.0 8 → ⊥).
    inr (λ n in_slot. other (subst (λ (m : ℕ). AreBytes (bytes_of s.stack) (8 * slot) m 8) (is n in_slot) in_slot.1)))
    (are_bytes (bytes_of s.stack) (8 * slot) there.0 8))
    (λ (large : 2 ^ 64 ≤ there.0). inr (λ n in_slot. let same = is n in_slot in let small = in_slot.0 in absurd (omega arith)))
    (cases_lt there.0 (2 ^ 64)))
    (λ (none : stack_number s.stack (8 * slot) 8 ≡ None).
    inr (λ n in_slot. none_some (stack_number s.stack (8 * slot) 8) (n % 256 ^ 8) none (number_back s.stack (8 * slot) 8 n in_slot.1)))
    (number_or_none (stack_number s.stack (8 * slot) 8))

stands_told : (b : Bool) (s : State) (place : ℕ) → ((n : ℕ) × StandsIn b s place n) ⊎ ((n : ℕ) → StandsIn b s place n → ⊥)
stands_told true s place =
    ⊎_elim
    (λ (there : (n : ℕ) × (get_or s.registers place None ≡ Some n)). inl (there.0, there.1))
    (λ (none : get_or s.registers place None ≡ None). inr (λ n is. none_some (get_or s.registers place None) n none is))
    (number_or_none (get_or s.registers place None))
stands_told false s place = stands_in_slot s (place - 11)

-- ---- where only one number can stand, that stands there
moved_by : (base n x : ℕ) (o : Option ℕ) → option_map (λ (y : ℕ). base + y) o ≡ Some n → ((y : ℕ) → o ≡ Some y → x ≡ y) → base + x ≡ n
moved_by base n x None e is = absurd (cc)
moved_by base n x (Some y) e is = let same = some_same (base + y) n e in let at = is y refl in omega arith

known_number : (k : Known) (lengths : Lengths) (n c : ℕ) → ContainsKnown k lengths n → number_of (content_of k) ≡ Some c → n ≡ c
known_number (Number q) lengths n c held e =
    let ends = only_so (estimate_of q) c e in
    omega (arith, ends.0, ends.1, held.range.low, held.range.high)
known_number (Context p) lengths n c held e = held ∙ some_same (context_base + p.offset) c e
known_number (Stack p) lengths n c held e = held ∙ some_same (stack_base + p.offset) c e
known_number (Lent p) lengths n c (x, is, held) e =
    is
    ∙ moved_by (base_of p.region) c x (only (estimate_of p.offset)) e
    (λ y one. let ends = only_so (estimate_of p.offset) y one in omega (arith, ends.0, ends.1, held.range.low, held.range.high))

register_number : (a : AbsReg) (lengths : Lengths) (o : Option ℕ) (n c : ℕ) → ContainsRegister a lengths o → o ≡ Some n → option_and_then number_of (register_of a) ≡ Some c → n ≡ c
register_number Unset lengths o n c held is e = absurd (cc)
register_number (Set k) lengths o n c (m, there, held) is e = some_same n m (sym is ∙ there) ∙ known_number k lengths m c held e

slot_number : (a : Slot) (lengths : Lengths) (s : State) (i n c : ℕ) → ContainsSlot a lengths (bytes_of s.stack) i → InSlot s i n → option_and_then number_of (whole_in (eight_of a)) ≡ Some c → n ≡ c
slot_number (Marks x) lengths s i n c held in_slot e = absurd (cc)
slot_number (Spilled k) lengths s i n c (m, held, number) (small, bytes) e =
    one_number s.stack (8 * i) n m small (known_fits k lengths m held) bytes number ∙ known_number k lengths m c held e

place_number : (b : Bool) (a : AbsState) (lengths : Lengths) (s : State) (place n c : ℕ) → nat_lt place 11 ≡ b → place < 75 → Contains a lengths s → StandsIn b s place n → option_and_then number_of (cond b (register_of (register_at a.registers place)) (whole_in (eight_of (slot_at a.stack (place - 11))))) ≡ Some c → n ≡ c
place_number true a lengths s place n c is h held stands e = register_number (register_at a.registers place) lengths (get_or s.registers place None) n c (held.registers place (is_register place is)) stands e
place_number false a lengths s place n c is h held stands e = slot_number (slot_at a.stack (place - 11)) lengths s (place - 11) n c (held.stack (place - 11) (is_slot place h is)) stands e

-- ---- marks by places
place_agrees : (b : Bool) (origins : ℕ → ℕ) (w : Marking) (s : State) (place : ℕ) (m : Mark) (n : ℕ) → nat_lt place 11 ≡ b → place < 75 → BearsBy origins w s → cond b (w.registers place) (w.slots (place - 11)) ≡ Some m → StandsIn b s place n → Agrees origins m n
place_agrees true origins w s place m n is h bears e stands = bears.registers place (is_register place is) m n e stands
place_agrees false origins w s place m n is h bears e stands = bears.slots (place - 11) (is_slot place h is) m n e stands

place_of_register : (i : ℕ) → i < 11 → nat_lt i 11 ≡ true
place_of_register i h = grind (arith, nat_tests)

place_of_slot : (i : ℕ) → nat_lt (i + 11) 11 ≡ false
place_of_slot i = grind (arith, nat_tests)

slot_back : (i : ℕ) → i + 11 - 11 ≡ i
slot_back i = omega arith

register_mark : (w : Marking) (i : ℕ) → i < 11 → mark_in w i ≡ w.registers i
register_mark w i h = ap (λ (b : Bool). cond b (w.registers i) (w.slots (i - 11))) (place_of_register i h)

slot_mark : (w : Marking) (i : ℕ) → mark_in w (i + 11) ≡ w.slots i
slot_mark w i = ap (λ (b : Bool). cond b (w.registers (i + 11)) (w.slots (i + 11 - 11))) (place_of_slot i) ∙ ap w.slots (slot_back i)

register_stands : (s : State) (i n : ℕ) → i < 11 → InRegister s i n → Stands s i n
register_stands s i n h is = subst (λ (b : Bool). StandsIn b s i n) (sym (place_of_register i h)) is

slot_stands : (s : State) (i n : ℕ) → InSlot s i n → Stands s (i + 11) n
slot_stands s i n is = subst (λ (b : Bool). StandsIn b s (i + 11) n) (sym (place_of_slot i)) (subst (λ (j : ℕ). InSlot s j n) (sym (slot_back i)) is)

-- marks that agree place by place are borne
bears_from : (origins : ℕ → ℕ) (w : Marking) (s : State) → ((i : ℕ) (m : Mark) (n : ℕ) → i < 75 → mark_in w i ≡ Some m → Stands s i n → Agrees origins m n) → BearsBy origins w s
bears_from origins w s agree = record {
  registers = λ i h m n e is. agree i m n (omega arith) (register_mark w i h ∙ e) (register_stands s i n h is);
  slots = λ i h m n e is. agree (i + 11) m n (omega arith) (slot_mark w i ∙ e) (slot_stands s i n is);
}

-- ---- where copies aren't followed there are no marks
bears_any : (o : Option TheMarks) (s : State) → Bear o s → Bears (unwrap_or (option_map marking_of o) no_marks) s
bears_any None s bears = (λ o. 0, record { registers = λ i h m n e is. absurd (cc); slots = λ i h m n e is. absurd (cc) })
bears_any (Some marks) s bears = bears

bear_back : (o : Option TheMarks) (s : State) → Bears (unwrap_or (option_map marking_of o) no_marks) s → Bear o s
bear_back None s bears = tt
bear_back (Some marks) s bears = bears

-- ---- a difference that the first state knows is that of the machine
by_marks : (w : Width) (d : ℕ) (o p : Option Mark) (origins : ℕ → ℕ) (x y : ℕ) → IsAheadByMarks w d o p → ((m : Mark) → o ≡ Some m → Agrees origins m x) → ((n : Mark) → p ≡ Some n → Agrees origins n y) → cut w y ≡ cut w (x + d)
by_marks w d None p origins x y known first second = absurd known
by_marks w d (Some m) None origins x y known first second = absurd known
by_marks w d (Some m) (Some n) origins x y (same, wide, wider, is) first second =
    let low : cut w x ≡ cut w (origins m.origin + m.addend) = subst (λ (v : Width). cut v x ≡ cut v (origins m.origin + m.addend)) wide (agree_narrower m.width w x (origins m.origin + m.addend) (first m refl)) in
    let high : cut w y ≡ cut w (origins n.origin + n.addend) = subst (λ (v : Width). cut v y ≡ cut v (origins n.origin + n.addend)) wider (agree_narrower n.width w y (origins n.origin + n.addend) (second n refl)) in
    let here : cut w y ≡ cut w (origins m.origin + n.addend) = high ∙ ap (λ (o : ℕ). cut w (origins o + n.addend)) (sym same) in
    distance_is w (origins m.origin) m.addend n.addend x y low here ∙ ap (λ (e : ℕ). cut w (x + e)) is

by_numbers : (w : Width) (d : ℕ) (o p : Option ℕ) (x y : ℕ) → IsAheadByNumbers w d o p → ((c : ℕ) → o ≡ Some c → x ≡ c) → ((c : ℕ) → p ≡ Some c → y ≡ c) → cut w y ≡ cut w (x + d)
by_numbers w d None p x y known first second = absurd known
by_numbers w d (Some b) None x y known first second = absurd known
by_numbers w d (Some b) (Some c) x y known first second = ap (λ (e : ℕ). cut w e) (second c refl) ∙ known ∙ ap (λ (e : ℕ). cut w (e + d)) (sym (first b refl))

pair_within : (a b : Holder) (o p : Option Mark) (m n : Mark) → o ≡ Some m → p ≡ Some n → IsPairWithin a b o p → IsMarkWithin a b m n
pair_within a b o p m n e f within = subst (λ (q : Option Mark). IsPairWithin a b (Some m) q) f (subst (λ (q : Option Mark). IsPairWithin a b q p) e within)

-- ---- so the marks of the second state are true where the first is
pairs_apart : (a b : TrackedState) (lengths : Lengths) (s : State) (origins : ℕ → ℕ) → AreMarksWithin (tracked_of a) (tracked_of b) → Contains a.state lengths s → BearsBy origins (marks_in (tracked_of a)) s → Places (mark_at (tracked_of b)) (Stands s) 75
pairs_apart a b lengths s origins within held bears = record {
  told = λ i h. stands_told (nat_lt i 11) s i;
  one = λ i m n. stands_one (nat_lt i 11) s i m n;
  apart = λ i j m n x y h less e f same first second.
      let known = pair_within (holder_at (tracked_of a) j) (holder_at (tracked_of a) i) (mark_at (tracked_of b) j) (mark_at (tracked_of b) i) m n e f (within i j h less) same in
      let w = narrower m.width n.width in
      let low : j < 75 = omega arith in
      ⊎_elim
      (λ (marks : IsAheadByMarks w (distance w m n) (mark_at (tracked_of a) j) (mark_at (tracked_of a) i)).
      by_marks w (distance w m n) (mark_at (tracked_of a) j) (mark_at (tracked_of a) i) origins x y marks
      (λ k is. place_agrees (nat_lt j 11) origins (marks_in (tracked_of a)) s j k x refl low bears is first)
      (λ k is. place_agrees (nat_lt i 11) origins (marks_in (tracked_of a)) s i k y refl h bears is second))
      (λ (numbers : IsAheadByNumbers w (distance w m n) (holder_at (tracked_of a) j).number (holder_at (tracked_of a) i).number).
      by_numbers w (distance w m n) (holder_at (tracked_of a) j).number (holder_at (tracked_of a) i).number x y numbers
      (λ c is. place_number (nat_lt j 11) a.state lengths s j x c refl low held first is)
      (λ c is. place_number (nat_lt i 11) a.state lengths s i y c refl h held second is))
      known;
}

pub marks_on : (a b : TrackedState) (lengths : Lengths) (s : State) → AreMarksWithin (tracked_of a) (tracked_of b) → ContainsTracked a lengths s → Bear (kept b.copies) s
marks_on a b lengths s within held =
    let bears = bears_any (kept a.copies) s held.copies in
    let values = names_have_values (mark_at (tracked_of b)) (Stands s) 75 (pairs_apart a b lengths s bears.0 within held.state bears.1) in
    bear_back (kept b.copies) s (values.0, bears_from values.0 (marks_in (tracked_of b)) s values.1)

-- ---- and a state's marks follow from what it knows itself
narrower_left : (v w : Width) → narrower v (narrower v w) ≡ narrower v w
narrower_left Full w = refl
narrower_left Narrow w = refl

narrower_right : (v w : Width) → narrower w (narrower v w) ≡ narrower v w
narrower_right Full Full = refl
narrower_right Full Narrow = refl
narrower_right Narrow Full = refl
narrower_right Narrow Narrow = refl

pair_self : (a b : Holder) (o p : Option Mark) → a.mark ≡ o → b.mark ≡ p → IsPairWithin a b o p
pair_self a b o None e f = tt
pair_self a b None (Some n) e f = tt
pair_self a b (Some m) (Some n) e f = λ same.
    let w = narrower m.width n.width in
    inl
    (subst (λ (q : Option Mark). IsAheadByMarks w (distance w m n) q b.mark) (sym e)
    (subst (λ (q : Option Mark). IsAheadByMarks w (distance w m n) (Some m) q) (sym f)
    (same, narrower_left m.width n.width, narrower_right m.width n.width, refl)))

pub marks_self : (a : TrackedSituation) → AreMarksWithin a a
marks_self a = λ i j h less. pair_self (holder_at a j) (holder_at a i) (mark_at a j) (mark_at a i) refl refl
