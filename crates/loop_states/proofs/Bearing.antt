-- Marks that are true by the lengths of a run: at the start, and where a second state's marks follow from a first's.
use Rattle.std.proofs.Common.{◌≡◌, ℕ, ◌+◌, ◌<◌, inr, Bool, false, cond, nat_lt, List, length, Option, Some, None, option_map, refl, sym, ◌∙◌, ap, subst, ⊎_elim, arith}
use Rattle.std.proofs.lemmas.Bool.Decides.{nat_tests}
use Rattle.std.specs.Option.{unwrap_or}
use Rattle.std.specs.declared.alloc.Global.{Global}
use Rattle.std.specs.declared.boxed.Box.{Box}
use Rattle.semantics.specs.State.{State}
use Rattle.semantics.specs.Value.{cut}
use Rattle.abstract_state.specs.Lent.{Lengths}
use Rattle.value_marks.specs.declared.mark.Mark.{Mark}
use Rattle.value_marks.specs.declared.marks.Marks.{Marks}
use Rattle.value_marks.specs.Mark.{Agrees, AgreesAt, mark_at}
use Rattle.value_marks.specs.Marking.{Marking, marking_of, no_marks}
use Rattle.value_marks.specs.Bearing.{InRegister, InSlot, Bears}
use Rattle.value_marks.specs.Copies.{Bear, AreMarking, in_box, kept}
use Rattle.value_marks.proofs.Moved.{by_test, bears_same}
use Rattle.tracked_state.specs.declared.state.TrackedState.{TrackedState}
use Rattle.tracked_state.specs.Tracked.{ContainsTracked, tracked_of}
use Rattle.state_inclusion.specs.Partners.{marks_in}
use Rattle.length_marks.specs.Names.{text_name, BearsIn}
use Rattle.length_marks.proofs.Differences as lengths_name
use Rattle.loop_states.specs.Contained.{BearIn, ContainsInLoop}
use Rattle.loop_states.specs.Within.{IsLengthKept, AreLengthsKept}

-- ---- no marks, and marks that are true of the machine
pub bear_none : (lengths : Lengths) (o : Option Marks) (s : State) → AreMarking o (Some no_marks) → BearIn lengths o s
bear_none lengths None s is = absurd is
bear_none lengths (Some marks) s is = let (origins, names, bears) = lengths_name.start lengths s in (origins, names, bears_same marks no_marks origins s is bears)

bear_borne : (lengths : Lengths) (o : Option Marks) (s : State) → BearIn lengths o s → Bear o s
bear_borne lengths None s bears = tt
bear_borne lengths (Some marks) s bears = lengths_name.borne lengths (marking_of marks) s bears

pub contains_tracked : (a : TrackedState) (lengths : Lengths) (s : State) → ContainsInLoop a lengths s → ContainsTracked a lengths s
contains_tracked a lengths s held = record { state = held.state; copies = bear_borne lengths (kept a.copies) s held.marks }

pub bear_boxed : (lengths : Lengths) (o : Option (Box Marks Global)) (boxed : Box Marks Global) (marks : Marks) (s : State) → o ≡ Some boxed → marks ≡ boxed.value → BearIn lengths (in_box o) s → BearsIn lengths (marking_of marks) s
bear_boxed lengths o boxed marks s is same bears =
    subst (λ (m : Marks). BearsIn lengths (marking_of m) s) (sym same) (subst (λ (x : Option (Box Marks Global)). BearIn lengths (in_box x) s) is bears)

-- ---- the lengths' names name what they do by the first origins, and each other name what it does by the second
abbrev both : (ℕ → ℕ) → (ℕ → ℕ) → ℕ → ℕ
both first second k = cond (nat_lt k text_name) (second k) (first k)

not_below : (m : Mark) → nat_lt m.origin text_name ≡ false → m.origin < text_name → ⊥
not_below m past below = grind (arith, nat_tests)

both_agree : (first second : ℕ → ℕ) (o : Option Mark) (m : Mark) (n : ℕ) → IsLengthKept o (Some m) → (o ≡ Some m → Agrees first m n) → Agrees second m n → Agrees (both first second) m n
both_agree first second o m n is one other =
    let by = λ (b : Bool). cut m.width (cond b (second m.origin) (first m.origin) + m.addend) in
    by_test (Agrees (both first second) m n) (nat_lt m.origin text_name)
    (λ below. other ∙ ap by (sym below))
    (λ past. ⊎_elim (λ below. absurd (not_below m past below)) (λ same. one same ∙ ap by (sym past)) is)

both_agree_at : (first second : ℕ → ℕ) (o p : Option Mark) (Stands : ℕ → Type 0) → IsLengthKept o p → AgreesAt first o Stands → AgreesAt second p Stands → AgreesAt (both first second) p Stands
both_agree_at first second o p Stands is one other = λ m n there stands.
    both_agree first second o m n (subst (λ (x : Option Mark). IsLengthKept o x) there is) (λ same. one m n same stands) (other m n there stands)

bears_both : (lengths : Lengths) (v w : Marking) (s : State) → AreLengthsKept v w → BearsIn lengths v s → Bears w s → BearsIn lengths w s
bears_both lengths v w s is (first, names, one) (second, other) = (
  both first second,
  record { text = names.text; link = names.link },
  record {
    registers = λ i h. both_agree_at first second (v.registers i) (w.registers i) (InRegister s i) (is.registers i h) (one.registers i h) (other.registers i h);
    slots = λ i h. both_agree_at first second (v.slots i) (w.slots i) (InSlot s i) (is.slots i h) (one.slots i h) (other.slots i h);
  },
)

abbrev those : Option Marks → Marking
those o = unwrap_or (option_map marking_of o) no_marks

bear_both : (lengths : Lengths) (o p : Option Marks) (s : State) → AreLengthsKept (those o) (those p) → BearIn lengths o s → Bear p s → BearIn lengths p s
bear_both lengths o None s is one other = tt
bear_both lengths None (Some w) s is one other = bears_both lengths no_marks (marking_of w) s is (lengths_name.start lengths s) other
bear_both lengths (Some v) (Some w) s is one other = bears_both lengths (marking_of v) (marking_of w) s is one other

pub contains_both : (a b : TrackedState) (lengths : Lengths) (s : State) → AreLengthsKept (marks_in (tracked_of a)) (marks_in (tracked_of b)) → ContainsInLoop a lengths s → ContainsTracked b lengths s → ContainsInLoop b lengths s
contains_both a b lengths s is held within = record {
  state = within.state;
  marks = bear_both lengths (kept a.copies) (kept b.copies) s is held.marks within.copies;
}

-- ---- each mark is kept in itself
length_self : (o : Option Mark) → IsLengthKept o o
length_self None = tt
length_self (Some m) = inr refl

pub lengths_self : (w : Marking) → AreLengthsKept w w
lengths_self w = record { registers = λ i h. length_self (w.registers i); slots = λ i h. length_self (w.slots i) }

-- ---- places of the code's marks, and of the markings that they are
abbrev pub AreKept : List (Option Mark) → List (Option Mark) → Type 0
AreKept o p = (i : ℕ) → i < length p → IsLengthKept (mark_at o i) (mark_at p i)

abbrev pub AreIn : ℕ → List (Option Mark) → (ℕ → Option Mark) → Type 0
AreIn n o v = (i : ℕ) → i < n → mark_at o i ≡ v i

pub kept_there : (n : ℕ) (o p : List (Option Mark)) (v w : ℕ → Option Mark) → length p ≡ n → AreIn n o v → AreIn n p w → AreKept o p → (i : ℕ) → i < n → IsLengthKept (v i) (w i)
kept_there n o p v w long first second are i h =
    subst (λ (x : Option Mark). IsLengthKept x (w i)) (first i h)
    (subst (λ (y : Option Mark). IsLengthKept (mark_at o i) y) (second i h) (are i (omega arith)))

pub kept_here : (n : ℕ) (o p : List (Option Mark)) (v w : ℕ → Option Mark) → length p ≡ n → AreIn n o v → AreIn n p w → ((i : ℕ) → i < n → IsLengthKept (v i) (w i)) → AreKept o p
kept_here n o p v w long first second are i h =
    let below : i < n = omega arith in
    subst (λ (x : Option Mark). IsLengthKept x (mark_at p i)) (sym (first i below))
    (subst (λ (y : Option Mark). IsLengthKept (v i) y) (sym (second i below)) (are i below))
