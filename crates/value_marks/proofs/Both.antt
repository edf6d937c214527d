-- Marks that both ways have.
use Rattle.std.proofs.Common.{◌≡◌, ℕ, ◌<◌, Bool, true, false, cond, nat_eq, ◌&&◌, Option, Some, None, List, get_or, refl, sym, ap, ◌∙◌, length}
use Rattle.bpf_words.specs.declared.instruction.Width.{Width}
use Rattle.bpf_words.specs.declared.instruction.Width.TheVariants.{Narrow, Full}
use Rattle.semantics.specs.State.{State}
use Rattle.value_marks.specs.declared.mark.Mark.{Mark}
use Rattle.value_marks.specs.declared.marks.Marks.{Marks}
use Rattle.value_marks.specs.Mark.{mark_at}
use Rattle.value_marks.specs.Marking.{Marking, marking_of, IsMarking, same_width, same_mark, mark_of_both, joined}
use Rattle.value_marks.specs.Bearing.{BearsBy, Bears, AreBelow}
use Rattle.value_marks.proofs.Moved.{at_place, bears_same, below_same}
use Rattle.abstract_state.proofs.Registers.{any_default}

and_true : (a b : Bool) → (a && b) ≡ true → (a ≡ true) × (b ≡ true)
and_true true b e = (refl, e)
and_true false b e = absurd (cc)

width_is : (v w : Width) → same_width v w ≡ true → v ≡ w
width_is Narrow Narrow e = refl
width_is Narrow Full e = absurd (cc)
width_is Full Narrow e = absurd (cc)
width_is Full Full e = refl

mark_is : (m n : Mark) → m.origin ≡ n.origin → m.addend ≡ n.addend → m.width ≡ n.width → m ≡ n
mark_is m n origin addend width =
    ap (λ (k : ℕ). let x : Mark = record { origin = k; addend = m.addend; width = m.width } in x) origin
    ∙ ap (λ (k : ℕ). let x : Mark = record { origin = n.origin; addend = k; width = m.width } in x) addend
    ∙ ap (λ (w : Width). let x : Mark = record { origin = n.origin; addend = n.addend; width = w } in x) width

same_is : (m n : Mark) → same_mark m n ≡ true → m ≡ n
same_is m n e =
    let t = and_true (nat_eq m.origin n.origin && nat_eq m.addend n.addend) (same_width m.width n.width) e in
    let u = and_true (nat_eq m.origin n.origin) (nat_eq m.addend n.addend) t.0 in
    mark_is m n (at_place m.origin n.origin u.0) (at_place m.addend n.addend u.1) (width_is m.width n.width t.1)

chosen : (b : Bool) (m k : Mark) → cond b (Some m) None ≡ Some k → (b ≡ true) × (m ≡ k)
chosen true m k e = (refl, same e)
  where
    same : Some m ≡ Some k → m ≡ k
    same f = cc
chosen false m k e = absurd (cc)

pub in_left : (a b : Option Mark) (m : Mark) → mark_of_both a b ≡ Some m → a ≡ Some m
in_left None b m e = absurd (cc)
in_left (Some k) None m e = absurd (cc)
in_left (Some k) (Some n) m e = ap (λ (x : Mark). Some x) (chosen (same_mark k n) k m e).1

pub in_right : (a b : Option Mark) (m : Mark) → mark_of_both a b ≡ Some m → b ≡ Some m
in_right None b m e = absurd (cc)
in_right (Some k) None m e = absurd (cc)
in_right (Some k) (Some n) m e =
    let t = chosen (same_mark k n) k m e in
    ap (λ (x : Mark). Some x) (sym (same_is k n t.0) ∙ t.1)

joined_left : (v w : Marking) (origins : ℕ → ℕ) (s : State) → BearsBy origins v s → BearsBy origins (joined v w) s
joined_left v w origins s was = record {
  registers = λ i h m n e stands. was.registers i h m n (in_left (v.registers i) (w.registers i) m e) stands;
  slots = λ i h m n e stands. was.slots i h m n (in_left (v.slots i) (w.slots i) m e) stands;
}

joined_right : (v w : Marking) (origins : ℕ → ℕ) (s : State) → BearsBy origins w s → BearsBy origins (joined v w) s
joined_right v w origins s was = record {
  registers = λ i h m n e stands. was.registers i h m n (in_right (v.registers i) (w.registers i) m e) stands;
  slots = λ i h m n e stands. was.slots i h m n (in_right (v.slots i) (w.slots i) m e) stands;
}

pub join_left : (a b c : Marks) (s : State) → IsMarking c (joined (marking_of a) (marking_of b)) → Bears (marking_of a) s → Bears (marking_of c) s
join_left a b c s is was = (was.0, bears_same c (joined (marking_of a) (marking_of b)) was.0 s is (joined_left (marking_of a) (marking_of b) was.0 s was.1))

pub join_right : (a b c : Marks) (s : State) → IsMarking c (joined (marking_of a) (marking_of b)) → Bears (marking_of b) s → Bears (marking_of c) s
join_right a b c s is was = (was.0, bears_same c (joined (marking_of a) (marking_of b)) was.0 s is (joined_right (marking_of a) (marking_of b) was.0 s was.1))

pub join_below : (a b c : Marks) (k : ℕ) → length c.registers ≡ 11 → length c.slots ≡ 64 → IsMarking c (joined (marking_of a) (marking_of b)) → AreBelow k (marking_of a) → AreBelow k (marking_of c)
join_below a b c k eleven long is was = below_same c (joined (marking_of a) (marking_of b)) k eleven long is (record {
  registers = λ i m e. was.registers i m (in_left (mark_at a.registers i) (mark_at b.registers i) m e);
  slots = λ i m e. was.slots i m (in_left (mark_at a.slots i) (mark_at b.slots i) m e);
})

pub join_is : (a b c : Marks) (v w : Marking) → IsMarking c (joined (marking_of a) (marking_of b)) → IsMarking a v → IsMarking b w → IsMarking c (joined v w)
join_is a b c v w is av bw = record {
  registers = λ i h. is.registers i h ∙ ap (λ (o : Option Mark). mark_of_both o (mark_at b.registers i)) (av.registers i h) ∙ ap (mark_of_both (v.registers i)) (bw.registers i h);
  slots = λ i h. is.slots i h ∙ ap (λ (o : Option Mark). mark_of_both o (mark_at b.slots i)) (av.slots i h) ∙ ap (mark_of_both (v.slots i)) (bw.slots i h);
}

-- what is written at a place, from what was read there
pub joined_here : (a b was : List (Option Mark)) (i k : ℕ) (d e result : Option Mark) → result ≡ mark_of_both (get_or a i d) (get_or b i e) → i < length a → i < length b → k ≡ i → mark_at a k ≡ mark_at was k → result ≡ mark_of_both (mark_at was k) (mark_at b k)
joined_here a b was i k d e result is within second same before =
    is
    ∙ ap (λ (o : Option Mark). mark_of_both o (get_or b i e)) (any_default a i d None within ∙ ap (mark_at a) (sym same) ∙ before)
    ∙ ap (mark_of_both (mark_at was k)) (any_default b i e None second ∙ ap (mark_at b) (sym same))
