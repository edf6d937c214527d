-- What the states of the code learn, by what the situations learn.
use Rattle.std.proofs.Common.{◌≡◌, ℕ, ◌≤◌, Option, Some, None, refl, sym, ◌∙◌, ap, subst, arith}
use Rattle.std.proofs.Math.Bridge.{le_prop}
use Rattle.std.specs.Option.{IfSome, option_and_then}
use Rattle.bpf_words.specs.declared.instruction.Operand.{Operand}
use Rattle.abstract_state.specs.declared.address.ContextAddress.{ContextAddress}
use Rattle.abstract_state.specs.declared.address.StackAddress.{StackAddress}
use Rattle.abstract_state.specs.declared.bounds.Bounds.{Bounds}
use Rattle.abstract_state.specs.declared.region.Region.{Region}
use Rattle.abstract_state.specs.declared.region.Region.TheVariants.{Text, Link}
use Rattle.abstract_state.specs.declared.known.Known.TheVariants.{Number, Context, Stack, Lent}
use Rattle.abstract_state.specs.declared.state.AbsReg.{AbsReg}
use Rattle.abstract_state.specs.declared.state.AbsReg.TheVariants.{Unset, Set}
use Rattle.abstract_state.specs.declared.state.AbsState.{AbsState}
use Rattle.abstract_state.specs.Lent.{bound_of}
use Rattle.abstract_state.specs.State.{register_at}
use Rattle.abstract_state.specs.Branch.{LeavesSides}
use Rattle.abstract_state.specs.Guard.{LengthensMemory}
use Rattle.abstract_state.specs.Kinds.{KeepsKind, KeepsAll}
use Rattle.abstract_state.specs.Addresses.{Content}
use Rattle.abstract_state.specs.Situation.{Situation, Least, IsSituation, IsSituationIn, situation_of, register_of, least_of, least_at}
use Rattle.abstract_state.proofs.KindLaws.{keeps_number}
use Rattle.value_marks.specs.Marking.{Marking}
use Rattle.value_marks.specs.Copies.{copies_tell}
use Rattle.tracked_state.specs.declared.state.TrackedState.{TrackedState}
use Rattle.value_marks.specs.declared.copies.Copies.{Copies}
use Rattle.tracked_state.specs.Tracked.{with_copies}
use Rattle.tracked_state.specs.Learning.{LearnsRegister, LearnsAll, Learns, LearnsFrom, LearnsSides, KeepsKinds}
use Rattle.tracked_state.proofs.Hearing.{copies_learn}

-- ---- an edge that is told
own : (a : AbsState) → IsSituation a (situation_of a)
own a = record { registers = λ i few. refl; slots = λ i few. refl; least = refl }

one_state : (a b : AbsState) → Some a ≡ Some b → b ≡ a
one_state a b e = cc

nothing_is : (a : AbsState) → Some a ≡ None → ⊥
nothing_is a e = cc

shown_learns : (a b : AbsState) (o : Option Situation) → IsSituationIn (Some b) o → IfSome o (LearnsAll (situation_of a)) → Learns a b
shown_learns a b None is learns = absurd (nothing_is b is)
shown_learns a b (Some t) (d, there, is) learns = (t, subst (λ (x : AbsState). IsSituation x t) (one_state b d there) is, learns)

pub told_learns : (edge : Option AbsState) (b : AbsState) (left : ℕ) (right : Operand) (marking : Option Marking) → ((was : Option Situation) → IsSituationIn edge was → IsSituationIn (Some b) (option_and_then (copies_tell left right marking) was)) → LearnsFrom edge b
told_learns None b left right marking rule = absurd (nothing_is b (rule None refl))
told_learns (Some a) b left right marking rule = (
  a,
  refl,
  shown_learns a b (copies_tell left right marking (situation_of a)) (rule (Some (situation_of a)) (a, refl, own a)) (copies_learn left right marking (situation_of a)),
)

pub all_told : (edge o : Option AbsState) (c : Copies) (left : ℕ) (right : Operand) (marking : Option Marking) → ((was : Option Situation) → IsSituationIn edge was → IsSituationIn o (option_and_then (copies_tell left right marking) was)) → IfSome (with_copies o c) (λ b. LearnsFrom edge b.state)
all_told edge None c left right marking rule = tt
all_told edge (Some b) c left right marking rule = told_learns edge b left right marking rule

-- ---- both edges: first the sides learn, then their copies
at_some : (o : Option AbsState) (P : AbsState → Type 0) (a : AbsState) → IfSome o P → o ≡ Some a → P a
at_some None P a h e = absurd (nothing_is a (sym e))
at_some (Some x) P a h e = subst P (sym (one_state x a e)) h

abbrev Told : Option AbsState → Option TrackedState → Type 0
Told edge told = IfSome told (λ b. LearnsFrom edge b.state)

pub sides_learn : (left : ℕ) (right : Operand) (a : AbsState) (edge : Option AbsState) (told : Option TrackedState) → IfSome edge (λ e. LeavesSides left right a e) → IfSome edge (λ e. LengthensMemory a e) → Told edge told → IfSome told (λ b. LearnsSides left right a b.state)
sides_learn left right a edge None others memory learns = tt
sides_learn left right a edge (Some b) others memory (e, there, learns) =
    (e, at_some edge (λ x. LeavesSides left right a x) e others there, at_some edge (λ x. LengthensMemory a x) e memory there, learns)

-- kinds
unset_is : (r : AbsReg) → register_of r ≡ None → r ≡ Unset
unset_is Unset e = refl
unset_is (Set k) e = absurd (cc)

abbrev context : (n : ℕ) → n ≤ 72 → ContextAddress
context n within = record { offset = n; within = within }

abbrev stack : (n : ℕ) → n ≤ 512 → StackAddress
stack n within = record { offset = n; within = within }

one_context : (p q : ContextAddress) → p.offset ≡ q.offset → q ≡ p
one_context p q e =
    let P : ℕ → Type 0 = λ n. (k : n ≤ 72) → context n k ≡ p in
    subst P e (λ k. ap (λ (w : p.offset ≤ 72). context p.offset w) (le_prop k p.within)) q.within

one_stack : (p q : StackAddress) → p.offset ≡ q.offset → q ≡ p
one_stack p q e =
    let P : ℕ → Type 0 = λ n. (k : n ≤ 512) → stack n k ≡ p in
    subst P e (λ k. ap (λ (w : p.offset ≤ 512). stack p.offset w) (le_prop k p.within)) q.within

pub kind_kept : (x y : AbsReg) → LearnsRegister (register_of x) (register_of y) → KeepsKind x y
kind_kept Unset y h = unset_is y h
kind_kept (Set x) Unset h = absurd h
kind_kept (Set (Number q)) (Set (Number r)) h = tt
kind_kept (Set (Context p)) (Set (Context q)) h = ap (λ (a : ContextAddress). Set (Context a)) (one_context p q h)
kind_kept (Set (Stack p)) (Set (Stack q)) h = ap (λ (a : StackAddress). Set (Stack a)) (one_stack p q h)
kind_kept (Set (Lent p)) (Set (Lent q)) h = h.0
kind_kept (Set (Number q)) (Set y) h = absurd h
kind_kept (Set (Context p)) (Set y) h = absurd h
kind_kept (Set (Stack p)) (Set y) h = absurd h
kind_kept (Set (Lent p)) (Set y) h = absurd h

kinds_then : (x y z : AbsReg) → KeepsKind x y → KeepsKind y z → KeepsKind x z
kinds_then Unset y z h k = subst (λ (r : AbsReg). KeepsKind r z) h k
kinds_then (Set (Number q)) y z h k = keeps_number y z k h
kinds_then (Set (Context p)) y z h k = subst (λ (r : AbsReg). KeepsKind r z) h k
kinds_then (Set (Stack p)) y z h k = subst (λ (r : AbsReg). KeepsKind r z) h k
kinds_then (Set (Lent p)) (Set (Lent q)) (Set (Lent r)) h k = h ∙ k
kinds_then (Set (Lent p)) (Set (Lent q)) Unset h k = absurd k
kinds_then (Set (Lent p)) (Set (Lent q)) (Set z) h k = absurd k
kinds_then (Set (Lent p)) Unset z h k = absurd h
kinds_then (Set (Lent p)) (Set y) z h k = absurd h

kinds_kept : (a b : AbsState) → Learns a b → KeepsKinds a b
kinds_kept a b (t, is, learns) i few =
    kind_kept (register_at a.registers i) (register_at b.registers i)
    (subst (λ (o : Option Content). LearnsRegister (register_of (register_at a.registers i)) o) (sym (is.registers i few)) (learns.registers i))

pub kinds_learn : (a : AbsState) (edge : Option AbsState) (told : Option TrackedState) → IfSome edge (λ e. KeepsAll a e) → Told edge told → IfSome told (λ b. KeepsKinds a b.state)
kinds_learn a edge None kinds learns = tt
kinds_learn a edge (Some b) kinds (e, there, learns) = λ i few.
    kinds_then (register_at a.registers i) (register_at e.registers i) (register_at b.state.registers i) (at_some edge (λ x. KeepsAll a x) e kinds there i) (kinds_kept e b.state learns i few)

-- bounds
bound_learns : (x y : Bounds) (least : Least) (region : Region) → least_of y ≡ least → least_at (least_of x) region ≤ least_at least region → bound_of x region ≤ bound_of y region
bound_learns x y least Text is h = subst (λ (l : Least). x.text ≤ l.text) (sym is) h
bound_learns x y least Link is h = subst (λ (l : Least). x.link ≤ l.link) (sym is) h

pub bounds_learn : (n : ℕ) (region : Region) (edge : Option AbsState) (told : Option TrackedState) → IfSome edge (λ e. n ≤ bound_of e.bounds region) → Told edge told → IfSome told (λ b. n ≤ bound_of b.state.bounds region)
bounds_learn n region edge None long learns = tt
bounds_learn n region edge (Some b) long (e, there, (t, is, learns)) =
    let one : n ≤ bound_of e.bounds region = at_some edge (λ x. n ≤ bound_of x.bounds region) e long there in
    let two : bound_of e.bounds region ≤ bound_of b.state.bounds region = bound_learns e.bounds b.state.bounds t.least region is.least (learns.least region) in
    omega (arith, one, two)
