-- What the walk over the slots knows is what the rules say.
use Rattle.std.proofs.Common.{◌≡◌, ◌≢◌, ℕ, ◌+◌, ◌<◌, ◌≤◌, ⊎_elim, true, false, nat_lt, nat_eq, if◌then◌else◌, List, length, set, [], Option, Some, None, Result, Ok, Err, refl, sym, ap, ◌∙◌, subst, arith}
use Rattle.std.proofs.Math.Path.{fun_ext}
use Rattle.std.specs.Prelude.{ℤ, pos, option_map}
use Rattle.std.specs.Bool.{⊤}
use Rattle.std.proofs.lemmas.List.{get_or_past}
use Rattle.std.proofs.lemmas.Option.{same_Some}
use Rattle.std.proofs.lemmas.Bool.{cases_eq, cases_lt}
use Rattle.std.proofs.lemmas.Bool.Decides.{nat_tests}
use Rattle.span_context.specs.declared.profile.Profile.{Profile}
use Rattle.span_context.specs.declared.profile.Profile.TheVariants.{One, Two, Three}
use Rattle.bpf_words.specs.declared.instruction.Insn.{Insn}
use Rattle.bpf_words.specs.declared.instruction.Insn.TheVariants.{Compute, Negate, Extend, Convert, Jump, JumpLong, Branch, Load, LoadSigned, Store, LoadWide, Exit}
use Rattle.bpf_words.specs.declared.instruction.Width.{Width}
use Rattle.bpf_words.specs.declared.instruction.Comparison.{Comparison}
use Rattle.bpf_words.specs.declared.instruction.Operand.{Operand}
use Rattle.bpf_words.specs.Flow.{jump_of}
use Rattle.abstract_state.specs.declared.refusal.Refusal.{Refusal}
use Rattle.abstract_state.specs.declared.state.AbsReg.TheVariants.{Unset}
use Rattle.abstract_state.specs.declared.slot.Slot.TheVariants.{Marks}
use Rattle.abstract_state.specs.declared.state.AbsState.{AbsState}
use Rattle.tracked_state.specs.declared.state.TrackedState.{TrackedState}
use Rattle.abstract_state.specs.declared.step.Flow.{Flow}
use Rattle.abstract_state.specs.Addresses.{answer_of}
use Rattle.abstract_state.specs.Stacks.{Slots, slots_of}
use Rattle.abstract_state.specs.Situation.{Situation, Least, Registers, IsSituation, situation_of, registers_of, least_of, joined as joined_situation, either_situation, bounded_all}
use Rattle.value_marks.specs.declared.mark.Mark.{Mark}
use Rattle.value_marks.specs.declared.marks.Marks.{Marks as MarksOf}
use Rattle.value_marks.specs.Mark.{mark_at}
use Rattle.value_marks.specs.Marking.{Marking, marking_of}
use Rattle.value_marks.specs.Copies.{AreMarking, kept, joined_copies}
use Rattle.tracked_state.specs.Tracked.{TrackedSituation, IsTracked, IsTrackedIn, tracked, tracked_of}
use Rattle.tracked_state.specs.Tracking.{after_tracked, FlowsTracked, AnswersTrackedStep}
use Rattle.tracked_state.specs.Rules.{TrackedWays, stepped, branched, joined, exit}
use Rattle.verifier.specs.Waiting.{Waiting, waiting_at, as_tracked}
use Rattle.verifier.specs.declared.waiting.Awaiting.{Awaiting}
use Rattle.verifier.specs.Awaited.{Waits, with_jump, passed}
use Rattle.verifier.specs.Decides.{led, ways, jump_target, either_way, trimmed, trimmed_situation, trimmed_marking}
use Rattle.verifier.specs.Decided.{WaitsFrom, Passes}
use Rattle.verifier.proofs.Waits.{waiting-set_other, set_twice}
use Rattle.verifier.proofs.Passing.{IsStraight}

-- ---- a situation, from what it has
abbrev situation : Registers → Slots → Least → Situation
situation registers slots least = record { registers = registers; slots = slots; least = least }

same_situation : (a b : Registers) (x y : Slots) (m n : Least) → a ≡ b → x ≡ y → m ≡ n → situation a x m ≡ situation b y n
same_situation a b x y m n e f g = rw (e, f, g) refl

register_trimmed : (a : AbsState) (s : Situation) (i : ℕ) → length a.registers ≡ 11 → IsSituation a s → (trimmed_situation s).registers i ≡ registers_of a.registers i
register_trimmed a s i eleven is =
    ⊎_elim
    (λ (few : i < 11). let yes : nat_lt i 11 ≡ true = grind (arith, nat_tests) in rw yes (sym (is.registers i few)))
    (λ (more : 11 ≤ i).
    let no : nat_lt i 11 ≡ false = grind (arith, nat_tests) in
    rw no (rw (get_or_past a.registers i Unset (omega (arith, eleven, more))) refl))
    (cases_lt i 11)

slot_trimmed : (a : AbsState) (s : Situation) (i : ℕ) → length a.stack ≡ 64 → IsSituation a s → (trimmed_situation s).slots i ≡ slots_of a.stack i
slot_trimmed a s i all is =
    ⊎_elim
    (λ (few : i < 64). let yes : nat_lt i 64 ≡ true = grind (arith, nat_tests) in rw yes (sym (is.slots i few)))
    (λ (more : 64 ≤ i).
    let no : nat_lt i 64 ≡ false = grind (arith, nat_tests) in
    rw no (rw (get_or_past a.stack i (Marks []) (omega (arith, all, more))) refl))
    (cases_lt i 64)

-- a state of eleven registers and 64 slots is all of the situation
situation_trimmed : (a : AbsState) (s : Situation) → length a.registers ≡ 11 → length a.stack ≡ 64 → IsSituation a s → trimmed_situation s ≡ situation_of a
situation_trimmed a s eleven all is =
    same_situation (trimmed_situation s).registers (registers_of a.registers) (trimmed_situation s).slots (slots_of a.stack) s.least (least_of a.bounds)
    (fun_ext (λ i. register_trimmed a s i eleven is)) (fun_ext (λ i. slot_trimmed a s i all is)) (sym is.least)

trimmed_situation_is : (a : AbsState) (s : Situation) → IsSituation a s → IsSituation a (trimmed_situation s)
trimmed_situation_is a s is = record {
  registers = λ i few. let yes : nat_lt i 11 ≡ true = grind (arith, nat_tests) in rw yes (is.registers i few);
  slots = λ i few. let yes : nat_lt i 64 ≡ true = grind (arith, nat_tests) in rw yes (is.slots i few);
  least = is.least;
}

own_situation : (a : AbsState) → IsSituation a (situation_of a)
own_situation a = record { registers = λ i few. refl; slots = λ i few. refl; least = refl }

-- ---- joined situations
joins_either : (a b c : AbsState) (s t : Situation) → IsSituation a s → IsSituation b t → IsSituation c (either_situation (situation_of a) (situation_of b)) → IsSituation c (either_situation s t)
joins_either a b c s t one other is = record {
  registers = λ i few. rw (← one.registers i few, ← other.registers i few) (is.registers i few);
  slots = λ i few. rw (← one.slots i few, ← other.slots i few) (is.slots i few);
  least = rw (← one.least, ← other.least) is.least;
}

joins_bounded : (a b c : AbsState) (s t : Situation) → IsSituation a s → IsSituation b t → IsSituation c (either_situation (bounded_all (situation_of a)) (bounded_all (situation_of b))) → IsSituation c (either_situation (bounded_all s) (bounded_all t))
joins_bounded a b c s t one other is = record {
  registers = λ i few. rw (← one.registers i few, ← other.registers i few, ← one.least, ← other.least) (is.registers i few);
  slots = λ i few. rw (← one.slots i few, ← other.slots i few, ← one.least, ← other.least) (is.slots i few);
  least = rw (← one.least, ← other.least) is.least;
}

joins_situation : (profile : Profile) (a b c : AbsState) (s t : Situation) → IsSituation a s → IsSituation b t → IsSituation c (joined_situation profile (situation_of a) (situation_of b)) → IsSituation c (joined_situation profile s t)
unfolding joined_situation
joins_situation One a b c s t one other is = joins_either a b c s t one other is
joins_situation Two a b c s t one other is = joins_either a b c s t one other is
joins_situation Three a b c s t one other is = joins_bounded a b c s t one other is

-- ---- marks
abbrev marking : (ℕ → Option Mark) → (ℕ → Option Mark) → Marking
marking registers slots = record { registers = registers; slots = slots }

same_marking : (a b c d : ℕ → Option Mark) → a ≡ b → c ≡ d → marking a c ≡ marking b d
same_marking a b c d e f = rw (e, f) refl

mark_trimmed : (marks : List (Option Mark)) (count i : ℕ) (mark : Option Mark) → length marks ≡ count → (i < count → mark_at marks i ≡ mark) → (if nat_lt i count then mark else None) ≡ mark_at marks i
mark_trimmed marks count i mark all is =
    ⊎_elim
    (λ (few : i < count). let yes : nat_lt i count ≡ true = grind (arith, nat_tests) in rw yes (sym (is few)))
    (λ (more : count ≤ i).
    let no : nat_lt i count ≡ false = grind (arith, nat_tests) in
    rw no (sym (get_or_past marks i None (omega (arith, all, more)))))
    (cases_lt i count)

-- all marks that there are have eleven registers and 64 slots
abbrev pub HaveAll : Option MarksOf → Type 0
HaveAll None = Unit {0}
HaveAll (Some marks) = (length marks.registers ≡ 11) × (length marks.slots ≡ 64)

marks_trimmed : (o : Option MarksOf) (w : Option Marking) → HaveAll o → AreMarking o w → option_map trimmed_marking w ≡ option_map marking_of o
marks_trimmed None None all are = refl
marks_trimmed None (Some w) all are = absurd are
marks_trimmed (Some marks) None all are = absurd are
marks_trimmed (Some marks) (Some w) all are =
    ap (λ (x : Marking). Some x)
    (same_marking (trimmed_marking w).registers (mark_at marks.registers) (trimmed_marking w).slots (mark_at marks.slots)
    (fun_ext (λ i. mark_trimmed marks.registers 11 i (w.registers i) all.0 (are.registers i)))
    (fun_ext (λ i. mark_trimmed marks.slots 64 i (w.slots i) all.1 (are.slots i))))

trimmed_marks_are : (o : Option MarksOf) (w : Option Marking) → AreMarking o w → AreMarking o (option_map trimmed_marking w)
trimmed_marks_are None None are = tt
trimmed_marks_are None (Some w) are = absurd are
trimmed_marks_are (Some marks) None are = absurd are
trimmed_marks_are (Some marks) (Some w) are = record {
  registers = λ i few. let yes : nat_lt i 11 ≡ true = grind (arith, nat_tests) in rw yes (are.registers i few);
  slots = λ i few. let yes : nat_lt i 64 ≡ true = grind (arith, nat_tests) in rw yes (are.slots i few);
}

own_marks : (o : Option MarksOf) → AreMarking o (option_map marking_of o)
own_marks None = tt
own_marks (Some marks) = record { registers = λ i few. refl; slots = λ i few. refl }

joins_marks : (a b c : Option MarksOf) (v w : Option Marking) → AreMarking a v → AreMarking b w → AreMarking c (joined_copies (option_map marking_of a) (option_map marking_of b)) → AreMarking c (joined_copies v w)
joins_marks None b c None w one other is = is
joins_marks None b c (Some v) w one other is = absurd one
joins_marks (Some a) b c None w one other is = absurd one
joins_marks (Some a) None c (Some v) None one other is = is
joins_marks (Some a) None c (Some v) (Some w) one other is = absurd other
joins_marks (Some a) (Some b) c (Some v) None one other is = absurd other
joins_marks (Some a) (Some b) None (Some v) (Some w) one other is = absurd is
joins_marks (Some a) (Some b) (Some c) (Some v) (Some w) one other is = record {
  registers = λ i few. rw (← one.registers i few, ← other.registers i few) (is.registers i few);
  slots = λ i few. rw (← one.slots i few, ← other.slots i few) (is.slots i few);
}

-- ---- a state with its marks
same_tracked : (v w : Option Marking) (s t : Situation) → v ≡ w → s ≡ t → tracked v s ≡ tracked w t
same_tracked v w s t e f = rw (e, f) refl

-- a state of eleven registers and 64 slots, with marks of as many, is all of the situation
pub is_trimmed : (a : TrackedState) (t : TrackedSituation) → length a.state.registers ≡ 11 → length a.state.stack ≡ 64 → HaveAll (kept a.copies) → IsTracked a t → trimmed t ≡ tracked_of a
is_trimmed a t eleven all marks is =
    same_tracked (option_map trimmed_marking t.marking) (option_map marking_of (kept a.copies)) (trimmed_situation t.situation) (situation_of a.state)
    (marks_trimmed (kept a.copies) t.marking marks is.copies) (situation_trimmed a.state t.situation eleven all is.state)

pub trimmed_is : (a : TrackedState) (t : TrackedSituation) → IsTracked a t → IsTracked a (trimmed t)
trimmed_is a t is = record {
  state = trimmed_situation_is a.state t.situation is.state;
  copies = trimmed_marks_are (kept a.copies) t.marking is.copies;
}

pub own : (a : TrackedState) → IsTracked a (tracked_of a)
own a = record { state = own_situation a.state; copies = own_marks (kept a.copies) }

pub joins : (profile : Profile) (a b c : TrackedState) (s t : TrackedSituation) → IsTracked a s → IsTracked b t → IsTracked c (joined profile (tracked_of a) (tracked_of b)) → IsTracked c (joined profile s t)
joins profile a b c s t one other is = record {
  state = joins_situation profile a.state b.state c.state s.situation t.situation one.state other.state is.state;
  copies = joins_marks (kept a.copies) (kept b.copies) (kept c.copies) s.marking t.marking one.copies other.copies is.copies;
}

-- ---- a state that may be there
pub none_is : (o : Option TrackedSituation) → IsTrackedIn None o → o ≡ None
none_is None is = refl
none_is (Some s) (a, there, is) = absurd (cc (there))

pub some_is : (a : TrackedState) (o : Option TrackedSituation) → IsTrackedIn (Some a) o → (s : TrackedSituation) × (o ≡ Some s) × IsTracked a s
some_is a None is = absurd (cc (is))
some_is a (Some s) (b, there, is) = (s, refl, subst (λ x. IsTracked x s) (sym (same_Some a b there)) is)

pub either_none : (profile : Profile) (o : Option TrackedSituation) → either_way profile o None ≡ o
either_none profile None = refl
either_none profile (Some s) = refl

-- one more is joined to what waited
pub joined_in : (profile : Profile) (before : Option TrackedState) (a b c : TrackedState) (o : Option TrackedSituation) (s : TrackedSituation) → before ≡ Some a → IsTrackedIn before o → IsTracked b s → IsTracked c (joined profile (tracked_of a) (tracked_of b)) → IsTrackedIn (Some c) (either_way profile o (Some s))
joined_in profile before a b c None s there is one both = absurd (cc (there, is))
joined_in profile before a b c (Some t) s there (x, at, is) one both =
    let same : x ≡ a = same_Some x a (sym at ∙ there) in
    (c, refl, joins profile a b c t s (subst (λ y. IsTracked y t) same is) one both)

pub first_in : (profile : Profile) (before : Option TrackedState) (c b : TrackedState) (o : Option TrackedSituation) (s : TrackedSituation) → before ≡ None → c ≡ b → IsTrackedIn before o → IsTracked b s → IsTrackedIn (Some c) (either_way profile o (Some s))
first_in profile before c b None s none same is one = (c, refl, subst (λ y. IsTracked y s) (sym same) one)
first_in profile before c b (Some t) s none same (x, at, is) one = absurd (cc (none, at))

-- ---- what waits at a slot is joined to what falls into it
pub arrives_both : (profile : Profile) (before flowing : Option TrackedState) (a b c : TrackedState) (falling here : Option TrackedSituation) → before ≡ Some b → flowing ≡ Some a → IsTrackedIn before here → IsTrackedIn flowing falling → IsTracked c (joined profile (tracked_of a) (tracked_of b)) → IsTrackedIn (Some c) (either_way profile falling here)
arrives_both profile before flowing a b c None here there live waits falls both = absurd (cc (live, falls))
arrives_both profile before flowing a b c (Some s) None there live waits falls both = absurd (cc (there, waits))
arrives_both profile before flowing a b c (Some s) (Some t) there live (y, at, waits) (x, on, falls) both =
    let same : x ≡ a = same_Some x a (sym on ∙ live) in
    let other : y ≡ b = same_Some y b (sym at ∙ there) in
    (c, refl, joins profile a b c s t (subst (λ z. IsTracked z s) same falls) (subst (λ z. IsTracked z t) other waits) both)

pub arrives_alone : (profile : Profile) (before flowing : Option TrackedState) (b c : TrackedState) (falling here : Option TrackedSituation) → before ≡ Some b → flowing ≡ None → c ≡ b → IsTrackedIn before here → IsTrackedIn flowing falling → IsTrackedIn (Some c) (either_way profile falling here)
arrives_alone profile before flowing b c (Some s) here there dead same waits (x, on, falls) = absurd (cc (dead, on))
arrives_alone profile before flowing b c None here there dead same waits falls =
    subst (λ x. IsTrackedIn (Some x) here) (sym same) (subst (λ x. IsTrackedIn x here) there waits)

pub arrives_none : (profile : Profile) (before flowing : Option TrackedState) (falling here : Option TrackedSituation) → before ≡ None → IsTrackedIn before here → IsTrackedIn flowing falling → IsTrackedIn flowing (either_way profile falling here)
arrives_none profile before flowing falling here none waits falls =
    let nothing : here ≡ None = none_is here (subst (λ x. IsTrackedIn x here) none waits) in
    rw nothing (rw (either_none profile falling) falls)

-- ---- what waits, where a jump's state is joined to it
pub jumped : (profile : Profile) (old new : Waiting) (slot from : ℕ) (o : Option TrackedSituation) (w : Waits) → WaitsFrom from old w → IsTrackedIn (waiting_at new slot) (either_way profile (w slot) o) → ((other : ℕ) → other ≢ slot → waiting_at new other ≡ waiting_at old other) → WaitsFrom from new (with_jump profile slot o w)
jumped profile old new slot from o w waits there others at on =
    ⊎_elim
    (λ (here : at ≡ slot).
    let yes : nat_eq at slot ≡ true = grind (arith, nat_tests) in
    rw yes (subst (λ n. IsTrackedIn (waiting_at new n) (either_way profile (w n) o)) (sym here) there))
    (λ (apart : at ≡ slot → ⊥).
    let no : nat_eq at slot ≡ false = grind (arith, nat_tests) in
    rw no (subst (λ x. IsTrackedIn x (w at)) (sym (others at apart)) (waits at on)))
    (cases_eq at slot)

pub waits_added : (profile : Profile) (states : Waiting) (slot from : ℕ) (empty : Option Awaiting) (boxed : Awaiting) (s : TrackedSituation) (w : Waits) → slot < length states → WaitsFrom from states w → IsTrackedIn (Some (as_tracked boxed)) (either_way profile (w slot) (Some s)) → WaitsFrom from (set (set states slot empty) slot (Some boxed)) (with_jump profile slot (Some s) w)
waits_added profile states slot from empty boxed s w within waits there =
    jumped profile states (set (set states slot empty) slot (Some boxed)) slot from (Some s) w waits
    (subst (λ x. IsTrackedIn x (either_way profile (w slot) (Some s))) (sym (set_twice states slot empty boxed within)) there)
    (λ other apart. waiting-set_other (set states slot empty) slot other (Some boxed) apart ∙ waiting-set_other states slot other empty apart)

-- no jump, or one that no run takes
pub unjumped : (profile : Profile) (waiting : Waiting) (slot from : ℕ) (o : Option TrackedSituation) (w : Waits) → o ≡ None → WaitsFrom from waiting w → WaitsFrom from waiting (with_jump profile slot o w)
unjumped profile waiting slot from o w none waits at on =
    rw none
    (⊎_elim
    (λ (here : at ≡ slot).
    let yes : nat_eq at slot ≡ true = grind (arith, nat_tests) in
    rw yes (subst (λ x. IsTrackedIn (waiting_at waiting at) x) (sym (either_none profile (w at))) (waits at on)))
    (λ (apart : at ≡ slot → ⊥). let no : nat_eq at slot ≡ false = grind (arith, nat_tests) in rw no (waits at on))
    (cases_eq at slot))

-- ---- an instruction that isn't refused
pub passes : (profile : Profile) (slot : ℕ) (insn : Insn) (s : TrackedSituation) (w : Waits) (ways : TrackedWays) (o : Option TrackedState) (waiting : Waiting) → led profile slot insn s ≡ Ok ways → IsTrackedIn o ways.untaken → WaitsFrom (slot + 1) waiting (with_jump profile (jump_target slot (jump_of insn)) ways.taken w) → Passes profile slot insn (Some s) w o waiting
unfolding passed
passes profile slot insn s w ways o waiting leads falls waits = record {
  allowed = λ fault bad. absurd (cc (leads, bad));
  awaits = rw leads (record { falls = falls; waits = waits });
}

pub target_is : (slot n target : ℕ) (insn : Insn) (distance : ℤ) → jump_of insn ≡ Some distance → distance ≡ pos n → target ≡ slot + 1 + n → target ≡ jump_target slot (jump_of insn)
target_is slot n target insn distance jumps is to = to ∙ sym (ap (jump_target slot) (jumps ∙ ap Some is))

pub passes_jump : (profile : Profile) (slot n target : ℕ) (insn : Insn) (distance : ℤ) (s : TrackedSituation) (w : Waits) (waiting : Waiting) → led profile slot insn s ≡ Ok (ways (Some s) None) → jump_of insn ≡ Some distance → distance ≡ pos n → target ≡ slot + 1 + n → WaitsFrom (slot + 1) waiting (with_jump profile target (Some s) w) → Passes profile slot insn (Some s) w None waiting
passes_jump profile slot n target insn distance s w waiting leads jumps is to waits =
    passes profile slot insn s w (ways (Some s) None) None waiting leads refl
    (subst (λ k. WaitsFrom (slot + 1) waiting (with_jump profile k (Some s) w)) (target_is slot n target insn distance jumps is to) waits)

pub leads_jump : (profile : Profile) (slot : ℕ) (insn : Insn) (distance : ℤ) (s : TrackedSituation) → insn ≡ Jump distance → led profile slot insn s ≡ Ok (ways (Some s) None)
unfolding led
leads_jump profile slot insn distance s is = rw is refl

pub leads_long : (profile : Profile) (slot : ℕ) (insn : Insn) (distance : ℤ) (s : TrackedSituation) → insn ≡ JumpLong distance → led profile slot insn s ≡ Ok (ways (Some s) None)
unfolding led
leads_long profile slot insn distance s is = rw is refl

pub leads_exit : (profile : Profile) (slot : ℕ) (insn : Insn) (s : TrackedSituation) → insn ≡ Exit → led profile slot insn s ≡ answer_of (λ done. ways None None) (exit s)
unfolding led
leads_exit profile slot insn s is = rw is refl

pub passes_exit : (profile : Profile) (slot : ℕ) (insn : Insn) (done : ⊤) (s : TrackedSituation) (w : Waits) (waiting : Waiting) → insn ≡ Exit → exit s ≡ Ok done → WaitsFrom (slot + 1) waiting w → Passes profile slot insn (Some s) w None waiting
passes_exit profile slot insn done s w waiting is ends waits =
    passes profile slot insn s w (ways None None) None waiting (leads_exit profile slot insn s is ∙ ap (answer_of (λ d. ways None None)) ends) refl
    (unjumped profile waiting (jump_target slot (jump_of insn)) (slot + 1) None w refl waits)

-- an instruction that is no jump and no exit
pub leads_straight : (profile : Profile) (slot : ℕ) (insn : Insn) (s : TrackedSituation) → IsStraight insn → led profile slot insn s ≡ answer_of (ways None) (stepped profile slot insn s)
unfolding led
leads_straight profile slot (Compute w op d o) s is = refl
leads_straight profile slot (Negate w d) s is = refl
leads_straight profile slot (Extend x d r) s is = refl
leads_straight profile slot (Convert c x d) s is = refl
leads_straight profile slot (Jump distance) s is = absurd is
leads_straight profile slot (JumpLong distance) s is = absurd is
leads_straight profile slot (Branch w c x r distance) s is = absurd is
leads_straight profile slot (Load z d x o) s is = refl
leads_straight profile slot (LoadSigned z d x o) s is = refl
leads_straight profile slot (Store z x o v) s is = refl
leads_straight profile slot (LoadWide d v) s is = refl
leads_straight profile slot Exit s is = absurd is

flow_in : (o : Option TrackedSituation) (flow : Flow) (a : TrackedState) → FlowsTracked o flow a → IsTrackedIn (after_tracked flow a) o
flow_in None flow a is = ap (λ f. after_tracked f a) is
flow_in (Some s) flow a (is, there) = (a, ap (λ f. after_tracked f a) is, there)

step_in : (rule : Result (Option TrackedSituation) Refusal) (answer : Result Flow Refusal) (flow : Flow) (a : TrackedState) → answer ≡ Ok flow → AnswersTrackedStep rule answer a → (o : Option TrackedSituation) × (rule ≡ Ok o) × IsTrackedIn (after_tracked flow a) o
step_in (Ok o) answer flow a is (f, was, flows) =
    let same : f ≡ flow = let e = was in cc in
    (o, refl, subst (λ x. IsTrackedIn (after_tracked x a) o) same (flow_in o f a flows))
step_in (Err e) answer flow a is bad = absurd (cc (is, bad))

pub passes_straight : (profile : Profile) (slot : ℕ) (insn : Insn) (s : TrackedSituation) (w : Waits) (answer : Result Flow Refusal) (flow : Flow) (a : TrackedState) (waiting : Waiting) → IsStraight insn → answer ≡ Ok flow → AnswersTrackedStep (stepped profile slot insn s) answer a → WaitsFrom (slot + 1) waiting w → Passes profile slot insn (Some s) w (after_tracked flow a) waiting
passes_straight profile slot insn s w answer flow a waiting is ok answers waits =
    let (o, rule, there) = step_in (stepped profile slot insn s) answer flow a ok answers in
    passes profile slot insn s w (ways None o) (after_tracked flow a) waiting (leads_straight profile slot insn s is ∙ ap (answer_of (ways None)) rule) there
    (unjumped profile waiting (jump_target slot (jump_of insn)) (slot + 1) None w refl waits)

refused_by : (rule : Result (Option TrackedSituation) Refusal) (answer : Result Flow Refusal) (fault : Refusal) (a : TrackedState) → answer ≡ Err fault → AnswersTrackedStep rule answer a → rule ≡ Err fault
refused_by (Ok o) answer fault a bad (f, was, flows) = absurd (cc (bad, was))
refused_by (Err e) answer fault a bad is = let same : e ≡ fault = cc in ap (λ (x : Refusal). Err x) same

pub step_refused : (profile : Profile) (slot : ℕ) (insn : Insn) (s : TrackedSituation) (answer : Result Flow Refusal) (fault : Refusal) (a : TrackedState) → IsStraight insn → answer ≡ Err fault → AnswersTrackedStep (stepped profile slot insn s) answer a → led profile slot insn s ≡ Err fault
step_refused profile slot insn s answer fault a is bad answers =
    leads_straight profile slot insn s is ∙ ap (answer_of (ways None)) (refused_by (stepped profile slot insn s) answer fault a bad answers)

-- ---- a comparison
pub leads_branch : (profile : Profile) (slot : ℕ) (insn : Insn) (width : Width) (comparison : Comparison) (left : ℕ) (right : Operand) (distance : ℤ) (s : TrackedSituation) → insn ≡ Branch width comparison left right distance → led profile slot insn s ≡ branched width comparison left right s
unfolding led
leads_branch profile slot insn width comparison left right distance s is = rw is refl

pub passes_branch : (profile : Profile) (slot n target : ℕ) (insn : Insn) (distance : ℤ) (s : TrackedSituation) (w : Waits) (ways : TrackedWays) (o : Option TrackedState) (waiting : Waiting) → led profile slot insn s ≡ Ok ways → jump_of insn ≡ Some distance → distance ≡ pos n → target ≡ slot + 1 + n → IsTrackedIn o ways.untaken → WaitsFrom (slot + 1) waiting (with_jump profile target ways.taken w) → Passes profile slot insn (Some s) w o waiting
passes_branch profile slot n target insn distance s w ways o waiting leads jumps is to falls waits =
    passes profile slot insn s w ways o waiting leads falls
    (subst (λ k. WaitsFrom (slot + 1) waiting (with_jump profile k ways.taken w)) (target_is slot n target insn distance jumps is to) waits)
