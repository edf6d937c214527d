-- What a register tells as what it is not.
use Rattle.std.proofs.Common.{◌≡◌, ◌≢◌, ℕ, ℤ, zero, suc, ◌+◌, ◌-◌, ◌%◌, ◌^◌, ◌<◌, Bool, true, false, cond, nat_eq, List, length, get_or, set, Option, Some, None, option_map, refl, sym, ◌∙◌, ap, subst, arith}
use Rattle.std.proofs.lemmas.List.{set-set, set-get_or}
use Rattle.std.specs.Option.{option_and_then}
use Rattle.bpf_words.specs.declared.instruction.Width.{Width}
use Rattle.bpf_words.specs.declared.instruction.Width.TheVariants.{Narrow, Full}
use Rattle.bpf_words.specs.declared.instruction.Operand.TheVariants.{Immediate}
use Rattle.semantics.specs.State.{State}
use Rattle.semantics.specs.Value.{cut}
use Rattle.abstract_state.specs.declared.state.AbsState.{AbsState}
use Rattle.abstract_state.specs.declared.step.Flow.{Flow}
use Rattle.abstract_state.specs.declared.step.Flow.TheVariants.{Live, Dead}
use Rattle.abstract_state.specs.Lent.{Lengths}
use Rattle.abstract_state.specs.State.{Contains, ContainsRegister, WithinState, register_at, with_register}
use Rattle.abstract_state.specs.Steps.{after}
use Rattle.abstract_state.specs.Addresses.{Content}
use Rattle.abstract_state.specs.Stacks.{whole_in}
use Rattle.abstract_state.specs.Situation.{Situation, IsSituation, Flows, situation_of, put}
use Rattle.abstract_state.proofs.Registers.{state_at, state_none}
use Rattle.abstract_state.proofs.Edges.{shows_put}
use Rattle.value_marks.specs.declared.mark.Mark.{Mark}
use Rattle.value_marks.specs.declared.marks.Marks.{Marks}
use Rattle.value_marks.specs.Mark.{Agrees, mark_at, raised_mark, lowered_mark}
use Rattle.value_marks.specs.Marking.{Marking, marking_of, IsMarking, mark_register}
use Rattle.value_marks.specs.Bearing.{BearsBy}
use Rattle.value_marks.specs.Telling.{Teller, teller, heard, fill, register_hears, slot_hears, each, all_hear, tells, register_tells, operand_tells, sides_tell}
use Rattle.value_marks.proofs.Moved.{not_place, same_place, other_place, bears_written, bears_same}
use Rattle.loop_states.specs.Across.{told_as}

-- ---- the teller's own mark isn't heard
then_same : (f g : Situation → Option Situation) (o : Option Situation) → ((s : Situation) → f s ≡ g s) → option_and_then f o ≡ option_and_then g o
then_same f g None same = refl
then_same f g (Some s) same = same s

each_same : (f g : ℕ → Situation → Option Situation) (n : ℕ) (s : Situation) → ((i : ℕ) (t : Situation) → i < n → f i t ≡ g i t) → each f n s ≡ each g n s
unfolding each
each_same f g zero s same = refl
each_same f g (suc n) s same =
    ap (option_and_then (f n)) (each_same f g n s (λ i t below. same i t (omega (arith, below))))
    ∙ then_same (f n) (g n) (each g n s) (λ t. same n t (omega arith))

register_same : (t : Teller) (v w : Marking) (i : ℕ) (s : Situation) → (i ≢ t.register → v.registers i ≡ w.registers i) → register_hears t v i s ≡ register_hears t w i s
unfolding register_hears
register_same t v w i s same = by_place (nat_eq i t.register) refl
  where
    by_place : (b : Bool) → nat_eq i t.register ≡ b → cond b (Some s) (heard t (λ (c : Content). put i c s) (v.registers i) (s.registers i) s) ≡ cond b (Some s) (heard t (λ (c : Content). put i c s) (w.registers i) (s.registers i) s)
    by_place true here = refl
    by_place false apart = ap (λ (m : Option Mark). heard t (λ (c : Content). put i c s) m (s.registers i) s) (same (not_place i t.register apart))

slot_same : (t : Teller) (v w : Marking) (i : ℕ) (s : Situation) → v.slots i ≡ w.slots i → slot_hears t v i s ≡ slot_hears t w i s
unfolding slot_hears
slot_same t v w i s same = ap (λ (m : Option Mark). heard t (λ (c : Content). fill i c s) m (whole_in (s.slots i)) s) same

all_same : (t : Teller) (v w : Marking) (s : Situation) → ((i : ℕ) → i < 11 → i ≢ t.register → v.registers i ≡ w.registers i) → ((i : ℕ) → i < 64 → v.slots i ≡ w.slots i) → all_hear t v s ≡ all_hear t w s
unfolding all_hear
all_same t v w s registers slots =
    ap (option_and_then (each (slot_hears t v) 64)) (each_same (register_hears t v) (register_hears t w) 11 s (λ i u below. register_same t v w i u (registers i below)))
    ∙ then_same (each (slot_hears t v) 64) (each (slot_hears t w) 64) (each (register_hears t w) 11 s) (λ u. each_same (slot_hears t v) (slot_hears t w) 64 u (λ i x below. slot_same t v w i x (slots i below)))

-- ---- a side of a comparison with a number tells alone
alone : (f : Situation → Option Situation) (o : Option Situation) → ((s : Situation) → f s ≡ Some s) → option_and_then f o ≡ o
alone f None is = refl
alone f (Some s) is = is s

silent : (v : ℤ) (w : Marking) (s : Situation) → operand_tells (Immediate v) w s ≡ Some s
unfolding operand_tells
silent v w s = refl

marked_tells : (r : ℕ) (m : Mark) (x : Content) (w : Marking) (s : Situation) → w.registers r ≡ Some m → s.registers r ≡ Some x → register_tells r w s ≡ all_hear (teller r m x) w s
unfolding tells
marked_tells r m x w s is there =
    ap (λ (o : Option Mark). tells r o (s.registers r) w s) is ∙ ap (λ (o : Option Content). tells r (Some m) o w s) there

side_alone : (r : ℕ) (v : ℤ) (m : Mark) (x : Content) (w : Marking) (s : Situation) → w.registers r ≡ Some m → s.registers r ≡ Some x → sides_tell r (Immediate v) w s ≡ all_hear (teller r m x) w s
unfolding sides_tell
side_alone r v m x w s is there = alone (operand_tells (Immediate v) w) (register_tells r w s) (silent v w) ∙ marked_tells r m x w s is there

-- ---- marks of which one is another
abbrev pub IsMarkedAs : Marks → Marks → ℕ → Mark → Type 0
IsMarkedAs marks new r m = IsMarking new (mark_register r (Some m) (marking_of marks))

one_mark : (m k : Mark) → Some m ≡ Some k → m ≡ k
one_mark m k e = cc

pub bears_as : (marks new : Marks) (origins : ℕ → ℕ) (s : State) (r v : ℕ) (m : Mark) → IsMarkedAs marks new r m → length s.registers ≡ 11 → BearsBy origins (marking_of marks) s → Agrees origins m v → BearsBy origins (marking_of new) (with_register s r v)
bears_as marks new origins s r v m is eleven bears agrees =
    bears_same new (mark_register r (Some m) (marking_of marks)) origins (with_register s r v) is
    (bears_written origins (marking_of marks) s r v (Some m) eleven bears (λ k e. subst (λ (x : Mark). Agrees origins x v) (one_mark m k e) agrees))

-- ---- the register holds again what it held
restored : (a : AbsState) (lengths : Lengths) (s : State) (r v n : ℕ) → get_or s.registers r None ≡ Some n → Contains a lengths (with_register (with_register s r v) r n) → Contains a lengths s
restored a lengths s r v n is held =
    let same : set (set s.registers r (Some v)) r (Some n) ≡ s.registers = set-set s.registers r (Some v) (Some n) ∙ ap (set s.registers r) (sym is) ∙ set-get_or s.registers r None in
    record {
      eleven = subst (λ (xs : List (Option ℕ)). length xs ≡ 11) same held.eleven;
      long = held.long;
      bounds = held.bounds;
      registers = subst (λ (xs : List (Option ℕ)). (i : ℕ) → i < 11 → ContainsRegister (register_at a.registers i) lengths (get_or xs i None)) same held.registers;
      stack = held.stack;
    }

pub told_back : (flow : Flow) (told new : AbsState) (lengths : Lengths) (s : State) (r v n : ℕ) → get_or s.registers r None ≡ Some n → (Contains told lengths (with_register s r v) → Contains new lengths (with_register (with_register s r v) r n)) → WithinState (after flow told) lengths (with_register s r v) → WithinState (after flow new) lengths s
told_back Live told new lengths s r v n is puts within = (new, refl, restored new lengths s r v n is (puts (state_at (Some told) told lengths (with_register s r v) refl within)))
told_back Dead told new lengths s r v n is puts within = absurd (state_none None lengths (with_register s r v) refl within)

put_flows : (o : Option Situation) (flow : Flow) (told new : AbsState) (r : ℕ) (held : Content) → IsSituation new (put r held (situation_of told)) → Flows o flow told → Flows (option_map (put r held) o) flow new
put_flows None flow told new r held is dead = dead
put_flows (Some s) flow told new r held is (live, shows) = (live, shows_put told new s r held shows is)

here : {A : Type 0} (r : ℕ) (x y : A) → cond (nat_eq r r) x y ≡ x
here r x y = ap (λ (b : Bool). cond b x y) (same_place r)

elsewhere : {A : Type 0} (i r : ℕ) (x y : A) → i ≢ r → cond (nat_eq i r) x y ≡ y
elsewhere i r x y apart = ap (λ (b : Bool). cond b x y) (other_place i r apart)

pub told_flows : (old first told new : AbsState) (marks others : Marks) (r : ℕ) (v : ℤ) (m : Mark) (x held : Content) (flow : Flow) (was : Situation) → r < 11 → IsMarkedAs marks others r m → IsSituation old was → IsSituation first (put r x (situation_of old)) → ((s : Situation) → IsSituation first s → Flows (sides_tell r (Immediate v) (marking_of others) s) flow told) → IsSituation new (put r held (situation_of told)) → Flows (told_as (teller r m x) held (marking_of marks) was) flow new
told_flows old first told new marks others r v m x held flow was below is shows one tell two =
    let s = put r x was in
    let own = is.registers r below ∙ here r (Some m) (mark_at marks.registers r) in
    let same : sides_tell r (Immediate v) (marking_of others) s ≡ all_hear (teller r m x) (marking_of marks) s =
    side_alone r v m x (marking_of others) s own (here r (Some x) (was.registers r))
    ∙ all_same (teller r m x) (marking_of others) (marking_of marks) s
    (λ i within apart. is.registers i within ∙ elsewhere i r (Some m) (mark_at marks.registers i) apart) (λ i within. is.slots i within) in
    put_flows (all_hear (teller r m x) (marking_of marks) s) flow told new r held two
    (subst (λ (o : Option Situation). Flows o flow told) same (tell s (shows_put old first was r x shows one)))

-- ---- marks of addresses and of their offsets
adds : (w : Width) (v k x base : ℕ) → cut w x ≡ cut w (v + k) → cut w (base + x) ≡ cut w (v + (k + base) % 2 ^ 64)
adds Full v k x base e = omega arith
adds Narrow v k x base e = omega arith

takes : (w : Width) (v k x base : ℕ) → cut w (base + x) ≡ cut w (v + k) → cut w x ≡ cut w (v + (k + (2 ^ 64 - base % 2 ^ 64)) % 2 ^ 64)
takes Full v k x base e = omega arith
takes Narrow v k x base e = omega arith

pub raised_agrees : (origins : ℕ → ℕ) (m new : Mark) (base by x : ℕ) → new ≡ raised_mark by m → by ≡ base → Agrees origins m x → Agrees origins new (base + x)
raised_agrees origins m new base by x is same agrees =
    subst (λ (k : Mark). Agrees origins k (base + x)) (sym (is ∙ ap (λ (b : ℕ). raised_mark b m) same)) (adds m.width (origins m.origin) m.addend x base agrees)

pub lowered_agrees : (origins : ℕ → ℕ) (m new : Mark) (base by x n : ℕ) → new ≡ lowered_mark by m → by ≡ base → n ≡ base + x → Agrees origins m n → Agrees origins new x
lowered_agrees origins m new base by x n is same sum agrees =
    subst (λ (k : Mark). Agrees origins k x) (sym (is ∙ ap (λ (b : ℕ). lowered_mark b m) same))
    (takes m.width (origins m.origin) m.addend x base (subst (λ (k : ℕ). Agrees origins m k) sum agrees))
