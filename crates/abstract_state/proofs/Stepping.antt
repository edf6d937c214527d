-- What an instruction makes of what is known, from what its parts answer.
use Rattle.std.proofs.Common.{◌≡◌, ◌≢◌, ℕ, ℤ, Option, Some, None, Result, Ok, Err, option_map, refl, sym, subst, ap, ◌∙◌}
use Rattle.std.specs.Bool.{⊤}
use Rattle.std.specs.Int.{cast_unsigned, w64}
use Rattle.std.specs.Result.{IsErrAnd}
use Rattle.span_context.specs.declared.profile.Profile.{Profile}
use Rattle.span_context.specs.declared.size.Size.{Size}
use Rattle.bpf_words.specs.declared.instruction.Arithmetic.{Arithmetic}
use Rattle.bpf_words.specs.declared.instruction.Arithmetic.TheVariants.{Mov}
use Rattle.bpf_words.specs.declared.instruction.Insn.{Insn}
use Rattle.bpf_words.specs.declared.instruction.Operand.{Operand}
use Rattle.bpf_words.specs.declared.instruction.Width.{Width}
use Rattle.semantics.specs.Memory.{bytes_in}
use Rattle.abstract_state.specs.Known.{IsNumber}
use Rattle.abstract_state.specs.declared.refusal.Refusal.{Refusal}
use Rattle.abstract_state.specs.declared.refusal.Refusal.TheVariants.{ReturnPointer}
use Rattle.abstract_state.specs.declared.known.Known.TheVariants.{Number, Context, Stack, Lent}
use Rattle.abstract_state.specs.declared.known.Known.{Known}
use Rattle.abstract_state.specs.declared.state.AbsState.{AbsState}
use Rattle.abstract_state.specs.declared.step.Flow.{Flow}
use Rattle.abstract_state.specs.declared.step.Flow.TheVariants.{Live}
use Rattle.abstract_state.specs.Addresses.{Content, content_of, answer_of, computed}
use Rattle.abstract_state.specs.Stacks.{Slots, slots_of}
use Rattle.abstract_state.specs.Loading.{Leaves, written}
use Rattle.abstract_state.specs.Situation.{Situation, situation_of, registers_of, least_of, put, Flows, AnswersStep, read, operand_of}
use Rattle.abstract_state.specs.Stepping.{into, made, compute, arithmetic, store, with_slots, exit, returned, stepped}

pub out_is : {T : Type 0} (answer : Result T Refusal) (e : Refusal) → IsErrAnd answer (λ y. y ≡ e) → answer ≡ Err e
out_is (Ok t) e is = absurd is
out_is (Err y) e is = ap (λ (d : Refusal). Err d) is

pub given : {A B : Type 0} (f : A → B) (r : Result A Refusal) (rule : Result B Refusal) (a : A) → answer_of f r ≡ rule → r ≡ Ok a → rule ≡ Ok (f a)
given f r rule a says was = sym says ∙ ap (answer_of f) was

pub denied : {A B : Type 0} (f : A → B) (r : Result A Refusal) (rule : Result B Refusal) (e : Refusal) → answer_of f r ≡ rule → r ≡ Err e → rule ≡ Err e
denied f r rule e says was = sym says ∙ ap (answer_of f) was

into_flows : (register : ℕ) (s : Situation) (known : Option Known) (flow : Flow) (b : AbsState) → Flows (option_map (λ k. put register (content_of k) s) known) flow b → Flows (into register s (option_map content_of known)) flow b
into_flows register s None flow b h = h
into_flows register s (Some k) flow b h = h

-- ---- a register is written
pub unread : (register : ℕ) (s : Situation) (f : Content → Result (Option Content) Refusal) (held : Result Content Refusal) (e : Refusal) (answer : Result Flow Refusal) (b : AbsState) → held ≡ Err e → answer ≡ Err e → AnswersStep (made register s f held) answer b
unfolding made
unread register s f held e answer b bad out = rw bad out

pub unmade : (register : ℕ) (s : Situation) (f : Content → Result (Option Content) Refusal) (held : Result Content Refusal) (h : Content) (e : Refusal) (answer : Result Flow Refusal) (b : AbsState) → held ≡ Ok h → f h ≡ Err e → answer ≡ Err e → AnswersStep (made register s f held) answer b
unfolding made
unmade register s f held h e answer b is bad out = rw is (rw bad out)

pub writes : (register : ℕ) (s : Situation) (f : Content → Result (Option Content) Refusal) (held : Result Content Refusal) (h : Content) (known : Option Known) (flow : Flow) (b : AbsState) → held ≡ Ok h → f h ≡ Ok (option_map content_of known) → Flows (option_map (λ k. put register (content_of k) s) known) flow b → AnswersStep (made register s f held) (Ok flow) b
unfolding made
writes register s f held h known flow b is makes flows = rw is (rw makes (flow, refl, into_flows register s known flow b flows))

-- ---- an operation with two sides
pub compute_unread : (profile : Profile) (width : Width) (operation : Arithmetic) (d : ℕ) (operand : Operand) (s : Situation) (e : Refusal) (answer : Result Flow Refusal) (b : AbsState) → read (s.registers d) ≡ Err e → answer ≡ Err e → AnswersStep (compute profile width operation d operand s) answer b
unfolding compute
compute_unread profile width operation d operand s e answer b bad out = rw bad out

pub compute_is : (profile : Profile) (width : Width) (operation : Arithmetic) (d : ℕ) (operand : Operand) (s : Situation) (a : Content) → read (s.registers d) ≡ Ok a → compute profile width operation d operand s ≡ made d s (computed profile operation width a) (operand_of s.registers operand)
unfolding compute
compute_is profile width operation d operand s a is = rw is refl

pub no_move : (profile : Profile) (width : Width) (operation : Arithmetic) (d : ℕ) (operand : Operand) (s : Situation) → operation ≢ Mov → compute profile width operation d operand s ≡ arithmetic profile width operation d operand s
unfolding arithmetic
no_move profile width Mov d operand s other = absurd (other refl)
no_move profile width _ d operand s other = refl

-- ---- stores
pub store_unread : (size : Size) (base : ℕ) (offset : ℤ) (operand : Operand) (s : Situation) (e : Refusal) (answer : Result Flow Refusal) (b : AbsState) → read (s.registers base) ≡ Err e → answer ≡ Err e → AnswersStep (store size base offset operand s) answer b
unfolding store
store_unread size base offset operand s e answer b bad out = rw bad out

pub store_value_unread : (size : Size) (base : ℕ) (offset : ℤ) (operand : Operand) (s : Situation) (a : Content) (e : Refusal) (answer : Result Flow Refusal) (b : AbsState) → read (s.registers base) ≡ Ok a → operand_of s.registers operand ≡ Err e → answer ≡ Err e → AnswersStep (store size base offset operand s) answer b
unfolding store
store_value_unread size base offset operand s a e answer b is bad out = rw is (rw bad out)

pub store_is : (size : Size) (base : ℕ) (offset : ℤ) (operand : Operand) (s : Situation) (a value : Content) → read (s.registers base) ≡ Ok a → operand_of s.registers operand ≡ Ok value → store size base offset operand s ≡ answer_of (with_slots s) (written s.slots a (cast_unsigned w64 offset) (bytes_in size) value)
unfolding store
store_is size base offset operand s a value is there = rw is (rw there refl)

ok_err : (t : ⊤) (e : Refusal) (r : Result ⊤ Refusal) → r ≡ Ok t → r ≡ Err e → ⊥
ok_err t e r p q = cc

one_err : (d e : Refusal) (r : Result ⊤ Refusal) → r ≡ Err d → r ≡ Err e → d ≡ e
one_err d e r p q = cc

pub unstored : (s : Situation) (slots : Result Slots Refusal) (new : Slots) (r : Result ⊤ Refusal) (e : Refusal) (answer : Result Flow Refusal) (b : AbsState) → Leaves slots r new → r ≡ Err e → answer ≡ Err e → AnswersStep (answer_of (with_slots s) slots) answer b
unstored s (Ok slots) new r e answer b h was out = absurd (ok_err tt e r h.0 was)
unstored s (Err d) new r e answer b h was out = out ∙ ap (λ (x : Refusal). Err x) (one_err e d r was h)

pub stores_slots : (a b : AbsState) (slots : Result Slots Refusal) (r : Result ⊤ Refusal) → Leaves slots r (slots_of b.stack) → r ≡ Ok tt → b.registers ≡ a.registers → b.bounds ≡ a.bounds → AnswersStep (answer_of (with_slots (situation_of a)) slots) (Ok Live) b
stores_slots a b (Ok slots) r h was registers bounds = (
  Live,
  refl,
  (
    refl,
    record {
      registers = λ i less. ap (λ rs. registers_of rs i) registers;
      slots = h.1;
      least = ap least_of bounds;
    },
  ),
)
stores_slots a b (Err d) r h was registers bounds = absurd (ok_err tt d r was h)

-- ---- where nothing is written
pub stands : (a : AbsState) → AnswersStep (Ok (Some (situation_of a))) (Ok Live) a
stands a = (Live, refl, (refl, record { registers = λ i less. refl; slots = λ i less. refl; least = refl }))

pub exits : (a : AbsState) (r : Result ⊤ Refusal) → r ≡ Ok tt → AnswersStep (answer_of (λ done. Some (situation_of a)) r) (Ok Live) a
exits a r is = rw is (stands a)

pub exit_refused : (a : AbsState) (r : Result ⊤ Refusal) (e : Refusal) (answer : Result Flow Refusal) → r ≡ Err e → answer ≡ Err e → AnswersStep (answer_of (λ done. Some (situation_of a)) r) answer a
exit_refused a r e answer bad out = rw bad out

pub exit_unread : (s : Situation) (e : Refusal) → read (s.registers 0) ≡ Err e → exit s ≡ Err e
unfolding exit
exit_unread s e bad = rw bad refl

pub exit_is : (s : Situation) (a : Content) → read (s.registers 0) ≡ Ok a → exit s ≡ returned a
unfolding exit
exit_is s a is = rw is refl

pub returned_number : (k : Known) → IsNumber k → returned (content_of k) ≡ Ok tt
returned_number (Number q) h = refl
returned_number (Context p) h = absurd h
returned_number (Stack p) h = absurd h
returned_number (Lent p) h = absurd h

pub returned_address : (k : Known) → (IsNumber k → ⊥) → returned (content_of k) ≡ Err ReturnPointer
returned_address (Number q) h = absurd (h tt)
returned_address (Context p) h = refl
returned_address (Stack p) h = refl
returned_address (Lent p) h = refl

-- ---- the instruction is that one
pub stepped_at : (profile : Profile) (a : AbsState) (insn same : Insn) (answer : Result Flow Refusal) (b : AbsState) → insn ≡ same → AnswersStep (stepped profile same (situation_of a)) answer b → AnswersStep (stepped profile insn (situation_of a)) answer b
stepped_at profile a insn same answer b is h = subst (λ (i : Insn). AnswersStep (stepped profile i (situation_of a)) answer b) (sym is) h
