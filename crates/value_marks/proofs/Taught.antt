-- What is told of values, and where it is noted.
use Rattle.std.proofs.Common.{◌≡◌, ◌≢◌, ℕ, ◌+◌, ◌*◌, ◌^◌, ◌<◌, ◌==◌, Bool, true, cond, nat_eq, List, length, get_or, set, Some, None, sym, ◌∙◌, ap, subst, arith}
use Rattle.std.proofs.lemmas.Bool.Decides.{nat_tests}
use Rattle.std.proofs.lemmas.Grind.{common_steps}
use Rattle.bpf_words.specs.declared.instruction.Width.{Width}
use Rattle.bpf_words.specs.declared.instruction.Arithmetic.TheVariants.{Add}
use Rattle.semantics.specs.State.{State}
use Rattle.semantics.specs.Value.{bits_of, cut, value_of}
use Rattle.abstract_state.specs.declared.known.Known.{Known}
use Rattle.abstract_state.specs.declared.state.AbsReg.{AbsReg}
use Rattle.abstract_state.specs.declared.state.AbsReg.TheVariants.{Unset, Set}
use Rattle.abstract_state.specs.declared.slot.Slot.{Slot}
use Rattle.abstract_state.specs.declared.slot.Slot.TheVariants.{Spilled}
use Rattle.abstract_state.specs.declared.state.AbsState.{AbsState}
use Rattle.abstract_state.specs.Lent.{Lengths}
use Rattle.abstract_state.specs.Known.{ContainsKnown}
use Rattle.abstract_state.specs.State.{Contains, ContainsRegister, ContainsSlot, HasNumber, bytes_of, register_at, slot_at}
use Rattle.abstract_state.specs.Addresses.{content_of}
use Rattle.abstract_state.specs.Stacks.{Whole, Eight, slots_of, spilled}
use Rattle.abstract_state.specs.Situation.{Situation, IsSituation, put, register_of}
use Rattle.value_marks.specs.Telling.{fill}
use Rattle.abstract_state.proofs.Registers.{any_default}
use Rattle.value_marks.specs.declared.mark.Mark.{Mark}
use Rattle.value_marks.specs.Mark.{Agrees, narrower, distance}
use Rattle.value_marks.proofs.Words.{agree_narrower, agree_narrower_right, distance_is, cut_fits}
use Rattle.value_marks.proofs.Moved.{by_test, at_place, not_place}

pub equal_self : (n : ℕ) → (n == n) ≡ true
equal_self n = grind (arith, nat_tests)

-- the sum that the second number is
pub is_sum : (w : Width) (m n ahead : ℕ) → m < 2 ^ bits_of w → n < 2 ^ bits_of w → ahead < 2 ^ bits_of w → cut w n ≡ cut w (m + ahead) → value_of Add w m ahead ≡ n
is_sum w m n ahead hm hn ha e = sym e ∙ cut_fits w n hn

-- the second value is ahead of the first by the marks' distance
pub ahead_of : (origins : ℕ → ℕ) (from to : Mark) (m n : ℕ) → from.origin ≡ to.origin → Agrees origins from m → Agrees origins to n → cut (narrower from.width to.width) n ≡ cut (narrower from.width to.width) (m + distance (narrower from.width to.width) from to)
ahead_of origins from to m n same am an =
    let w = narrower from.width to.width in
    let first = agree_narrower from.width to.width m (origins from.origin + from.addend) am in
    let second = agree_narrower_right from.width to.width n (origins to.origin + to.addend) an in
    distance_is w (origins from.origin) from.addend to.addend m n first
    (second ∙ ap (λ (k : ℕ). cut w (origins k + to.addend)) (sym same))

-- a place that is read holds what was read
pub reread : {X : Type 0} (xs : List X) (i j : ℕ) (d e v : X) → i ≡ j → i < length xs → get_or xs i d ≡ v → get_or xs j e ≡ v
reread xs i j d e v same h is = sym (ap (λ (k : ℕ). get_or xs k e) same) ∙ any_default xs i e d h ∙ is

-- ---- a register of which more is known
pub read_same : {X : Type 0} (xs : List X) (i k : ℕ) (v d : X) → i < length xs → k ≡ i → get_or (set xs i v) k d ≡ v
read_same xs i k v d h e = grind (arith, common_steps)

pub read_other : {X : Type 0} (xs : List X) (i k : ℕ) (v d : X) → k ≢ i → get_or (set xs i v) k d ≡ get_or xs k d
read_other xs i k v d e = grind (arith, common_steps)

pub registers_with : (registers : List AbsReg) (s : State) (lengths : Lengths) (i n : ℕ) (known : Known) → i < length registers → ((k : ℕ) → k < 11 → ContainsRegister (register_at registers k) lengths (get_or s.registers k None)) → get_or s.registers i None ≡ Some n → ContainsKnown known lengths n → (k : ℕ) → k < 11 → ContainsRegister (register_at (set registers i (Set known)) k) lengths (get_or s.registers k None)
registers_with registers s lengths i n known within were there held k h =
    by_test (ContainsRegister (register_at (set registers i (Set known)) k) lengths (get_or s.registers k None)) (nat_eq k i)
    (λ here.
    let at = at_place k i here in
    subst (λ (v : AbsReg). ContainsRegister v lengths (get_or s.registers k None)) (sym (read_same registers i k (Set known) Unset within at))
    (n, ap (λ (j : ℕ). get_or s.registers j None) at ∙ there, held))
    (λ apart. subst (λ (v : AbsReg). ContainsRegister v lengths (get_or s.registers k None)) (sym (read_other registers i k (Set known) Unset (not_place k i apart))) (were k h))

-- the number of a place of which something is known
pub register_number : (a : AbsState) (lengths : Lengths) (s : State) (i : ℕ) (k : Known) → i < 11 → register_at a.registers i ≡ Set k → Contains a lengths s → (n : ℕ) × (get_or s.registers i None ≡ Some n) × ContainsKnown k lengths n
register_number a lengths s i k h is c = subst (λ (v : AbsReg). ContainsRegister v lengths (get_or s.registers i None)) is (c.registers i h)

pub slot_number : (a : AbsState) (lengths : Lengths) (s : State) (i : ℕ) (k : Known) → i < 64 → slot_at a.stack i ≡ Spilled k → Contains a lengths s → (n : ℕ) × ContainsKnown k lengths n × HasNumber (bytes_of s.stack) (8 * i) n
slot_number a lengths s i k h is c = subst (λ (v : Slot). ContainsSlot v lengths (bytes_of s.stack) i) is (c.stack i h)

pub shows_register : (a : AbsState) (was : Situation) (i : ℕ) (known : Known) → i < length a.registers → IsSituation a was → IsSituation (record { registers = set a.registers i (Set known); stack = a.stack; bounds = a.bounds }) (put i (content_of known) was)
shows_register a was i known within old = record {
  registers = λ k h.
      by_test (register_of (register_at (set a.registers i (Set known)) k) ≡ cond (nat_eq k i) (Some (content_of known)) (was.registers k)) (nat_eq k i)
      (λ here. ap register_of (read_same a.registers i k (Set known) Unset within (at_place k i here)) ∙ sym (ap (λ (b : Bool). cond b (Some (content_of known)) (was.registers k)) here))
      (λ apart. ap register_of (read_other a.registers i k (Set known) Unset (not_place k i apart)) ∙ old.registers k h ∙ sym (ap (λ (b : Bool). cond b (Some (content_of known)) (was.registers k)) apart));
  slots = old.slots;
  least = old.least;
}

pub shows_slot : (a : AbsState) (was : Situation) (slots : List Slot) (i : ℕ) (known : Known) → ((k : ℕ) → slots_of slots k ≡ spilled i (content_of known) (slots_of a.stack) k) → IsSituation a was → IsSituation (record { registers = a.registers; stack = slots; bounds = a.bounds }) (fill i (content_of known) was)
shows_slot a was slots i known new old = record {
  registers = old.registers;
  slots = λ k h. new k ∙ ap (λ (e : Eight). cond (nat_eq k i) (Whole (content_of known)) e) (old.slots k h);
  least = old.least;
}
