-- What an instruction did, from where it led.
use Rattle.std.proofs.Common.{◌≡◌, ℕ, ℤ, ◌+◌, ◌-◌, ◌%◌, ◌^◌, ◌<◌, ◌≤◌, Bool, true, false, cond, nat_eq, List, get_or, Option, Some, None, Result, Ok, Err, refl, ◌∙◌, ap, arith}
use Rattle.std.proofs.lemmas.Option.{get_or_from_slice_get}
use Rattle.std.proofs.lemmas.Bool.Decides.{nat_tests}
use Rattle.std.specs.List.{slice_get}
use Rattle.bpf_words.specs.declared.instruction.Insn.{Insn}
use Rattle.bpf_words.specs.declared.instruction.Insn.TheVariants.{Compute, Negate, Extend, Convert, Jump, JumpLong, Branch, Load, LoadSigned, Store, LoadWide, Exit}
use Rattle.bpf_words.specs.Flow.{written_by}
use Rattle.semantics.specs.declared.FaultKind.{FaultKind}
use Rattle.semantics.specs.declared.FaultKind.TheVariants.{WriteR10, ReadOnly, BadAddress}
use Rattle.span_context.specs.Context.{SpanBytes}
use Rattle.semantics.specs.State.{State, set_value, register_of, operand_in, written}
use Rattle.semantics.specs.Memory.{address_of, load, store, stored, stack_base, in_stack, is_lent, bytes_in, bytes_in_signed}
use Rattle.semantics.specs.Value.{cut, value_of, negated, extended, converted, with_sign}
use Rattle.semantics.specs.Step.{On, then_with, first_of, write_and_go, Moved}
use Rattle.abstract_state.specs.State.{Span, does, with_register}

pub unwound : {A B : Type 0} (r : Result A FaultKind) (f : A → Result B FaultKind) (b : B) → then_with r f ≡ Ok b → (a : A) × (r ≡ Ok a) × (f a ≡ Ok b)
unwound (Ok a) f b e = (a, refl, e)
unwound (Err kind) f b e = absurd (cc)

chosen : (b : Bool) (kind : FaultKind) (x new : State) → cond b (Err kind) (Ok x) ≡ Ok new → new ≡ x
chosen true kind x new e = absurd (cc)
chosen false kind x new e = cc

landed : (a b : State) (near far : ℤ) (m : Moved) → m ≡ Ok (On a near) → m ≡ Ok (On b far) → b ≡ a
landed a b near far m e f = cc

pub wrote : (s next : State) (d v : ℕ) (near far : ℤ) → write_and_go s d v near ≡ Ok (On next far) → next ≡ with_register s d v
wrote s next d v near far e =
    let u = unwound (written s d v) _ _ e in
    landed u.0 next near far _ refl u.2 ∙ chosen (nat_eq d 10) WriteR10 _ u.0 u.1

-- the register that is written, by any instruction that writes one
pub wrote_one : (span : Span) (s next : State) (insn : Insn) (d : ℕ) (far : ℤ) → written_by insn ≡ Some d → does span s insn ≡ Ok (On next far) → (v : ℕ) × (next ≡ with_register s d v)
wrote_one span s next (Compute w op r o) d far is e =
    let u = unwound (first_of s op r) _ _ e in
    let t = unwound (operand_in s o) _ _ u.2 in
    let same : r ≡ d = cc in
    (_, wrote s next r _ _ far t.2 ∙ ap (λ (k : ℕ). with_register s k (value_of op w (cut w u.0) (cut w t.0))) same)
wrote_one span s next (Negate w r) d far is e =
    let u = unwound (register_of s r) _ _ e in
    let same : r ≡ d = cc in
    (_, wrote s next r _ _ far u.2 ∙ ap (λ (k : ℕ). with_register s k (negated w (cut w u.0))) same)
wrote_one span s next (Extend x r source) d far is e =
    let u = unwound (register_of s source) _ _ e in
    let same : r ≡ d = cc in
    (_, wrote s next r _ _ far u.2 ∙ ap (λ (k : ℕ). with_register s k (extended x u.0)) same)
wrote_one span s next (Convert c b r) d far is e =
    let u = unwound (register_of s r) _ _ e in
    let same : r ≡ d = cc in
    (_, wrote s next r _ _ far u.2 ∙ ap (λ (k : ℕ). with_register s k (converted c b u.0)) same)
wrote_one span s next (Jump distance) d far is e = absurd (cc)
wrote_one span s next (JumpLong distance) d far is e = absurd (cc)
wrote_one span s next (Branch w c l r distance) d far is e = absurd (cc)
wrote_one span s next (Load z r base offset) d far is e =
    let u = unwound (register_of s base) _ _ e in
    let t = unwound (load span.bytes s.stack (address_of u.0 offset) (bytes_in z)) _ _ u.2 in
    let same : r ≡ d = cc in
    (_, wrote s next r _ _ far t.2 ∙ ap (λ (k : ℕ). with_register s k t.0) same)
wrote_one span s next (LoadSigned z r base offset) d far is e =
    let u = unwound (register_of s base) _ _ e in
    let t = unwound (load span.bytes s.stack (address_of u.0 offset) (bytes_in_signed z)) _ _ u.2 in
    let same : r ≡ d = cc in
    (_, wrote s next r _ _ far t.2 ∙ ap (λ (k : ℕ). with_register s k (with_sign z t.0)) same)
wrote_one span s next (Store z base offset value) d far is e = absurd (cc)
wrote_one span s next (LoadWide r value) d far is e =
    let same : r ≡ d = cc in
    (_, wrote s next r _ _ far e ∙ ap (λ (k : ℕ). with_register s k value) same)
wrote_one span s next Exit d far is e = absurd (cc)

pub went : (s next : State) (near far : ℤ) (m : Moved) → m ≡ Ok (On s near) → m ≡ Ok (On next far) → next ≡ s
went s next near far m e f = landed s next near far m e f

-- a register that is read holds what was read
pub holds_it : (s : State) (r n : ℕ) → register_of s r ≡ Ok n → get_or s.registers r None ≡ Some n
holds_it s r n e = get_or_from_slice_get s.registers r (Some n) None (found (slice_get s.registers r) e)
  where
    found : (o : Option (Option ℕ)) → set_value o ≡ Ok n → o ≡ Some (Some n)
    found None f = absurd (cc)
    found (Some None) f = absurd (cc)
    found (Some (Some m)) f = let same : m ≡ n = cc in ap (λ (k : ℕ). Some (Some k)) same

-- ---- a store that met no fault was one to the stack
stored_there : (inside lent : Bool) (stack new : List (Option ℕ)) → cond inside (Ok stack) (cond lent (Err ReadOnly) (Err BadAddress)) ≡ Ok new → (inside ≡ true) × (new ≡ stack)
stored_there true lent stack new e = (refl, cc)
stored_there false true stack new e = absurd (cc)
stored_there false false stack new e = absurd (cc)

pub stored_so : (bytes : SpanBytes) (stack new : List (Option ℕ)) (address count v : ℕ) → store bytes stack address count v ≡ Ok new → (in_stack address count ≡ true) × (new ≡ stored stack (address - stack_base) count v)
stored_so bytes stack new address count v e = stored_there (in_stack address count) (is_lent bytes address count) (stored stack (address - stack_base) count v) new e

pub stack_within : (address count : ℕ) → in_stack address count ≡ true → (stack_base ≤ address) × (address + count ≤ stack_base + 512)
stack_within address count e = grind (arith, nat_tests)

-- the place of an address in the stack
pub place_in_stack : (q offset count : ℕ) → stack_base ≤ (stack_base + q + offset) % 2 ^ 64 → (stack_base + q + offset) % 2 ^ 64 + count ≤ stack_base + 512 → (stack_base + q + offset) % 2 ^ 64 - stack_base ≡ (q + offset) % 2 ^ 64
place_in_stack q offset count low high = omega arith

pub place_address : (q offset : ℕ) → (q + offset) % 2 ^ 64 < 512 → (stack_base + q + offset) % 2 ^ 64 ≡ stack_base + (q + offset) % 2 ^ 64
place_address q offset low = omega arith
