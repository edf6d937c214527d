-- What an instruction leaves as it was.
use Rattle.std.proofs.Common.{◌≡◌, ◌≢◌, ℕ, ℤ, Bool, true, false, List, get_or, set, Option, Some, None, Ok, refl, sym, ap, ◌∙◌, arith}
use Rattle.std.proofs.lemmas.Grind.{common_steps}
use Rattle.bpf_words.specs.declared.instruction.Insn.{Insn}
use Rattle.bpf_words.specs.declared.instruction.Insn.TheVariants.{Compute, Negate, Extend, Convert, Jump, JumpLong, Branch, Load, LoadSigned, Store, LoadWide, Exit}
use Rattle.bpf_words.specs.Flow.{written_by}
use Rattle.semantics.specs.State.{State, register_of, operand_in}
use Rattle.semantics.specs.Memory.{address_of, store, bytes_in}
use Rattle.semantics.specs.Step.{Moved, On, Returns}
use Rattle.abstract_state.specs.State.{Span, does, with_stack}
use Rattle.value_marks.proofs.Machine.{unwound, wrote_one, went}
use Rattle.potential_edges.specs.Sources.{is_store}

ends : (v : ℕ) (next : State) (far : ℤ) (m : Moved) → m ≡ Ok (Returns v) → m ≡ Ok (On next far) → ⊥
ends v next far m e f = cc

-- an instruction that writes no register and is no store
unwritten : (span : Span) (s next : State) (insn : Insn) (far : ℤ) → written_by insn ≡ None → is_store insn ≡ false
    → does span s insn ≡ Ok (On next far) → next ≡ s
unwritten span s next (Compute w op d o) far none plain e = absurd (cc)
unwritten span s next (Negate w d) far none plain e = absurd (cc)
unwritten span s next (Extend x d r) far none plain e = absurd (cc)
unwritten span s next (Convert c b d) far none plain e = absurd (cc)
unwritten span s next (Jump distance) far none plain e = went s next _ far _ refl e
unwritten span s next (JumpLong distance) far none plain e = went s next _ far _ refl e
unwritten span s next (Branch w c l r distance) far none plain e =
    let u = unwound (register_of s l) _ _ e in
    let t = unwound (operand_in s r) _ _ u.2 in
    went s next _ far _ refl t.2
unwritten span s next (Load z d base offset) far none plain e = absurd (cc)
unwritten span s next (LoadSigned z d base offset) far none plain e = absurd (cc)
unwritten span s next (Store z base offset value) far none plain e = absurd (cc)
unwritten span s next (LoadWide d value) far none plain e = absurd (cc)
unwritten span s next Exit far none plain e =
    let u = unwound (register_of s 0) _ _ e in absurd (ends u.0 next far _ refl u.2)

store_leaves : (span : Span) (s next : State) (insn : Insn) (far : ℤ) → is_store insn ≡ true
    → does span s insn ≡ Ok (On next far) → next.registers ≡ s.registers
store_leaves span s next (Compute w op d o) far is e = absurd (cc)
store_leaves span s next (Negate w d) far is e = absurd (cc)
store_leaves span s next (Extend x d r) far is e = absurd (cc)
store_leaves span s next (Convert c b d) far is e = absurd (cc)
store_leaves span s next (Jump distance) far is e = absurd (cc)
store_leaves span s next (JumpLong distance) far is e = absurd (cc)
store_leaves span s next (Branch w c l r distance) far is e = absurd (cc)
store_leaves span s next (Load z d base offset) far is e = absurd (cc)
store_leaves span s next (LoadSigned z d base offset) far is e = absurd (cc)
store_leaves span s next (Store z base offset value) far is e =
    let u = unwound (register_of s base) _ _ e in
    let t = unwound (operand_in s value) _ _ u.2 in
    let v = unwound (store span.bytes s.stack (address_of u.0 offset) (bytes_in z) t.0) _ _ t.2 in
    ap (λ (n : State). n.registers) (went (with_stack s v.0) next _ far _ refl v.2)
store_leaves span s next (LoadWide d value) far is e = absurd (cc)
store_leaves span s next Exit far is e = absurd (cc)

written_other : (registers : List (Option ℕ)) (d v r : ℕ) → (d ≡ r → ⊥)
    → get_or (set registers d (Some v)) r None ≡ get_or registers r None
written_other registers d v r apart = let other : r ≢ d = λ e. apart (sym e) in grind (arith, common_steps)

-- a register that it doesn't write
pub register_left : (span : Span) (s next : State) (insn : Insn) (r : ℕ) (far : ℤ)
    → (written_by insn ≡ Some r → ⊥) → does span s insn ≡ Ok (On next far)
    → get_or next.registers r None ≡ get_or s.registers r None
register_left span s next insn r far apart e = by_written (written_by insn) refl
  where
    by_store : (b : Bool) → is_store insn ≡ b → written_by insn ≡ None → next.registers ≡ s.registers
    by_store true is none = store_leaves span s next insn far is e
    by_store false is none = ap (λ (n : State). n.registers) (unwritten span s next insn far none is e)

    by_written : (o : Option ℕ) → written_by insn ≡ o → get_or next.registers r None ≡ get_or s.registers r None
    by_written None is = ap (λ l. get_or l r None) (by_store (is_store insn) refl is)
    by_written (Some d) is =
        let one = wrote_one span s next insn d far is e in
        ap (λ (n : State). get_or n.registers r None) one.1
        ∙ written_other s.registers d one.0 r (λ same. apart (is ∙ ap (λ (k : ℕ). Some k) same))

-- the stack, where it is no store
pub stack_left : (span : Span) (s next : State) (insn : Insn) (far : ℤ) → is_store insn ≡ false
    → does span s insn ≡ Ok (On next far) → next.stack ≡ s.stack
stack_left span s next insn far plain e = by_written (written_by insn) refl
  where
    by_written : (o : Option ℕ) → written_by insn ≡ o → next.stack ≡ s.stack
    by_written None is = ap (λ (n : State). n.stack) (unwritten span s next insn far is plain e)
    by_written (Some d) is = ap (λ (n : State). n.stack) (wrote_one span s next insn d far is e).1
