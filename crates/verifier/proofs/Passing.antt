-- Where one instruction leads, from what is promised of its edges.
use Rattle.std.proofs.Common.{◌≡◌, ℕ, ◌+◌, inl, inr, ⊎_elim, true, false, if◌then◌else◌, Option, Some, None, Result, Ok, Err, refl, sym, ap, ◌∙◌, subst}
use Rattle.std.specs.Prelude.{ℤ, pos}
use Rattle.std.specs.Result.{IfOk}
use Rattle.std.proofs.lemmas.Bool.{cases_Bool}
use Rattle.bpf_words.specs.declared.instruction.Width.{Width}
use Rattle.bpf_words.specs.declared.instruction.Comparison.{Comparison}
use Rattle.bpf_words.specs.declared.instruction.Operand.{Operand}
use Rattle.bpf_words.specs.declared.instruction.Insn.{Insn}
use Rattle.bpf_words.specs.declared.instruction.Insn.TheVariants.{Compute, Negate, Extend, Convert, Jump, JumpLong, Branch, Load, LoadSigned, Store, LoadWide, Exit}
use Rattle.bpf_words.specs.Flow.{jump_of}
use Rattle.semantics.specs.declared.FaultKind.{FaultKind}
use Rattle.semantics.specs.State.{State, register_of, operand_in}
use Rattle.semantics.specs.Step.{Moved, On, Returns}
use Rattle.semantics.specs.Value.{cut, holds_of}
use Rattle.tracked_state.specs.declared.state.TrackedState.{TrackedState}
use Rattle.abstract_state.specs.Lent.{Lengths}
use Rattle.abstract_state.specs.State.{Span, lengths_of, does}
use Rattle.abstract_state.specs.Steps.{distance_of}
use Rattle.tracked_state.specs.Tracked.{ContainsTracked, WithinTracked}
use Rattle.tracked_state.specs.Tracking.{LandsTracked, TrackedEdge}
use Rattle.verifier.specs.Waiting.{Waiting, waiting_at}
use Rattle.verifier.specs.Walk.{Advances}

pub jump_advances : (span : Span) (s : State) (slot n : ℕ) (insn : Insn) (distance : ℤ) (waiting : Waiting) → does span s insn ≡ Ok (On s distance) → jump_of insn ≡ Some distance → distance ≡ pos n → WithinTracked (waiting_at waiting (slot + 1 + n)) (lengths_of span) s → Advances (lengths_of span) slot insn None waiting (does span s insn)
jump_advances span s slot n insn distance waiting e jumps is within =
    subst (λ m. Advances (lengths_of span) slot insn None waiting m) (sym e) (inr (n, is, jumps ∙ ap Some is, within))

-- an instruction that is no jump and no exit
abbrev pub IsStraight : Insn → Type 0
IsStraight (Compute w op d o) = Unit {0}
IsStraight (Negate w d) = Unit {0}
IsStraight (Extend e d r) = Unit {0}
IsStraight (Convert c b d) = Unit {0}
IsStraight (Jump distance) = ⊥
IsStraight (JumpLong distance) = ⊥
IsStraight (Branch w c l r distance) = ⊥
IsStraight (Load z d b o) = Unit {0}
IsStraight (LoadSigned z d b o) = Unit {0}
IsStraight (Store z b o v) = Unit {0}
IsStraight (LoadWide d v) = Unit {0}
IsStraight Exit = ⊥

pub straight : (insn : Insn) → ((d : ℤ) → insn ≡ Jump d → ⊥) → ((d : ℤ) → insn ≡ JumpLong d → ⊥) → ((w : Width) (c : Comparison) (l : ℕ) (r : Operand) (d : ℤ) → insn ≡ Branch w c l r d → ⊥) → (insn ≡ Exit → ⊥) → IsStraight insn
straight (Compute w op d o) j l b e = tt
straight (Negate w d) j l b e = tt
straight (Extend x d r) j l b e = tt
straight (Convert c x d) j l b e = tt
straight (Jump distance) j l b e = j distance refl
straight (JumpLong distance) j l b e = l distance refl
straight (Branch w c x r distance) j l b e = b w c x r distance refl
straight (Load z d x o) j l b e = tt
straight (LoadSigned z d x o) j l b e = tt
straight (Store z x o v) j l b e = tt
straight (LoadWide d v) j l b e = tt
straight Exit j l b e = e refl

pub lands_advances : (insn : Insn) (lengths : Lengths) (slot : ℕ) (o : Option TrackedState) (waiting : Waiting) (m : Moved) → IsStraight insn → LandsTracked o lengths (distance_of insn) m → Advances lengths slot insn o waiting m
lands_advances insn lengths slot o waiting (Ok (Returns value)) is lands = tt
lands_advances insn lengths slot o waiting (Err kind) is lands = lands
lands_advances (Compute w op d x) lengths slot o waiting (Ok (On next far)) is (e, within) = inl (0, e, refl, refl, within)
lands_advances (Negate w d) lengths slot o waiting (Ok (On next far)) is (e, within) = inl (0, e, refl, refl, within)
lands_advances (Extend x d r) lengths slot o waiting (Ok (On next far)) is (e, within) = inl (0, e, refl, refl, within)
lands_advances (Convert c b d) lengths slot o waiting (Ok (On next far)) is (e, within) = inl (0, e, refl, refl, within)
lands_advances (Jump distance) lengths slot o waiting (Ok (On next far)) is (e, within) = absurd is
lands_advances (JumpLong distance) lengths slot o waiting (Ok (On next far)) is (e, within) = absurd is
lands_advances (Branch w c l r distance) lengths slot o waiting (Ok (On next far)) is (e, within) = absurd is
lands_advances (Load z d b x) lengths slot o waiting (Ok (On next far)) is (e, within) = inl (0, e, refl, refl, within)
lands_advances (LoadSigned z d b x) lengths slot o waiting (Ok (On next far)) is (e, within) = inl (0, e, refl, refl, within)
lands_advances (Store z b x v) lengths slot o waiting (Ok (On next far)) is (e, within) = inl (0, e, refl, refl, within)
lands_advances (LoadWide d v) lengths slot o waiting (Ok (On next far)) is (e, within) = inl (1, e, refl, refl, within)
lands_advances Exit lengths slot o waiting (Ok (On next far)) is (e, within) = absurd is

-- ---- a comparison
-- what it does once both sides are read
compares : (span : Span) (s : State) (width : Width) (comparison : Comparison) (left : ℕ) (right : Operand) (distance : ℤ) (a b : ℕ) → register_of s left ≡ Ok a → operand_in s right ≡ Ok b → does span s (Branch width comparison left right distance) ≡ Ok (On s (if holds_of comparison width (cut width a) (cut width b) then distance else pos 0))
compares span s width comparison left right distance a b x y = rw (x, y) refl

same_number : (a b : ℕ) (r : Result ℕ FaultKind) → r ≡ Ok a → r ≡ Ok b → a ≡ b
same_number a b r e f = let both : Ok a ≡ r = sym e in cc

pub branch_advances : (span : Span) (s : State) (slot n : ℕ) (width : Width) (comparison : Comparison) (left : ℕ) (right : Operand) (distance : ℤ) (a : TrackedState) (taken untaken : Option TrackedState) (waiting : Waiting) → distance ≡ pos n → TrackedEdge a width comparison left right true taken → TrackedEdge a width comparison left right false untaken → (WithinTracked taken (lengths_of span) s → WithinTracked (waiting_at waiting (slot + 1 + n)) (lengths_of span) s) → ContainsTracked a (lengths_of span) s → Advances (lengths_of span) slot (Branch width comparison left right distance) untaken waiting (does span s (Branch width comparison left right distance))
branch_advances span s slot n width comparison left right distance a taken untaken waiting is holds fails added contains =
    let (x, (y, ex, ey, when_true)) = holds span s contains in
    let (v, (w, ev, ew, when_false)) = fails span s contains in
    let same_left : v ≡ x = same_number v x (register_of s left) ev ex in
    let same_right : w ≡ y = same_number w y (operand_in s right) ew ey in
    let at_false : holds_of comparison width (cut width x) (cut width y) ≡ false → WithinTracked untaken (lengths_of span) s =
    λ no. when_false (ap (λ m. holds_of comparison width (cut width m) (cut width w)) same_left ∙ ap (λ m. holds_of comparison width (cut width x) (cut width m)) same_right ∙ no) in
    let done = compares span s width comparison left right distance x y ex ey in
    subst (λ m. Advances (lengths_of span) slot (Branch width comparison left right distance) untaken waiting m) (sym done)
    (⊎_elim
    (λ (holding : holds_of comparison width (cut width x) (cut width y) ≡ true).
    subst (λ b. Advances (lengths_of span) slot (Branch width comparison left right distance) untaken waiting (Ok (On s (if b then distance else pos 0)))) (sym holding)
    (inr (n, is, ap Some is, added (when_true holding))))
    (λ (failing : holds_of comparison width (cut width x) (cut width y) ≡ false).
    subst (λ b. Advances (lengths_of span) slot (Branch width comparison left right distance) untaken waiting (Ok (On s (if b then distance else pos 0)))) (sym failing)
    (inl (0, refl, refl, refl, at_false failing)))
    (cases_Bool (holds_of comparison width (cut width x) (cut width y))))

pub insn_advances : (span : Span) (s : State) (slot n target : ℕ) (insn : Insn) (width : Width) (comparison : Comparison) (left : ℕ) (right : Operand) (distance : ℤ) (a : TrackedState) (taken untaken next : Option TrackedState) (waiting : Waiting) → insn ≡ Branch width comparison left right distance → next ≡ untaken → target ≡ slot + 1 + n → distance ≡ pos n → TrackedEdge a width comparison left right true taken → TrackedEdge a width comparison left right false untaken → (WithinTracked taken (lengths_of span) s → WithinTracked (waiting_at waiting target) (lengths_of span) s) → ContainsTracked a (lengths_of span) s → Advances (lengths_of span) slot insn next waiting (does span s insn)
insn_advances span s slot n target insn width comparison left right distance a taken untaken next waiting is goes to forward holds fails added contains =
    subst (λ i. Advances (lengths_of span) slot i next waiting (does span s i)) (sym is)
    (subst (λ o. Advances (lengths_of span) slot (Branch width comparison left right distance) o waiting (does span s (Branch width comparison left right distance))) (sym goes)
    (branch_advances span s slot n width comparison left right distance a taken untaken waiting forward holds fails
    (λ within. subst (λ k. WithinTracked (waiting_at waiting k) (lengths_of span) s) to (added within))
    contains))

-- what follows from a promise on success
pub ok_more : {T E : Type 0} (r : Result T E) (P Q : T → Type 0) → ((t : T) → P t → Q t) → IfOk r P → IfOk r Q
ok_more (Ok t) P Q f p = f t p
ok_more (Err e) P Q f p = p
