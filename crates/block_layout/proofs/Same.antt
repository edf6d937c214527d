-- A program that keeps, at other slots, what each slot of an old one does has the old one's outcomes.
use Rattle.std.proofs.Common.{◌≡◌, ℕ, ℤ, pos, ◌+ℤ◌, zero, suc, ◌+◌, ◌-◌, ◌<◌, ◌≤◌, ◌⊎◌, inl, inr, Bool, true, false, if◌then◌else◌, cond, eqb, List, length, set, slice_index, Option, Some, Result, Ok, Err, refl, sym, ap, ◌∙◌, subst, arith}
use Rattle.std.proofs.lemmas.Bool.{lt-ltb}
use Rattle.std.proofs.lemmas.Option.{slice_get_within}
use Rattle.span_context.specs.Context.{SpanBytes}
use Rattle.bpf_words.specs.declared.instruction.Insn.{Insn}
use Rattle.bpf_words.specs.declared.instruction.Insn.TheVariants.{Compute, Negate, Extend, Convert, Jump, JumpLong, Branch, Load, LoadSigned, Store, LoadWide, Exit}
use Rattle.bpf_words.specs.Flow.{StartsAt, jump_of, falls_through, slots_of}
use Rattle.semantics.specs.declared.FaultKind.{FaultKind}
use Rattle.semantics.specs.declared.FaultKind.TheVariants.{WriteR10}
use Rattle.semantics.specs.State.{State, start, register_of, operand_in}
use Rattle.semantics.specs.Value.{cut, value_of, negated, extended, converted, holds_of, with_sign}
use Rattle.semantics.specs.Memory.{address_of, load, store, bytes_in, bytes_in_signed}
use Rattle.semantics.specs.Step.{Program, Moved, On, Returns, Next, then_with, write_and_go, first_of, perform, go_to, land, step}
use Rattle.semantics.specs.Outcomes.{after, outcome_from}
use Rattle.block_layout.specs.Meaning.{renumbered, MeansSame, IsForward, IsOn}
use Rattle.block_layout.specs.Loops.{IsAway}
use Rattle.block_layout.specs.Kept.{aimed, LeadsTo, Arrives, IsMoved, IsKept, KeepsAll}

-- the state at another slot
abbrev pub at : ℕ → State → State
at slot s = record s { slot = slot }

-- ---- an instruction with another distance does the same at another slot
-- both go on to the next instruction, or both as their jumps say
abbrev pub BothFall : Insn → ℤ → ℤ → Type 0
BothFall insn distance onward = (falls_through insn ≡ true) × (distance ≡ pos (slots_of insn - 1)) × (onward ≡ distance)

abbrev pub BothGo : Insn → Insn → ℤ → ℤ → Type 0
BothGo insn moved distance onward = BothFall insn distance onward ⊎ ((jump_of insn ≡ Some distance) × (jump_of moved ≡ Some onward))

abbrev pub Shifted : State → ℕ → Insn → Insn → Moved → Moved → Type 0
Shifted s here insn moved (Ok (On next distance)) there = (onward : ℤ) × (there ≡ Ok (On (at here next) onward)) × (next.slot ≡ s.slot) × BothGo insn moved distance onward
Shifted s here insn moved (Ok (Returns value)) there = there ≡ Ok (Returns value)
Shifted s here insn moved (Err kind) there = there ≡ Err kind

shifts_then : {A : Type 0} (s : State) (here : ℕ) (insn moved : Insn) (part : Result A FaultKind) (rest there : A → Moved) → ((a : A) → Shifted s here insn moved (rest a) (there a)) → Shifted s here insn moved (then_with part rest) (then_with part there)
shifts_then s here insn moved (Ok a) rest there h = h a
shifts_then s here insn moved (Err kind) rest there h = refl

shifts_write : (s : State) (here : ℕ) (insn moved : Insn) (register value : ℕ) → falls_through insn ≡ true → Shifted s here insn moved (write_and_go s register value (pos (slots_of insn - 1))) (write_and_go (at here s) register value (pos (slots_of insn - 1)))
shifts_write s here insn moved register value falls =
    let go : State → Moved = λ new. Ok (On new (pos (slots_of insn - 1))) in
    let new : State = record s { registers = set s.registers register (Some value) } in
    elim (eqb register 10) as (λ b. Shifted s here insn moved (then_with (cond b (Err WriteR10) (Ok new)) go) (then_with (cond b (Err WriteR10) (Ok (at here new))) go)) [
      | true ↦ refl
      | false ↦ (pos (slots_of insn - 1), refl, refl, inl (falls, refl, refl))
    ]

shifts_one : {A : Type 0} (s : State) (here : ℕ) (insn moved : Insn) (register : ℕ) (part : Result A FaultKind) (value : A → ℕ) → falls_through insn ≡ true → Shifted s here insn moved (then_with part (λ a. write_and_go s register (value a) (pos (slots_of insn - 1)))) (then_with part (λ a. write_and_go (at here s) register (value a) (pos (slots_of insn - 1))))
shifts_one s here insn moved register part value falls =
    shifts_then s here insn moved part (λ a. write_and_go s register (value a) (pos (slots_of insn - 1))) (λ a. write_and_go (at here s) register (value a) (pos (slots_of insn - 1)))
    (λ a. shifts_write s here insn moved register (value a) falls)

shifts_two : {A B : Type 0} (s : State) (here : ℕ) (insn moved : Insn) (register : ℕ) (first : Result A FaultKind) (second : A → Result B FaultKind) (value : A → B → ℕ) → falls_through insn ≡ true → Shifted s here insn moved (then_with first (λ a. then_with (second a) (λ b. write_and_go s register (value a b) (pos (slots_of insn - 1))))) (then_with first (λ a. then_with (second a) (λ b. write_and_go (at here s) register (value a b) (pos (slots_of insn - 1)))))
shifts_two s here insn moved register first second value falls =
    shifts_then s here insn moved first (λ a. then_with (second a) (λ b. write_and_go s register (value a b) (pos (slots_of insn - 1)))) (λ a. then_with (second a) (λ b. write_and_go (at here s) register (value a b) (pos (slots_of insn - 1))))
    (λ a. shifts_one s here insn moved register (second a) (value a) falls)

both_ways : (insn moved : Insn) (holds : Bool) (distance onward : ℤ) → falls_through insn ≡ true → slots_of insn ≡ 1 → jump_of insn ≡ Some distance → jump_of moved ≡ Some onward → BothGo insn moved (if holds then distance else pos 0) (if holds then onward else pos 0)
both_ways insn moved true distance onward falls one was is = inr (was, is)
both_ways insn moved false distance onward falls one was is = inl (falls, rw one refl, refl)

shifts : (bytes : SpanBytes) (s : State) (here : ℕ) (insn : Insn) (onward : ℤ) → Shifted s here insn (aimed insn onward) (perform bytes s insn) (perform bytes (at here s) (aimed insn onward))
shifts bytes s here (Compute width operation destination operand) onward =
    shifts_two s here (Compute width operation destination operand) (Compute width operation destination operand) destination (first_of s operation destination) (λ a. operand_in s operand) (λ a b. value_of operation width (cut width a) (cut width b)) refl
shifts bytes s here (Negate width destination) onward =
    shifts_one s here (Negate width destination) (Negate width destination) destination (register_of s destination) (λ a. negated width (cut width a)) refl
shifts bytes s here (Extend extension destination source) onward =
    shifts_one s here (Extend extension destination source) (Extend extension destination source) destination (register_of s source) (λ a. extended extension a) refl
shifts bytes s here (Convert conversion bits destination) onward =
    shifts_one s here (Convert conversion bits destination) (Convert conversion bits destination) destination (register_of s destination) (λ a. converted conversion bits a) refl
shifts bytes s here (Jump distance) onward = (distance, refl, refl, inr (refl, refl))
shifts bytes s here (JumpLong distance) onward = (distance, refl, refl, inr (refl, refl))
shifts bytes s here (Branch width comparison left right distance) onward =
    let was : Insn = Branch width comparison left right distance in
    let is : Insn = Branch width comparison left right onward in
    let holds : ℕ → ℕ → Bool = λ a b. holds_of comparison width (cut width a) (cut width b) in
    let goes : ℕ → ℕ → Moved = λ a b. Ok (On s (if holds a b then distance else pos 0)) in
    let there : ℕ → ℕ → Moved = λ a b. Ok (On (at here s) (if holds a b then onward else pos 0)) in
    shifts_then s here was is (register_of s left) (λ a. then_with (operand_in s right) (goes a)) (λ a. then_with (operand_in s right) (there a))
    (λ a. shifts_then s here was is (operand_in s right) (goes a) (there a)
    (λ b. ((if holds a b then onward else pos 0), refl, refl, both_ways was is (holds a b) distance onward refl refl refl refl)))
shifts bytes s here (Load size destination base offset) onward =
    shifts_two s here (Load size destination base offset) (Load size destination base offset) destination (register_of s base) (λ address. load bytes s.stack (address_of address offset) (bytes_in size)) (λ address value. value) refl
shifts bytes s here (LoadSigned size destination base offset) onward =
    shifts_two s here (LoadSigned size destination base offset) (LoadSigned size destination base offset) destination (register_of s base) (λ address. load bytes s.stack (address_of address offset) (bytes_in_signed size)) (λ address value. with_sign size value) refl
shifts bytes s here (Store size base offset operand) onward =
    let insn : Insn = Store size base offset operand in
    let goes : List (Option ℕ) → Moved = λ stack. Ok (On (record s { stack = stack }) (pos 0)) in
    let there : List (Option ℕ) → Moved = λ stack. Ok (On (at here (record s { stack = stack })) (pos 0)) in
    let stores : ℕ → ℕ → Result (List (Option ℕ)) FaultKind = λ address value. store bytes s.stack (address_of address offset) (bytes_in size) value in
    shifts_then s here insn insn (register_of s base) (λ address. then_with (operand_in s operand) (λ value. then_with (stores address value) goes)) (λ address. then_with (operand_in s operand) (λ value. then_with (stores address value) there))
    (λ address. shifts_then s here insn insn (operand_in s operand) (λ value. then_with (stores address value) goes) (λ value. then_with (stores address value) there)
    (λ value. shifts_then s here insn insn (stores address value) goes there (λ stack. (pos 0, refl, refl, inl (refl, refl, refl)))))
shifts bytes s here (LoadWide destination value) onward = shifts_write s here (LoadWide destination value) (LoadWide destination value) destination value refl
shifts bytes s here Exit onward = shifts_then s here Exit Exit (register_of s 0) (λ value. Ok (Returns value)) (λ value. Ok (Returns value)) (λ value. refl)

-- ---- where a step leads
lands : (program : Program) (next : State) (distance : ℤ) (to : ℕ) → IsAway next.slot distance to → to < length program → land program (On next distance) ≡ Ok (Next (at to next))
lands program next distance to away within =
    let test = lt-ltb to (length program) within in
    ap (λ (target : ℤ). go_to program next target) (sym away) ∙ rw test refl

stepped : (program : Program) (bytes : SpanBytes) (s : State) (insn : Insn) → StartsAt program s.slot insn → step program bytes s ≡ then_with (perform bytes s insn) (land program)
stepped program bytes s insn starts = rw starts refl

-- a slot from which a run leads on is in the program
from_within : (program : Program) (from to : ℕ) → LeadsTo program from to → from < length program
from_within program from to (within, inl same) = omega arith
from_within program from to (within, inr (distance, starts, away)) = slice_get_within program from (Some (Jump distance)) starts

-- ---- runs of both
abbrev pub SameFrom : Program → Program → List ℕ → List ℕ → SpanBytes → ℕ → Type 0
SameFrom old new places heights bytes n =
    (m : ℕ) (s : State) (here : ℕ) → 0 < slice_index heights s.slot → slice_index heights s.slot ≤ n → LeadsTo new here (slice_index places s.slot) → length new ≤ here + m
    → outcome_from new bytes m (at here s) ≡ renumbered (λ slot. slice_index places slot) (outcome_from old bytes n s)

-- where the run comes by a jump at most, with steps left
pub record Came (new : Program) (bytes : SpanBytes) (m here place : ℕ) (s : State) : Type 0 where
  pub left : ℕ
  pub enough : length new ≤ place + suc left
  pub same : outcome_from new bytes m (at here s) ≡ outcome_from new bytes (suc left) (at place s)

jump_on : (new : Program) (bytes : SpanBytes) (left here place : ℕ) (s : State) (distance : ℤ) → StartsAt new here (Jump distance) → IsAway here distance place → place < length new → outcome_from new bytes (suc left) (at here s) ≡ outcome_from new bytes left (at place s)
unfolding outcome_from
jump_on new bytes left here place s distance starts away within =
    ap (λ g. after g here (λ next. outcome_from new bytes left next)) (stepped new bytes (at here s) (Jump distance) starts ∙ lands new (at here s) distance place away within)

ahead : (here place : ℕ) (distance : ℤ) → IsOn distance → IsAway here distance place → here < place
ahead here place distance (n, is) away =
    let at_n : pos place ≡ pos (here + 1 + n) = away ∙ ap (λ (d : ℤ). pos (here + 1) +ℤ d) is in
    let same : place ≡ here + 1 + n = cc in
    omega arith

comes : (new : Program) (bytes : SpanBytes) → IsForward new → (m here place : ℕ) (s : State) → LeadsTo new here place → length new ≤ here + m → Came new bytes m here place s
comes new bytes forward zero here place s leads enough = let within = from_within new here place leads in absurd (omega arith)
comes new bytes forward (suc m) here place s (within, inl same) enough =
    record { left = m; enough = omega arith; same = ap (λ (k : ℕ). outcome_from new bytes (suc m) (at k s)) same }
comes new bytes forward (suc zero) here place s (within, inr (distance, starts, away)) enough =
    let inside = slice_get_within new here (Some (Jump distance)) starts in
    let less = ahead here place distance (forward.jumps here (Jump distance) distance starts refl) away in
    absurd (omega arith)
comes new bytes forward (suc (suc m)) here place s (within, inr (distance, starts, away)) enough =
    let less = ahead here place distance (forward.jumps here (Jump distance) distance starts refl) away in
    record { left = m; enough = omega arith; same = jump_on new bytes (suc m) here place s distance starts away within }

-- where the old run goes and where the new one does
pub record Ways (new : Program) (places heights : List ℕ) (slot : ℕ) (distance onward : ℤ) : Type 0 where
  pub to : ℕ
  pub next : ℕ
  pub was : IsAway slot distance to
  pub is : IsAway (slice_index places slot) onward next
  pub arrives : Arrives new places heights slot to next
  pub less : slice_index places slot < next

some_slots : (insn : Insn) → (n : ℕ) × (slots_of insn ≡ suc n)
some_slots (Compute width operation destination operand) = (0, refl)
some_slots (Negate width destination) = (0, refl)
some_slots (Extend extension destination source) = (0, refl)
some_slots (Convert conversion bits destination) = (0, refl)
some_slots (Jump distance) = (0, refl)
some_slots (JumpLong distance) = (0, refl)
some_slots (Branch width comparison left right distance) = (0, refl)
some_slots (Load size destination base offset) = (0, refl)
some_slots (LoadSigned size destination base offset) = (0, refl)
some_slots (Store size base offset operand) = (0, refl)
some_slots (LoadWide destination value) = (1, refl)
some_slots Exit = (0, refl)

ways : (new : Program) (places heights : List ℕ) (slot : ℕ) (insn : Insn) (distance onward : ℤ) → IsForward new → (kept : IsMoved new places heights slot insn) → BothGo insn kept.moved distance onward → Ways new places heights slot distance onward
ways new places heights slot insn distance onward forward kept (inl (falls, is, same)) =
    let some = some_slots insn in
    let many : slots_of insn ≡ suc some.0 = some.1 in
    let place : ℕ = slice_index places slot in
    let old_to : slot + slots_of insn ≡ slot + 1 + (slots_of insn - 1) = omega arith in
    let new_to : slice_index places slot + slots_of insn ≡ slice_index places slot + 1 + (slots_of insn - 1) = omega arith in
    record {
      to = slot + slots_of insn;
      next = slice_index places slot + slots_of insn;
      was = ap pos old_to ∙ ap (λ (d : ℤ). pos (slot + 1) +ℤ d) (sym is);
      is = ap pos new_to ∙ ap (λ (d : ℤ). pos (slice_index places slot + 1) +ℤ d) (sym (same ∙ is));
      arrives = kept.falls falls;
      less = omega arith;
    }
ways new places heights slot insn distance onward forward kept (inr (was, is)) =
    let both = kept.jumps distance onward was is in
    record {
      to = both.to;
      next = both.next;
      was = both.was;
      is = both.is;
      arrives = both.arrives;
      less = ahead (slice_index places slot) both.next onward (forward.jumps (slice_index places slot) kept.moved onward kept.starts is) both.is;
    }

-- a slot that has a height is in the old program
placed_within : (old new : Program) (places heights : List ℕ) → KeepsAll old new places heights → (slot : ℕ) → 0 < slice_index heights slot → slot < length old
placed_within old new places heights keeps slot some = let kept = keeps.each slot some in slice_get_within old slot (Some kept.0) kept.1

-- the outcomes after what both instructions did
lands_same : (old new : Program) (places heights : List ℕ) (bytes : SpanBytes) (n left : ℕ) (s : State) (insn : Insn) → KeepsAll old new places heights → SameFrom old new places heights bytes n → (kept : IsMoved new places heights s.slot insn) → slice_index heights s.slot ≤ suc n → length new ≤ slice_index places s.slot + suc left
    → (was is : Moved) → Shifted s (slice_index places s.slot) insn kept.moved was is
    → after (then_with is (land new)) (slice_index places s.slot) (λ next. outcome_from new bytes left next) ≡ renumbered (λ slot. slice_index places slot) (after (then_with was (land old)) s.slot (λ next. outcome_from old bytes n next))
lands_same old new places heights bytes n left s insn keeps same kept low enough (Ok (On t distance)) is (onward, there, slot, go) =
    let both = ways new places heights s.slot insn distance onward keeps.forward kept go in
    let inside = placed_within old new places heights keeps both.to both.arrives.0 in
    let within = from_within new both.next (slice_index places both.to) both.arrives.2 in
    let away : IsAway t.slot distance both.to = subst (λ k. IsAway k distance both.to) (sym slot) both.was in
    let was_to = lands old t distance both.to away inside in
    let is_to = lands new (at (slice_index places s.slot) t) onward both.next both.is within in
    let goes_on = same left (at both.to t) both.next both.arrives.0 (omega (arith, both.arrives.1)) both.arrives.2 (omega (arith, both.less)) in
    ap (λ (m : Moved). after (then_with m (land new)) (slice_index places s.slot) (λ next. outcome_from new bytes left next)) there
    ∙ ap (λ g. after g (slice_index places s.slot) (λ next. outcome_from new bytes left next)) is_to
    ∙ goes_on
    ∙ ap (λ g. renumbered (λ slot. slice_index places slot) (after g s.slot (λ next. outcome_from old bytes n next))) (sym was_to)
lands_same old new places heights bytes n left s insn keeps same kept low enough (Ok (Returns value)) is there =
    ap (λ (m : Moved). after (then_with m (land new)) (slice_index places s.slot) (λ next. outcome_from new bytes left next)) there
lands_same old new places heights bytes n left s insn keeps same kept low enough (Err kind) is there =
    ap (λ (m : Moved). after (then_with m (land new)) (slice_index places s.slot) (λ next. outcome_from new bytes left next)) there

-- what an unconditional jump does
alone_jumps : (bytes : SpanBytes) (s : State) (insn : Insn) (distance : ℤ) → falls_through insn ≡ false → jump_of insn ≡ Some distance → perform bytes s insn ≡ Ok (On s distance)
alone_jumps bytes s (Compute width operation destination operand) distance alone jumps = absurd (cc)
alone_jumps bytes s (Negate width destination) distance alone jumps = absurd (cc)
alone_jumps bytes s (Extend extension destination source) distance alone jumps = absurd (cc)
alone_jumps bytes s (Convert conversion bits destination) distance alone jumps = absurd (cc)
alone_jumps bytes s (Jump other) distance alone jumps = cc
alone_jumps bytes s (JumpLong other) distance alone jumps = cc
alone_jumps bytes s (Branch width comparison left right other) distance alone jumps = absurd (cc)
alone_jumps bytes s (Load size destination base offset) distance alone jumps = absurd (cc)
alone_jumps bytes s (LoadSigned size destination base offset) distance alone jumps = absurd (cc)
alone_jumps bytes s (Store size base offset operand) distance alone jumps = absurd (cc)
alone_jumps bytes s (LoadWide destination value) distance alone jumps = absurd (cc)
alone_jumps bytes s Exit distance alone jumps = absurd (cc)

one_more : (old new : Program) (places heights : List ℕ) (bytes : SpanBytes) (n left : ℕ) (s : State) → KeepsAll old new places heights → SameFrom old new places heights bytes n → slice_index heights s.slot ≤ suc n → length new ≤ slice_index places s.slot + suc left → IsKept old new places heights s.slot
    → outcome_from new bytes (suc left) (at (slice_index places s.slot) s) ≡ renumbered (λ slot. slice_index places slot) (outcome_from old bytes (suc n) s)
unfolding outcome_from
one_more old new places heights bytes n left s keeps same low enough (insn, starts, inl kept) =
    let moves : Shifted s (slice_index places s.slot) insn kept.moved (perform bytes s insn) (perform bytes (at (slice_index places s.slot) s) kept.moved) =
    subst (λ (m : Insn). Shifted s (slice_index places s.slot) insn m (perform bytes s insn) (perform bytes (at (slice_index places s.slot) s) m)) (sym kept.same.1) (shifts bytes s (slice_index places s.slot) insn kept.same.0) in
    ap (λ g. after g (slice_index places s.slot) (λ next. outcome_from new bytes left next)) (stepped new bytes (at (slice_index places s.slot) s) kept.moved kept.starts)
    ∙ lands_same old new places heights bytes n left s insn keeps same kept low enough (perform bytes s insn) (perform bytes (at (slice_index places s.slot) s) kept.moved) moves
    ∙ ap (λ g. renumbered (λ slot. slice_index places slot) (after g s.slot (λ next. outcome_from old bytes n next))) (sym (stepped old bytes s insn starts))
one_more old new places heights bytes n left s keeps same low enough (insn, starts, inr dropped) =
    let jumps = dropped.jumps in
    let inside = placed_within old new places heights keeps dropped.to dropped.arrives.0 in
    let goes : step old bytes s ≡ Ok (Next (at dropped.to s)) =
    stepped old bytes s insn starts ∙ ap (λ (m : Moved). then_with m (land old)) (alone_jumps bytes s insn jumps.0 dropped.alone jumps.1) ∙ lands old s jumps.0 dropped.to jumps.2 inside in
    let goes_on = same (suc left) (at dropped.to s) (slice_index places s.slot) dropped.arrives.0 (omega (arith, dropped.arrives.1)) dropped.arrives.2 enough in
    goes_on ∙ ap (λ g. renumbered (λ slot. slice_index places slot) (after g s.slot (λ next. outcome_from old bytes n next))) (sym goes)

pub same_from : (old new : Program) (places heights : List ℕ) (bytes : SpanBytes) → KeepsAll old new places heights → (n : ℕ) → SameFrom old new places heights bytes n
same_from old new places heights bytes keeps zero m s here some low leads enough = absurd (omega arith)
same_from old new places heights bytes keeps (suc n) m s here some low leads enough =
    let came = comes new bytes keeps.forward m here (slice_index places s.slot) s leads enough in
    came.same ∙ one_more old new places heights bytes n came.left s keeps (same_from old new places heights bytes keeps n) low came.enough (keeps.each s.slot some)

pub means_same : (old new : Program) (places heights : List ℕ) → KeepsAll old new places heights → MeansSame old new
means_same old new places heights keeps = record {
  place = λ slot. slice_index places slot;
  outcomes = λ bytes. same_from old new places heights bytes keeps (length old) (length new) start 0 keeps.some keeps.few keeps.begins (omega arith);
}
