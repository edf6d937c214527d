-- What a call keeps lies in the cells, stays there at stores elsewhere, and comes back.
use Rattle.std.proofs.Common.{◌≡◌, ◌⊎◌, inl, inr, ℕ, zero, suc, ◌+◌, ◌-◌, ◌*◌, ◌/◌, ◌%◌, ◌^◌, ◌<◌, ◌≤◌, ℤ, pos, negsuc, ◌+ℤ◌, Bool, true, false, cond, eqb, List, [], ◌∷◌, length, set, get_or, Option, Some, None, Result, Ok, Err, refl, sym, ◌∙◌, ap, subst, arith, w64}
use Rattle.std.specs.Prelude.{slice_get, ◌-ℤ◌}
use Rattle.std.specs.Int.{cast_unsigned}
use Rattle.std.specs.Result.{result_ok}
use Rattle.std.proofs.lemmas.Int.{ints}
use Rattle.std.proofs.lemmas.Bool.{ne_eqb}
use Rattle.span_context.specs.Context.{frame_end, SpanBytes}
use Rattle.bpf_words.specs.declared.instruction.Insn.{Insn}
use Rattle.semantics.specs.declared.FaultKind.{FaultKind}
use Rattle.semantics.specs.declared.FaultKind.TheVariants.{WriteR10}
use Rattle.semantics.specs.State.{State, register_of, set_value, written}
use Rattle.semantics.specs.Memory.{address_of, load, store, stored, stack_base, stack_number, or_unset}
use Rattle.semantics.specs.Step.{Moved, On, then_with, perform, write_and_go}
use Rattle.inlined_calls.specs.Calls.{Ended, follow, saving, restoring, saves, restores, perform_all}
use Rattle.inlined_calls.specs.Kept.{cell_under, HoldsCell, CellsHold, as_before, AreSet, AreBelow, IsWhole, Keeps, CallKeeps, StoresLeave, ReturnBrings}
use Rattle.inlined_calls.proofs.Bytes.{bytes_of, loads_stack, stores_stack, number_same, number_back, stored_long, stored_before, stored_at, stored_after}

-- ---- the address of a cell
down : (n : ℕ) → pos 0 -ℤ pos (suc n) ≡ negsuc n
down n = omega (arith, ints)

wraps : (n : ℕ) → n < 512 → (frame_end + cast_unsigned w64 (negsuc n)) % 2 ^ 64 ≡ stack_base + (512 - suc n)
wraps n h = omega (arith, h)

at_cell : (depth : ℕ) → depth + 8 ≤ 512 → address_of frame_end (pos 0 -ℤ pos (depth + 8)) ≡ stack_base + cell_under depth
at_cell depth h =
    let e : depth + 8 ≡ suc (depth + 7) = omega arith in
    let z : pos 0 -ℤ pos (depth + 8) ≡ negsuc (depth + 7) = ap (λ (n : ℕ). pos 0 -ℤ pos n) e ∙ down (depth + 7) in
    let less : depth + 7 < 512 = omega arith in
    ap (λ (k : ℤ). address_of frame_end k) z ∙ wraps (depth + 7) less ∙ ap (λ (n : ℕ). stack_base + (512 - n)) (sym e)

-- ---- keeping
stores_cell : (bytes : SpanBytes) (depth register value : ℕ) (before : State) → IsWhole before → depth + 8 ≤ 512 → register_of before register ≡ Ok value → perform bytes before (saving depth register) ≡ Ok (On (record before { stack = stored before.stack (cell_under depth) 8 value }) (pos 0))
stores_cell bytes depth register value before whole room is =
    let base = whole.frame in
    let at = at_cell depth room in
    let fits : cell_under depth + 8 ≤ 512 = omega arith in
    let writes : store bytes before.stack (address_of frame_end (pos 0 -ℤ pos (depth + 8))) 8 value ≡ Ok (stored before.stack (cell_under depth) 8 value)
    = ap (λ (a : ℕ). store bytes before.stack a 8 value) at ∙ stores_stack bytes before.stack (cell_under depth) 8 value fits in
    let go : List (Option ℕ) → Moved = λ stack. Ok (On (record before { stack = stack }) (pos 0)) in
    ap (λ (r : Result ℕ FaultKind). then_with r (λ address. then_with (register_of before register) (λ v. then_with (store bytes before.stack (address_of address (pos 0 -ℤ pos (depth + 8))) 8 v) go))) base
    ∙ ap (λ (r : Result ℕ FaultKind). then_with r (λ v. then_with (store bytes before.stack (address_of frame_end (pos 0 -ℤ pos (depth + 8))) 8 v) go)) is
    ∙ ap (λ (r : Result (List (Option ℕ)) FaultKind). then_with r go) writes

still_set : (registers : List ℕ) (before : State) (stack : List (Option ℕ)) → AreSet registers before → AreSet registers (record before { stack = stack })
still_set [] before stack areset = tt
still_set (register ∷ rest) before stack (one, others) = (one, still_set rest before stack others)

same_cells : (depth : ℕ) (registers : List ℕ) (before : State) (stack now : List (Option ℕ)) → CellsHold depth registers (record before { stack = stack }) now → CellsHold depth registers before now
same_cells depth [] before stack now hold = tt
same_cells depth (register ∷ rest) before stack now (one, others) = (one, same_cells (depth + 8) rest before stack now others)

pub keeps : CallKeeps
unfolding saves perform_all
keeps bytes depth [] before whole room areset =
    record { stack = before.stack; long = whole.long; above = λ index h. refl; cells = tt; runs = λ rest. refl }
keeps bytes depth (register ∷ registers) before whole room ((value, is, small), others) =
    let first : List (Option ℕ) = stored before.stack (cell_under depth) 8 value in
    let long : length before.stack ≡ 512 = whole.long in
    let fits : cell_under depth + 8 ≤ length before.stack = omega arith in
    let room_here : depth + 8 ≤ 512 = omega arith in
    let next : IsWhole (record before { stack = first }) = record { frame = whole.frame; long = stored_long before.stack (cell_under depth) 8 value fits ∙ long } in
    let under = keeps bytes (depth + 8) registers (record before { stack = first }) next (omega arith) (still_set registers before first others) in
    record {
      stack = under.stack;
      long = under.long;
      above = λ index h. under.above index (omega arith) ∙ stored_after before.stack (cell_under depth) 8 value index fits (omega arith);
      cells = ((value, is, number_back under.stack (cell_under depth) 8 value (λ j l. under.above (cell_under depth + j) (omega arith) ∙ stored_at before.stack (cell_under depth) 8 value j fits l) ∙ ap (λ (n : ℕ). Some n) (omega (arith, small))), same_cells (depth + 8) registers before first under.stack under.cells);
      runs = λ rest. ap (λ (m : Moved). follow m (λ new distance. perform_all bytes (saves (depth + 8) registers) new rest)) (stores_cell bytes depth register value before whole room_here is) ∙ under.runs rest;
    }

-- ---- stores elsewhere
pub leaves : StoresLeave
leaves depth [] before stack offset count value long room within apart hold = tt
leaves depth (register ∷ registers) before stack offset count value long room within (inl low) ((kept, is, holds), others) =
    let fits : offset + count ≤ length stack = omega arith in
    ((kept, is, number_same (stored stack offset count value) stack (cell_under depth) 8 (λ j l. stored_after stack offset count value (cell_under depth + j) fits (omega arith)) ∙ holds), leaves (depth + 8) registers before stack offset count value long (omega arith) within (inl (omega arith)) others)
leaves depth (register ∷ registers) before stack offset count value long room within (inr high) ((kept, is, holds), others) =
    let fits : offset + count ≤ length stack = omega arith in
    ((kept, is, number_same (stored stack offset count value) stack (cell_under depth) 8 (λ j l. stored_before stack offset count value (cell_under depth + j) fits (omega arith)) ∙ holds), leaves (depth + 8) registers before stack offset count value long (omega arith) within (inr (omega arith)) others)

-- ---- coming back
get-set_other : {A : Type 0} (xs : List A) (i j : ℕ) (a : A) → (j ≡ i → ⊥) → slice_get (set xs i a) j ≡ slice_get xs j
get-set_other [] i j a ne = refl
get-set_other (x ∷ xs) zero zero a ne = absurd (ne refl)
get-set_other (x ∷ xs) zero (suc j) a ne = refl
get-set_other (x ∷ xs) (suc i) zero a ne = refl
get-set_other (x ∷ xs) (suc i) (suc j) a ne = get-set_other xs i j a (λ same. ne (ap suc same))

writes_back : (s : State) (register value : ℕ) → register < 10 → write_and_go s register value (pos 0) ≡ Ok (On (record s { registers = set s.registers register (Some value) }) (pos 0))
writes_back s register value less =
    let ne : register ≡ 10 → ⊥ = λ same. absurd (omega arith) in
    let test : eqb register 10 ≡ false = ne_eqb register 10 ne in
    ap (λ (b : Bool). then_with (cond b (Err WriteR10) (Ok (record s { registers = set s.registers register (Some value) }))) (λ (new : State). Ok (On new (pos 0)))) test

loads_cell : (bytes : SpanBytes) (depth register value : ℕ) (after : State) → length bytes.context ≤ 72 → IsWhole after → depth + 8 ≤ 512 → register < 10 → stack_number after.stack (cell_under depth) 8 ≡ Some value → perform bytes after (restoring depth register) ≡ Ok (On (record after { registers = set after.registers register (Some value) }) (pos 0))
loads_cell bytes depth register value after short whole room less is =
    let base = whole.frame in
    let at = at_cell depth room in
    let fits : cell_under depth + 8 ≤ 512 = omega arith in
    let reads : load bytes after.stack (address_of frame_end (pos 0 -ℤ pos (depth + 8))) 8 ≡ Ok value
    = ap (λ (a : ℕ). load bytes after.stack a 8) at ∙ loads_stack bytes after.stack (cell_under depth) 8 short fits ∙ ap or_unset is in
    let go : ℕ → Moved = λ v. write_and_go after register v (pos 0) in
    ap (λ (r : Result ℕ FaultKind). then_with r (λ address. then_with (load bytes after.stack (address_of address (pos 0 -ℤ pos (depth + 8))) 8) go)) base
    ∙ ap (λ (r : Result ℕ FaultKind). then_with r go) reads
    ∙ writes_back after register value less

pub brings : ReturnBrings
unfolding restores perform_all
brings bytes depth [] before after rest short whole room below hold = refl
brings bytes depth (register ∷ registers) before after rest short whole room (less, others) ((value, was, is), hold) =
    let room_here : depth + 8 ≤ 512 = omega arith in
    let next : State = record after { registers = set after.registers register (Some value) } in
    let other : 10 ≡ register → ⊥ = λ same. absurd (omega arith) in
    let frame : register_of next 10 ≡ Ok frame_end = ap set_value (get-set_other after.registers register 10 (Some value) other) ∙ whole.frame in
    let still : IsWhole next = record { frame = frame; long = whole.long } in
    ap (λ (m : Moved). follow m (λ new distance. perform_all bytes (restores (depth + 8) registers) new rest)) (loads_cell bytes depth register value after short whole room_here less is)
    ∙ brings bytes (depth + 8) registers before next rest short still (omega arith) others hold
    ∙ ap (λ (v : Option ℕ). rest (as_before registers before (record after { registers = set after.registers register v }))) (sym (ap result_ok was))
