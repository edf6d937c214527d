-- What a load reads of memory that holds bytes fits its size, and a step leaves bytes.
use Rattle.std.proofs.Common.{ℕ, ℤ, zero, suc, pos, negsuc, ◌+◌, ◌-◌, ◌*◌, ◌^◌, ◌<◌, ◌≤◌, ◌+ℤ◌, Bool, true, false, nat_lt, if◌then◌else◌, List, ◌++◌, length, map, take, drop, get_or, Option, Some, None, Result, Ok, Err, sym, subst, ⊎_elim, arith}
use Rattle.std.specs.Prelude.{⊤, slice_get, slice_index_or, ◌==◌}
use Rattle.std.specs.List.{All}
use Rattle.std.specs.Int.{byte_at, bytes_low_first}
use Rattle.std.proofs.Math.Nat.{pow-succ'}
use Rattle.std.proofs.lemmas.Bool.{cases_lt}
use Rattle.std.proofs.lemmas.List.{get_or-drop, get_or_past}
use Rattle.std.proofs.lemmas.List.Elements.{All-append, All-take, All-drop, All-map, All-from_get_or}
use Rattle.byteorder.specs.Endian.{little_number, little_bytes}
use Rattle.byteorder.specs.Numbers.{little_from-lt}
use Rattle.span_context.specs.Context.{context_base, text_base, link_base, SpanBytes}
use Rattle.bpf_words.specs.declared.instruction.Insn.{Insn}
use Rattle.bpf_words.specs.declared.instruction.Insn.TheVariants.{Compute, Negate, Extend, Convert, Jump, JumpLong, Branch, Load, LoadSigned, Store, LoadWide, Exit}
use Rattle.semantics.specs.declared.FaultKind.{FaultKind}
use Rattle.semantics.specs.declared.FaultKind.TheVariants.{BadAddress, ReadOnly, WriteR10, OutOfCode}
use Rattle.semantics.specs.State.{State, register_of, operand_in}
use Rattle.semantics.specs.Value.{cut, value_of, negated, extended, converted, with_sign}
use Rattle.semantics.specs.Memory.{in_context, in_text, in_link, in_stack, is_lent, stack_base, joined, stack_number, or_unset, load, stored, store, address_of, bytes_in, bytes_in_signed}
use Rattle.semantics.specs.Step.{Program, On, Returns, Next, Moved, then_with, write_and_go, first_of, perform, go_to, land, step_at, step}
use Rattle.semantics.specs.Safe.{AreBytes}
use Rattle.bit_machine.specs.Machine.{LendsBytes, IsByte, HoldsBytes, LeadsToBytes}

-- ---- loads
abbrev pub IsBelow : ℕ → Option ℕ → Type 0
IsBelow bound None = ⊤
IsBelow bound (Some number) = number < bound

abbrev pub Reads : ℕ → Result ℕ FaultKind → Type 0
Reads bound (Ok number) = number < bound
Reads bound (Err kind) = ⊤

either : (bound : ℕ) (b : Bool) (x y : Result ℕ FaultKind) → Reads bound x → Reads bound y → Reads bound (if b then x else y)
either bound true x y first second = first
either bound false x y first second = second

number_fits : (count offset : ℕ) (numbers : List ℕ) → AreBytes numbers → little_number count (drop offset numbers) < 256 ^ count
number_fits count offset numbers small =
    little_from-lt 0 count (drop offset numbers) (λ k. subst (λ (n : ℕ). n < 256) (sym (get_or-drop offset numbers k 0)) (small (offset + k)))

joined_below : (bound : ℕ) (low high : Option ℕ) → IsByte low → IsBelow bound high → IsBelow (256 * bound) (joined low high)
joined_below bound None None first rest = tt
joined_below bound None (Some high) first rest = tt
joined_below bound (Some low) None first rest = tt
joined_below bound (Some low) (Some high) first rest = omega (arith, first, rest)

cell : (stack : List (Option ℕ)) (offset : ℕ) → All IsByte stack → IsByte (slice_index_or stack offset None)
cell stack offset holds =
    ⊎_elim
    (λ (inside : offset < length stack). holds offset None inside)
    (λ (past : length stack ≤ offset). subst (λ (c : Option ℕ). IsByte c) (sym (get_or_past stack offset None past)) tt)
    (cases_lt offset (length stack))

stack_below : (stack : List (Option ℕ)) (offset count : ℕ) → All IsByte stack → IsBelow (256 ^ count) (stack_number stack offset count)
unfolding stack_number
stack_below stack offset zero holds = omega arith
stack_below stack offset (suc count) holds =
    subst (λ bound. IsBelow bound (joined (slice_index_or stack offset None) (stack_number stack (offset + 1) count))) (sym (pow-succ' 256 count))
    (joined_below (256 ^ count) (slice_index_or stack offset None) (stack_number stack (offset + 1) count) (cell stack offset holds) (stack_below stack (offset + 1) count holds))

unset_reads : (bound : ℕ) (number : Option ℕ) → IsBelow bound number → Reads bound (or_unset number)
unset_reads bound None below = tt
unset_reads bound (Some number) below = below

pub load_reads : (bytes : SpanBytes) (stack : List (Option ℕ)) (address count : ℕ) → LendsBytes bytes → All IsByte stack → Reads (256 ^ count) (load bytes stack address count)
load_reads bytes stack address count lends holds =
    either (256 ^ count) (in_context bytes.context address count) _ _ (number_fits count (address - context_base) bytes.context lends.context)
    (either (256 ^ count) (in_text bytes.text address count) _ _ (number_fits count (address - text_base) bytes.text lends.text)
    (either (256 ^ count) (in_link bytes.link address count) _ _ (number_fits count (address - link_base) bytes.link lends.link)
    (either (256 ^ count) (in_stack address count) (or_unset (stack_number stack (address - stack_base) count)) (Err BadAddress)
    (unset_reads (256 ^ count) (stack_number stack (address - stack_base) count) (stack_below stack (address - stack_base) count holds)) tt)))

-- ---- stores
byte_small : (i n : ℕ) → byte_at i n < 256
byte_small zero n = omega arith
byte_small (suc i) n = omega arith

bytes_small : (i n x k : ℕ) → get_or (bytes_low_first i n x) k 0 < 256
bytes_small i zero x k = omega arith
bytes_small i (suc n) x zero = byte_small i x
bytes_small i (suc n) x (suc k) = bytes_small (suc i) n x k

stored_bytes : (stack : List (Option ℕ)) (offset count number : ℕ) → All IsByte stack → All IsByte (stored stack offset count number)
stored_bytes stack offset count number holds =
    All-append IsByte (take offset stack ++ map Some (little_bytes count number)) (drop (offset + count) stack)
    (All-append IsByte (take offset stack) (map Some (little_bytes count number)) (All-take IsByte offset stack holds)
    (All-map IsByte Some (little_bytes count number)
    (All-from_get_or (λ (n : ℕ). n < 256) (little_bytes count number) 0 (λ k l. bytes_small 0 count number k))))
    (All-drop IsByte (offset + count) stack holds)

abbrev Stores : Result (List (Option ℕ)) FaultKind → Type 0
Stores (Ok stack) = All IsByte stack
Stores (Err kind) = ⊤

either_store : (b c : Bool) (stack : List (Option ℕ)) → All IsByte stack → Stores (if b then Ok stack else if c then Err ReadOnly else Err BadAddress)
either_store true c stack holds = holds
either_store false true stack holds = tt
either_store false false stack holds = tt

store_bytes : (bytes : SpanBytes) (stack : List (Option ℕ)) (address count number : ℕ) → All IsByte stack → Stores (store bytes stack address count number)
store_bytes bytes stack address count number holds =
    either_store (in_stack address count) (is_lent bytes address count) (stored stack (address - stack_base) count number)
    (stored_bytes stack (address - stack_base) count number holds)

-- ---- what an instruction leaves
abbrev pub Leaves : Moved → Type 0
Leaves (Ok (On state distance)) = HoldsBytes state
Leaves (Ok (Returns number)) = ⊤
Leaves (Err kind) = ⊤

then_leaves : {A : Type 0} (first : Result A FaultKind) (rest : A → Moved) → ((a : A) → Leaves (rest a)) → Leaves (then_with first rest)
then_leaves (Ok a) rest each = each a
then_leaves (Err kind) rest each = tt

write_by : (b : Bool) (new : State) (distance : ℤ) → HoldsBytes new → Leaves (then_with (if b then Err WriteR10 else Ok new) (λ next. Ok (On next distance)))
write_by true new distance holds = tt
write_by false new distance holds = holds

write_leaves : (state : State) (register number : ℕ) (distance : ℤ) → HoldsBytes state → Leaves (write_and_go state register number distance)
write_leaves state register number distance holds = write_by (register == 10) _ distance holds

store_leaves : (state : State) (first : Result (List (Option ℕ)) FaultKind) → Stores first → Leaves (then_with first (λ stack. Ok (On (record state { stack = stack }) (pos 0))))
store_leaves state (Ok stack) holds = holds
store_leaves state (Err kind) holds = tt

perform_leaves : (bytes : SpanBytes) (state : State) (insn : Insn) → HoldsBytes state → Leaves (perform bytes state insn)
perform_leaves bytes state (Compute width operation destination operand) holds =
    then_leaves (first_of state operation destination) _ (λ a.
    then_leaves (operand_in state operand) _ (λ b.
    write_leaves state destination (value_of operation width (cut width a) (cut width b)) (pos 0) holds))
perform_leaves bytes state (Negate width destination) holds =
    then_leaves (register_of state destination) _ (λ a.
    write_leaves state destination (negated width (cut width a)) (pos 0) holds)
perform_leaves bytes state (Extend extension destination source) holds =
    then_leaves (register_of state source) _ (λ a. write_leaves state destination (extended extension a) (pos 0) holds)
perform_leaves bytes state (Convert conversion kept destination) holds =
    then_leaves (register_of state destination) _ (λ a.
    write_leaves state destination (converted conversion kept a) (pos 0) holds)
perform_leaves bytes state (Jump distance) holds = holds
perform_leaves bytes state (JumpLong distance) holds = holds
perform_leaves bytes state (Branch width comparison left right distance) holds =
    then_leaves (register_of state left) _ (λ a. then_leaves (operand_in state right) _ (λ b. holds))
perform_leaves bytes state (Load size destination base offset) holds =
    then_leaves (register_of state base) _ (λ address.
    then_leaves (load bytes state.stack (address_of address offset) (bytes_in size)) _ (λ number.
    write_leaves state destination number (pos 0) holds))
perform_leaves bytes state (LoadSigned size destination base offset) holds =
    then_leaves (register_of state base) _ (λ address.
    then_leaves (load bytes state.stack (address_of address offset) (bytes_in_signed size)) _ (λ number.
    write_leaves state destination (with_sign size number) (pos 0) holds))
perform_leaves bytes state (Store size base offset operand) holds =
    then_leaves (register_of state base) _ (λ address.
    then_leaves (operand_in state operand) _ (λ number.
    store_leaves state (store bytes state.stack (address_of address offset) (bytes_in size) number)
    (store_bytes bytes state.stack (address_of address offset) (bytes_in size) number holds)))
perform_leaves bytes state (LoadWide destination number) holds = write_leaves state destination number (pos 1) holds
perform_leaves bytes state Exit holds = then_leaves (register_of state 0) _ (λ number. tt)

-- ---- where a step leads
go_by_test : (b : Bool) (next : State) → HoldsBytes next → LeadsToBytes (if b then Ok (Next next) else Err OutOfCode)
go_by_test true next holds = holds
go_by_test false next holds = tt

goes : (program : Program) (state : State) (to : ℤ) → HoldsBytes state → LeadsToBytes (go_to program state to)
goes program state (pos slot) holds = go_by_test (nat_lt slot (length program)) _ holds
goes program state (negsuc n) holds = tt

lands : (program : Program) (moved : Moved) → Leaves moved → LeadsToBytes (then_with moved (land program))
lands program (Ok (On state distance)) holds = goes program state (pos (state.slot + 1) +ℤ distance) holds
lands program (Ok (Returns number)) holds = tt
lands program (Err kind) holds = tt

steps_on : (program : Program) (bytes : SpanBytes) (state : State) (slot : Option (Option Insn)) → HoldsBytes state → LeadsToBytes (step_at program bytes state slot)
steps_on program bytes state (Some (Some insn)) holds = lands program (perform bytes state insn) (perform_leaves bytes state insn holds)
steps_on program bytes state (Some None) holds = tt
steps_on program bytes state None holds = tt

pub step_bytes : (program : Program) (bytes : SpanBytes) (state : State) → HoldsBytes state → LeadsToBytes (step program bytes state)
step_bytes program bytes state holds = steps_on program bytes state (slice_get program state.slot) holds
