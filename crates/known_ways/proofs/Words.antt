-- Bytes that begin alike are programs that begin alike.
use Rattle.std.proofs.Common.{◌≡◌, ℕ, zero, suc, ◌+◌, ◌*◌, ◌/◌, ◌<◌, ◌≤◌, nat_lt, true, List, length, take, get_or, Option, Some, refl, sym, ap, ◌∙◌, arith}
use Rattle.std.specs.List.{slice_get}
use Rattle.std.proofs.lemmas.List.{get_or-take}
use Rattle.std.proofs.lemmas.Bool.Decides.{nat_tests}
use Rattle.bpf_words.specs.declared.instruction.Insn.{Insn}
use Rattle.bpf_words.specs.Slots.{slot_at}
use Rattle.bpf_words.specs.Words.{next_slot, reads, read_at, is_second, insn_at, program_of}
use Rattle.bpf_words.proofs.Second.{program-entry}
use Rattle.known_ways.specs.Told.{BeginsWith}

byte_same : (a b : List ℕ) (m i : ℕ) → take m a ≡ take m b → i < m → get_or a i 0 ≡ get_or b i 0
byte_same a b m i same less =
    sym (get_or-take m a i 0 less) ∙ ap (λ (x : List ℕ). get_or x i 0) same ∙ get_or-take m b i 0 less

slot_same : (a b : List ℕ) (n k : ℕ) → take (8 * n) a ≡ take (8 * n) b → k < n → slot_at a k ≡ slot_at b k
slot_same a b n k same less =
    rw (byte_same a b (8 * n) (8 * k) same (omega arith), byte_same a b (8 * n) (8 * k + 1) same (omega arith), byte_same a b (8 * n) (8 * k + 2) same (omega arith), byte_same a b (8 * n) (8 * k + 3) same (omega arith), byte_same a b (8 * n) (8 * k + 4) same (omega arith), byte_same a b (8 * n) (8 * k + 5) same (omega arith), byte_same a b (8 * n) (8 * k + 6) same (omega arith), byte_same a b (8 * n) (8 * k + 7) same (omega arith)) refl

next_is : (a : List ℕ) (n k : ℕ) → 8 * n ≤ length a → k < n → next_slot a k ≡ Some (slot_at a k)
next_is a n k long less =
    let within : nat_lt k (length a / 8) ≡ true = grind (arith, nat_tests) in
    rw within refl

read_same : (a b : List ℕ) (n k : ℕ) → 8 * n ≤ length a → 8 * n ≤ length b → take (8 * n) a ≡ take (8 * n) b → k + 1 < n → read_at a k ≡ read_at b k
unfolding read_at
read_same a b n k long other same less =
    ap (λ (o : Option ℕ). reads (slot_at a k) o) (next_is a n (k + 1) long less ∙ ap (λ (s : ℕ). Some s) (slot_same a b n (k + 1) same less) ∙ sym (next_is b n (k + 1) other less))
    ∙ ap (λ (s : ℕ). reads s (next_slot b (k + 1))) (slot_same a b n k same (omega (arith, less)))

second_same : (a b : List ℕ) (n k : ℕ) → 8 * n ≤ length a → 8 * n ≤ length b → take (8 * n) a ≡ take (8 * n) b → k < n → is_second a k ≡ is_second b k
unfolding is_second
second_same a b n zero long other same less = refl
second_same a b n (suc k) long other same less =
    rw (second_same a b n k long other same (omega (arith, less)), read_same a b n k long other same (omega (arith, less))) refl

entry_same : (a b : List ℕ) (n k : ℕ) → 8 * n ≤ length a → 8 * n ≤ length b → take (8 * n) a ≡ take (8 * n) b → k + 1 < n → slice_get (program_of a) k ≡ slice_get (program_of b) k
entry_same a b n k long other same less =
    let here : insn_at a k ≡ insn_at b k = rw (second_same a b n k long other same (omega (arith, less)), read_same a b n k long other same less) refl in
    program-entry a k (omega (arith, long, less)) ∙ ap (λ (x : Option Insn). Some x) here ∙ sym (program-entry b k (omega (arith, other, less)))

pub begins_alike : (count : ℕ) (others bytes : List ℕ) → BeginsWith count others bytes → count ≤ length others / 8 → (k : ℕ) → k + 1 < count → slice_get (program_of bytes) k ≡ slice_get (program_of others) k
begins_alike count others bytes begins within k less =
    entry_same bytes others count k begins.long (omega (arith, within)) begins.same less
