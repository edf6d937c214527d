-- Loads and stores on the stack, byte by byte.
use Rattle.std.proofs.Common.{◌≡◌, ℕ, zero, suc, ◌+◌, ◌-◌, ◌*◌, ◌/◌, ◌%◌, ◌^◌, ◌<◌, ◌≤◌, true, false, List, ◌++◌, length, map, take, drop, get_or, Option, Some, None, Ok, refl, sym, ◌∙◌, ap, subst, arith, length-append, length-drop}
use Rattle.std.proofs.lemmas.Bool.Decides.{nat_tests}
use Rattle.std.proofs.lemmas.Grind.{common_steps}
use Rattle.std.proofs.lemmas.Nat.{mod-pow-add, shr-shr}
use Rattle.std.proofs.lemmas.List.{get_or-take, get_or-drop, get_or_append_left, get_or-append-add}
use Rattle.std.proofs.Math.Nat.{pow-succ'}
use Rattle.byteorder.proofs.Bytes.{pow256}
use Rattle.std.specs.Int.{byte_at, bytes_low_first}
use Rattle.std.proofs.lemmas.List.{length-map}
use Rattle.byteorder.specs.Endian.{little_bytes}
use Rattle.byteorder.specs.Numbers.{length-bytes_low_first}
use Rattle.span_context.specs.Context.{SpanBytes}
use Rattle.semantics.specs.Memory.{in_context, in_text, in_link, in_stack, stack_base, load, store, stored, stack_number, or_unset, joined}

-- each byte of a stack by its offset, if it is set
abbrev pub bytes_of : List (Option ℕ) → ℕ → Option ℕ
bytes_of stack offset = get_or stack offset None

pub loads_stack : (bytes : SpanBytes) (stack : List (Option ℕ)) (offset count : ℕ) → length bytes.context ≤ 72 → offset + count ≤ 512 → load bytes stack (stack_base + offset) count ≡ or_unset (stack_number stack offset count)
loads_stack bytes stack offset count long h =
    let no : in_context bytes.context (stack_base + offset) count ≡ false = grind (arith, nat_tests) in
    let neither : in_text bytes.text (stack_base + offset) count ≡ false = grind (arith, nat_tests) in
    let nor : in_link bytes.link (stack_base + offset) count ≡ false = grind (arith, nat_tests) in
    let yes : in_stack (stack_base + offset) count ≡ true = grind (arith, nat_tests) in
    let at : stack_base + offset - stack_base ≡ offset = omega arith in
    simp (no, neither, nor, yes, at)

pub stores_stack : (bytes : SpanBytes) (stack : List (Option ℕ)) (offset count value : ℕ) → offset + count ≤ 512 → store bytes stack (stack_base + offset) count value ≡ Ok (stored stack offset count value)
stores_stack bytes stack offset count value h =
    let yes : in_stack (stack_base + offset) count ≡ true = grind (arith, nat_tests) in
    let at : stack_base + offset - stack_base ≡ offset = omega arith in
    simp (yes, at)

-- stacks of the same bytes hold the same number there
pub number_same : (a b : List (Option ℕ)) (offset count : ℕ) → ((j : ℕ) → j < count → bytes_of a (offset + j) ≡ bytes_of b (offset + j)) → stack_number a offset count ≡ stack_number b offset count
unfolding stack_number
number_same a b offset zero h = refl
number_same a b offset (suc count) h =
    let at : offset + 0 ≡ offset = omega arith in
    let first : bytes_of a offset ≡ bytes_of b offset = subst (λ (k : ℕ). bytes_of a k ≡ bytes_of b k) at (h 0 (omega arith)) in
    let rest = number_same a b (offset + 1) count (λ j l. subst (λ (k : ℕ). bytes_of a k ≡ bytes_of b k) (let e : offset + suc j ≡ offset + 1 + j = omega arith in e) (h (suc j) (omega arith))) in
    ap (λ (o : Option ℕ). joined o (stack_number a (offset + 1) count)) first ∙ ap (λ (o : Option ℕ). joined (bytes_of b offset) o) rest

low_and_high : (n count : ℕ) → n % 256 + 256 * (n / 256 % 256 ^ count) ≡ n % 256 ^ suc count
low_and_high n count =
    let whole = mod-pow-add n (8 * count) 8 in
    let small = pow256 count in
    let large : 256 ^ suc count ≡ 2 ^ (8 * count + 8) = pow256 (suc count) ∙ ap (λ (k : ℕ). 2 ^ k) (omega arith) in
    rw (large, small) (omega (arith, whole))

next_quotient : (n j : ℕ) → n / 256 ^ suc j ≡ n / 256 / 256 ^ j
next_quotient n j =
    let parts : n / 2 ^ 8 / 2 ^ (8 * j) ≡ n / 2 ^ (8 + 8 * j) = shr-shr n 8 (8 * j) in
    let large : 256 ^ suc j ≡ 2 ^ (8 + 8 * j) = pow256 (suc j) ∙ ap (λ (k : ℕ). 2 ^ k) (omega arith) in
    let small = pow256 j in
    rw (large, small) (sym parts)

first_byte : (stack : List (Option ℕ)) (offset n : ℕ) → bytes_of stack (offset + 0) ≡ Some (n / 256 ^ 0 % 256) → bytes_of stack offset ≡ Some (n % 256)
first_byte stack offset n e =
    let at : offset ≡ offset + 0 = omega arith in
    ap (bytes_of stack) at ∙ e ∙ ap (λ (m : ℕ). Some m) (omega arith)

next_byte : (stack : List (Option ℕ)) (offset j n : ℕ) → bytes_of stack (offset + suc j) ≡ Some (n / 256 ^ suc j % 256) → bytes_of stack (offset + 1 + j) ≡ Some (n / 256 / 256 ^ j % 256)
next_byte stack offset j n e =
    let at : offset + 1 + j ≡ offset + suc j = omega arith in
    ap (bytes_of stack) at ∙ e ∙ ap (λ (m : ℕ). Some (m % 256)) (next_quotient n j)

-- the bytes of a number, read again
pub number_back : (stack : List (Option ℕ)) (offset count n : ℕ) → ((j : ℕ) → j < count → bytes_of stack (offset + j) ≡ Some (n / 256 ^ j % 256)) → stack_number stack offset count ≡ Some (n % 256 ^ count)
unfolding stack_number
number_back stack offset zero n h = ap (λ (m : ℕ). Some m) (omega arith)
number_back stack offset (suc count) n h =
    let low : bytes_of stack offset ≡ Some (n % 256) = first_byte stack offset n (h 0 (omega arith)) in
    let high = number_back stack (offset + 1) count (n / 256) (λ j l. next_byte stack offset j n (h (suc j) (omega arith))) in
    simp (low, high) (ap (λ (m : ℕ). Some m) (low_and_high n count))

-- ---- what a store leaves on the stack
low_byte : (i n : ℕ) → byte_at i n ≡ n / 256 ^ i % 256
low_byte zero n = omega arith
low_byte (suc i) n = refl

byte_there : (i n x j : ℕ) → j < n → get_or (map Some (bytes_low_first i n x)) j None ≡ Some (x / 256 ^ (i + j) % 256)
byte_there i zero x j h = absurd (omega arith)
byte_there i (suc n) x zero h =
    let at : i ≡ i + 0 = omega arith in ap (λ (b : ℕ). Some b) (low_byte i x ∙ ap (λ (k : ℕ). x / 256 ^ k % 256) at)
byte_there i (suc n) x (suc j) h =
    let at : suc i + j ≡ i + suc j = omega arith in byte_there (suc i) n x j (omega arith) ∙ ap (λ (k : ℕ). Some (x / 256 ^ k % 256)) at

length_stored : (stack : List (Option ℕ)) (offset count value : ℕ) → offset + count ≤ length stack → (length (take offset stack) ≡ offset) × (length (map Some (little_bytes count value)) ≡ count)
length_stored stack offset count value h =
    (grind (arith, common_steps), simp length-map (length-bytes_low_first 0 count value))

pub stored_long : (stack : List (Option ℕ)) (offset count value : ℕ) → offset + count ≤ length stack → length (stored stack offset count value) ≡ length stack
stored_long stack offset count value h =
    let sizes = length_stored stack offset count value h in
    let taken : length (take offset stack) ≡ offset = sizes.0 in
    let added : length (map Some (little_bytes count value)) ≡ count = sizes.1 in
    simp (length-append, length-drop, taken, added) (omega arith)

pub stored_before : (stack : List (Option ℕ)) (offset count value k : ℕ) → offset + count ≤ length stack → k < offset → bytes_of (stored stack offset count value) k ≡ bytes_of stack k
stored_before stack offset count value k h before =
    let front = take offset stack in
    let mid = map Some (little_bytes count value) in
    let back = drop (offset + count) stack in
    let sizes = length_stored stack offset count value h in
    let taken : length (take offset stack) ≡ offset = sizes.0 in
    let both : length (front ++ mid) ≡ length front + length mid = length-append front mid in
    get_or_append_left (front ++ mid) back None k (omega arith) ∙ get_or_append_left front mid None k (omega arith) ∙ get_or-take offset stack k None before

pub stored_at : (stack : List (Option ℕ)) (offset count value j : ℕ) → offset + count ≤ length stack → j < count → bytes_of (stored stack offset count value) (offset + j) ≡ Some (value / 256 ^ j % 256)
stored_at stack offset count value j h within =
    let front = take offset stack in
    let mid = map Some (little_bytes count value) in
    let back = drop (offset + count) stack in
    let sizes = length_stored stack offset count value h in
    let taken : length (take offset stack) ≡ offset = sizes.0 in
    let added : length (map Some (little_bytes count value)) ≡ count = sizes.1 in
    let both : length (front ++ mid) ≡ length front + length mid = length-append front mid in
    let at : offset + j ≡ length front + j = omega arith in
    let zeroth : 0 + j ≡ j = omega arith in
    get_or_append_left (front ++ mid) back None (offset + j) (omega arith)
    ∙ ap (λ (k : ℕ). get_or (front ++ mid) k None) at
    ∙ get_or-append-add front mid j None
    ∙ byte_there 0 count value j within
    ∙ ap (λ (k : ℕ). Some (value / 256 ^ k % 256)) zeroth

pub stored_after : (stack : List (Option ℕ)) (offset count value k : ℕ) → offset + count ≤ length stack → offset + count ≤ k → bytes_of (stored stack offset count value) k ≡ bytes_of stack k
stored_after stack offset count value k h after =
    let front = take offset stack in
    let mid = map Some (little_bytes count value) in
    let back = drop (offset + count) stack in
    let sizes = length_stored stack offset count value h in
    let taken : length (take offset stack) ≡ offset = sizes.0 in
    let added : length (map Some (little_bytes count value)) ≡ count = sizes.1 in
    let both : length (front ++ mid) ≡ length front + length mid = length-append front mid in
    let at : k ≡ length (front ++ mid) + (k - (offset + count)) = omega arith in
    let again : offset + count + (k - (offset + count)) ≡ k = omega arith in
    ap (λ (i : ℕ). get_or ((front ++ mid) ++ back) i None) at
    ∙ get_or-append-add (front ++ mid) back (k - (offset + count)) None
    ∙ get_or-drop (offset + count) stack (k - (offset + count)) None
    ∙ ap (bytes_of stack) again
