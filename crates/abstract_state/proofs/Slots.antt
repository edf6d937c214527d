-- Slots of the stack, one by one.
use Rattle.std.proofs.Common.{◌≡◌, ℕ, ◌+◌, ◌*◌, ◌<◌, ◌≤◌, Bool, true, false, ◌&&◌, ◌||◌, nat_le, nat_lt, List, length, get_or, set, sym, ◌∙◌, subst, ⊎_elim, arith}
use Rattle.std.proofs.lemmas.Bool.{cases_lt, cases_Bool}
use Rattle.std.proofs.lemmas.Grind.{common_steps}
use Rattle.std.proofs.lemmas.Bool.Decides.{nat_tests}
use Rattle.abstract_state.specs.declared.slot.Slot.{Slot}
use Rattle.abstract_state.specs.declared.slot.Slot.TheVariants.{Marks, Spilled}
use Rattle.abstract_state.specs.Lent.{Lengths}
use Rattle.abstract_state.specs.State.{Bytes, HasByte, ContainsSlot, Spares, Fills}

same_read : (slots : List Slot) (i k : ℕ) (v d : Slot) → i < length slots → k ≡ i → get_or (set slots i v) k d ≡ v
same_read slots i k v d h e = grind (arith, common_steps)

other_read : (slots : List Slot) (i k : ℕ) (v d : Slot) → k < i → get_or (set slots i v) k d ≡ get_or slots k d
other_read slots i k v d h = grind (arith, common_steps)

pub byte_kept : (old new : Bytes) (k : ℕ) → new k ≡ old k → HasByte old k → HasByte new k
byte_kept old new k e (v, is, small) = (v, e ∙ is, small)

-- a slot of which no byte changes
pub slot_kept : (slot : Slot) (lengths : Lengths) (old new : Bytes) (i : ℕ) → ((j : ℕ) → j < 8 → new (8 * i + j) ≡ old (8 * i + j)) → ContainsSlot slot lengths old i → ContainsSlot slot lengths new i
slot_kept (Marks marks) lengths old new i same c = λ j h m. byte_kept old new (8 * i + j) (same j h) (c j h m)
slot_kept (Spilled k) lengths old new i same (n, c, bytes) = (n, c, λ j h. same j h ∙ bytes j h)

or_cases : (a b : Bool) → (a || b) ≡ true → (a ≡ false → b ≡ true)
or_cases true b e n = absurd (cc)
or_cases false b e n = e

bool_cases : (P : Type 0) (a : Bool) → (a ≡ true → P) → (a ≡ false → P) → P
bool_cases P a if_true if_false = ⊎_elim if_true if_false (cases_Bool a)

inside_true : (offset first j count : ℕ) → (nat_le offset (first + j) && nat_lt (first + j) (offset + count)) ≡ true → (offset ≤ first + j) × (first + j < offset + count)
inside_true offset first j count e = grind (arith, nat_tests)

inside_false : (offset first j count : ℕ) → (nat_le offset (first + j) && nat_lt (first + j) (offset + count)) ≡ false → offset ≤ first + j → first + j < offset + count → ⊥
inside_false offset first j count e a b = grind (arith, nat_tests)

-- a byte that is marked after a store was marked before, or the store wrote it
pub stored_byte : (old new : Bytes) (was : Bool) (first offset count i j : ℕ) → first ≡ 8 * i → (was ≡ true → HasByte old (8 * i + j)) → Spares offset count old new → Fills offset count new → (was || (nat_le offset (first + j) && nat_lt (first + j) (offset + count))) ≡ true → HasByte new (8 * i + j)
stored_byte old new was first offset count i j at before spares fills marked =
    let inside = nat_le offset (first + j) && nat_lt (first + j) (offset + count) in
    let here : first + j ≡ 8 * i + j = omega arith in
    bool_cases (HasByte new (8 * i + j)) inside
    (λ yes. let range = inside_true offset first j count yes in fills (8 * i + j) (omega (arith, range.0)) (omega (arith, range.1)))
    (λ no.
    let kept = spares (8 * i + j) (λ a b. inside_false offset first j count no (omega arith) (omega arith)) in
    let marked_before : was ≡ true = bool_cases (was ≡ true) was (λ e. e) (λ e. absurd (let again = or_cases was inside marked e in cc)) in
    byte_kept old new (8 * i + j) kept (before marked_before))

bool_here : (marks : List Bool) (j k : ℕ) (v d : Bool) → j < length marks → k ≡ j → get_or (set marks j v) k d ≡ v
bool_here marks j k v d h e = grind (arith, common_steps)

bool_below : (marks : List Bool) (j k : ℕ) (v d : Bool) → k < j → get_or (set marks j v) k d ≡ get_or marks k d
bool_below marks j k v d h = grind (arith, common_steps)

pub written_mark : (marks : List Bool) (j k : ℕ) (v d : Bool) (P : Bool → Type 0) → j < length marks → k < j + 1 → (k ≡ j → P v) → (k < j → P (get_or marks k d)) → P (get_or (set marks j v) k d)
written_mark marks j k v d P within h here below =
    ⊎_elim
    (λ (less : k < j). subst P (sym (bool_below marks j k v d less)) (below less))
    (λ (most : j ≤ k). let same : k ≡ j = omega arith in subst P (sym (bool_here marks j k v d within same)) (here same))
    (cases_lt k j)
