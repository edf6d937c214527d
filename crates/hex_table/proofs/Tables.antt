-- The table is held against the definition at each of the 256 bytes, by computing.
use Rattle.std.proofs.Common.{◌≡◌, ℕ, zero, suc, ◌<◌, ◌≤◌, ◌==◌, Bool, true, ◌&&◌, get_or, List, arith, inl, inr}
use Rattle.std.proofs.lemmas.Bool.{and_parts, cases_eq, eqb-true}
use Rattle.hex_table.specs.Table.{digit_value}

-- the first n entries are right
unfoldable pub agree_below : List ℕ → ℕ → Bool
agree_below table zero = true
agree_below table (suc n) = (get_or table n 0 == digit_value n) && agree_below table n

pub entry_at : (table : List ℕ) (n : ℕ) → agree_below table n ≡ true → (byte : ℕ) → byte < n → get_or table byte 0 ≡ digit_value byte
unfolding agree_below
entry_at table zero h byte lt = absurd (omega arith)
entry_at table (suc n) h byte lt =
    let both = and_parts (get_or table n 0 == digit_value n) (agree_below table n) h in
    elim (cases_eq byte n) [
      | inl same ↦ rw same (eqb-true (get_or table n 0) (digit_value n) both.0)
      | inr other ↦ entry_at table n both.1 byte (omega arith)
    ]

-- a digit is below 16
pub value_least : (byte : ℕ) → digit_value byte ≤ 256
value_least byte = grind (arith)
