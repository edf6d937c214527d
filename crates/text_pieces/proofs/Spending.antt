-- What windows take from a budget.
use Rattle.std.proofs.Common.{ℕ, ◌+◌, ◌*◌, ◌/◌, ◌≤◌, arith}
use Rattle.piece_tree.specs.Budgets.{root_bytes, window_bytes}
use Rattle.text_pieces.specs.Budgets.{text_bytes, text_root_bytes, touched_bytes}

-- pieces cut, and then put into a tree
pub text_spent : (cut n all bytes old mid new : ℕ) → old ≤ mid + (96 * cut + n) → 110 * cut ≤ n + 110
    → mid ≤ new + (window_bytes cut + root_bytes all) → 64 * all ≤ bytes + 64 → old ≤ new + (touched_bytes n + text_root_bytes bytes)
text_spent cut n all bytes old mid new cost few spent narrow =
    let root : all / 16 ≤ (bytes / 64 + 1) / 16 = omega arith in
    omega arith

-- a text with what it touches, in place of the new text alone
pub window_spent : (n new whole bytes old now : ℕ) → n ≤ new + 768 → whole ≤ bytes
    → old ≤ now + (touched_bytes n + text_root_bytes whole) → old ≤ now + (text_bytes new + text_root_bytes bytes)
window_spent n new whole bytes old now small le spent =
    let root : (whole / 64 + 1) / 16 ≤ (bytes / 64 + 1) / 16 = omega arith in
    omega arith
