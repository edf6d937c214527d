-- What windows take from a budget.
use Rattle.std.proofs.Common.{◌≡◌, ℕ, ◌+◌, ◌≤◌, List, [], ◌∷◌, ◌++◌, length, ap, ◌∙◌, arith}
use Rattle.piece_tree.specs.Budgets.{root_bytes}
use Rattle.text_pieces.specs.Budgets.{text_root_bytes}
use Rattle.span_flatten.specs.Spans.{Span}
use Rattle.span_flatten.specs.Version.{joined}
use Rattle.version_glyphs.specs.declared.replacement.Replacement.{Replacement}
use Rattle.version_pieces.specs.Budgets.{bytes_in, roots_bytes, rows_in, window_bytes, windows_bytes}

-- ---- the last window
bytes_last : (rs : List Replacement) (r : Replacement) → bytes_in (rs ++ r ∷ []) ≡ bytes_in rs + length r.window.text
bytes_last [] r = omega arith
bytes_last (x ∷ rs) r = omega (arith, bytes_last rs r)

rows_last : (rs : List Replacement) (r : Replacement) → rows_in (rs ++ r ∷ []) ≡ rows_in rs + (length r.window.rows + 96)
rows_last [] r = omega arith
rows_last (x ∷ rs) r = omega (arith, rows_last rs r)

windows_last : (roots : ℕ) (rs : List Replacement) (r : Replacement) → windows_bytes roots (rs ++ r ∷ []) ≡ windows_bytes roots rs + (window_bytes r + roots)
windows_last roots [] r = omega arith
windows_last roots (x ∷ rs) r = omega (arith, windows_last roots rs r)

-- ---- roots of more take more
text_root_rises : (a b : ℕ) → a ≤ b → text_root_bytes a ≤ text_root_bytes b
text_root_rises a b le = omega arith

root_rises : (a b : ℕ) → a ≤ b → root_bytes a ≤ root_bytes b
root_rises a b le = omega arith

-- with the last windows in place in `all`, what was spent, and what the spans can still become
pub record ArePaid (windows rest : List Replacement) (own all : List Span) (old now : ℕ) : Type 0 where
  pub bytes : length (joined all) + bytes_in rest ≤ length (joined own) + bytes_in windows
  pub rows : length all + rows_in rest ≤ length own + rows_in windows
  pub spent : old + windows_bytes (roots_bytes (length (joined own)) (length own) windows) rest
      ≤ now + windows_bytes (roots_bytes (length (joined own)) (length own) windows) windows
  pub less : now ≤ old

pub none_paid : (windows : List Replacement) (own all : List Span) (budget : ℕ) → all ≡ own → ArePaid windows windows own all budget budget
none_paid windows own all budget is = record {
  bytes = omega (arith, ap (λ (l : List Span). length (joined l)) is);
  rows = omega (arith, ap length is);
  spent = omega arith;
  less = omega arith;
}

-- what a window takes, of all
added : (old now new window root roots rest others all : ℕ) → old + others ≤ now + all → others ≡ rest + (window + roots) → root ≤ roots
    → now ≤ new + (window + root) → old + rest ≤ new + all
added old now new window root roots rest others all spent is rise e = omega arith

module _ (windows others rest : List Replacement) (r : Replacement) (own all : List Span) (old now new : ℕ)
    (p : ArePaid windows others own all old now) (is : others ≡ rest ++ r ∷ [])
    (cost : now ≤ new + (window_bytes r + (text_root_bytes (length (joined all) + length r.window.text) + root_bytes (length all + length r.window.rows)))) where
  abbrev roots : ℕ
  roots = roots_bytes (length (joined own)) (length own) windows

  rises : text_root_bytes (length (joined all) + length r.window.text) + root_bytes (length all + length r.window.rows) ≤ roots
  rises =
      let bytes : length (joined all) + length r.window.text ≤ length (joined own) + bytes_in windows =
      omega (arith, p.bytes, ap bytes_in is, bytes_last rest r) in
      let rows : length all + length r.window.rows ≤ length own + rows_in windows = omega (arith, p.rows, ap rows_in is, rows_last rest r) in
      let text : text_root_bytes (length (joined all) + length r.window.text) ≤ text_root_bytes (length (joined own) + bytes_in windows) =
      text_root_rises (length (joined all) + length r.window.text) (length (joined own) + bytes_in windows) bytes in
      let runs : root_bytes (length all + length r.window.rows) ≤ root_bytes (length own + rows_in windows) =
      root_rises (length all + length r.window.rows) (length own + rows_in windows) rows in
      omega (arith, text, runs)

  pub paid_on : old + windows_bytes roots rest ≤ new + windows_bytes roots windows
  paid_on =
      added old now new (window_bytes r) (text_root_bytes (length (joined all) + length r.window.text) + root_bytes (length all + length r.window.rows))
      roots (windows_bytes roots rest) (windows_bytes roots others) (windows_bytes roots windows)
      p.spent (ap (windows_bytes roots) is ∙ windows_last roots rest r) rises cost

  -- one window more, the last of those that are left
  pub paid_next : (next : List Span) → length (joined next) ≤ length (joined all) + length r.window.text → length next ≤ length all + (length r.window.rows + 96)
      → new ≤ now → ArePaid windows rest own next old new
  paid_next next bytes rows less = record {
    bytes = omega (arith, p.bytes, ap bytes_in is, bytes_last rest r);
    rows = omega (arith, p.rows, ap rows_in is, rows_last rest r);
    spent = paid_on;
    less = omega (arith, p.less);
  }
