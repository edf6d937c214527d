-- A line as it is read in a change.
use Rattle.std.proofs.Common.{◌≡◌, Bool, true, false, cond, List, ℕ, [], refl}
use Rattle.std.specs.Str.{IsUtf8, is_utf8}
use Rattle.std.proofs.lemmas.Str.{IsUtf8-from_is_utf8, is_utf8-from_IsUtf8}
use Rattle.session_lines.specs.Changes.{legible}

pub is_text : (line : List ℕ) → IsUtf8 line → legible line ≡ line
is_text line h = rw (is_utf8-from_IsUtf8 line h) refl

pub no_text : (line : List ℕ) → ¬ (IsUtf8 line) → legible line ≡ []
no_text line h = go (is_utf8 line) refl where
  go : (b : Bool) → is_utf8 line ≡ b → cond b line [] ≡ []
  go true e = absurd (h (IsUtf8-from_is_utf8 line e))
  go false e = refl
