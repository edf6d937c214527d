-- A link's target is ASCII.
use Rattle.std.proofs.Common.{◌≡◌, ℕ, zero, suc, ◌<◌, true, false, leb, Bool, cond, List, [], ◌∷◌, length, get_or, Some, None, refl, arith}
use Rattle.std.specs.List.{list_all}
use Rattle.std.specs.Str.{IsUtf8}
use Rattle.std.proofs.lemmas.Bool.{and_parts, leb-true}
use Rattle.std.proofs.lemmas.Str.{IsUtf8-from_ascii}
use Rattle.change_ops.specs.Attributes.{is_link, is_link_byte}
use Rattle.change_ops.specs.Ids.{checked}
use Rattle.std.specs.Prelude.{◌&&◌, Option}

all_ascii : (bytes : List ℕ) → list_all is_link_byte bytes ≡ true → (i : ℕ) → get_or bytes i 0 < 128
all_ascii [] h zero = omega arith
all_ascii [] h (suc i) = omega arith
all_ascii (b ∷ bytes) h zero =
    let p = and_parts (is_link_byte b) (list_all is_link_byte bytes) h in
    let q = and_parts (leb 0x21 b) (leb b 0x7e) p.0 in
    let small = leb-true b 0x7e q.1 in omega arith
all_ascii (b ∷ bytes) h (suc i) = all_ascii bytes (and_parts (is_link_byte b) (list_all is_link_byte bytes) h).1 i

link_is_text : (bytes : List ℕ) → is_link bytes ≡ true → IsUtf8 bytes
link_is_text bytes h =
    IsUtf8-from_ascii bytes (all_ascii bytes (and_parts (leb 1 (length bytes) && leb (length bytes) 1024) (list_all is_link_byte bytes) h).1)

pub no_link : (bytes : List ℕ) → (IsUtf8 bytes → ⊥) → None ≡ checked is_link bytes
no_link bytes illegible = go (is_link bytes) refl where
  go : (b : Bool) → is_link bytes ≡ b → ◌≡◌ {A = Option (List ℕ)} None (cond b (Some bytes) None)
  go true e = absurd (illegible (link_is_text bytes e))
  go false e = refl
