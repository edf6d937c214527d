-- Lists of bytes: texts, and targets of links.
use Rattle.std.proofs.Common.{◌≡◌, ◌&&◌, ℕ, zero, suc, ◌/◌, ◌<◌, ◌≤◌, Bool, true, false, cond, List, [], ◌∷◌, ◌++◌, Option, Some, None, length, refl, subst, ⊎_elim, arith, IsUtf8, IsTrue, ltb, ltb-true}
use Rattle.std.specs.Prelude.{IfSome, nat_le}
use Rattle.std.specs.List.{list_all}
use Rattle.std.specs.Option.{unwrap_or}
use Rattle.std.proofs.Math.Utf8.{scalar, scalars, encode, encodes, next, scalar_cases}
use Rattle.std.proofs.lemmas.Bool.{and_parts, leb-true}
use Rattle.change_ops.specs.Attributes.{is_link, is_link_byte}
use Rattle.semantics.specs.Safe.{AreBytes}

pub record Are (bytes : List ℕ) : Type 0 where
  pub each : AreBytes bytes

pub none : Are []
none = record { each = λ k. omega arith }

joined_bytes : (xs ys : List ℕ) → AreBytes xs → AreBytes ys → AreBytes (xs ++ ys)
joined_bytes [] ys some more k = more k
joined_bytes (x ∷ xs) ys some more zero = some 0
joined_bytes (x ∷ xs) ys some more (suc k) = joined_bytes xs ys (λ j. some (suc j)) more k

pub join : {xs ys : List ℕ} → Are xs → Are ys → Are (xs ++ ys)
join {xs} {ys} some more = record { each = joined_bytes xs ys some.each more.each }

before : (x : ℕ) (xs : List ℕ) → x < 256 → AreBytes xs → AreBytes (x ∷ xs)
before x xs small rest zero = small
before x xs small rest (suc k) = rest k

first : {x : ℕ} {xs : List ℕ} → x < 256 → Are xs → Are (x ∷ xs)
first {x} {xs} small rest = record { each = before x xs small rest.each }

-- ---- UTF-8
either : (b : Bool) {xs ys : List ℕ} → (b ≡ true → Are xs) → Are ys → Are (cond b xs ys)
either true one other = one refl
either false one other = other

next_small : (bits : ℕ) → next bits < 256
next_small bits = omega arith

character : (c : ℕ) → c < 1114112 → Are (encode c)
unfolding encode
character c few =
    let one : Are (next c ∷ []) = first (next_small c) none in
    let two : Are (next (c / 64) ∷ next c ∷ []) = first (next_small (c / 64)) one in
    let three : Are (next (c / 4096) ∷ next (c / 64) ∷ next c ∷ []) = first (next_small (c / 4096)) two in
    either (ltb c 128) (λ is. let low : c < 128 = ltb-true c 128 is in first (omega arith) none)
    (either (ltb c 2048) (λ is. let low : c < 2048 = ltb-true c 2048 is in first (omega arith) one)
    (either (ltb c 65536) (λ is. let low : c < 65536 = ltb-true c 65536 is in first (omega arith) two) (first (omega arith) three)))

characters : (cs : List ℕ) → scalars cs ≡ true → Are (encodes cs)
characters [] ok = none
characters (c ∷ cs) ok =
    let parts = and_parts (scalar c) (scalars cs) ok in
    let few : c < 1114112 = ⊎_elim (λ (low : c < 55296). omega arith) (λ (high : (57344 ≤ c) × (c < 1114112)). high.1) (scalar_cases c parts.0) in
    join (character c few) (characters cs parts.1)

pub of_text : (text : List ℕ) → IsUtf8 text → Are text
of_text text utf8 = subst Are utf8.1.1 (characters utf8.0 utf8.1.0)

-- ---- a link
target : (bytes : List ℕ) → list_all is_link_byte bytes ≡ true → Are bytes
target [] all = none
target (x ∷ xs) all =
    let parts = and_parts (is_link_byte x) (list_all is_link_byte xs) all in
    let high = leb-true x 126 (and_parts (nat_le 33 x) (nat_le x 126) parts.0).1 in
    first (omega arith) (target xs parts.1)

-- the bytes of a link, of which there are none without one
pub of_link : (link : Option (List ℕ)) → IfSome link (λ bytes. IsTrue (is_link bytes)) → (length (unwrap_or link []) ≤ 1024) × Are (unwrap_or link [])
of_link None is = (omega arith, none)
of_link (Some bytes) is =
    let parts = and_parts (nat_le 1 (length bytes) && nat_le (length bytes) 1024) (list_all is_link_byte bytes) is in
    (leb-true (length bytes) 1024 (and_parts (nat_le 1 (length bytes)) (nat_le (length bytes) 1024) parts.0).1, target bytes parts.1)
