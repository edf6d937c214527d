-- Reading the codes of a run one after the other, as loops do.
use Rattle.std.proofs.Common.{◌≡◌, ℕ, suc, ◌+◌, ◌-◌, ◌<◌, ◌≤◌, Bool, true, false, cond, List, [], ◌∷◌, ◌++◌, Option, Some, None, Result, Ok, Err, refl, sym, ap, ◌∙◌, arith, append_assoc}
use Rattle.std.specs.Prelude.{◌&&◌, is_some}
use Rattle.std.specs.List.{list_all}
use Rattle.change_ops.specs.Ids.{is_character, checked}
use Rattle.change_ops.specs.Words.{split}
use Rattle.change_ops.specs.Reading.{◌>>=◌, hex_at, characters_at, NextCode, encoded, encoded_all, with_characters}
use Rattle.change_ops.specs.declared.refusal.LineFault.{LineFault}
use Rattle.change_ops.specs.declared.refusal.LineFault.TheVariants.{BadLine, CharRefused}
use Rattle.change_ops.proofs.Limits.{character_saturated}

-- what was read before, and the last character
abbrev pub with_last : List ℕ → Result ℕ LineFault → Result (List ℕ) LineFault
with_last front (Ok c) = Ok (front ++ c ∷ [])
with_last front (Err fault) = Err fault

-- how many there are to read, with i - 1 of them read
abbrev pub left : ℕ → ℕ → ℕ
left count i = count - i + 1

with_one : (c : ℕ) (o : Option (List ℕ)) → is_some (o >>= λ codes. Some (c ∷ codes)) ≡ is_some o
with_one c None = refl
with_one c (Some codes) = refl

pub codes_begun : (count : ℕ) (fields : List ℕ) → 1 ≤ count → is_some (characters_at (left count 1) fields) ≡ is_some (characters_at count fields)
codes_begun count fields some = let n : left count 1 ≡ count = omega arith in ap (λ (k : ℕ). is_some (characters_at k fields)) n

pub codes_more : (count i : ℕ) (fields after : List ℕ) (found : ℕ) (total : Bool) → i < count → NextCode fields found after
    → is_some (characters_at (left count i) fields) ≡ total → is_some (characters_at (left count (i + 1)) after) ≡ total
unfolding characters_at
codes_more count i fields after found total lt next so_far =
    let n : left count i ≡ suc (suc (count - (i + 1))) = omega arith in
    let m : left count (i + 1) ≡ suc (count - (i + 1)) = omega arith in
    let step : is_some (characters_at (suc (suc (count - (i + 1)))) fields) ≡ is_some (characters_at (suc (count - (i + 1))) after) = rw (next.parts, next.spelled) (with_one next.code (characters_at (suc (count - (i + 1))) after)) in
    ap (λ (k : ℕ). is_some (characters_at k after)) m ∙ sym step ∙ ap (λ (k : ℕ). is_some (characters_at k fields)) (sym n) ∙ so_far

abbrev NoCode : List ℕ → Type 0
NoCode fields = (word rest : List ℕ) → split 32 fields ≡ Some (word, rest) → hex_at word ≡ None

no_characters : (others : ℕ) (fields : List ℕ) → NoCode fields → characters_at (suc (suc others)) fields ≡ None
unfolding characters_at
no_characters others fields none = go (split 32 fields) refl where
  go : (o : Option (List ℕ × List ℕ)) → split 32 fields ≡ o → (o >>= λ first. hex_at first.0 >>= λ code. characters_at (suc others) first.1 >>= λ codes. Some (code ∷ codes)) ≡ None
  go None e = refl
  go (Some first) e = rw (none first.0 first.1 e) refl

pub codes_stop : (count i : ℕ) (fields : List ℕ) (total : Bool) → i < count → NoCode fields → is_some (characters_at (left count i) fields) ≡ total → total ≡ false
codes_stop count i fields total lt none so_far =
    let n : left count i ≡ suc (suc (count - (i + 1))) = omega arith in
    sym so_far ∙ ap (λ (k : ℕ). is_some (characters_at k fields)) n ∙ ap is_some (no_characters (count - (i + 1)) fields none)

pub codes_last : (count i : ℕ) (fields : List ℕ) (total : Bool) → count ≤ i → is_some (characters_at (left count i) fields) ≡ total → total ≡ is_some (hex_at fields)
unfolding characters_at
codes_last count i fields total le so_far =
    let n : left count i ≡ 1 = omega arith in
    let one : (o : Option ℕ) → is_some (o >>= λ code. Some (code ∷ [])) ≡ is_some o = λ o. elim o as (λ o. is_some (o >>= λ code. Some (code ∷ [])) ≡ is_some o) [ None ↦ refl | Some c ↦ refl ] in
    sym so_far ∙ ap (λ (k : ℕ). is_some (characters_at k fields)) n ∙ one (hex_at fields)

-- ---- the first character of several, and what follows it

-- the characters of one code and others
both_encoded : (c : ℕ) (o : Option (List ℕ)) → is_character c ≡ true → encoded_all (o >>= λ codes. Some (c ∷ codes)) ≡ with_characters (c ∷ []) (encoded_all o)
both_encoded c None h = refl
both_encoded c (Some codes) h = go (list_all is_character codes) refl where
  go : (b : Bool) → list_all is_character codes ≡ b → cond (is_character c && b) (Ok (c ∷ codes)) (Err CharRefused) ≡ with_characters (c ∷ []) (cond b (Ok codes) (Err CharRefused))
  go true e = rw h refl
  go false e = rw h refl

step : (others : ℕ) (fields after : List ℕ) (found : ℕ) → 1 ≤ others → (next : NextCode fields found after) → characters_at (others + 1) fields ≡ (characters_at others after >>= λ codes. Some (next.code ∷ codes))
unfolding characters_at
step others fields after found some next =
    let n : others + 1 ≡ suc (suc (others - 1)) = omega arith in
    let m : others ≡ suc (others - 1) = omega arith in
    let one : characters_at (suc (suc (others - 1))) fields ≡ (characters_at (suc (others - 1)) after >>= λ codes. Some (next.code ∷ codes)) = rw (next.parts, next.spelled) refl in
    ap (λ (k : ℕ). characters_at k fields) n ∙ one ∙ ap (λ (k : ℕ). characters_at k after >>= λ codes. Some (next.code ∷ codes)) (sym m)

pub first_found : (others : ℕ) (fields after : List ℕ) (found c : ℕ) → 1 ≤ others → NextCode fields found after → checked is_character found ≡ Some c
    → encoded_all (characters_at (others + 1) fields) ≡ with_characters (c ∷ []) (encoded_all (characters_at others after))
first_found others fields after found c some next is =
    let code : checked is_character next.code ≡ Some c = sym (character_saturated next.code) ∙ ap (checked is_character) (sym next.value) ∙ is in
    let v = is_checked next.code c code in
    ap encoded_all (step others fields after found some next) ∙ both_encoded next.code (characters_at others after) v.0 ∙ ap (λ (k : ℕ). with_characters (k ∷ []) (encoded_all (characters_at others after))) v.1
  where
    is_checked : (code c : ℕ) → checked is_character code ≡ Some c → (is_character code ≡ true) × (code ≡ c)
    is_checked code c e = go (is_character code) refl e where
      go : (b : Bool) → is_character code ≡ b → cond b (Some code) None ≡ Some c → (b ≡ true) × (code ≡ c)
      go true f g = (refl, cc)
      go false f g = absurd cc

-- where the first is no character
pub first_refused : (others : ℕ) (fields after : List ℕ) (found : ℕ) (told : Bool) → 1 ≤ others → NextCode fields found after → checked is_character found ≡ None → told ≡ is_some (characters_at others after)
    → encoded_all (characters_at (others + 1) fields) ≡ cond told (Err CharRefused) (Err BadLine)
first_refused others fields after found told some next is same =
    let code : checked is_character next.code ≡ None = sym (character_saturated next.code) ∙ ap (checked is_character) (sym next.value) ∙ is in
    ap encoded_all (step others fields after found some next) ∙ rw same (go (characters_at others after) (no_character next.code code)) where
      no_character : (code : ℕ) → checked is_character code ≡ None → is_character code ≡ false
      no_character code e = inner (is_character code) e where
        inner : (b : Bool) → cond b (Some code) None ≡ None → b ≡ false
        inner true g = absurd cc
        inner false g = refl

      go : (o : Option (List ℕ)) → is_character next.code ≡ false → encoded_all (o >>= λ codes. Some (next.code ∷ codes)) ≡ cond (is_some o) (Err CharRefused) (Err BadLine)
      go None h = refl
      go (Some codes) h = rw h refl

pub first_missing : (others : ℕ) (fields : List ℕ) → 1 ≤ others → NoCode fields → encoded_all (characters_at (others + 1) fields) ≡ Err BadLine
first_missing others fields some none =
    let n : others + 1 ≡ suc (suc (others - 1)) = omega arith in
    ap (λ (k : ℕ). encoded_all (characters_at k fields)) n ∙ ap encoded_all (no_characters (others - 1) fields none)

-- ---- all characters, as a loop reads them

regroup : (front : List ℕ) (c : ℕ) (r : Result (List ℕ) LineFault) → with_characters front (with_characters (c ∷ []) r) ≡ with_characters (front ++ c ∷ []) r
regroup front c (Ok cs) = ap Ok (sym (append_assoc front (c ∷ []) cs))
regroup front c (Err fault) = refl

pub all_begun : (count : ℕ) (fields : List ℕ) → 1 ≤ count → with_characters [] (encoded_all (characters_at (left count 1) fields)) ≡ encoded_all (characters_at count fields)
all_begun count fields some = let n : left count 1 ≡ count = omega arith in nothing (encoded_all (characters_at (left count 1) fields)) ∙ ap (λ (k : ℕ). encoded_all (characters_at k fields)) n where
  nothing : (r : Result (List ℕ) LineFault) → with_characters [] r ≡ r
  nothing (Ok cs) = refl
  nothing (Err fault) = refl

pub all_more : (count i : ℕ) (front fields after : List ℕ) (c : ℕ) (total : Result (List ℕ) LineFault) → i < count
    → encoded_all (characters_at (count - i + 1) fields) ≡ with_characters (c ∷ []) (encoded_all (characters_at (count - i) after))
    → with_characters front (encoded_all (characters_at (left count i) fields)) ≡ total → with_characters (front ++ c ∷ []) (encoded_all (characters_at (left count (i + 1)) after)) ≡ total
all_more count i front fields after c total lt next so_far =
    let m : left count (i + 1) ≡ count - i = omega arith in
    ap (λ (k : ℕ). with_characters (front ++ c ∷ []) (encoded_all (characters_at k after))) m ∙ sym (regroup front c (encoded_all (characters_at (count - i) after))) ∙ ap (with_characters front) (sym next) ∙ so_far

pub all_stopped : (count i : ℕ) (front fields : List ℕ) (fault : LineFault) (total : Result (List ℕ) LineFault) → encoded_all (characters_at (count - i + 1) fields) ≡ Err fault
    → with_characters front (encoded_all (characters_at (left count i) fields)) ≡ total → total ≡ Err fault
all_stopped count i front fields fault total stop so_far = sym so_far ∙ ap (with_characters front) stop

pub all_last : (count i : ℕ) (front fields : List ℕ) (total : Result (List ℕ) LineFault) → count ≤ i → with_characters front (encoded_all (characters_at (left count i) fields)) ≡ total → total ≡ with_last front (encoded (hex_at fields))
unfolding characters_at
all_last count i front fields total le so_far =
    let n : left count i ≡ 1 = omega arith in
    sym so_far ∙ ap (λ (k : ℕ). with_characters front (encoded_all (characters_at k fields))) n ∙ go (hex_at fields) where
      go : (o : Option ℕ) → with_characters front (encoded_all (o >>= λ code. Some (code ∷ []))) ≡ with_last front (encoded o)
      go None = refl
      go (Some code) = inner (is_character code) where
        inner : (b : Bool) → with_characters front (cond (b && true) (Ok (code ∷ [])) (Err CharRefused)) ≡ with_last front (cond b (Ok code) (Err CharRefused))
        inner true = refl
        inner false = refl
