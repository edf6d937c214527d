-- Reading a number digit by digit.
use Rattle.std.proofs.Common.{◌≡◌, ℕ, ◌+◌, ◌*◌, ◌<◌, length, get_or, take, true, List, Option, refl, sym, ◌∙◌}
use Rattle.std.specs.List.{list_all}
use Rattle.std.specs.Char.{is_digit, digit_value}
use Rattle.std.specs.Str.Parse.{digits_value}
use Rattle.std.proofs.lemmas.Bool.{lt-ltb}
use Rattle.std.proofs.lemmas.List.Folds.{list_all_more}
use Rattle.std.proofs.lemmas.Int.Digits.{digits_value_more}
use Rattle.assembler_lines.specs.Terms.{bounded}

pub all_more : (base i : ℕ) (ds : List ℕ) → i < length ds → digit_value (get_or ds i 0) < base
    → list_all (λ b. is_digit b base) (take i ds) ≡ true → list_all (λ b. is_digit b base) (take (i + 1) ds) ≡ true
all_more base i ds lt small h = list_all_more (λ b. is_digit b base) ds i 0 lt ∙ rw (h, lt-ltb _ _ small) refl

pub value_more : (base i d : ℕ) (ds : List ℕ) (next : Option ℕ) → i < length ds → d ≡ digit_value (get_or ds i 0)
    → next ≡ bounded (digits_value base (take i ds) * base + d) → next ≡ bounded (digits_value base (take (i + 1) ds))
value_more base i d ds next lt same h = h ∙ rw (same, sym (digits_value_more base ds i lt)) refl
