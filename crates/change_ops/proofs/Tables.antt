-- What holds of the words of the two tables: those of the keys, and those of the kinds of lines.
use Rattle.std.proofs.Common.{◌≡◌, ℕ, true, leb, eqb, List, length, refl}
use Rattle.std.specs.Prelude.{Bool, not}
use Rattle.std.specs.List.{list_all}
use Rattle.change_ops.specs.Keys.{words}
use Rattle.change_ops.specs.LineKinds.{kind_words}
use Rattle.change_ops.specs.declared.keys.TheConstants.{KEYS}
use Rattle.change_ops.specs.declared.line_kind.TheConstants.{KINDS}
use Rattle.change_ops.proofs.Places.{differ}

abbrev pub is_printed : List ℕ → Bool
is_printed word = list_all (λ b. leb 33 b) word

-- no colon
abbrev pub is_plain : List ℕ → Bool
is_plain word = list_all (λ b. not (eqb b 58)) word

pub keys_count : length words ≡ KEYS
unfolding words
keys_count = refl

pub keys_differ : differ words ≡ true
unfolding words
keys_differ = refl

pub keys_printed : list_all is_printed words ≡ true
unfolding words
keys_printed = refl

pub keys_plain : list_all is_plain words ≡ true
unfolding words
keys_plain = refl

pub kinds_count : length kind_words ≡ KINDS
unfolding kind_words
kinds_count = refl

pub kinds_differ : differ kind_words ≡ true
unfolding kind_words
kinds_differ = refl

pub kinds_printed : list_all is_printed kind_words ≡ true
unfolding kind_words
kinds_printed = refl
