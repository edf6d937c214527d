-- The rows whose flags and numbers the context has are the keys of these words.
use Rattle.std.proofs.Common.{◌≡◌, refl}
use Rattle.std.specs.Prelude.{codes}
use Rattle.change_ops.specs.Keys.{words, word_of}
use Rattle.change_ops.specs.declared.keys.TheConstants.{STRONG, EM, CODE, LINK, COLOR}

pub strong_row : word_of STRONG ≡ codes "strong"
unfolding words
strong_row = refl

pub em_row : word_of EM ≡ codes "em"
unfolding words
em_row = refl

pub code_row : word_of CODE ≡ codes "code"
unfolding words
code_row = refl

pub link_row : word_of LINK ≡ codes "link"
unfolding words
link_row = refl

pub color_row : word_of COLOR ≡ codes "color"
unfolding words
color_row = refl
