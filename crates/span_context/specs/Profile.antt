-- How much of a context each profile lets a program read, and by which rules a program is verified.
use Rattle.std.specs.Prelude.{ℕ, Bool, true, false}
use Rattle.span_context.specs.declared.profile.Profile.{Profile}
use Rattle.span_context.specs.declared.profile.Profile.TheVariants.{One, Two, Three}

abbrev pub context_length : Profile → ℕ
context_length One = 56
context_length Two = 72
context_length Three = 72

-- whether the link's text is lent
abbrev pub lends_link : Profile → Bool
lends_link One = false
lends_link Two = true
lends_link Three = true

-- whether there are rules beyond those of the first two profiles
abbrev pub has_more_rules : Profile → Bool
has_more_rules One = false
has_more_rules Two = false
has_more_rules Three = true
