-- Which files a client has already: RFC 9110 section 13.1.2.
use Rattle.std.specs.Prelude.{◌≡◌, ◌⊎◌, ℕ, List, codes}
use Rattle.memchr.specs.Find.{OccursAt}

-- the value of If-None-Match is a star, or this tag, with its quotes, is one of its list; no tag has a quote within, so
-- a list has it as its own where it has these bytes at all
abbrev pub Names : List ℕ → List ℕ → Type 0
Names value tag = (value ≡ codes "*") ⊎ ((at : ℕ) × OccursAt value tag at)
