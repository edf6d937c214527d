-- Names of files that stay within a folder.
use Rattle.std.specs.Prelude.{ℕ, ◌==◌, ◌&&◌, ◌||◌, not, Bool, true, List, [], ◌∷◌, IsTrue, String, string_bytes}
use Rattle.std.specs.declared.alloc.Global.{Global}

-- behind a slash stands no slash and no dot, and nowhere a NUL
abbrev pub may_follow : ℕ → ℕ → Bool
may_follow before byte = not (byte == 0) && not (before == 47 && (byte == 47 || byte == 46))

-- each byte may follow the one before it, of which the first is this
abbrev pub stays_within : ℕ → List ℕ → Bool
stays_within before [] = true
stays_within before (byte ∷ more) = may_follow before byte && stays_within byte more

-- no part of the name is empty, so it isn't absolute, and none begins with a dot, as `..` does; behind the folder's
-- path and a slash it names a file of the folder
abbrev pub IsWithin : String Global → Type 0
IsWithin name = IsTrue (stays_within 47 (string_bytes name))
