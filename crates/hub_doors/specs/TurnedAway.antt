-- What a client is told that finds no session free.
use Rattle.std.specs.Prelude.{ℕ, List, codes}

abbrev pub too_many_sessions : List ℕ
too_many_sessions = codes "no 69 TooManySessions\n"
