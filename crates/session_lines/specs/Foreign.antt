-- Lines of other protocols, with which no session can have begun.
use Rattle.std.specs.Prelude.{ℕ, nat_eq, ◌||◌, Bool, List, [], ◌∷◌, ◌++◌, codes}
use Rattle.std.specs.List.{starts_with, ends_with}

-- the line of an HTTP request ends in the protocol's version (RFC 9112, section 3); a CR may stand before its LF
abbrev pub is_http : List ℕ → Bool
is_http line =
    ends_with nat_eq line (codes " HTTP/1.0") || ends_with nat_eq line (codes " HTTP/1.1")
    || ends_with nat_eq line (codes " HTTP/1.0" ++ 13 ∷ []) || ends_with nat_eq line (codes " HTTP/1.1" ++ 13 ∷ [])

-- TLS begins with the record of a handshake: its type, and the first byte of its version (RFC 8446, section 5.1)
abbrev pub is_tls : List ℕ → Bool
is_tls line = starts_with nat_eq line (22 ∷ 3 ∷ [])

abbrev pub is_foreign : List ℕ → Bool
is_foreign line = is_http line || is_tls line
