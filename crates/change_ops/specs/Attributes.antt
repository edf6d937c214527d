-- The limits of the values that marks add.
use Rattle.std.specs.Prelude.{ℕ, nat_le, ◌&&◌, Bool, List, length}
use Rattle.std.specs.List.{list_all}

abbrev pub is_color : ℕ → Bool
is_color rgb = nat_le rgb 0xffffff

abbrev pub is_comment_number : ℕ → Bool
is_comment_number n = nat_le 1 n && nat_le n 0xffffffff

-- a printable byte of ASCII other than the space
abbrev pub is_link_byte : ℕ → Bool
is_link_byte b = nat_le 0x21 b && nat_le b 0x7e

abbrev pub is_link : List ℕ → Bool
is_link bytes = nat_le 1 (length bytes) && nat_le (length bytes) 1024 && list_all is_link_byte bytes
