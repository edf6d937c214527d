-- A text within an attribute of XML (Extensible Markup Language 1.0, sections 2.2 and 2.4).
use Rattle.std.specs.Prelude.{ℕ, nat_lt, ◌==◌, ◌||◌, if◌then◌else◌, List, codes, encode_utf8}
use Rattle.std.specs.List.{flat_map}
use Rattle.std.specs.Str.{chars}

-- a character, or what stands for it: a reference, or a question mark where XML has no such character
abbrev pub xml_character : ℕ → List ℕ
xml_character c =
    if c == 34 then codes "&quot;" else if c == 38 then codes "&amp;" else if c == 60 then codes "&lt;"
    else if c == 9 then codes "&#9;" else if c == 10 then codes "&#10;" else if c == 13 then codes "&#13;"
    else if nat_lt c 32 || c == 0xfffe || c == 0xffff then codes "?" else encode_utf8 c

abbrev pub xml_text : List ℕ → List ℕ
xml_text text = flat_map xml_character (chars text)
