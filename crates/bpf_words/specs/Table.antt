-- The opcode bytes as a map: a row for each high digit, a letter for each low digit (RFC 9669, sections 3 to 5).
-- a arithmetic, n negation, c conversion of the order of bytes, j jump, J long jump, b branch, x exit, l load, s
-- sign-extending load, t store, w wide load, o left out, . nothing
use Rattle.std.specs.Prelude.{◌≡◌, ℕ, List, ◌++◌, codes, slice_index}
use Rattle.bpf_words.specs.declared.opcode.Opcode.{Opcode}
use Rattle.bpf_words.specs.declared.opcode.Opcode.TheVariants.{Computing, Negating, Converting, Jumping, JumpingLong}
use Rattle.bpf_words.specs.declared.opcode.Opcode.TheVariants.{Branching, Loading, LoadingSigned, Storing, LoadingWide}
use Rattle.bpf_words.specs.declared.opcode.Opcode.TheVariants.{Exiting, LeftOut, Undefined}

unfoldable pub opcode_map : List ℕ
opcode_map =
    codes "....ajJa....a..a"
    ++ codes "....abbaw...abba"
    ++ codes "o...abbao...abba"
    ++ codes "o...abba....abba"
    ++ codes "o...abbao...abba"
    ++ codes "o...abba....abba"
    ++ codes ".lttabba.lttabba"
    ++ codes ".lttabba.lttabba"
    ++ codes ".s..no.n.s......"
    ++ codes ".s..ax.a....a..a"
    ++ codes "....abba....abba"
    ++ codes "....abba....abba"
    ++ codes "...oabba....abba"
    ++ codes "....cbbc...ocbb."
    ++ codes "................"
    ++ codes "................"

-- a letter's code
unfoldable pub letter_of : Opcode → ℕ
letter_of (Computing width operation by_register) = 97
letter_of (Negating width) = 110
letter_of (Converting conversion) = 99
letter_of Jumping = 106
letter_of JumpingLong = 74
letter_of (Branching width comparison by_register) = 98
letter_of Exiting = 120
letter_of (Loading size) = 108
letter_of (LoadingSigned size) = 115
letter_of (Storing size by_register) = 116
letter_of LoadingWide = 119
letter_of LeftOut = 111
letter_of Undefined = 46

-- the kind of an opcode is what stands in the map at its byte
abbrev pub IsMapped : ℕ → Opcode → Type 0
IsMapped byte opcode = letter_of opcode ≡ slice_index opcode_map byte
