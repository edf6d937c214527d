-- How much a document holds over its life, and its hub at one time, by its size.
use Rattle.std.specs.Prelude.{ℕ}
use Rattle.change_ops.specs.declared.size.Size.{Size}
use Rattle.change_ops.specs.declared.size.Size.TheVariants.{Small, Large}

-- characters that are inserted, removed ones too
abbrev pub most_characters : Size → ℕ
most_characters Small = 32768
most_characters Large = 262144

-- mark operations
abbrev pub most_marks : Size → ℕ
most_marks Small = 4096
most_marks Large = 16384

-- accepted changes
abbrev pub most_changes : Size → ℕ
most_changes Small = 4096
most_changes Large = 65536

-- subscribers, closed ones too
abbrev pub most_subscribers : Size → ℕ
most_subscribers Small = 64
most_subscribers Large = 4096

-- subscribers that are not closed
abbrev pub most_open : Size → ℕ
most_open Small = 64
most_open Large = 256

-- sessions at one time
abbrev pub most_sessions : Size → ℕ
most_sessions Small = 64
most_sessions Large = 256

-- bytes of the visible characters as UTF-8
abbrev pub most_bytes : ℕ
most_bytes = 131072
