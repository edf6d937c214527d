-- How the reading of slots goes on from one slot to the next.
use Rattle.std.proofs.Common.{◌≡◌, ℕ, ◌+◌, if◌then◌else◌, List, false, refl, add-one}
use Rattle.bpf_words.specs.Words.{is_second, read_at, is_wide}

pub is_second-next : (bytes : List ℕ) (index : ℕ) → is_second bytes (index + 1) ≡ (if is_second bytes index then false else is_wide (read_at bytes index))
unfolding is_second
is_second-next bytes index = rw add-one refl

pub is_second-zero : (bytes : List ℕ) → is_second bytes 0 ≡ false
unfolding is_second
is_second-zero bytes = refl

pub ruleset stepping = (is_second-next, is_second-zero)
