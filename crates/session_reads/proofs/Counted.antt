-- What is told of a hub, by the version that was looked at.
use Rattle.std.proofs.Common.{◌≡◌, ℕ, Option, length, sym, ap, ◌∙◌}
use Rattle.change_ops.specs.declared.size.Size.{Size}
use Rattle.span_flatten.specs.Version.{Version}
use Rattle.hub_core.specs.declared.counts.Counts.{Counts}
use Rattle.session_lines.specs.declared.stats.Memory.{Memory}
use Rattle.session_lines.specs.declared.stats.PerLimit.{PerLimit}
use Rattle.session_lines.specs.declared.stats.Stats.{Stats}
use Rattle.session_reads.specs.Counting.{left_of, stats_of, told_limit}

pub told : (size : Size) (stats : Stats) (counts : Counts) (seen latest : Version) (sessions lag : ℕ) (memory : Option Memory) → stats ≡ stats_of size counts seen sessions lag memory → seen ≡ latest
    → stats ≡ stats_of size counts latest stats.sessions stats.lag stats.memory
told size stats counts seen latest sessions lag memory is same =
    is
    ∙ ap (λ (v : Version). stats_of size counts v sessions lag memory) same
    ∙ ap (λ (n : ℕ). stats_of size counts latest n lag memory) (sym (ap (λ (s : Stats). s.sessions) is))
    ∙ ap (λ (n : ℕ). stats_of size counts latest stats.sessions n memory) (sym (ap (λ (s : Stats). s.lag) is))
    ∙ ap (λ (m : Option Memory). stats_of size counts latest stats.sessions stats.lag m) (sym (ap (λ (s : Stats). s.memory) is))

-- and its document's limit
pub limited : (size : Size) (stats : Stats) (counts : Counts) (seen : Version) (sessions lag : ℕ) (memory : Option Memory) (limit : Option ℕ) → stats ≡ stats_of size counts seen sessions lag memory
    → told_limit memory ≡ limit → told_limit stats.memory ≡ limit
limited size stats counts seen sessions lag memory limit is known = ap (λ (s : Stats). told_limit s.memory) is ∙ known

pub left_told : (size : Size) (left : PerLimit) (counts : Counts) (seen latest : Version) (bytes : ℕ) → left ≡ left_of size counts bytes → bytes ≡ length seen.text → seen ≡ latest → left ≡ left_of size counts (length latest.text)
left_told size left counts seen latest bytes is size_of same = is ∙ ap (left_of size counts) (size_of ∙ ap (λ (v : Version). length v.text) same)
