use Rattle.std.proofs.Common.{◌≡◌, ◌∷◌, [], List, ℕ, ap, string_bytes, ◌++◌, ◌∙◌}
use Rattle.session_lines.specs.Replies.{text_stats, user_stats, used_stats, limit_stats, memory_stats}
use Rattle.session_lines.proofs.Joined.{five}
use Rattle.session_lines.proofs.reply.push_stats.Goals as goal

pub returns-clause-ok : goal.returns-clause-ok
returns-clause-ok c =
    let stats = c.args.stats.now in
    five (string_bytes c.args.out.now) (string_bytes c.append_text_stats.new.out) (string_bytes c.append_user_stats.new.out)
    (string_bytes c.append_used_stats.new.out) (string_bytes c.append_all_limits.new.out) (string_bytes c.append.new.out)
    (text_stats stats) (user_stats stats) (used_stats stats.used) (limit_stats stats.limits) (memory_stats stats.memory) (10 ∷ [])
    (c.append_text_stats.ensures.bytes ∙ ap (λ (l : List ℕ). l ++ text_stats stats) c.in_ok-reserve.ensures.bytes)
    c.append_user_stats.ensures.bytes c.append_used_stats.ensures.bytes c.append_all_limits.ensures.bytes c.append.ensures.bytes
