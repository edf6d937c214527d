use Rattle.std.proofs.Common.{codes, string_bytes, ◌++◌}
use Rattle.std.specs.Fmt.{decimal}
use Rattle.session_lines.proofs.Joined.{joined}
use Rattle.session_lines.proofs.reply.append_user_stats.Goals as goal

pub returns-clause-bytes : goal.returns-clause-bytes
returns-clause-bytes c =
    let stats = c.args.stats.now in
    let out = string_bytes c.args.out.now in
    let first = codes " subscribers " ++ decimal stats.subscribers in
    let second = (first ++ codes " subscribed ") ++ decimal stats.subscribed in
    let third = (second ++ codes " sessions ") ++ decimal stats.sessions in
    let fourth = (third ++ codes " bytes ") ++ decimal stats.bytes in
    let two = joined out (string_bytes c.append_number.new.out) (string_bytes c.append_number-2.new.out) first (codes " subscribed ")
    (decimal stats.subscribed) c.append_number.ensures.bytes c.append_number-2.ensures.bytes in
    let three = joined out (string_bytes c.append_number-2.new.out) (string_bytes c.append_number-3.new.out) second (codes " sessions ")
    (decimal stats.sessions) two c.append_number-3.ensures.bytes in
    let four = joined out (string_bytes c.append_number-3.new.out) (string_bytes c.append_number-4.new.out) third (codes " bytes ")
    (decimal stats.bytes) three c.append_number-4.ensures.bytes in
    joined out (string_bytes c.append_number-4.new.out) (string_bytes c.append_number-5.new.out) fourth (codes " lag ")
    (decimal stats.lag) four c.append_number-5.ensures.bytes
