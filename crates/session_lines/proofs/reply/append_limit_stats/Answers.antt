use Rattle.std.proofs.Common.{codes, string_bytes, ◌++◌}
use Rattle.std.specs.Fmt.{decimal}
use Rattle.session_lines.proofs.Joined.{joined}
use Rattle.session_lines.proofs.reply.append_limit_stats.Goals as goal

pub returns-clause-bytes : goal.returns-clause-bytes
returns-clause-bytes c =
    let limits = c.args.limits.now in
    let out = string_bytes c.args.out.now in
    let first = codes " changes-limit " ++ decimal limits.changes in
    let second = (first ++ codes " characters-limit ") ++ decimal limits.characters in
    let third = (second ++ codes " bytes-limit ") ++ decimal limits.bytes in
    let fourth = (third ++ codes " marks-limit ") ++ decimal limits.marks in
    let fifth = (fourth ++ codes " subscribers-limit ") ++ decimal limits.subscribers in
    let two = joined out (string_bytes c.append_number.new.out) (string_bytes c.append_number-2.new.out) first (codes " characters-limit ")
    (decimal limits.characters) c.append_number.ensures.bytes c.append_number-2.ensures.bytes in
    let three = joined out (string_bytes c.append_number-2.new.out) (string_bytes c.append_number-3.new.out) second (codes " bytes-limit ")
    (decimal limits.bytes) two c.append_number-3.ensures.bytes in
    let four = joined out (string_bytes c.append_number-3.new.out) (string_bytes c.append_number-4.new.out) third (codes " marks-limit ")
    (decimal limits.marks) three c.append_number-4.ensures.bytes in
    let five = joined out (string_bytes c.append_number-4.new.out) (string_bytes c.append_number-5.new.out) fourth (codes " subscribers-limit ")
    (decimal limits.subscribers) four c.append_number-5.ensures.bytes in
    joined out (string_bytes c.append_number-5.new.out) (string_bytes c.append_number-6.new.out) fifth (codes " open-limit ")
    (decimal limits.open_subscribers) five c.append_number-6.ensures.bytes
