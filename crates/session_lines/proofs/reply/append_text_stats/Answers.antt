use Rattle.std.proofs.Common.{codes, string_bytes, ◌++◌}
use Rattle.std.specs.Fmt.{decimal}
use Rattle.session_lines.proofs.Joined.{joined}
use Rattle.session_lines.proofs.reply.append_text_stats.Goals as goal

pub returns-clause-bytes : goal.returns-clause-bytes
returns-clause-bytes c =
    let stats = c.args.stats.now in
    let out = string_bytes c.args.out.now in
    let first = codes "ok stats versions " ++ decimal stats.versions in
    let second = (first ++ codes " characters ") ++ decimal stats.characters in
    let third = (second ++ codes " removed ") ++ decimal stats.removed in
    let two = joined out (string_bytes c.append_number.new.out) (string_bytes c.append_number-2.new.out) first (codes " characters ")
    (decimal stats.characters) c.append_number.ensures.bytes c.append_number-2.ensures.bytes in
    let three = joined out (string_bytes c.append_number-2.new.out) (string_bytes c.append_number-3.new.out) second (codes " removed ")
    (decimal stats.removed) two c.append_number-3.ensures.bytes in
    joined out (string_bytes c.append_number-3.new.out) (string_bytes c.append_number-4.new.out) third (codes " marks ")
    (decimal stats.marks) three c.append_number-4.ensures.bytes
