use Rattle.std.proofs.Common.{take, length, subst, length-take-le}
use Rattle.std.specs.Io.BufRead.{FillKeeps}
use Rattle.std.proofs.BufReadLemmas.{Consumes_shown, zero_unless_positive}
use Rattle.session_lines.proofs.Unended.{unended_short}
use Rattle.session_lines.proofs.reader.append_part.Goals as goal

pub returns-clause-ok : goal.returns-clause-ok
returns-clause-ok g c =
    let len = c.part_len-len in
    let rested = c.fill_buf.follows.lender-at-none in
    let filled = subst (FillKeeps _ (g.B.Read.remaining rested) (g.B.BufRead.consumable_len rested)) c.in_ok-bytes.was c.fill_buf.follows.holds-at-none in
    let moved = Consumes_shown _ _ _ _ c.in_ok-bytes.bytes.now len.result len.ensures.bound c.in_ok-bytes.ensures.front c.in_ok-bytes.ensures.end filled.0 filled.1 c.consume.ensures.bytes in
    record {
      part = take len.result c.in_ok-bytes.bytes.now;
      whole = c.in_ok-extend_from_slice.ensures.items;
      many = length-take-le len.result c.in_ok-bytes.bytes.now len.ensures.bound;
      few = len.ensures.room;
      one = unended_short len.result c.in_ok-bytes.bytes.now len.ensures.bound len.ensures.one;
      front = moved.0;
      end = λ none. moved.1 (zero_unless_positive (length c.in_ok-bytes.bytes.now) len.result (len.ensures.some c.requires) none);
    }
