use Rattle.std.proofs.Common.{◌≡◌, ℕ, suc, ◌+◌, ◌-◌, ◌/◌, ◌≤◌, length, sym, ◌∙◌, ap, add-one, subst, arith}
use Rattle.sqlite_wal.specs.Format.{stored_sum}
use Rattle.log_frames.specs.Frames.{frame_bytes, counted, sum_before, read_to}
use Rattle.log_frames.proofs.OneMore.{one_more, few_more}
use Rattle.log_frames.proofs.reading.read.Goals as goal

pub loop-index-preserved : goal.loop-index-preserved
loop-index-preserved c =
    let log = c.args.log.now in
    let index = c.loop-index.index in
    let terms = c.args.terms in
    let inv = c.loop-index.invariant in
    let next : index + 1 ≡ suc index = add-one index in
    let read = one_more terms c.args.begin log index _ _ _ _ _ _ _ inv.reading inv.before c.frame_of-frame.ensures.value
    c.follows.ensures c.is_mark.ensures c.commits.ensures c.after-reading.ensures in
    let most : counted c.after-reading.result ≤ counted c.loop-index.reading + 1 =
    subst (λ r. counted r ≤ counted c.loop-index.reading + 1) (sym c.after-reading.ensures) (few_more c.loop-index.reading c.follows.result c.is_mark.result c.commits.result) in
    record {
      reading = read ∙ sym (ap (read_to terms c.args.begin log) next);
      before = c.pair-before-in-loop-index.ensures ∙ ap (λ frame. stored_sum frame 16) c.frame_of-frame.ensures.value
          ∙ sym (ap (sum_before terms.page_size log) next);
      few = omega (arith, most, inv.few);
    }

pub returns : goal.returns
returns c =
    let log = c.args.log.now in
    let done : c.loop-index.index ≡ (length log - 32) / c.frame_bytes.result = omega arith in
    c.loop-index.invariant.reading
    ∙ ap (read_to c.args.terms c.args.begin log) (done ∙ ap (λ size. (length log - 32) / size) c.frame_bytes.ensures)
