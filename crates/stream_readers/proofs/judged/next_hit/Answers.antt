use Rattle.std.proofs.Common.{◌≡◌, ◌==◌, ◌<◌, ◌∙◌, false, get_or, length, refl, arith}
use Rattle.std.proofs.lemmas.Option.{slice_get-get_or}
use Rattle.stream_readers.proofs.Judging.{step_hit, not_zero}
use Rattle.stream_readers.proofs.judged.next_hit.Goals as goal

pub returns-then-verdicts-span-ne0 : goal.returns-then-verdicts-span-ne0
returns-then-verdicts-span-ne0 c = λ number.
    let verdicts = c.args.verdicts.now in
    let span = c.loop-span.span in
    let within : span < length verdicts = omega arith in
    let some : (get_or verdicts span 0 == 0) ≡ false = not_zero (get_or verdicts span 0) c.if-verdicts-span-ne0.true in
    (get_or verdicts span 0, slice_get-get_or verdicts span 0 within, c.loop-span.invariant number ∙ step_hit number span verdicts (get_or verdicts span 0) 0 within refl some)
