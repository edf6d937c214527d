-- What one frame more adds to what is found.
use Rattle.std.proofs.Common.{◌≡◌, ℕ, suc, ◌+◌, ◌≤◌, Bool, true, false, List, ◌∙◌, ap, arith}
use Rattle.log_frames.specs.Frames.{frame_of, follows, is_mark, commits, counted, after, sum_before, read_to}
use Rattle.log_frames.specs.declared.reading.Reading.{Reading}
use Rattle.log_frames.specs.declared.reading.Reading.TheVariants.{Whole, Ended, Broken}
use Rattle.log_frames.specs.declared.reading.Terms.{Terms}

pub one_more : (terms : Terms) (begin : Reading) (log : List ℕ) (index : ℕ) (reading new : Reading) (before : ℕ × ℕ)
    (frame : List ℕ) (goes_on mark commit : Bool) → reading ≡ read_to terms begin log index
    → before ≡ sum_before terms.page_size log index → frame ≡ frame_of terms.page_size log index
    → goes_on ≡ follows terms.is_big terms.salts before frame → mark ≡ is_mark terms.salts frame
    → commit ≡ commits frame → new ≡ after reading goes_on mark commit → new ≡ read_to terms begin log (suc index)
unfolding read_to
one_more terms begin log index reading new before frame goes_on mark commit reading_is before_is frame_is goes_on_is mark_is commit_is new_is =
    let r = read_to terms begin log index in
    let b = sum_before terms.page_size log index in
    let f = frame_of terms.page_size log index in
    let on = follows terms.is_big terms.salts b f in
    let m = is_mark terms.salts f in
    new_is ∙ ap (λ it. after it goes_on mark commit) reading_is
    ∙ ap (λ it. after r it mark commit) (goes_on_is ∙ ap (λ it. follows terms.is_big terms.salts it frame) before_is
    ∙ ap (λ it. follows terms.is_big terms.salts b it) frame_is)
    ∙ ap (λ it. after r on it commit) (mark_is ∙ ap (λ it. is_mark terms.salts it) frame_is)
    ∙ ap (λ it. after r on m it) (commit_is ∙ ap (λ it. commits it) frame_is)

pub few_more : (reading : Reading) (goes_on mark commit : Bool) → counted (after reading goes_on mark commit) ≤ counted reading + 1
few_more Whole true mark commit = omega arith
few_more Whole false true commit = omega arith
few_more Whole false false commit = omega arith
few_more Ended goes_on mark commit = omega arith
few_more (Broken count) true mark true = omega arith
few_more (Broken count) true mark false = omega arith
few_more (Broken count) false mark commit = omega arith
