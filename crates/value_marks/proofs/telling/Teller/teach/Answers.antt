use Rattle.std.proofs.Common.{◌≡◌, ◌+◌, ℕ, sym, ap, ◌∙◌, subst}
use Rattle.bpf_words.specs.declared.instruction.Width.{Width}
use Rattle.semantics.specs.Value.{cut}
use Rattle.value_marks.specs.Mark.{distance}
use Rattle.value_marks.proofs.Taught.{ahead_of}
use Rattle.value_marks.proofs.telling.Teller.teach.Goals as goal

pub returns-clause-sound : goal.returns-clause-sound
returns-clause-sound c = λ lengths origins m n same a am b bn.
    let from = c.args.self.now.mark in
    let ahead = ahead_of origins from c.args.mark m n same am bn in
    let w = c.common_width-width.result in
    let moved = subst (λ (v : Width). cut v n ≡ cut v (m + distance v from c.args.mark)) (sym c.common_width-width.ensures) ahead in
    c.told_known.ensures.sound lengths m n a b (moved ∙ ap (λ (k : ℕ). cut w (m + k)) (sym c.distance_to.ensures.value))
