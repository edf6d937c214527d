use Rattle.std.proofs.Common.{ℕ, ◌+◌, ◌%◌, ◌^◌, subst, sym, ap, ◌∙◌}
use Rattle.std.proofs.lemmas.Result.{IfOk-weaker}
use Rattle.abstract_state.specs.Known.{WithinKnown}
use Rattle.abstract_state.proofs.Addresses.{adds, sum_lent}
use Rattle.abstract_state.proofs.known.onto_lent.Goals as goal

pub returns-in-Full-Add-clause-sound : goal.returns-in-Full-Add-clause-sound
returns-in-Full-Add-clause-sound c = IfOk-weaker c.lent.result _ _
    (λ o h lengths x y a b.
    subst (λ (n : ℕ). WithinKnown o lengths n)
    (sum_lent c.args.address.region x b.0 ∙ ap (λ (n : ℕ). (x + n) % 2 ^ 64) (sym b.1) ∙ sym (adds c.args.operation c.args.width x y c.in-Full-Add.is-1 c.in-Full-Add.is-0))
    (h lengths ((x + b.0) % 2 ^ 64) (c.add.ensures.contains lengths x b.0 a b.2 a.bits.fits b.2.bits.fits)))
    c.lent.ensures.sound
