use Rattle.std.proofs.Common.{ℕ, ◌+◌, ◌-◌, ◌%◌, ◌^◌, refl, subst, sym, ap, ◌∙◌, arith}
use Rattle.std.proofs.lemmas.Result.{IfOk-weaker}
use Rattle.abstract_state.specs.Known.{WithinKnown}
use Rattle.abstract_state.specs.Exact.{tail_after}
use Rattle.abstract_state.specs.Lent.{base_of}
use Rattle.abstract_state.proofs.Addresses.{adds, subtracts, lent_sum, lent_difference}
use Rattle.abstract_state.proofs.known.from_lent.Goals as goal

pub returns-in-Full-Add-clause-sound : goal.returns-in-Full-Add-clause-sound
returns-in-Full-Add-clause-sound c = IfOk-weaker c.lent.result _ _
    (λ o h lengths x y a b.
    let base = base_of c.args.address.region in
    subst (λ (n : ℕ). WithinKnown o lengths n)
    (lent_sum c.args.address.region a.0 y ∙ ap (λ (n : ℕ). (n + y) % 2 ^ 64) (sym a.1) ∙ sym (adds c.args.operation c.args.width x y c.in-Full-Add.is-1 c.in-Full-Add.is-0))
    (h lengths ((a.0 + y) % 2 ^ 64) (c.add.ensures.contains lengths a.0 y a.2 b a.2.bits.fits b.bits.fits)))
    c.lent.ensures.sound

pub returns-in-Full-Sub-clause-sound : goal.returns-in-Full-Sub-clause-sound
returns-in-Full-Sub-clause-sound c = IfOk-weaker c.lent-in-Full-Sub.result _ _
    (λ o h lengths x y a b.
    subst (λ (n : ℕ). WithinKnown o lengths n)
    (lent_difference c.args.address.region a.0 y b.bits.fits ∙ ap (λ (n : ℕ). (n + (2 ^ 64 - y % 2 ^ 64)) % 2 ^ 64) (sym a.1) ∙ sym (subtracts c.args.operation c.args.width x y c.in-Full-Sub.is-1 c.in-Full-Sub.is-0))
    (h lengths ((a.0 + (2 ^ 64 - y)) % 2 ^ 64) (c.sub.ensures.contains lengths a.0 y a.2 b a.2.bits.fits b.bits.fits)))
    c.lent-in-Full-Sub.ensures.sound

pub returns-in-Full-Add-clause-adds : goal.returns-in-Full-Add-clause-adds
returns-in-Full-Add-clause-adds c = λ at adds full is m n t a b near.
    c.lent.ensures.there at (m + n) (m + n) (tail_after t n) is (c.add.ensures.constants at refl m n t a b (omega arith) (omega arith)) near
