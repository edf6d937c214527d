use Rattle.std.proofs.Common.{◌≡◌, ◌+◌, ◌∙◌, arith}
use Rattle.abstract_state.proofs.Addresses.{adds, subtracts}
use Rattle.abstract_state.proofs.known.displaced.Goals as goal

pub returns-in-Full-Add-clause-adds : goal.returns-in-Full-Add-clause-adds
returns-in-Full-Add-clause-adds c = λ lengths base y b.
    let is : y ≡ c.in_ok-c.c = c.in_ok-c.ensures.contains lengths y b in
    adds c.args.operation c.args.width (base + c.args.offset) y c.in-Full-Add.is-1 c.in-Full-Add.is-0 ∙ omega arith

pub returns-in-Full-Sub-clause-adds : goal.returns-in-Full-Sub-clause-adds
returns-in-Full-Sub-clause-adds c = λ lengths base y b.
    let is : y ≡ c.in_ok-c.c = c.in_ok-c.ensures.contains lengths y b in
    let fits = b.bits.fits in
    subtracts c.args.operation c.args.width (base + c.args.offset) y c.in-Full-Sub.is-1 c.in-Full-Sub.is-0 ∙ omega arith
