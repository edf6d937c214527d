use Rattle.std.proofs.Common.{◌≡◌, ◌+◌, ◌%◌, ◌^◌, None, ℕ, refl, subst, arith}
use Rattle.std.specs.Option.{IfSome}
use Rattle.bpf_words.specs.declared.instruction.Arithmetic.{Arithmetic}
use Rattle.abstract_state.specs.Exact.{IsConstant, Folds}
use Rattle.abstract_state.specs.Quantity.{Within}
use Rattle.abstract_state.proofs.Widths.{cut_same, signed_div_fits, signed_mod_fits}
use Rattle.abstract_state.proofs.transfer.apply.Goals as goal

pub returns-in-Add-clause-contains : goal.returns-in-Add-clause-contains
returns-in-Add-clause-contains c = λ lengths x y a b fa fb. rw c.in-Add.is (c.add.ensures.contains lengths x y a b fa fb)

pub returns-in-Sub-clause-contains : goal.returns-in-Sub-clause-contains
returns-in-Sub-clause-contains c = λ lengths x y a b fa fb. rw c.in-Sub.is (c.sub.ensures.contains lengths x y a b fa fb)

pub returns-in-Mul-clause-contains : goal.returns-in-Mul-clause-contains
returns-in-Mul-clause-contains c = λ lengths x y a b fa fb. rw c.in-Mul.is (c.mul.ensures.contains lengths x y a b fa fb)

pub returns-in-Div-clause-contains : goal.returns-in-Div-clause-contains
returns-in-Div-clause-contains c = λ lengths x y a b fa fb. rw c.in-Div.is (c.div.ensures.contains lengths x y a b fa fb)

pub returns-in-Or-clause-contains : goal.returns-in-Or-clause-contains
returns-in-Or-clause-contains c = λ lengths x y a b fa fb. rw c.in-Or.is (c.or.ensures.contains lengths x y a b fa fb)

pub returns-in-And-clause-contains : goal.returns-in-And-clause-contains
returns-in-And-clause-contains c = λ lengths x y a b fa fb. rw c.in-And.is (c.and.ensures.contains lengths x y a b fa fb)

pub returns-in-Lsh-clause-contains : goal.returns-in-Lsh-clause-contains
returns-in-Lsh-clause-contains c = λ lengths x y a b fa fb. rw c.in-Lsh.is (c.shl.ensures.contains lengths x y a b fa fb)

pub returns-in-Rsh-clause-contains : goal.returns-in-Rsh-clause-contains
returns-in-Rsh-clause-contains c = λ lengths x y a b fa fb. rw c.in-Rsh.is (c.shr.ensures.contains lengths x y a b fa fb)

pub returns-in-Mod-clause-contains : goal.returns-in-Mod-clause-contains
returns-in-Mod-clause-contains c = λ lengths x y a b fa fb. rw c.in-Mod.is (c.rem.ensures.contains lengths x y a b fa fb)

pub returns-in-Xor-clause-contains : goal.returns-in-Xor-clause-contains
returns-in-Xor-clause-contains c = λ lengths x y a b fa fb. rw c.in-Xor.is (c.xor.ensures.contains lengths x y a b fa fb)

pub returns-in-Mov-clause-contains : goal.returns-in-Mov-clause-contains
returns-in-Mov-clause-contains c = λ lengths x y a b fa fb. rw c.in-Mov.is (subst (λ (n : ℕ). Within c.moved.result lengths n) (cut_same c.args.width y fb) (c.moved.ensures.contains lengths y b))

pub returns-in-Arsh-clause-contains : goal.returns-in-Arsh-clause-contains
returns-in-Arsh-clause-contains c = λ lengths x y a b fa fb. rw c.in-Arsh.is (c.arsh.ensures.contains lengths x y a b fa fb)

pub returns-in-SignedDiv-clause-contains : goal.returns-in-SignedDiv-clause-contains
returns-in-SignedDiv-clause-contains c = λ lengths x y a b fa fb. rw c.in-SignedDiv.is ((_, refl, c.unknown.ensures.contains lengths _ (signed_div_fits c.args.width x y fa fb)))

pub returns-in-SignedMod-clause-contains : goal.returns-in-SignedMod-clause-contains
returns-in-SignedMod-clause-contains c = λ lengths x y a b fa fb. rw c.in-SignedMod.is ((_, refl, c.unknown-in-SignedMod.ensures.contains lengths _ (signed_mod_fits c.args.width x y fa fb)))

pub returns-in-Add-clause-constants : goal.returns-in-Add-clause-constants
returns-in-Add-clause-constants c = λ region wide m n folds a b.
    let small = subst (λ (op : Arithmetic). Folds op m n) c.in-Add.is folds in
    let sum : m + n ≡ (m + n) % 2 ^ 64 = omega (arith, small.0, small.1) in
    rw c.in-Add.is (subst (λ (v : ℕ). IfSome c.add.result (λ q. IsConstant region q v)) sum (c.add.ensures.constants region wide m n None a b small.0 small.1))

pub returns-in-Or-clause-constants : goal.returns-in-Or-clause-constants
returns-in-Or-clause-constants c = λ region wide m n folds a b. rw c.in-Or.is (c.or.ensures.constants region wide m n a b)

pub returns-in-And-clause-constants : goal.returns-in-And-clause-constants
returns-in-And-clause-constants c = λ region wide m n folds a b. rw c.in-And.is (c.and.ensures.constants region wide m n a b)

pub returns-in-Xor-clause-constants : goal.returns-in-Xor-clause-constants
returns-in-Xor-clause-constants c = λ region wide m n folds a b. rw c.in-Xor.is (c.xor.ensures.constants region wide m n a b)

pub returns-in-Sub-clause-constants : goal.returns-in-Sub-clause-constants
returns-in-Sub-clause-constants c = λ region wide m n folds a b. absurd (subst (λ (op : Arithmetic). Folds op m n) c.in-Sub.is folds)

pub returns-in-Mul-clause-constants : goal.returns-in-Mul-clause-constants
returns-in-Mul-clause-constants c = λ region wide m n folds a b. absurd (subst (λ (op : Arithmetic). Folds op m n) c.in-Mul.is folds)

pub returns-in-Div-clause-constants : goal.returns-in-Div-clause-constants
returns-in-Div-clause-constants c = λ region wide m n folds a b. absurd (subst (λ (op : Arithmetic). Folds op m n) c.in-Div.is folds)

pub returns-in-Lsh-clause-constants : goal.returns-in-Lsh-clause-constants
returns-in-Lsh-clause-constants c = λ region wide m n folds a b. absurd (subst (λ (op : Arithmetic). Folds op m n) c.in-Lsh.is folds)

pub returns-in-Rsh-clause-constants : goal.returns-in-Rsh-clause-constants
returns-in-Rsh-clause-constants c = λ region wide m n folds a b. absurd (subst (λ (op : Arithmetic). Folds op m n) c.in-Rsh.is folds)

pub returns-in-Mod-clause-constants : goal.returns-in-Mod-clause-constants
returns-in-Mod-clause-constants c = λ region wide m n folds a b. absurd (subst (λ (op : Arithmetic). Folds op m n) c.in-Mod.is folds)

pub returns-in-Mov-clause-constants : goal.returns-in-Mov-clause-constants
returns-in-Mov-clause-constants c = λ region wide m n folds a b. absurd (subst (λ (op : Arithmetic). Folds op m n) c.in-Mov.is folds)

pub returns-in-Arsh-clause-constants : goal.returns-in-Arsh-clause-constants
returns-in-Arsh-clause-constants c = λ region wide m n folds a b. absurd (subst (λ (op : Arithmetic). Folds op m n) c.in-Arsh.is folds)

pub returns-in-SignedDiv-clause-constants : goal.returns-in-SignedDiv-clause-constants
returns-in-SignedDiv-clause-constants c = λ region wide m n folds a b. absurd (subst (λ (op : Arithmetic). Folds op m n) c.in-SignedDiv.is folds)

pub returns-in-SignedMod-clause-constants : goal.returns-in-SignedMod-clause-constants
returns-in-SignedMod-clause-constants c = λ region wide m n folds a b. absurd (subst (λ (op : Arithmetic). Folds op m n) c.in-SignedMod.is folds)
