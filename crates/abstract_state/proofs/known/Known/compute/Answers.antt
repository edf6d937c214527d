use Rattle.std.proofs.Common.{◌≡◌, ℕ, None, refl, subst}
use Rattle.bpf_words.specs.declared.instruction.Width.TheVariants.{Full}
use Rattle.semantics.specs.Value.{value_of}
use Rattle.std.proofs.lemmas.Result.{IfOk-weaker}
use Rattle.abstract_state.specs.Known.{ContainsKnown}
use Rattle.abstract_state.specs.Lent.{Lengths}
use Rattle.abstract_state.specs.Exact.{IsLentIn, IsNumberIn}
use Rattle.abstract_state.specs.declared.known.Known.{Known}
use Rattle.abstract_state.proofs.known.Known.compute.Goals as goal

is : (k j : Known) (lengths : Lengths) (x : ℕ) → k ≡ j → ContainsKnown k lengths x → ContainsKnown j lengths x
is k j lengths x e c = subst (λ (v : Known). ContainsKnown v lengths x) e c

pub returns-in-Number-Number-clause-sound : goal.returns-in-Number-Number-clause-sound
returns-in-Number-Number-clause-sound c = λ lengths x y a b.
    c.number.ensures.contains lengths _ (c.transfer.ensures.contains lengths x y (is _ _ lengths x c.in-Number-Number.is-0 a) (is _ _ lengths y c.in-Number-Number.is-1 b))

pub returns-in-Number-Lent-clause-sound : goal.returns-in-Number-Lent-clause-sound
returns-in-Number-Lent-clause-sound c = IfOk-weaker c.onto_lent.result _ _
    (λ o h lengths x y a b. h lengths x y (is _ _ lengths x c.in-Number-Lent.is-0 a) (is _ _ lengths y c.in-Number-Lent.is-1 b))
    c.onto_lent.ensures.sound

pub returns-in_ok-from_context-in-Context-Number-clause-sound : goal.returns-in_ok-from_context-in-Context-Number-clause-sound
returns-in_ok-from_context-in-Context-Number-clause-sound c = λ lengths x y a b.
    (_, refl, c.in_ok-from_context-in-Context-Number.ensures.sound lengths x y (is _ _ lengths x c.in-Context-Number.is-0 a) (is _ _ lengths y c.in-Context-Number.is-1 b))

pub returns-in_ok-from_stack-in-Stack-Number-clause-sound : goal.returns-in_ok-from_stack-in-Stack-Number-clause-sound
returns-in_ok-from_stack-in-Stack-Number-clause-sound c = λ lengths x y a b.
    (_, refl, c.in_ok-from_stack-in-Stack-Number.ensures.sound lengths x y (is _ _ lengths x c.in-Stack-Number.is-0 a) (is _ _ lengths y c.in-Stack-Number.is-1 b))

pub returns-in-Lent-Number-clause-sound : goal.returns-in-Lent-Number-clause-sound
returns-in-Lent-Number-clause-sound c = IfOk-weaker c.from_lent.result _ _
    (λ o h lengths x y a b. h lengths x y (is _ _ lengths x c.in-Lent-Number.is-0 a) (is _ _ lengths y c.in-Lent-Number.is-1 b))
    c.from_lent.ensures.sound

pub returns-in-Lent-Lent-clause-sound : goal.returns-in-Lent-Lent-clause-sound
returns-in-Lent-Lent-clause-sound c = IfOk-weaker c.distance.result _ _
    (λ o h lengths x y a b. h lengths x y (is _ _ lengths x c.in-Lent-Lent.is-0 a) (is _ _ lengths y c.in-Lent-Lent.is-1 b))
    c.distance.ensures.sound

pub returns-in-Lent-Number-clause-adds : goal.returns-in-Lent-Number-clause-adds
returns-in-Lent-Number-clause-adds c = λ at adds full m n t a b near.
    let left = subst (λ (k : Known). IsLentIn at m m t k) c.in-Lent-Number.is-0 a in
    let right = subst (λ (k : Known). IsNumberIn at n n None k) c.in-Lent-Number.is-1 b in
    c.from_lent.ensures.adds at adds full left.0 m n t left.1 right near

pub returns-in-Number-Number-clause-folds : goal.returns-in-Number-Number-clause-folds
returns-in-Number-Number-clause-folds c = λ at wide m n folds a b.
    let left = subst (λ (k : Known). IsNumberIn at m m None k) c.in-Number-Number.is-0 a in
    let right = subst (λ (k : Known). IsNumberIn at n n None k) c.in-Number-Number.is-1 b in
    (refl, c.number.ensures.same at (value_of c.args.operation Full m n) (value_of c.args.operation Full m n) None (c.transfer.ensures.constants at wide m n folds left right))
