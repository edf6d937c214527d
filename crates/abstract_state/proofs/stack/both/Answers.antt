use Rattle.std.proofs.Common.{◌≡◌, ℕ, ◌<◌, ◌&&◌, Bool, true, false, get_or, length, refl, subst, sym, ap, ◌∙◌, rules, arith}
use Rattle.std.specs.Cmp.Derive.{both_true}
use Rattle.abstract_state.specs.Stacks.{both_set}
use Rattle.abstract_state.proofs.Slots.{written_mark}
use Rattle.abstract_state.proofs.Stored.{marks_are}
use Rattle.abstract_state.proofs.stack.both.Goals as goal

first_of : (a b : Bool) → (a && b) ≡ true → a ≡ true
first_of true b e = refl
first_of false b e = e

second_of : (a b : Bool) → (a && b) ≡ true → b ≡ true
second_of true b e = e
second_of false b e = absurd (cc)

pub loop-j-preserved : goal.loop-j-preserved
loop-j-preserved c =
    let within : c.loop-j.j < length c.loop-j.marks = omega arith in
    let x = get_or c.args.a.now c.loop-j.j false in
    let y = get_or c.args.b.now c.loop-j.j false in
    record {
      long = search rules;
      left = λ k h.
          written_mark c.loop-j.marks c.loop-j.j k (x && y) false (λ (v : Bool). v ≡ true → get_or c.args.a.now k false ≡ true) within h
          (λ e m. ap (λ (i : ℕ). get_or c.args.a.now i false) e ∙ first_of x y m)
          (λ less. c.loop-j.invariant.left k less);
      right = λ k h.
          written_mark c.loop-j.marks c.loop-j.j k (x && y) false (λ (v : Bool). v ≡ true → get_or c.args.b.now k false ≡ true) within h
          (λ e m. ap (λ (i : ℕ). get_or c.args.b.now i false) e ∙ second_of x y m)
          (λ less. c.loop-j.invariant.right k less);
      all = λ k h p q.
          written_mark c.loop-j.marks c.loop-j.j k (x && y) false (λ (v : Bool). v ≡ true) within h
          (λ e. both_true (sym (ap (λ (i : ℕ). get_or c.args.a.now i false) e) ∙ p) (sym (ap (λ (i : ℕ). get_or c.args.b.now i false) e) ∙ q))
          (λ less. c.loop-j.invariant.all k less p q);
      is = λ k h.
          written_mark c.loop-j.marks c.loop-j.j k (x && y) false (λ (v : Bool). v ≡ (get_or c.args.a.now k false && get_or c.args.b.now k false)) within h
          (λ e. subst (λ (i : ℕ). (x && y) ≡ (get_or c.args.a.now i false && get_or c.args.b.now i false)) (sym e) refl)
          (λ less. c.loop-j.invariant.is k less);
    }

pub returns-clause-rule : goal.returns-clause-rule
unfolding both_set
returns-clause-rule c = marks_are c.loop-j.marks _ c.loop-j.invariant.long (λ j h. c.loop-j.invariant.is j (omega (arith, c.loop-j-test.false)))
