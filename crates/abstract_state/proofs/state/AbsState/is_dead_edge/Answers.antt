use Rattle.std.proofs.Common.{◌≡◌, ℕ, Bool, true, false, Result, Ok, option_map, refl, sym, ap, ◌∙◌, subst}
use Rattle.std.specs.Prelude.{IsTrue, not}
use Rattle.std.specs.Result.{IfOk}
use Rattle.semantics.specs.Value.{cut, holds_of}
use Rattle.abstract_state.specs.State.{lengths_of}
use Rattle.abstract_state.specs.Addresses.{content_of, answer_of}
use Rattle.abstract_state.specs.Situation.{situation_of}
use Rattle.abstract_state.specs.Edges.{both_of}
use Rattle.abstract_state.proofs.Edges.{edge_dead}
use Rattle.abstract_state.proofs.state.AbsState.is_dead_edge.Goals as goal

ok_of : {A E : Type 0} (r : Result A E) (P : A → Type 0) (a : A) → r ≡ Ok a → IfOk r P → P a
ok_of {A = A} {E = E} r P a is h = subst (λ (x : Result A E). IfOk x P) is h

not_true : (b : Bool) → IsTrue (not b) → b ≡ false
not_true true h = sym h
not_true false h = refl

pub returns-in-Ok-None-clause-sound : goal.returns-in-Ok-None-clause-sound
returns-in-Ok-None-clause-sound c = λ dead span s held.
    let lengths = lengths_of span in
    let m = ok_of c.read.result _ c.in-Ok-Ok.a c.in-Ok-Ok.is-0 c.read.ensures.sound lengths s held in
    let n = ok_of c.right_side.result _ c.in-Ok-Ok.b c.in-Ok-Ok.is-1 c.right_side.ensures.sound lengths s held in
    let same = ap (λ (k : ℕ). holds_of c.args.comparison c.args.width (cut c.args.width m.0) k) n.1.2 in (
      m.0,
      (
        n.0,
        m.1,
        n.1.1,
        (λ h.
            let nothing = c.in-Ok-None.ensures.sound lengths m.0 n.1.0 m.2 n.1.4 (same ∙ h) in
            let none = sym c.in-Ok-None.field-0-is ∙ nothing.1 in
            absurd (cc)),
      ),
    )

pub returns-in-Ok-None-clause-rule : goal.returns-in-Ok-None-clause-rule
returns-in-Ok-None-clause-rule c = λ dead.
    edge_dead c.args.width c.args.comparison c.args.left c.args.right.now c.args.taken (situation_of c.args.self.now) (content_of c.in-Ok-Ok.a) (content_of c.in-Ok-Ok.b)
    (sym c.read.ensures.rule ∙ ap (answer_of content_of) c.in-Ok-Ok.is-0)
    (sym c.right_side.ensures.rule ∙ ap (answer_of content_of) c.in-Ok-Ok.is-1)
    (sym c.pair_on.ensures.rule ∙ ap (answer_of (option_map both_of)) (c.in-Ok-None.is ∙ ap (λ o. Ok o) c.in-Ok-None.field-0-is))
    (sym c.is_one_register.ensures.rule ∙ not_true c.is_one_register.result dead)
