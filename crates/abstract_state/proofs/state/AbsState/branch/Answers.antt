use Rattle.std.proofs.Common.{◌≡◌, ◌≤◌, Option, Result, Ok, Err, rules, true, false, refl, sym, subst, ◌↔◌, ◌∷◌}
use Rattle.std.specs.Option.{IfSome}
use Rattle.abstract_state.specs.declared.state.AbsState.{AbsState}
use Rattle.abstract_state.specs.Lent.{bound_of}
use Rattle.abstract_state.specs.Branch.{Edge}
use Rattle.abstract_state.specs.declared.refusal.Refusal.{Refusal}
use Rattle.abstract_state.specs.declared.refusal.Refusal.TheVariants.{UnsetRegister}
use Rattle.abstract_state.specs.Unset.{HasUnset}
use Rattle.bpf_words.specs.Flow.{read_operand}
use Rattle.abstract_state.specs.Situation.{situation_of}
use Rattle.abstract_state.specs.Edges.{Ways, AnswersBranch}
use Rattle.abstract_state.proofs.Edges.{answers_err, answers_ok, shows_live, branched_ok, branched_first, branched_second}
use Rattle.abstract_state.proofs.Unsets.{passed}
use Rattle.abstract_state.proofs.state.AbsState.branch.Goals as goal

pub returns-in_err-holds-clause-regions : goal.returns-in_err-holds-clause-regions
returns-in_err-holds-clause-regions c = λ r p q e w o a b region.
    let bad : false ≡ true = c.in_err-holds.ensures.regions r p q e w o a b region in absurd (cc)

pub returns-in_err-fails-clause-regions : goal.returns-in_err-fails-clause-regions
returns-in_err-fails-clause-regions c = λ r p q e w o a b region.
    let bad : false ≡ true = c.in_err-fails.ensures.regions r p q e w o a b region in absurd (cc)

pub returns-clause-taken : goal.returns-clause-taken
returns-clause-taken c = subst (λ (o : Option AbsState). Edge c.args.self.now c.args.width c.args.comparison c.args.left c.args.right.now true o) (sym c.live.ensures) c.in_ok-holds.ensures.sound

pub returns-clause-untaken : goal.returns-clause-untaken
returns-clause-untaken c = subst (λ (o : Option AbsState). Edge c.args.self.now c.args.width c.args.comparison c.args.left c.args.right.now false o) (sym c.live-2.ensures) c.in_ok-fails.ensures.sound

pub returns-clause-guards : goal.returns-clause-guards
returns-clause-guards c = λ r t p q e other w greater a b region tail.
    subst (λ (o : Option AbsState). IfSome o (λ x. p.offset.range.low ≤ bound_of x.bounds p.region))
    (sym c.live-2.ensures) (c.in_ok-fails.ensures.guards r t p q e other w greater refl a b region tail)

pub returns-in_err-holds-clause-unset : goal.returns-in_err-holds-clause-unset
returns-in_err-holds-clause-unset c =
    passed c.from_residual.result c.in_err-holds.field-0.0 (λ e. (e ≡ UnsetRegister) ↔ HasUnset c.args.self.now (c.args.left ∷ read_operand c.args.right.now)) c.from_residual.ensures.1
    (c.in_err-holds.ensures.unset)

pub returns-in_err-fails-clause-unset : goal.returns-in_err-fails-clause-unset
returns-in_err-fails-clause-unset c =
    passed c.from_residual-in_err-fails.result c.in_err-fails.field-0.0 (λ e. (e ≡ UnsetRegister) ↔ HasUnset c.args.self.now (c.args.left ∷ read_operand c.args.right.now)) c.from_residual-in_err-fails.ensures.1
    (c.in_err-fails.ensures.unset)

pub returns-in_err-holds-clause-rule : goal.returns-in_err-holds-clause-rule
returns-in_err-holds-clause-rule c =
    let out : c.from_residual.result ≡ Err c.in_err-holds.field-0.0 = search rules in
    let taken = answers_err _ _ _ c.in_err-holds.field-0.0 c.take_edge.ensures.rule c.in_err-holds.was in
    subst (λ (r : Result Ways Refusal). AnswersBranch r c.from_residual.result) (sym (branched_first c.args.width c.args.comparison c.args.left c.args.right.now (situation_of c.args.self.now) c.in_err-holds.field-0.0 taken)) out

pub returns-in_err-fails-clause-rule : goal.returns-in_err-fails-clause-rule
returns-in_err-fails-clause-rule c =
    let out : c.from_residual-in_err-fails.result ≡ Err c.in_err-fails.field-0.0 = search rules in
    let taken = answers_ok _ _ _ c.in_ok-holds.holds c.take_edge.ensures.rule c.in_ok-holds.was in
    let untaken = answers_err _ _ _ c.in_err-fails.field-0.0 c.take_edge-2.ensures.rule c.in_err-fails.was in
    subst (λ (r : Result Ways Refusal). AnswersBranch r c.from_residual-in_err-fails.result) (sym (branched_second c.args.width c.args.comparison c.args.left c.args.right.now (situation_of c.args.self.now) taken.0 c.in_err-fails.field-0.0 taken.1 untaken)) out

pub returns-clause-rule : goal.returns-clause-rule
returns-clause-rule c =
    let taken = answers_ok _ _ _ c.in_ok-holds.holds c.take_edge.ensures.rule c.in_ok-holds.was in
    let untaken = answers_ok _ _ _ c.in_ok-fails.fails c.take_edge-2.ensures.rule c.in_ok-fails.was in
    subst (λ (r : Result Ways Refusal). AnswersBranch r (Ok (record { taken = c.live.result; untaken = c.live-2.result }))) (sym (branched_ok c.args.width c.args.comparison c.args.left c.args.right.now (situation_of c.args.self.now) taken.0 untaken.0 taken.1 untaken.1))
    (_, refl, shows_live taken.0 c.in_ok-holds.holds c.take_edge.new.self c.live.result taken.2 c.live.ensures, shows_live untaken.0 c.in_ok-fails.fails c.take_edge-2.new.self c.live-2.result untaken.2 c.live-2.ensures)
