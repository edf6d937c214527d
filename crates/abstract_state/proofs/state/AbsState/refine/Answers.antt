use Rattle.std.proofs.Common.{◌≡◌, ◌≤◌, refl, subst, ◌∙◌, Option, arith}
use Rattle.std.specs.Option.{IfSome}
use Rattle.abstract_state.specs.declared.branch.Pair.{Pair}
use Rattle.abstract_state.specs.declared.state.AbsState.{AbsState}
use Rattle.abstract_state.specs.declared.bounds.Bounds.{Bounds}
use Rattle.abstract_state.specs.Guard.{LengthensMemory}
use Rattle.abstract_state.specs.Lent.{bound_of}
use Rattle.abstract_state.specs.Branch.{LongFrom, LeavesSides}
use Rattle.std.proofs.Common.{sym, option_map}
use Rattle.abstract_state.specs.Addresses.{content_of}
use Rattle.abstract_state.specs.Situation.{Flows, situation_of, put}
use Rattle.abstract_state.specs.Edges.{both_of, put_right, raised, refined}
use Rattle.abstract_state.proofs.Edges.{shows_put_right, raised_flows, flows_live, flows_dead}
use Rattle.abstract_state.proofs.Options.{where_some, some_is}
use Rattle.abstract_state.proofs.Registers.{state_at, state_none}
use Rattle.abstract_state.specs.declared.step.Flow.{Flow}
use Rattle.abstract_state.specs.declared.step.Flow.TheVariants.{Live, Dead}
use Rattle.abstract_state.specs.Steps.{after}
use Rattle.abstract_state.specs.Kinds.{KeepsAll, AreBothNumbers, AreNumbersOn}
use Rattle.abstract_state.proofs.Branches.{pair_left, pair_right}
use Rattle.abstract_state.proofs.KindLaws.{keeps_on, number_kept}
use Rattle.abstract_state.proofs.Sides.{leaves_sides}
use Rattle.abstract_state.proofs.state.AbsState.refine.Goals as goal

pub returns-in-Dead-clause-sound : goal.returns-in-Dead-clause-sound
returns-in-Dead-clause-sound c = λ lengths s m n held el er w.
    let l = pair_left _ _ lengths m n c.in-Some.is w in
    let r = pair_right _ _ lengths m n c.in-Some.is w in
    let both = c.keep_right.ensures.sound lengths s n (c.keep.ensures.sound lengths s m held el l) er r in
    absurd (state_none _ lengths s refl (c.in-Dead.ensures.sound lengths s m both l))

pub returns-in-Live-clause-sound : goal.returns-in-Live-clause-sound
returns-in-Live-clause-sound c = λ lengths s m n held el er w.
    let l = pair_left _ _ lengths m n c.in-Some.is w in
    let r = pair_right _ _ lengths m n c.in-Some.is w in
    let both = c.keep_right.ensures.sound lengths s n (c.keep.ensures.sound lengths s m held el l) er r in
    let one = state_at _ _ lengths s refl (c.in-Live.ensures.sound lengths s m both l) in
    c.raise-in-Live.ensures.sound lengths s n one r

pub returns-in-Live-clause-raised : goal.returns-in-Live-clause-raised
returns-in-Live-clause-raised c = λ region n long.
    let one : n ≤ bound_of c.raise.new.self.bounds region = c.in-Live.ensures.raised region n (subst (λ (o : Option Pair). IfSome o (λ p. LongFrom region n p.left)) c.in-Some.is long) in
    where_some (λ (b : AbsState). n ≤ bound_of b.bounds region) _
    (λ b is. let more : bound_of c.raise.new.self.bounds region ≤ bound_of b.bounds region = some_is (λ (v : AbsState). bound_of c.raise.new.self.bounds region ≤ bound_of v.bounds region) _ b is (c.raise-in-Live.ensures.grows region) in omega arith)

after_any : (flow : Flow) (s : AbsState) (P : AbsState → Type 0) → P s → IfSome (after flow s) P
after_any Live s P h = h
after_any Dead s P h = tt

pub returns-in-Live-clause-kinds : goal.returns-in-Live-clause-kinds
returns-in-Live-clause-kinds c = λ left right numbers.
    let both : AreBothNumbers c.in-Some.pair = subst AreNumbersOn c.in-Some.is numbers in
    let one = c.keep.ensures.kinds left both.0 in
    let two = c.keep_right.ensures.kinds (number_kept c.args.self.now c.keep.new.self c.args.right.now one right) both.1 in
    after_any c.raise-in-Live.result c.raise-in-Live.new.self (λ (b : AbsState). KeepsAll c.args.self.now b)
    (keeps_on c.args.self.now c.keep.new.self c.keep_right.new.self c.raise-in-Live.new.self one two (c.raise-in-Live.ensures.same ∙ c.raise.ensures.same))

pub returns-in-Live-clause-memory : goal.returns-in-Live-clause-memory
returns-in-Live-clause-memory c =
    let stays = c.in-Live.ensures.stack ∙ c.keep_right.ensures.memory.0 ∙ c.keep.ensures.memory.0 in
    let bounds = c.keep_right.ensures.memory.1 ∙ c.keep.ensures.memory.1 in
    where_some (λ (b : AbsState). LengthensMemory c.args.self.now b) _
    (λ b is. (
      some_is (λ (v : AbsState). v.stack ≡ c.raise.new.self.stack) _ b is c.raise-in-Live.ensures.stack ∙ stays,
      λ region.
          let first = c.in-Live.ensures.grows region in
          let more : bound_of c.raise.new.self.bounds region ≤ bound_of b.bounds region = some_is (λ (v : AbsState). bound_of c.raise.new.self.bounds region ≤ bound_of v.bounds region) _ b is (c.raise-in-Live.ensures.grows region) in
          subst (λ (x : Bounds). bound_of x region ≤ bound_of b.bounds region) bounds (omega (arith, first, more)),
    ))

pub returns-in-Live-clause-others : goal.returns-in-Live-clause-others
returns-in-Live-clause-others c =
    let old = c.args.self.now in
    let right = c.args.right.now in
    after_any c.raise-in-Live.result c.raise-in-Live.new.self (λ (b : AbsState). LeavesSides c.args.left right old b)
    (leaves_sides c.args.left right old c.keep.new.self c.keep_right.new.self c.raise-in-Live.new.self
    c.keep.ensures.others c.keep_right.ensures.others c.keep_right.ensures.set
    (c.raise-in-Live.ensures.same ∙ c.raise.ensures.same))

pub returns-in_default-clause-rule : goal.returns-in_default-clause-rule
unfolding refined
returns-in_default-clause-rule c =
    subst (λ (o : Option Pair). Flows (refined c.args.left c.args.right.now (option_map both_of o) (situation_of c.args.self.now)) Dead c.args.self.now) (sym c.in_default.is) refl

pub returns-in-Live-clause-rule : goal.returns-in-Live-clause-rule
unfolding refined
returns-in-Live-clause-rule c =
    let left = content_of c.in-Some.pair.left in
    let right = content_of c.in-Some.pair.right in
    let first = put c.args.left left (situation_of c.args.self.now) in
    let both = shows_put_right c.keep.new.self c.keep_right.new.self first c.args.right.now right c.keep.ensures.rule c.keep_right.ensures.rule in
    let second = put_right c.args.right.now right first in
    let once = raised_flows left c.keep_right.new.self c.raise.new.self second c.raise.result both c.raise.ensures.rule in
    subst (λ (o : Option Pair). Flows (refined c.args.left c.args.right.now (option_map both_of o) (situation_of c.args.self.now)) c.raise-in-Live.result c.raise-in-Live.new.self) (sym c.in-Some.is)
    (flows_live (raised left second) right c.raise.new.self c.raise-in-Live.new.self c.raise.result c.raise-in-Live.result once c.in-Live.is c.raise-in-Live.ensures.rule)

pub returns-in-Dead-clause-rule : goal.returns-in-Dead-clause-rule
unfolding refined
returns-in-Dead-clause-rule c =
    let left = content_of c.in-Some.pair.left in
    let right = content_of c.in-Some.pair.right in
    let first = put c.args.left left (situation_of c.args.self.now) in
    let both = shows_put_right c.keep.new.self c.keep_right.new.self first c.args.right.now right c.keep.ensures.rule c.keep_right.ensures.rule in
    let second = put_right c.args.right.now right first in
    let once = raised_flows left c.keep_right.new.self c.raise.new.self second c.raise.result both c.raise.ensures.rule in
    subst (λ (o : Option Pair). Flows (refined c.args.left c.args.right.now (option_map both_of o) (situation_of c.args.self.now)) Dead c.raise.new.self) (sym c.in-Some.is)
    (flows_dead (raised left second) right c.raise.new.self c.raise.new.self c.raise.result once c.in-Dead.is)
