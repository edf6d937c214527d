use Rattle.abstract_state.specs.State.{lengths_of}
use Rattle.abstract_state.specs.Edges.{branched}
use Rattle.abstract_state.specs.Situation.{situation_of}
use Rattle.tracked_state.specs.Tracked.{marking_in}
use Rattle.tracked_state.proofs.Branches.{ways_told}
use Rattle.tracked_state.proofs.Learned.{sides_learn, kinds_learn, bounds_learn}
use Rattle.tracked_state.proofs.state.TrackedState.branch.Goals as goal

pub returns-clause-taken : goal.returns-clause-taken
returns-clause-taken c = λ span s held.
    let (m, (n, left, right, edge)) = c.in_ok-edges.ensures.taken span s held.state in
    (m, (n, left, right, λ holds. c.in_ok-taken.ensures.sound (lengths_of span) s held.copies (edge holds)))

pub returns-clause-untaken : goal.returns-clause-untaken
returns-clause-untaken c = λ span s held.
    let (m, (n, left, right, edge)) = c.in_ok-edges.ensures.untaken span s held.state in
    (m, (n, left, right, λ fails. c.in_ok-untaken.ensures.sound (lengths_of span) s held.copies (edge fails)))

pub returns-clause-rule : goal.returns-clause-rule
returns-clause-rule c =
    ways_told (branched c.args.width c.args.comparison c.args.left c.args.right.now (situation_of c.args.self.now.state)) c.in_ok-edges.edges c.args.left c.args.right.now (marking_in c.args.self.now) c.in_ok-taken.taken c.in_ok-untaken.untaken
    c.in_ok-edges.ensures.rule c.in_ok-taken.ensures.rule c.in_ok-untaken.ensures.rule

pub returns-clause-taken_learns : goal.returns-clause-taken_learns
returns-clause-taken_learns c =
    sides_learn c.args.left c.args.right.now c.args.self.now.state c.in_ok-edges.edges.taken c.in_ok-taken.taken c.in_ok-edges.ensures.taken_others c.in_ok-edges.ensures.taken_memory c.in_ok-taken.ensures.learns

pub returns-clause-untaken_learns : goal.returns-clause-untaken_learns
returns-clause-untaken_learns c =
    sides_learn c.args.left c.args.right.now c.args.self.now.state c.in_ok-edges.edges.untaken c.in_ok-untaken.untaken c.in_ok-edges.ensures.untaken_others c.in_ok-edges.ensures.untaken_memory c.in_ok-untaken.ensures.learns

pub returns-clause-taken_kinds : goal.returns-clause-taken_kinds
returns-clause-taken_kinds c = λ left right.
    kinds_learn c.args.self.now.state c.in_ok-edges.edges.taken c.in_ok-taken.taken (c.in_ok-edges.ensures.taken_kinds left right) c.in_ok-taken.ensures.learns

pub returns-clause-untaken_kinds : goal.returns-clause-untaken_kinds
returns-clause-untaken_kinds c = λ left right.
    kinds_learn c.args.self.now.state c.in_ok-edges.edges.untaken c.in_ok-untaken.untaken (c.in_ok-edges.ensures.untaken_kinds left right) c.in_ok-untaken.ensures.learns

pub returns-clause-guards : goal.returns-clause-guards
returns-clause-guards c = λ r t p q side apart wide greater one two same tail.
    bounds_learn p.offset.range.low p.region c.in_ok-edges.edges.untaken c.in_ok-untaken.untaken (c.in_ok-edges.ensures.guards r t p q side apart wide greater one two same tail) c.in_ok-untaken.ensures.learns
