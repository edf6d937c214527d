use Rattle.std.proofs.Common.{◌≡◌, ◌+◌, ◌≤◌, true, false, Some, Err, sym, ap, ◌∙◌, refl, subst, rules, arith}
use Rattle.std.proofs.lemmas.Bool.{false≢true}
use Rattle.bpf_words.specs.Flow.{jump_of, falls_through}
use Rattle.abstract_state.specs.State.{lengths_of}
use Rattle.abstract_state.specs.Lent.{bound_of}
use Rattle.abstract_state.specs.Addresses.{answer_of}
use Rattle.abstract_state.specs.Branch.{IsOrder}
use Rattle.abstract_state.specs.Situation.{situation_of}
use Rattle.abstract_state.proofs.Edges.{branched_first, branched_second}
use Rattle.tracked_state.specs.declared.stop.Stop.TheVariants.{OutOfMemory, Refused}
use Rattle.tracked_state.specs.Along.{unboxed as in_box}
use Rattle.tracked_state.specs.Tracked.{marking_in, tracked_of, with_copies}
use Rattle.tracked_state.specs.Tracking.{after_tracked}
use Rattle.tracked_state.specs.Rules.{told_ways}
use Rattle.verifier.specs.Decides.{led}
use Rattle.verifier.proofs.Arising.{jump_target, jump_arises, edge_falls, refused_for, stopped_on}
use Rattle.verifier.proofs.Deciding.{leads_branch, passes_branch}
use Rattle.verifier.proofs.Passing.{insn_advances}
use Rattle.verifier.proofs.Taking.{EdgeLearns, branch_granted, guard_is, edge_takes, at_some}
use Rattle.verifier.proofs.Telling.{ways_along}
use Rattle.verifier.proofs.Waits.{edge_below}
use Rattle.verifier.proofs.walk.compare.Goals as goal

pub record-requires : goal.record-requires
record-requires c =
    let jumps = ap jump_of c.in-Branch.is in
    let j = c.requires.jumps _ jumps in
    let t : c.target.result ≡ c.args.slot + 1 + j.0 = c.target.ensures j.0 (jumps ∙ ap Some j.1) in
    let below = j.2 in
    omega arith

pub returns-clause-sound : goal.returns-clause-sound
returns-clause-sound c = λ marks span s which contains.
    let a = c.args.state.now in
    let jumps = ap jump_of c.in-Branch.is in
    let j = c.requires.jumps _ jumps in
    let t : c.target.result ≡ c.args.slot + 1 + j.0 = c.target.ensures j.0 (jumps ∙ ap Some j.1) in
    let holding = with_copies (in_box c.in_ok-taken.taken) a.copies in
    let failing = after_tracked c.in_ok-take_edge.field-0 c.take_edge.new.self in
    insn_advances span s c.args.slot j.0 c.target.result c.args.insn.now c.in-Branch.width c.in-Branch.comparison c.in-Branch.left c.in-Branch.right _ a holding failing failing c.record.new.waiting c.in-Branch.is refl t j.1
    c.in_ok-taken.ensures.along.contains c.in_ok-take_edge.ensures.along.contains (c.in_ok-record.ensures.added (lengths_of span) s) contains

pub returns-clause-arises : goal.returns-clause-arises
returns-clause-arises c = λ program starts marks from all.
    let jumps = ap jump_of c.in-Branch.is in
    let j = c.requires.jumps _ jumps in
    let t : c.target.result ≡ c.args.slot + 1 + j.0 = c.target.ensures j.0 (jumps ∙ ap Some j.1) in
    let a = c.args.state.now in
    let left = c.in-Branch.left in
    let right = c.in-Branch.right in
    let one = c.in_ok-taken.ensures.along in
    let other = c.in_ok-take_edge.ensures.along in
    let read = c.in_ok-take_edge.ensures.set in
    let holding = with_copies (in_box c.in_ok-taken.taken) a.copies in
    let failing = after_tracked c.in_ok-take_edge.field-0 c.take_edge.new.self in
    let taken : EdgeLearns c.args.profile a.state left right holding = record {
      learns = one.learns;
      kinds = one.kinds;
      others = λ few. one.others (marks.unfollowed few);
      memory = λ few. one.memory (marks.unfollowed few);
    } in
    let untaken : EdgeLearns c.args.profile a.state left right failing = record {
      learns = other.learns;
      kinds = other.kinds;
      others = λ few. other.others (marks.unfollowed few);
      memory = λ few. other.memory (marks.unfollowed few);
    } in (
      c.in_ok-record.ensures.arises c.args.profile program all (jump_target program c.args.slot j.0 c.target.result c.args.insn.now _ starts jumps j.1 t)
          (λ b live.
          jump_arises c.args.profile program c.args.slot j.0 c.target.result c.args.insn.now _ a.state b.state starts from jumps j.1 t
          (edge_takes c.args.profile a.state b c.args.insn.now c.in-Branch.width c.in-Branch.comparison left right _ holding c.in-Branch.is c.is_state_whole.ensures.registers live taken read)),
      edge_falls c.args.profile program c.args.slot c.args.insn.now a.state failing starts from (ap falls_through c.in-Branch.is)
          (λ b live. (
            edge_takes c.args.profile a.state b c.args.insn.now c.in-Branch.width c.in-Branch.comparison left right _ failing c.in-Branch.is c.is_state_whole.ensures.registers live untaken read,
            λ region n guard.
                guard_is a.state c.args.insn.now c.in-Branch.width c.in-Branch.comparison left right _ (λ at m. m ≤ bound_of b.state.bounds at) region n c.in-Branch.is
                (λ r t p q side apart wide greater first second same tail.
                at_some failing (λ x. p.offset.range.low ≤ bound_of x.state.bounds p.region) b
                (other.guards refl r t p q side apart wide greater first second same tail) live)
                guard,
          )),
    )

pub returns-clause-below : goal.returns-clause-below
returns-clause-below c = λ marks waits.
    let jumps = ap jump_of c.in-Branch.is in
    let j = c.requires.jumps _ jumps in
    let t : c.target.result ≡ c.args.slot + 1 + j.0 = c.target.ensures j.0 (jumps ∙ ap Some j.1) in
    let a = c.args.state.now in
    let taken = edge_below c.args.profile c.args.slot c.target.result a (with_copies (in_box c.in_ok-taken.taken) a.copies) (omega (arith, t)) marks c.in_ok-taken.ensures.along.copies in
    let untaken = edge_below c.args.profile c.args.slot (c.args.slot + 1) a (after_tracked c.in_ok-take_edge.field-0 c.take_edge.new.self) (omega arith) marks c.in_ok-take_edge.ensures.along.copies in
    (c.in_ok-record.ensures.below c.args.profile waits taken, untaken)

pub returns-clause-rule : goal.returns-clause-rule
returns-clause-rule c = λ w waits.
    let jumps = ap jump_of c.in-Branch.is in
    let j = c.requires.jumps _ jumps in
    let t : c.target.result ≡ c.args.slot + 1 + j.0 = c.target.ensures j.0 (jumps ∙ ap Some j.1) in
    let a = c.args.state.now in
    let s = tracked_of a in
    let one = c.in_ok-taken.ensures.along.rule in
    let other = c.in_ok-take_edge.ensures.along.rule in
    let failing = after_tracked c.in_ok-take_edge.field-0 c.take_edge.new.self in
    let (ways, rule, taken, untaken) = ways_along c.in-Branch.width c.in-Branch.comparison c.in-Branch.left c.in-Branch.right (situation_of a.state) (marking_in a) one.0 other.0 (with_copies (in_box c.in_ok-taken.taken) a.copies) failing one.1 other.1 one.2 other.2 in
    let leads = leads_branch c.args.profile c.args.slot c.args.insn.now c.in-Branch.width c.in-Branch.comparison c.in-Branch.left c.in-Branch.right _ s c.in-Branch.is ∙ rule in
    let more = c.in_ok-record.ensures.rule (c.args.slot + 1) w ways.taken waits (omega (arith, t)) taken in
    passes_branch c.args.profile c.args.slot j.0 c.target.result c.args.insn.now _ s w ways failing c.record.new.waiting leads jumps j.1 t untaken more

pub returns-in_err-taken-clause-floor : goal.returns-in_err-taken-clause-floor
returns-in_err-taken-clause-floor c = λ granted.
    stopped_on c.from_residual.result c.in_err-taken.field-0.0 (λ stop. stop ≡ OutOfMemory) c.from_residual.ensures.1
    (branch_granted c.args.profile c.args.state.now.state c.args.insn.now c.in-Branch.width c.in-Branch.comparison c.in-Branch.left c.in-Branch.right _ (c.in_err-taken.field-0.0 ≡ OutOfMemory) c.in-Branch.is
    c.in_err-taken.ensures.floor
    (λ r t p q side apart wide greater one two same tail. c.in_err-taken.ensures.regions r p q side wide (subst IsOrder (sym greater) tt) one two same)
    granted)

pub returns-in_err-taken-clause-refuses : goal.returns-in_err-taken-clause-refuses
returns-in_err-taken-clause-refuses c = λ fault is.
    let a = c.args.state.now in
    let same : c.edge.result ≡ Err (Refused fault) = search rules in
    leads_branch c.args.profile c.args.slot c.args.insn.now c.in-Branch.width c.in-Branch.comparison c.in-Branch.left c.in-Branch.right _ (tracked_of a) c.in-Branch.is
    ∙ ap (answer_of (told_ways c.in-Branch.left c.in-Branch.right (marking_in a))) (branched_first c.in-Branch.width c.in-Branch.comparison c.in-Branch.left c.in-Branch.right (situation_of a.state) fault (c.edge.ensures.refuses fault same))

pub returns-in_err-take_edge-clause-floor : goal.returns-in_err-take_edge-clause-floor
returns-in_err-take_edge-clause-floor c = λ granted.
    absurd (false≢true
    (branch_granted c.args.profile c.args.state.now.state c.args.insn.now c.in-Branch.width c.in-Branch.comparison c.in-Branch.left c.in-Branch.right _ (false ≡ true) c.in-Branch.is
    c.in_err-take_edge.ensures.floor
    (λ r t p q side apart wide greater one two same tail. c.in_err-take_edge.ensures.regions r p q side wide (subst IsOrder (sym greater) tt) one two same)
    granted))

pub returns-in_err-take_edge-clause-refuses : goal.returns-in_err-take_edge-clause-refuses
returns-in_err-take_edge-clause-refuses c = λ fault is.
    let a = c.args.state.now in
    let one = c.in_ok-taken.ensures.along.rule in
    refused_for c.from_residual-in_err-take_edge.result c.in_err-take_edge.field-0.0 fault (λ fault. led c.args.profile c.args.slot c.args.insn.now (tracked_of a) ≡ Err fault) c.from_residual-in_err-take_edge.ensures.1
    (leads_branch c.args.profile c.args.slot c.args.insn.now c.in-Branch.width c.in-Branch.comparison c.in-Branch.left c.in-Branch.right _ (tracked_of a) c.in-Branch.is
    ∙ ap (answer_of (told_ways c.in-Branch.left c.in-Branch.right (marking_in a)))
    (branched_second c.in-Branch.width c.in-Branch.comparison c.in-Branch.left c.in-Branch.right (situation_of a.state) one.0 c.in_err-take_edge.field-0.0 one.1 (c.in_err-take_edge.ensures.refuses c.in_err-take_edge.field-0.0 refl))) is
