use Rattle.std.proofs.Common.{◌≡◌, ℕ, ◌+◌, ◌<◌, ◌∷◌, ◌++◌, [], List, Option, length, sym, ap, ◌∙◌, subst, arith, rules}
use Rattle.std.proofs.lemmas.List.{length_push}
use Rattle.bpf_words.specs.Words.{program_of}
use Rattle.tracked_state.specs.declared.state.TrackedState.{TrackedState}
use Rattle.known_ways.specs.Ways.{KnownBelow}
use Rattle.known_ways.proofs.Gathering.{known_push, allowed_lower}
use Rattle.known_ways.proofs.before.states_each.Goals as goal

pub known_at-requires-clause-allowed : goal.known_at-requires-clause-allowed
known_at-requires-clause-allowed c =
    let less : c.loop-slot.slot < c.args.last = search rules in
    allowed_lower c.args.profile (program_of c.args.words.now) c.args.last c.loop-slot.slot (omega (arith, less)) c.requires.allowed

pub loop-slot-preserved : goal.loop-slot-preserved
loop-slot-preserved c =
    let program = program_of c.args.words.now in
    let old = c.loop-slot.states.items in
    let one = c.in_ok-known.known in
    let items : c.push.new.self.items ≡ old ++ one ∷ [] = c.in_ok-push.ensures.items in
    record {
      count = ap length items ∙ length_push old one ∙ ap (λ (n : ℕ). n + 1) c.loop-slot.invariant.count;
      known = subst (λ (xs : List (Option TrackedState)). KnownBelow c.args.profile program xs) (sym items)
          (known_push c.args.profile program old one c.loop-slot.slot c.loop-slot.invariant.count c.loop-slot.invariant.known c.in_ok-known.ensures);
    }
