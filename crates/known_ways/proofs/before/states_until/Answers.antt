use Rattle.std.proofs.Common.{◌≡◌, ◌∷◌, ◌++◌, [], List, Option, length, sym, ap, ◌∙◌, subst, ℕ, ◌+◌}
use Rattle.std.proofs.lemmas.List.{length_push}
use Rattle.bpf_words.specs.Words.{program_of}
use Rattle.tracked_state.specs.declared.state.TrackedState.{TrackedState}
use Rattle.known_ways.specs.Ways.{KnownBelow}
use Rattle.known_ways.proofs.Gathering.{known_push}
use Rattle.known_ways.proofs.before.states_until.Goals as goal

pub returns : goal.returns
returns c =
    let program = program_of c.args.words.now in
    let old = c.in_ok-states.states.items in
    let one = c.in_ok-known.known in
    let items : c.push.new.self.items ≡ old ++ one ∷ [] = c.in_ok-push.ensures.items in
    record {
      size = ap length items ∙ length_push old one ∙ ap (λ (n : ℕ). n + 1) c.in_ok-states.ensures.size;
      known = subst (λ (xs : List (Option TrackedState)). KnownBelow c.args.profile program xs) (sym items)
          (known_push c.args.profile program old one c.args.last c.in_ok-states.ensures.size c.in_ok-states.ensures.known c.in_ok-known.ensures);
    }
