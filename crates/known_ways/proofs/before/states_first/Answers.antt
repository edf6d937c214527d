use Rattle.std.proofs.Common.{◌≡◌, List, Option, take, length, sym, ap, ◌∙◌, subst, arith}
use Rattle.std.proofs.lemmas.List.{length-take-le}
use Rattle.bpf_words.specs.Words.{program_of}
use Rattle.tracked_state.specs.declared.state.TrackedState.{TrackedState}
use Rattle.known_ways.specs.Ways.{KnownBelow}
use Rattle.known_ways.proofs.Gathering.{known_take}
use Rattle.known_ways.proofs.before.states_first.Goals as goal

pub returns-in-Ok : goal.returns-in-Ok
returns-in-Ok c =
    let states = c.in-Ok.states.items in
    let cut : c.truncate.new.self.items ≡ take c.args.count states = c.truncate.ensures.items in
    record {
      size = ap length cut ∙ length-take-le c.args.count states (omega (arith, c.in-Ok.ensures.size, c.requires));
      known = subst (λ (xs : List (Option TrackedState)). KnownBelow c.args.profile (program_of c.args.words.now) xs) (sym cut)
          (known_take c.args.profile (program_of c.args.words.now) states c.args.count c.in-Ok.ensures.size c.requires c.in-Ok.ensures.rule);
    }
