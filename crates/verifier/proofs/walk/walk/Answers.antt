use Rattle.std.proofs.Common.{subst}
use Rattle.bpf_words.specs.Words.{program_of}
use Rattle.tracked_state.specs.Tracking.{after_tracked}
use Rattle.semantics.proofs.More.{seen_safe}
use Rattle.verifier.specs.Walk.{Follows}
use Rattle.verifier.proofs.Listing.{lists_all}
use Rattle.verifier.proofs.Walking.{ends}
use Rattle.verifier.specs.Decides.{IsAllowedBelow}
use Rattle.verifier.proofs.walk.walk.Goals as goal

pub returns-clause-seen : goal.returns-clause-seen
returns-clause-seen c =
    let walked = c.in_ok-walked.walked in
    ends c.args.profile (program_of c.args.words.now) (after_tracked walked.flow walked.state) walked.waiting
    (subst (λ n. Follows c.args.profile (program_of c.args.words.now) n (after_tracked walked.flow walked.state) walked.waiting) c.len.ensures.value c.in_ok-walked.ensures.follows)

pub returns-clause-safe : goal.returns-clause-safe
returns-clause-safe c =
    let walked = c.in_ok-walked.walked in
    seen_safe c.args.profile (program_of c.args.words.now)
    (ends c.args.profile (program_of c.args.words.now) (after_tracked walked.flow walked.state) walked.waiting
    (subst (λ n. Follows c.args.profile (program_of c.args.words.now) n (after_tracked walked.flow walked.state) walked.waiting) c.len.ensures.value c.in_ok-walked.ensures.follows))

pub returns-clause-reads : goal.returns-clause-reads
returns-clause-reads c = lists_all c.args.profile (program_of c.args.words.now) _ c.in_ok-walked.walked.reads c.len.ensures.value c.in_ok-walked.ensures.lists

pub returns-clause-passes : goal.returns-clause-passes
returns-clause-passes c = subst (λ n. IsAllowedBelow c.args.profile (program_of c.args.words.now) n) c.len.ensures.value c.in_ok-walked.ensures.passes
