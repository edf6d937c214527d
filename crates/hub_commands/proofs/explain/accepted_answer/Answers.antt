use Rattle.std.proofs.Common.{◌≡◌, ℕ, List, ◌++◌, ◌∙◌, ap, codes, length, string_bytes}
use Rattle.std.specs.Fmt.{decimal}
use Rattle.bpf_words.specs.Words.{program_of}
use Rattle.semantics.proofs.More.{seen_safe}
use Rattle.program_reads.specs.Lines.{read_lines}
use Rattle.hub_commands.specs.Answers.{line, done}
use Rattle.hub_commands.specs.Explained.{accepted, listing_if}
use Rattle.hub_commands.proofs.Explaining.{joined}
use Rattle.hub_commands.proofs.explain.accepted_answer.Goals as goal

pub most_steps-requires-clause-safe : goal.most_steps-requires-clause-safe
most_steps-requires-clause-safe c = seen_safe c.args.profile (program_of c.args.words.now) c.requires.seen

pub returns : goal.returns
returns c =
    let slots = decimal c.len-slots.result in
    let steps = decimal c.in_ok-steps.steps in
    let lines = read_lines c.args.profile c.args.reads.now in
    let listed : c.as_str.result.now ≡ listing_if c.args.is_whole c.args.profile (program_of c.args.words.now) (length (program_of c.args.words.now)) = c.as_str.ensures.value ∙ c.in_ok-listing.ensures in
    let more = c.as_str.result.now in
    let text : List ℕ = (line (codes "steps <= " ++ steps) ++ lines) ++ more in
    let made : string_bytes c.in_ok-text.text ≡ codes "accepted " ++ (slots ++ (codes "\nsteps <= " ++ (steps ++ codes "\n"))) = c.in_ok-text.ensures.ok in
    let printed : string_bytes c.push_reads.new.text ≡ string_bytes c.in_ok-text.text ++ lines = c.in_ok-push_reads.ensures in
    let grown : string_bytes c.push_str.new.self ≡ string_bytes c.push_reads.new.text ++ more = c.in_ok-push_str.ensures.bytes in
    let counted : c.len-slots.result ≡ length (program_of c.args.words.now) = c.len-slots.ensures.value in
    let whole : string_bytes c.push_str.new.self ≡ line (codes "accepted " ++ slots) ++ text =
    grown ∙ ap (λ (front : List ℕ). front ++ more) (printed ∙ ap (λ (front : List ℕ). front ++ lines) made) ∙ joined slots steps lines more in
    accepted text c.requires.structured c.requires.seen c.requires.allowed (record {
      steps = c.in_ok-steps.steps;
      most = c.in_ok-steps.ensures;
      reads = c.args.reads.now;
      determines = c.requires.determines;
      is = ap (λ (more : List ℕ). (line (codes "steps <= " ++ steps) ++ lines) ++ more) listed;
    })
    (c.done.ensures ∙ ap done (whole ∙ ap (λ (n : ℕ). line (codes "accepted " ++ decimal n) ++ text) counted))
