use Rattle.std.proofs.Common.{◌≡◌, ℕ, List, ◌++◌, ◌∙◌, ap, string_bytes}
use Rattle.bpf_words.specs.Words.{program_of}
use Rattle.hub_commands.specs.Answers.{Answer}
use Rattle.hub_commands.specs.Explained.{refused_text, rejected}
use Rattle.hub_commands.proofs.explain.refused_answer.Goals as goal

pub returns : goal.returns
returns c =
    let more : List ℕ = refused_text c.args.is_whole c.args.profile (program_of c.args.words.now) c.args.error in
    let grown : string_bytes c.push_refused.new.text ≡ string_bytes c.ending.inside.text ++ more = c.in_ok-push_refused.ensures in
    rejected c.args.error c.requires
    (ap (λ (text : List ℕ). record { ending = c.ending.inside.ending; text = text }) grown
    ∙ ap (λ (first : Answer). record first { text = first.text ++ more }) (c.ending.view_is ∙ c.in_ok-ending.ensures))
