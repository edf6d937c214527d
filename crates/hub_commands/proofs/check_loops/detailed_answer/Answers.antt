use Rattle.std.proofs.Common.{◌≡◌, ℕ, List, ◌++◌, ◌∙◌, ap, string_bytes}
use Rattle.hub_commands.specs.Answers.{Answer}
use Rattle.hub_commands.proofs.check_loops.detailed_answer.Goals as goal

pub returns : goal.returns
returns c =
    let more = c.as_str.result.now in
    let grown : string_bytes c.push_str.new.self ≡ string_bytes c.ending.inside.text ++ more = c.in_ok-push_str.ensures.bytes in
    record {
      plain = c.in_ok-ending.field-0;
      is = c.in_ok-ending.ensures;
      more = more;
      whole = ap (λ (text : List ℕ). record { ending = c.ending.inside.ending; text = text }) grown
          ∙ ap (λ (first : Answer). record first { text = first.text ++ more }) c.ending.view_is;
    }
