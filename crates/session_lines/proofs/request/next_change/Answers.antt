use Rattle.std.proofs.Common.{subst, ap, ◌∙◌, ◌++◌, ◌∷◌, []}
use Rattle.std.specs.String.{string_bytes}
use Rattle.session_lines.specs.Changes.{legible}
use Rattle.session_lines.specs.Gathering.{Gathers}
use Rattle.session_lines.specs.Requests.{IsRead}
use Rattle.session_lines.proofs.Gatherings.{lent_all, lent_cut, lent_long}
use Rattle.session_lines.proofs.request.next_change.Goals as goal

pub returns-in-AllThere : goal.returns-in-AllThere
returns-in-AllThere g c =
    let begun = c.in_ok-push_line.ensures ∙ ap (λ t. t ++ (legible c.line-line.result.now ++ 10 ∷ [])) c.new-text.ensures.bytes in
    let gathered = subst (λ a. Gathers c.followers-count.result c.args.reader.now.left (string_bytes c.push_line.new.text) a c.gather.new.reader.left (string_bytes c.gather.new.text)) c.in-AllThere.is c.in_ok-gather.ensures in
    lent_all _ _ _ _ c.line-line.result.now _ _ c.line-line.ensures begun c.followers-count.ensures _ c.change_of.ensures.0 gathered (subst (λ t. IsRead t c.change_of.ensures.0) c.deref.ensures c.change_of.ensures.1) c.change_of.ensures.2

pub returns-in-Cut : goal.returns-in-Cut
returns-in-Cut g c =
    let begun = c.in_ok-push_line.ensures ∙ ap (λ t. t ++ (legible c.line-line.result.now ++ 10 ∷ [])) c.new-text.ensures.bytes in
    let gathered = subst (λ a. Gathers c.followers-count.result c.args.reader.now.left (string_bytes c.push_line.new.text) a c.gather.new.reader.left (string_bytes c.gather.new.text)) c.in-Cut.is c.in_ok-gather.ensures in
    lent_cut _ _ _ _ c.line-line.result.now _ _ c.line-line.ensures begun c.followers-count.ensures _ c.change_of-in-Cut.ensures.0 gathered (subst (λ t. IsRead t c.change_of-in-Cut.ensures.0) c.deref-in-Cut.ensures c.change_of-in-Cut.ensures.1) c.change_of-in-Cut.ensures.2

pub returns : goal.returns
returns g c =
    let begun = c.in_ok-push_line.ensures ∙ ap (λ t. t ++ (legible c.line-line.result.now ++ 10 ∷ [])) c.new-text.ensures.bytes in
    let gathered = subst (λ a. Gathers c.followers-count.result c.args.reader.now.left (string_bytes c.push_line.new.text) a c.gather.new.reader.left (string_bytes c.gather.new.text)) c.in-TooLong.is c.in_ok-gather.ensures in
    lent_long _ _ _ _ c.line-line.result.now _ _ c.line-line.ensures begun c.followers-count.ensures gathered
