use Rattle.std.proofs.Common.{◌≡◌, ◌-◌, ◌+◌, ◌∷◌, List, ℕ, length, take, drop, arith, length-drop, ap, sym, ◌∙◌}
use Rattle.std.proofs.lemmas.List.{take_all}
use Rattle.assembler_lines.specs.Slots.{lines_of}
use Rattle.assembler.proofs.Reading.{split_there, split_nowhere}
use Rattle.assembler.proofs.lines.first_line.Goals as goal

pub returns-in-Some : goal.returns-in-Some
returns-in-Some c =
    let text = c.args.text.now in
    let end = c.in-Some.end in
    let behind : List ℕ = drop (end + 1) text in
    let whole : take (length text - (end + 1)) behind ≡ behind = take_all (length text - (end + 1)) behind (omega (arith, length-drop (end + 1) text)) in
    split_there text end (sym c.feed_in.ensures.index ∙ c.in-Some.is) ∙ ap (λ (rest : List ℕ). take end text ∷ lines_of rest) (sym whole)

pub returns-in-None : goal.returns-in-None
returns-in-None c = split_nowhere c.args.text.now (sym c.feed_in.ensures.index ∙ c.in-None.is)
