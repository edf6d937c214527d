use Rattle.std.proofs.Common.{◌≡◌, length, ap, sym, ◌∙◌, arith}
use Rattle.char_sequence.specs.RunElements.{elements_from, insert_all}
use Rattle.char_sequence.proofs.RunPlaced.{insert_all_end}
use Rattle.char_sequence.proofs.chunk.Chunk.insert_run.Goals as goal

pub returns-then-index-len : goal.returns-then-index-len
returns-then-index-len c =
    let added = elements_from c.args.id c.args.characters.now in
    let same = ap length c.self.view_is in
    let len = c.len.ensures in
    let test = c.if-index-len.true in
    let at : length c.args.self.now ≡ c.args.index = grind (arith, same, len, test) in
    c.append_run.ensures ∙ sym (insert_all_end added c.args.self.now) ∙ ap (λ n. insert_all c.args.self.now n added) at
