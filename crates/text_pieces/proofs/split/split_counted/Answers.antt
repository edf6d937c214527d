use Rattle.std.proofs.Common.{refl, sym, ◌∙◌}
use Rattle.text_pieces.proofs.Texts.{split_bytes}
use Rattle.text_pieces.proofs.split.split_counted.Goals as goal

pub returns-in-Some-clause-first : goal.returns-in-Some-clause-first
returns-in-Some-clause-first c =
    let e = c.in-Some.ensures in
    (split_bytes c.args.text.now c.in-Some.first.now c.in-Some.second.now c.args.count c.utf8.text (sym c.requires.all ∙ c.if-characters-text.true) (e.variant.0 refl) e.front e.back e.front_len).0

pub returns-in-Some-clause-second : goal.returns-in-Some-clause-second
returns-in-Some-clause-second c =
    let e = c.in-Some.ensures in
    (split_bytes c.args.text.now c.in-Some.first.now c.in-Some.second.now c.args.count c.utf8.text (sym c.requires.all ∙ c.if-characters-text.true) (e.variant.0 refl) e.front e.back e.front_len).1
