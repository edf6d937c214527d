use Rattle.std.proofs.Common.{rules}
use Rattle.change_history.proofs.Keeping.{are_marks, placed}
use Rattle.change_history.proofs.parts.Parts.format_at.Goals as goal

pub format_at-requires : goal.format_at-requires
format_at-requires c =
    let ops = c.requires.0 in
    let kept = c.requires.1 in
    (ops, kept.shows, are_marks ops c.args.self.now.marks kept.marks, placed ops c.args.self.now.sequence.elements c.args.id c.in-Some.field-0 c.place_of.result kept.shows (search rules) (c.place_of.ensures.present ops kept.shows))

pub returns-in_ok-format_at-in-Some : goal.returns-in_ok-format_at-in-Some
returns-in_ok-format_at-in-Some c = λ ops kept. c.in_ok-format_at-in-Some.ensures ops kept.shows (are_marks ops c.args.self.now.marks kept.marks)
