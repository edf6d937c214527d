use Rattle.std.proofs.Common.{Some, sym, ap, subst}
use Rattle.value_marks.specs.declared.marks.Marks.{Marks}
use Rattle.value_marks.specs.Copies.{in_box, kept}
use Rattle.verifier.proofs.Deciding.{HaveAll, is_trimmed}
use Rattle.known_ways.proofs.whole.is_whole.Goals as goal

pub returns-in-Some : goal.returns-in-Some
returns-in-Some c = λ t is.
    let all : HaveAll (Some c.in-Some.marks.value) =
    subst (λ (marks : Marks). HaveAll (Some marks)) c.deref.ensures (c.have_all.ensures.registers, c.have_all.ensures.slots) in
    let marks : HaveAll (kept c.args.state.now.copies) = subst HaveAll (sym (ap in_box c.in-Some.is)) all in
    is_trimmed c.args.state.now t c.has_all.ensures.registers c.has_all.ensures.stack marks is

pub returns-in_default : goal.returns-in_default
returns-in_default c = λ t is.
    let marks : HaveAll (kept c.args.state.now.copies) = subst HaveAll (sym (ap in_box c.in_default.is)) tt in
    is_trimmed c.args.state.now t c.has_all.ensures.registers c.has_all.ensures.stack marks is
