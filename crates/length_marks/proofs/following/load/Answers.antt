use Rattle.std.proofs.Common.{◌≡◌, ℤ, None, sym, ◌∙◌, subst, w16, rules}
use Rattle.std.proofs.lemmas.Int.{to_z-of_z}
use Rattle.abstract_state.specs.Situation.{situation_of, registers_of}
use Rattle.length_marks.specs.Lengths.{mark_at}
use Rattle.length_marks.proofs.Others.{by_load}
use Rattle.length_marks.proofs.following.load.Goals as goal

pub returns-in-None : goal.returns-in-None
returns-in-None c =
    let back = to_z-of_z w16 c.args.offset (search rules) in
    let none = subst (λ (z : ℤ). mark_at c.args.size (registers_of c.args.known.now.registers c.args.base) z ≡ None) back (sym c.mark_by.ensures ∙ c.in-None.is) in
    λ w is. by_load c.follow.new.self c.args.at c.args.insn.now c.args.size c.args.destination c.args.base c.args.offset (situation_of c.args.known.now) w c.requires none (c.follow.ensures.rule w is)
