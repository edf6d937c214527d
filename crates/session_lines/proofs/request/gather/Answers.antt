use Rattle.std.proofs.Common.{inl, inr, subst, arith}
use Rattle.session_lines.specs.Lines.{Arrives}
use Rattle.session_lines.proofs.Gatherings.{gathered_all, gathered_cut, gathered_end, gathered_long}
use Rattle.session_lines.proofs.request.gather.Goals as goal

pub returns-in-TooLong : goal.returns-in-TooLong
returns-in-TooLong g c = gathered_long _ _ _ _ _ c.advance.new.self _ _ c.loop.invariant c.loop-test.true (subst (λ a. Arrives c.loop.reader.left a c.advance.new.self) c.in-TooLong.is c.in_ok-advance.ensures)

pub returns-in-Unended : goal.returns-in-Unended
returns-in-Unended g c =
    elim c.in-Unended.is [
      | inl e ↦ gathered_cut _ _ _ _ _ c.advance.new.self _ _ c.loop.invariant c.loop-test.true (subst (λ a. Arrives c.loop.reader.left a c.advance.new.self) e c.in_ok-advance.ensures)
      | inr e ↦ gathered_end _ _ _ _ _ c.advance.new.self _ _ c.loop.invariant c.loop-test.true (subst (λ a. Arrives c.loop.reader.left a c.advance.new.self) e c.in_ok-advance.ensures)
    ]

pub returns : goal.returns
returns g c = gathered_all _ _ _ _ _ _ _ c.loop.invariant (omega (arith, c.loop-test.false, c.loop.auto.counter-end))
