use Rattle.std.proofs.Common.{sym, ◌∙◌}
use Rattle.std.specs.Prelude.{codes}
use Rattle.change_ops.proofs.Phrases.{same_bytes}
use Rattle.filter_cases.proofs.Saying.{telling_ends, telling_more, not_arrow}
use Rattle.filter_cases.proofs.said.said.Goals as goal

pub returns-in-Some-of_word : goal.returns-in-Some-of_word
returns-in-Some-of_word c =
    telling_ends _ c.loop-word.marks c.loop-word.rest.now c.in-Some.word.now c.in-Some.behind.now c.in-Some-of_word.wanted (sym c.in-Some.ensures.parts)
    (same_bytes c.in-Some.word.now (codes "->") (sym c.eq.ensures ∙ c.if-eq.true)) (sym c.in-Some-of_word.ensures) c.loop-word.invariant

pub loop-word-preserved : goal.loop-word-preserved
loop-word-preserved c =
    telling_more _ c.loop-word.marks c.in-Some-2.next c.loop-word.rest.now c.in-Some.word.now c.in-Some.behind.now (sym c.in-Some.ensures.parts)
    (not_arrow c.in-Some.word.now (sym c.eq.ensures ∙ c.if-eq.false)) (cc (c.in_ok-next.ensures, c.in-Some-2.is)) c.loop-word.invariant
