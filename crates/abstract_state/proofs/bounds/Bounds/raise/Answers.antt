use Rattle.std.proofs.Common.{◌≤◌, ℕ, refl, arith}
use Rattle.abstract_state.proofs.Options.{at_some, at_none}
use Rattle.abstract_state.proofs.bounds.Bounds.raise.Goals as goal

pub returns-in_err-text-clause-sound : goal.returns-in_err-text-clause-sound
returns-in_err-text-clause-sound c = λ lengths x long q.
    absurd (at_none (λ (b : ℕ). b ≤ lengths.text) _ c.in_err-text.was (c.bound_raised.ensures.sound lengths.text x (let h = lengths.short in let e = c.limit.ensures in omega arith) long.text q.range.low q.tails.text))

pub returns-in_err-link-clause-sound : goal.returns-in_err-link-clause-sound
returns-in_err-link-clause-sound c = λ lengths x long q.
    absurd (at_none (λ (b : ℕ). b ≤ lengths.link) _ c.in_err-link.was (c.bound_raised-2.ensures.sound lengths.link x (let h = lengths.link_short in let e = c.limit-2.ensures in omega arith) long.link q.range.low q.tails.link))

pub returns-clause-sound : goal.returns-clause-sound
returns-clause-sound c = λ lengths x long q. (
  _,
  refl,
  record {
    text = at_some (λ (b : ℕ). b ≤ lengths.text) _ _ c.in_ok-text.was (c.bound_raised.ensures.sound lengths.text x (let h = lengths.short in let e = c.limit.ensures in omega arith) long.text q.range.low q.tails.text);
    link = at_some (λ (b : ℕ). b ≤ lengths.link) _ _ c.in_ok-link.was (c.bound_raised-2.ensures.sound lengths.link x (let h = lengths.link_short in let e = c.limit-2.ensures in omega arith) long.link q.range.low q.tails.link);
  },
)
