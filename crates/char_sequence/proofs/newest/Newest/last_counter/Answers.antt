use Rattle.std.proofs.Common.{inl, inr, refl}
use Rattle.char_sequence.proofs.newest.Newest.last_counter.Goals as goal

pub returns-in-Some : goal.returns-in-Some
returns-in-Some c = λ ops n. inl (c.in-Some.ensures ops n)

pub returns-in-None : goal.returns-in-None
returns-in-None c = λ ops n. inr (refl, c.in-None.ensures ops n)
