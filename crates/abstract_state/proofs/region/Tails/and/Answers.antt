use Rattle.std.proofs.Common.{◌≡◌, ◌≤◌, ℕ, Some, ◌∙◌, subst, arith}
use Rattle.abstract_state.specs.declared.region.Region.{Region}
use Rattle.abstract_state.specs.Lent.{HasTail, length_of, tail_of}
use Rattle.abstract_state.proofs.Regions.{each}
use Rattle.abstract_state.proofs.BoundTails.{greater_keeps, tail_keeps}
use Rattle.abstract_state.proofs.region.Tails.and.Goals as goal

pub returns-in-Text-clause-contains : goal.returns-in-Text-clause-contains
returns-in-Text-clause-contains c = λ lengths x a b. record {
  text = c.greater.ensures.contains lengths.text x x x a.text (subst (λ (r : Region). HasTail c.args.tail (length_of lengths r) x) c.in-Text.is b) (omega arith) (omega arith);
  link = a.link;
}

pub returns-in-Link-clause-contains : goal.returns-in-Link-clause-contains
returns-in-Link-clause-contains c = λ lengths x a b. record {
  text = a.text;
  link = c.greater-in-Link.ensures.contains lengths.link x x x a.link (subst (λ (r : Region). HasTail c.args.tail (length_of lengths r) x) c.in-Link.is b) (omega arith) (omega arith);
}

pub returns-in-Text-clause-keeps : goal.returns-in-Text-clause-keeps
returns-in-Text-clause-keeps c = each
    (λ (r : Region). (t : ℕ) → tail_of c.args.self r ≡ Some t → (u : ℕ) × (tail_of (record { text = c.greater.result; link = c.args.self.link }) r ≡ Some u) × (t ≤ u))
    (λ t e. let kept = greater_keeps c.args.self.text c.args.tail t e in (kept.0, c.greater.ensures.rule ∙ kept.1, kept.2))
    (λ t e. tail_keeps c.args.self.link t e)

pub returns-in-Link-clause-keeps : goal.returns-in-Link-clause-keeps
returns-in-Link-clause-keeps c = each
    (λ (r : Region). (t : ℕ) → tail_of c.args.self r ≡ Some t → (u : ℕ) × (tail_of (record { text = c.args.self.text; link = c.greater-in-Link.result }) r ≡ Some u) × (t ≤ u))
    (λ t e. tail_keeps c.args.self.text t e)
    (λ t e. let kept = greater_keeps c.args.self.link c.args.tail t e in (kept.0, c.greater-in-Link.ensures.rule ∙ kept.1, kept.2))
