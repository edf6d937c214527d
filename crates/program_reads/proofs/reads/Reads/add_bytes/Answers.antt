use Rattle.std.proofs.Common.{◌≡◌, ℕ, ◌+◌, ◌^◌, ◌≤◌, arith, rules, sym, ap, subst, ◌∙◌}
use Rattle.span_context.specs.Context.{context_base, text_base, link_base}
use Rattle.semantics.specs.Memory.{address_of}
use Rattle.abstract_state.specs.declared.region.Region.{Region}
use Rattle.abstract_state.specs.Lent.{base_of, limit_of}
use Rattle.std.proofs.lemmas.Int.{to_z-of_z}
use Rattle.std.specs.Int.{w16}
use Rattle.std.specs.Prelude.{ℤ}
use Rattle.program_reads.proofs.reads.Reads.add_bytes.Goals as goal

pub returns-in-Text-clause-covers : goal.returns-in-Text-clause-covers
returns-in-Text-clause-covers c = λ lengths n held.
    let is : n ≡ text_base + held.0 = held.1 ∙ ap (λ (r : Region). base_of r + held.0) c.in-Text.is in
    let small : held.0 ≤ 2 ^ 20 = let high = held.2.range.high in let near = c.args.base.near in omega arith in record {
      context = λ start at fits k less. absurd (let far : address_of (text_base + held.0) c.args.offset ≡ context_base + start = subst (λ (m : ℕ). address_of m c.args.offset ≡ context_base + start) is at in search (rules, far, small));
      text = λ start at fits.
          let there = c.end_of-end.ensures lengths n start held (subst (λ (z : ℤ). address_of n z ≡ text_base + start) (sym (to_z-of_z w16 c.args.offset c.ranges.offset)) at ∙ ap (λ (r : Region). base_of r + start) (sym c.in-Text.is)) (subst (λ (r : Region). start + c.args.bytes ≤ limit_of r) (sym c.in-Text.is) fits) in
          let most = c.max-self.ensures in
          omega (arith, there, most);
      link = λ start at fits. absurd (let far : address_of (text_base + held.0) c.args.offset ≡ link_base + start = subst (λ (m : ℕ). address_of m c.args.offset ≡ link_base + start) is at in search (rules, far, small));
    }

pub returns-in-Link-clause-covers : goal.returns-in-Link-clause-covers
returns-in-Link-clause-covers c = λ lengths n held.
    let is : n ≡ link_base + held.0 = held.1 ∙ ap (λ (r : Region). base_of r + held.0) c.in-Link.is in
    let small : held.0 ≤ 2 ^ 20 = let high = held.2.range.high in let near = c.args.base.near in omega arith in record {
      context = λ start at fits k less. absurd (let far : address_of (link_base + held.0) c.args.offset ≡ context_base + start = subst (λ (m : ℕ). address_of m c.args.offset ≡ context_base + start) is at in search (rules, far, small));
      link = λ start at fits.
          let there = c.end_of-end.ensures lengths n start held (subst (λ (z : ℤ). address_of n z ≡ link_base + start) (sym (to_z-of_z w16 c.args.offset c.ranges.offset)) at ∙ ap (λ (r : Region). base_of r + start) (sym c.in-Link.is)) (subst (λ (r : Region). start + c.args.bytes ≤ limit_of r) (sym c.in-Link.is) fits) in
          let most = c.max-self-in-Link.ensures in
          omega (arith, there, most);
      text = λ start at fits. absurd (let far : address_of (link_base + held.0) c.args.offset ≡ text_base + start = subst (λ (m : ℕ). address_of m c.args.offset ≡ text_base + start) is at in search (rules, far, small));
    }
