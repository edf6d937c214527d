use Rattle.std.proofs.Common.{◌≡◌, ◌+◌, arith, rules, sym, subst}
use Rattle.std.proofs.lemmas.Int.{to_z-of_z}
use Rattle.std.specs.Int.{w16}
use Rattle.span_context.specs.Context.{context_base}
use Rattle.semantics.specs.Memory.{address_of}
use Rattle.std.specs.Prelude.{ℤ}
use Rattle.program_reads.proofs.reads.Reads.add_fields.Goals as goal

pub returns-clause-covers : goal.returns-clause-covers
returns-clause-covers c = record {
  context = λ start at fits k less.
      let is = c.first_of-first.ensures start (subst (λ (z : ℤ). address_of (context_base + c.args.base.offset) z ≡ context_base + start) (sym (to_z-of_z w16 c.args.offset c.ranges.offset)) at) (omega arith) in
      let sum = c.saturating_add.ensures in
      c.mark.ensures.there (start + k) (omega (arith, is)) (omega (arith, is, sum)) (omega arith);
  text = λ start at fits. search rules;
  link = λ start at fits. search rules;
}
