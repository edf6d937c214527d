use Rattle.std.proofs.Common.{◌≡◌, ◌<◌, ◌+◌, ℕ, Bool, false, get_or, length, nat_le, nat_lt, ◌&&◌, ◌||◌, subst, sym, rules, arith}
use Rattle.abstract_state.specs.Stacks.{marks_stored}
use Rattle.abstract_state.proofs.Slots.{written_mark}
use Rattle.abstract_state.proofs.Stored.{marks_are}
use Rattle.abstract_state.proofs.stack.with_store.Goals as goal

pub loop-j-preserved : goal.loop-j-preserved
loop-j-preserved c = record {
  long = search rules;
  marks = λ k h.
      let within : c.loop-j.j < length c.loop-j.result = omega arith in
      let Means : ℕ → Bool → Type 0 = λ i v. v ≡ (get_or c.args.marks.now i false || (nat_le c.args.offset (c.args.first + i) && nat_lt (c.args.first + i) (c.args.offset + c.args.count))) in
      written_mark c.loop-j.result c.loop-j.j k c.is_marked.result false (λ (v : Bool). Means k v) within h
      (λ e. subst (λ (i : ℕ). Means i c.is_marked.result) (sym e) c.is_marked.ensures)
      (λ less. c.loop-j.invariant.marks k less);
}

pub returns-clause-rule : goal.returns-clause-rule
unfolding marks_stored
returns-clause-rule c = marks_are c.loop-j.result _ c.loop-j.invariant.long (λ j h. c.loop-j.invariant.marks j (omega (arith, c.loop-j-test.false)))
