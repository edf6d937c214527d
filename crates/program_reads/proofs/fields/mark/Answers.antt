use Rattle.std.proofs.Common.{◌≡◌, ◌⊎◌, ℕ, zero, suc, [], ◌∷◌, ◌+◌, ◌<◌, Bool, true, false, Some, List, length, get_or, refl, sym, ap, subst, inl, inr, ⊎_elim, arith}
use Rattle.std.proofs.Math.ListN.{set}
use Rattle.std.specs.List.{slice_get}
use Rattle.std.proofs.lemmas.Option.{get_or_from_slice_get}
use Rattle.span_context.specs.declared.context_field.ContextField.{ContextField}
use Rattle.span_context.specs.ContextField.{every_field}
use Rattle.program_reads.specs.Marks.{Takes}
use Rattle.program_reads.proofs.FieldBytes.{field_at}
use Rattle.program_reads.proofs.fields.mark.Goals.{then-is_taken, else-is_taken}
use Rattle.program_reads.proofs.fields.mark.Goals as goal

pub returns-clause-kept : goal.returns-clause-kept
returns-clause-kept c = λ k has. (has.0, (has.1.0, has.1.1, c.loop-i.invariant.kept has.0 has.1.2, has.1.3, has.1.4))

pub returns-clause-there : goal.returns-clause-there
returns-clause-there c = λ k low high few.
    let at = field_at k few in
    (at.0, (at.1.0, at.1.1, c.loop-i.invariant.done at.0 at.1.0 (omega (arith, at.1.2)) at.1.1 (omega (arith, at.1.3), omega (arith, at.1.4)), at.1.3, at.1.4))

kept_set : (xs : List Bool) (i j : ℕ) → get_or xs j false ≡ true → get_or (set xs i true) j false ≡ true
kept_set [] i j h = h
kept_set (x ∷ xs) zero zero h = refl
kept_set (x ∷ xs) zero (suc j) h = h
kept_set (x ∷ xs) (suc i) zero h = h
kept_set (x ∷ xs) (suc i) (suc j) h = kept_set xs i j h

set_there : (xs : List Bool) (i : ℕ) → i < length xs → get_or (set xs i true) i false ≡ true
set_there [] i h = absurd (omega arith)
set_there (x ∷ xs) zero h = refl
set_there (x ∷ xs) (suc i) h = set_there xs i (omega arith)

either : (i j : ℕ) → j < i + 1 → (j < i) ⊎ (j ≡ i)
either zero j h = inr (omega arith)
either (suc i) zero h = inl (omega arith)
either (suc i) (suc j) h = ⊎_elim (λ l. inl (omega arith)) (λ e. inr (ap suc e)) (either i j (omega arith))

pub loop-i-preserved : goal.loop-i-preserved
loop-i-preserved c = elim c.if-is_taken.branch [
  | then-is_taken w ↦ record {
    long = c.if-is_taken.array_long;
    kept = λ j h. subst (λ (fs : List Bool). get_or fs j false ≡ true) (sym w.fields-is) (kept_set c.loop-i.fields c.loop-i.i j (c.loop-i.invariant.kept j h));
    done = λ j f h e t. subst (λ (fs : List Bool). get_or fs j false ≡ true) (sym w.fields-is)
        (⊎_elim (λ (l : j < c.loop-i.i). kept_set c.loop-i.fields c.loop-i.i j (c.loop-i.invariant.done j f l e t))
        (λ (is : j ≡ c.loop-i.i). subst (λ (n : ℕ). get_or (set c.loop-i.fields c.loop-i.i true) n false ≡ true) (sym is) (set_there c.loop-i.fields c.loop-i.i (let long = c.loop-i.invariant.long in let less = c.loop-i-test.true in omega arith)))
        (either c.loop-i.i j h));
  }
  | else-is_taken w ↦ record {
    long = c.if-is_taken.array_long;
    kept = λ j h. subst (λ (fs : List Bool). get_or fs j false ≡ true) (sym w.fields-is) (c.loop-i.invariant.kept j h);
    done = λ j f h e t. subst (λ (fs : List Bool). get_or fs j false ≡ true) (sym w.fields-is)
        (⊎_elim (λ (l : j < c.loop-i.i). c.loop-i.invariant.done j f l e t)
        (λ (is : j ≡ c.loop-i.i).
        let at = get_or_from_slice_get every_field c.loop-i.i f _ (subst (λ (n : ℕ). slice_get every_field n ≡ Some f) is e) in
        let taken = c.is_taken.ensures.1 (subst (λ (g : ContextField). Takes g c.args.first c.args.end) (sym at) t) in
        let none : c.is_taken.result ≡ false = w.if-is_taken.false in
        absurd (cc))
        (either c.loop-i.i j h));
  }
]
