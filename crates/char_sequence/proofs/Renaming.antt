-- The ids of elements get a new name, one after another.
use Rattle.std.proofs.Common.{◌≡◌, ℕ, ◌+◌, ◌<◌, ◌≤◌, false, List, Option, Some, None, length, sym, ap, refl, ◌∙◌, arith, ⊎_elim}
use Rattle.std.specs.List.{slice_get}
use Rattle.std.specs.Prelude.{Result, Ok, Err, OnErr, IsOk}
use Rattle.std.proofs.lemmas.Option.{same_Some, none-some, slice_get_within}
use Rattle.std.proofs.lemmas.Bool.{cases_lt}
use Rattle.change_ops.specs.declared.id.OpId.{OpId}
use Rattle.char_sequence.specs.declared.sequence.Element.{Element}
use Rattle.char_sequence.specs.Index.{same_id, HasId}
use Rattle.char_sequence.proofs.Ids.{same_id_cases}

-- the first `count` have the name, the ids that are none of theirs what they had, and none is lost
pub record IsRenamed (es : List Element) (old new : OpId → Option ℕ) (name count : ℕ) : Type 0 where
  pub renamed : (k : ℕ) (e : Element) → k < count → slice_get es k ≡ Some e → new e.id ≡ Some name
  pub kept : (q : OpId) → ((k : ℕ) (e : Element) → k < count → slice_get es k ≡ Some e → e.id ≡ q → ⊥) → new q ≡ old q
  pub listed : (k : ℕ) (e : Element) → slice_get es k ≡ Some e → new e.id ≡ None → ⊥

pub renamed_none : (es : List Element) (old : OpId → Option ℕ) (name : ℕ) → ((k : ℕ) (e : Element) → slice_get es k ≡ Some e → old e.id ≡ None → ⊥) → IsRenamed es old old name 0
renamed_none es old name listed = record {
  renamed = λ k e low g. absurd (omega arith);
  kept = λ q none. refl;
  listed = listed;
}

pub renamed_more : (es : List Element) (old new more : OpId → Option ℕ) (name count : ℕ) (x : Element) → IsRenamed es old new name count → slice_get es count ≡ Some x → more x.id ≡ Some name → ((q : OpId) → same_id x.id q ≡ false → more q ≡ new q) → IsRenamed es old more name (count + 1)
renamed_more es old new more name count x was at here other =
    let named : (e : Element) → x.id ≡ e.id → more e.id ≡ Some name = λ e same. ap (λ z. more z) (sym same) ∙ here in
    record {
      renamed =
          λ k e low g.
          ⊎_elim
          (λ (same : x.id ≡ e.id). named e same)
          (λ (apart : same_id x.id e.id ≡ false).
          ⊎_elim
          (λ (less : k < count). other e.id apart ∙ was.renamed k e less g)
          (λ (last : count ≤ k).
          let is : count ≡ k = omega arith in
          named e (ap (λ w. w.id) (same_Some x e (sym at ∙ ap (slice_get es) is ∙ g))))
          (cases_lt k count))
          (same_id_cases x.id e.id);
      kept =
          λ q none.
          ⊎_elim
          (λ (same : x.id ≡ q). absurd (none count x (omega arith) at same))
          (λ (apart : same_id x.id q ≡ false). other q apart ∙ was.kept q (λ k e low g is. none k e (omega arith) g is))
          (same_id_cases x.id q);
      listed =
          λ k e g gone.
          ⊎_elim
          (λ (same : x.id ≡ e.id). none-some name (sym gone ∙ named e same))
          (λ (apart : same_id x.id e.id ≡ false). was.listed k e g (sym (other e.id apart) ∙ gone))
          (same_id_cases x.id e.id);
    }

pub renamed_all : (es : List Element) (old new : OpId → Option ℕ) (name count : ℕ) → length es ≤ count → IsRenamed es old new name count → (k : ℕ) (e : Element) → slice_get es k ≡ Some e → new e.id ≡ Some name
renamed_all es old new name count all was k e g = let low = slice_get_within es k e g in was.renamed k e (omega (arith, low, all)) g

pub kept_all : (es : List Element) (old new : OpId → Option ℕ) (name count : ℕ) → IsRenamed es old new name count → (q : OpId) → (HasId es q → ⊥) → new q ≡ old q
kept_all es old new name count was q none = was.kept q (λ k e low g is. none (k, (e, g, is)))

-- what can only fail under a condition that is ruled out
pub is_ok_by : {T E : Type 0} (P : Type 0) (r : Result T E) → OnErr r P → (P → ⊥) → IsOk r
is_ok_by P (Ok x) h none = refl
is_ok_by P (Err e) h none = absurd (none h)
