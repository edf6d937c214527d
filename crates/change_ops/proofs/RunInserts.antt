-- The insert of each character of a run.
use Rattle.std.proofs.Common.{◌≡◌, ℕ, zero, suc, ◌+◌, ◌-◌, ◌≤◌, List, [], ◌∷◌, Option, Some, refl, sym, ap, ◌∙◌, arith}
use Rattle.std.specs.List.{slice_get}
use Rattle.std.proofs.lemmas.Option.{none-some}
use Rattle.change_ops.specs.Ids.{OpId}
use Rattle.change_ops.specs.Runs.{next_id, inserts_from}
use Rattle.change_ops.specs.IdRuns.{later_id}
use Rattle.change_ops.specs.declared.operation.Op.TheVariants.{Insert}

-- what the character at an index stands after
abbrev pub before : OpId → Option OpId → ℕ → Option OpId
before id parent zero = parent
before id parent (suc i) = Some (later_id id i)

abbrev made : ℕ → ℕ → OpId
made counter node = record { counter = counter; node = node }

same_counter : (a b n : ℕ) → a ≡ b → made a n ≡ made b n
same_counter a b n e = ap (λ (c : ℕ). made c n) e

pub later_none : (id : OpId) → later_id id 0 ≡ id
later_none id = same_counter (id.counter + 0) id.counter id.node (omega arith)

pub later_next : (id : OpId) (i : ℕ) → later_id (next_id id) i ≡ later_id id (suc i)
later_next id i = same_counter (id.counter + 1 + i) (id.counter + suc i) id.node (omega arith)

before_next : (id : OpId) (parent : Option OpId) (i : ℕ) → before (next_id id) (Some id) i ≡ before id parent (suc i)
before_next id parent zero = ap Some (sym (later_none id))
before_next id parent (suc i) = ap Some (later_next id i)

pub insert_of : (cs : List ℕ) (id : OpId) (parent : Option OpId) (i c : ℕ) → slice_get cs i ≡ Some c → slice_get (inserts_from id parent cs) i ≡ Some (Insert (later_id id i) (before id parent i) c)
unfolding inserts_from
insert_of [] id parent i c g = absurd (none-some c g)
insert_of (d ∷ cs) id parent zero c g = let same : d ≡ c = cc in (λ k. Some (Insert (sym (later_none id) k) parent (same k)))
insert_of (d ∷ cs) id parent (suc i) c g = insert_of cs (next_id id) (Some id) i c g ∙ (λ k. Some (Insert (later_next id i k) (before_next id parent i k) c))

pub before_first : (id : OpId) (parent : Option OpId) (i : ℕ) → i ≡ 0 → before id parent i ≡ parent
before_first id parent zero e = refl
before_first id parent (suc i) e = absurd (omega arith)

pub before_other : (id : OpId) (parent : Option OpId) (i : ℕ) → 1 ≤ i → before id parent i ≡ Some (later_id id (i - 1))
before_other id parent zero h = absurd (omega arith)
before_other id parent (suc i) h = let e : i ≡ suc i - 1 = omega arith in ap (λ (k : ℕ). Some (later_id id k)) e
