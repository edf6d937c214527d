-- What a walk over slots shows of where runs may come.
use Rattle.std.proofs.Common.{◌≡◌, ℕ, zero, suc, ◌+◌, ◌-◌, ◌<◌, ◌≤◌, List, length, slice_index, subst, arith}
use Rattle.semantics.specs.Step.{Program}
use Rattle.block_layout.specs.Loops.{Reaches, at_once, by_way, IsWalk, IsLoop}

reaches_on : (program : Program) (path : List ℕ) → IsWalk program path → (from count : ℕ) → from + count < length path → Reaches program (slice_index path from) (slice_index path (from + count))
reaches_on program path walk from zero within =
    let same : from ≡ from + 0 = omega arith in
    subst (λ (to : ℕ). Reaches program (slice_index path from) (slice_index path to)) same at_once
reaches_on program path walk from (suc count) within =
    let same : from + count + 1 ≡ from + suc count = omega arith in
    let before = reaches_on program path walk from count (omega arith) in
    subst (λ (to : ℕ). Reaches program (slice_index path from) (slice_index path to)) same (by_way before (walk.each (from + count) (omega arith)))

reaches : (program : Program) (path : List ℕ) → IsWalk program path → (from to : ℕ) → from ≤ to → to < length path → Reaches program (slice_index path from) (slice_index path to)
reaches program path walk from to low within =
    let same : from + (to - from) ≡ to = omega arith in
    subst (λ (index : ℕ). Reaches program (slice_index path from) (slice_index path index)) same (reaches_on program path walk from (to - from) (omega arith))

reaches_then : (program : Program) (from mid to : ℕ) → Reaches program from mid → Reaches program mid to → Reaches program from to
reaches_then program from mid to first at_once = first
reaches_then program from mid to first (by_way {mid = before} second goes) = by_way (reaches_then program from mid before first second) goes

-- a path from the first slot that ends where it was, and goes back behind that
pub loop_found : (program : Program) (path : List ℕ) (begin index : ℕ) → IsWalk program path → slice_index path 0 ≡ 0 → begin ≤ index → index + 1 < length path → slice_index path (index + 1) ≤ slice_index path index → slice_index path begin ≡ slice_index path (length path - 1) → IsLoop program (slice_index path index)
loop_found program path begin index walk first low within back same = record {
  begins = subst (λ (slot : ℕ). Reaches program slot (slice_index path index)) first (reaches program path walk 0 index (omega arith) (omega arith));
  back = slice_index path (index + 1);
  leads = walk.each index within;
  low = back;
  again =
      reaches_then program (slice_index path (index + 1)) (slice_index path (length path - 1)) (slice_index path index)
      (reaches program path walk (index + 1) (length path - 1) (omega arith) (omega arith))
      (subst (λ (slot : ℕ). Reaches program slot (slice_index path index)) same (reaches program path walk begin index low (omega arith)));
}
