-- How many registers a call keeps.
use Rattle.std.proofs.Common.{◌≡◌, ℕ, ◌+◌, Bool, true, false, List, [], ◌∷◌, length, cond, refl, arith}
use Rattle.std.proofs.lemmas.List.Recursion.{is_count_by}
use Rattle.std.specs.List.{count_by}
use Rattle.inlined_calls.specs.Calls.{kept_from}

same_count : (a b : ℕ) (kept : List Bool) → length (kept_from a kept) ≡ length (kept_from b kept)
same_count a b [] = refl
same_count a b (true ∷ rest) = let more = same_count (a + 1) (b + 1) rest in omega arith
same_count a b (false ∷ rest) = same_count (a + 1) (b + 1) rest

one_more : (register : ℕ) (is_kept : Bool) (rest : List Bool) → length (kept_from register (is_kept ∷ rest)) ≡ cond is_kept (1 + length (kept_from register rest)) (length (kept_from register rest))
one_more register true rest = let same = same_count (register + 1) register rest in omega arith
one_more register false rest = same_count (register + 1) register rest

pub counts : (register : ℕ) (kept : List Bool) → length (kept_from register kept) ≡ count_by (λ is_kept. is_kept) kept
counts register = is_count_by (λ (kept : List Bool). length (kept_from register kept)) (λ is_kept. is_kept) refl (one_more register)
