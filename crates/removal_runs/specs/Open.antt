-- Removals of which some are taken back: those that aren't are open.
use Rattle.std.specs.Prelude.{◌≡◌, ℕ, ◌-◌, ◌≤◌, nat_lt, ◌&&◌, not, if◌then◌else◌, Bool, List, Option, Some, None}
use Rattle.std.specs.Prelude.{Contains, MatchOption}
use Rattle.std.specs.List.{list_any, count_by}
use Rattle.std.specs.Ordering.{is_eq}
use Rattle.std.specs.BTreeMap.{BTreeMap, get}
use Rattle.change_ops.specs.Ids.{id_cmp}
use Rattle.change_ops.specs.declared.id.OpId.{OpId}
use Rattle.removal_runs.specs.Removals.{Removal}

-- removals, and the ids of those that are taken back
pub record Removals : Type 0 where
  pub removals : List Removal
  pub back : List OpId

-- the removal with this id removes the character
abbrev pub Removes : Removals → OpId → OpId → Type 0
Removes removals r x = Contains removals.removals (record { id = r; target = x })

-- a removal of the character isn't taken back
abbrev pub HasOpen : Removals → OpId → Type 0
HasOpen removals x = (r : OpId) × Removes removals r x × (Contains removals.back r → ⊥)

-- the removal is the character's only one that isn't taken back
pub record IsOnlyOpen (removals : Removals) (r x : OpId) : Type 0 where
  pub removes : Removes removals r x
  pub stands : Contains removals.back r → ⊥
  pub only : (s : OpId) → Removes removals s x → (Contains removals.back s → ⊥) → s ≡ r

abbrev pub same : OpId → OpId → Bool
same a b = is_eq (id_cmp a b)

abbrev pub has_id : OpId → Removal → Bool
has_id id removal = same id removal.id

-- the removal is one of the character, and isn't taken back
abbrev pub is_open : List OpId → OpId → Removal → Bool
is_open back x removal = same x removal.target && not (list_any (same removal.id) back)

abbrev pub open_count : Removals → OpId → ℕ
open_count removals x = count_by (is_open removals.back x) removals.removals

-- the count of a character's open removals, or one at most where there is none
abbrev pub IsCount : Removals → OpId → Option ℕ → Type 0
IsCount removals x count =
    MatchOption count (open_count removals x ≤ 1) (λ n. (1 ≤ n) × (n ≡ open_count removals x))

-- no two removals have one id, those taken back are there, and the counts are of the characters' open removals
pub record AreCounted (removals : Removals) (counts : BTreeMap OpId ℕ) : Type 0 where
  pub one : (id : OpId) → count_by (has_id id) removals.removals ≤ 1
  pub known : (r : OpId) → Contains removals.back r → (x : OpId) × Removes removals r x
  pub counted : (x : OpId) → IsCount removals x (get id_cmp counts x)

-- a count once there is one open removal less; a count of one isn't kept
abbrev pub fewer : Option ℕ → Option ℕ
fewer None = None
fewer (Some n) = if nat_lt 2 n then Some (n - 1) else None
