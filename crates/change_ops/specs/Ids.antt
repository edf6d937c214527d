-- Ids and characters, their limits, and the order of ids.
use Rattle.std.specs.Prelude.{ℕ, ◌≡◌, ◌<◌, ◌≤◌, ◌⊎◌, ◌^◌, ◌↔◌, nat_lt, nat_le, ◌&&◌, ◌||◌, Bool, Option, Some, None}
use Rattle.std.specs.Prelude.{if◌then◌else◌}
use Rattle.std.specs.Ordering.{nat_cmp, on, then_cmp}
use Rattle.std.specs.declared.cmp.Ordering.{Ordering}
use Rattle.std.specs.declared.cmp.Ordering.TheVariants as ordering

-- an id as a line may name it: two numbers
pub record OpId : Type 0 where
  pub counter : ℕ
  pub node : ℕ

-- by counter, then by node (Peritext, CSCW 2022)
unfoldable pub Less : OpId → OpId → Type 0
Less a b = (a.counter < b.counter) ⊎ ((a.counter ≡ b.counter) × (a.node < b.node))

-- the same order, as a comparison
abbrev pub id_cmp : OpId → OpId → Ordering
id_cmp = then_cmp (on (λ (i : OpId). i.counter) nat_cmp) (on (λ (i : OpId). i.node) nat_cmp)

-- The comparison answers just what the order says.
pub record ComparesIds (a b : OpId) : Type 0 where
  pub less : (id_cmp a b ≡ ordering.Less) ↔ Less a b
  pub equal : (id_cmp a b ≡ ordering.Equal) ↔ (a ≡ b)
  pub greater : (id_cmp a b ≡ ordering.Greater) ↔ Less b a

abbrev pub is_node : ℕ → Bool
is_node n = nat_le 1 n && nat_le n 65535

abbrev pub within_limits : OpId → Bool
within_limits id = nat_le 1 id.counter && nat_lt id.counter (2 ^ 48) && is_node id.node

pub record IsId (counter node : ℕ) : Type 0 where
  pub counted : 1 ≤ counter
  pub small : counter < 2 ^ 48
  pub named : 1 ≤ node
  pub known : node ≤ 65535

-- a Unicode scalar value other than 0
abbrev pub is_character : ℕ → Bool
is_character c = nat_le 1 c && (nat_lt c 0xd800 || (nat_lt 0xdfff c && nat_le c 0x10ffff))

-- a value that passes a test
abbrev pub checked : {A : Type 0} → (A → Bool) → A → Option A
checked test x = if test x then Some x else None
