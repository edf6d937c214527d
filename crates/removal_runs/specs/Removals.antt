-- Removals of characters, and the runs that they are kept in.
use Rattle.std.specs.Prelude.{ℕ, zero, suc, ◌+◌, ◌-◌, ◌<◌, ◌^◌, List, [], ◌∷◌, ◌++◌, All, map}
use Rattle.change_ops.specs.Ids.{IsId}
use Rattle.change_ops.specs.declared.id.OpId.{OpId}
use Rattle.removal_runs.specs.Apart.{AreApart}
use Rattle.removal_runs.specs.declared.run.Direction.{Direction}
use Rattle.removal_runs.specs.declared.run.Direction.TheVariants.{Up, Down}
use Rattle.removal_runs.specs.declared.run.Run.{Run}

-- a removal's own id, and the character that it removes
pub record Removal : Type 0 where
  pub id : OpId
  pub target : OpId

-- a removal of a known peer: its counter, and the character that it removes
pub record PeerRemoval : Type 0 where
  pub counter : ℕ
  pub target : OpId

-- a peer's node, and its removals
pub record PeerRemovals : Type 0 where
  pub node : ℕ
  pub removals : List PeerRemoval

-- a number moved on by some steps
abbrev pub moved : Direction → ℕ → ℕ → ℕ
moved Up number steps = number + steps
moved Down number steps = number - steps

-- the character that a run removes after so many others
abbrev pub target_in : Run → ℕ → OpId
target_in run steps = record { counter = moved run.direction run.target_counter steps; node = run.target_node }

abbrev pub removal_in : Run → ℕ → PeerRemoval
removal_in run steps = record { counter = run.counter + steps; target = target_in run steps }

-- so many first removals of a run
abbrev pub first_removals : Run → ℕ → List PeerRemoval
first_removals run zero = []
first_removals run (suc count) = first_removals run count ++ removal_in run count ∷ []

abbrev pub removals_in : Run → List PeerRemoval
removals_in run = first_removals run run.length

abbrev pub begin_of_run : Run → ℕ
begin_of_run run = run.counter

abbrev pub end_of_run : Run → ℕ
end_of_run run = run.counter + run.length

-- all characters of a run have ids
abbrev pub HasTargets : Run → Type 0
HasTargets run = (steps : ℕ) → steps < run.length → IsId (moved run.direction run.target_counter steps) run.target_node

-- a peer's runs lie in order, and their characters have ids
pub record AreRuns (runs : List Run) : Type 0 where
  pub apart : AreApart begin_of_run end_of_run 0 runs (2 ^ 48)
  pub targets : All HasTargets runs

-- a peer's removal, by its full id
abbrev pub named : ℕ → PeerRemoval → Removal
named node removal = record { id = record { counter = removal.counter; node = node }; target = removal.target }

abbrev pub removals_of_peer : PeerRemovals → List Removal
removals_of_peer peer = map (named peer.node) peer.removals

abbrev pub node_of_peer : PeerRemovals → ℕ
node_of_peer peer = peer.node

-- the peers stand in the order of their nodes
abbrev pub ArePeers : List PeerRemovals → Type 0
ArePeers peers = AreApart node_of_peer (λ peer. peer.node + 1) 0 peers (2 ^ 16)
