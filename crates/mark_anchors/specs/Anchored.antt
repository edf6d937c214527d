-- The ids of the marks that begin, or end, at an anchor.
use Rattle.std.specs.Prelude.{◌≡◌, ℕ, ◌<◌, List, Some, Contains, slice_get}
use Rattle.change_ops.specs.Ids.{Less}
use Rattle.change_ops.specs.Operations.{id_of}
use Rattle.change_ops.specs.declared.id.OpId.{OpId}
use Rattle.change_ops.specs.declared.operation.Anchor.{Anchor}
use Rattle.change_ops.specs.declared.operation.Op.{Op}
use Rattle.change_ops.specs.declared.operation.Op.TheVariants.{Insert, Remove, AddMark, RemoveMark, Revive}

-- the anchor is the mark's first one
abbrev pub Begins : Op → Anchor → Type 0
Begins (Insert id parent character) anchor = ⊥
Begins (Remove id target) anchor = ⊥
Begins (AddMark id attribute start end) anchor = start ≡ anchor
Begins (RemoveMark id key start end) anchor = start ≡ anchor
Begins (Revive id removal) anchor = ⊥

-- the anchor is the mark's second one
abbrev pub Ends : Op → Anchor → Type 0
Ends (Insert id parent character) anchor = ⊥
Ends (Remove id target) anchor = ⊥
Ends (AddMark id attribute start end) anchor = end ≡ anchor
Ends (RemoveMark id key start end) anchor = end ≡ anchor
Ends (Revive id removal) anchor = ⊥

-- no id stands twice
abbrev pub AreApart : List OpId → Type 0
AreApart ids = (i j : ℕ) (x : OpId) → slice_get ids i ≡ Some x → slice_get ids j ≡ Some x → i ≡ j

-- each id is less than all later ones
abbrev pub AreRising : List OpId → Type 0
AreRising ids = (i j : ℕ) (x y : OpId) → i < j → slice_get ids i ≡ Some x → slice_get ids j ≡ Some y → Less x y

-- the ids, rising, of exactly the marks that stand so to the anchor
pub record AreIdsAt (StandsAt : Op → Anchor
    → Type 0) (marks : List Op) (anchor : Anchor) (ids : List OpId) : Type 0 where
  pub rising : AreRising ids
  pub held : (id : OpId) → Contains ids id → (o : Op) × Contains marks o × StandsAt o anchor × (id_of o ≡ id)
  pub listed : (o : Op) → Contains marks o → StandsAt o anchor → Contains ids (id_of o)
