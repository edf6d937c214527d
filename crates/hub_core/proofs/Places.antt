-- Whether there is a place for one subscriber more.
use Rattle.std.proofs.Common.{◌≡◌, ℕ, ◌+◌, ◌<◌, ◌≤◌, List, length, sym, ap, subst, arith, inl, inr, ⊎_elim}
use Rattle.std.specs.Prelude.{◌↔◌, IsTrue, count_by}
use Rattle.std.proofs.lemmas.Bool.{cases_lt, leb-true, le-leb}
use lib.Dec.{leb}
use Rattle.change_ops.specs.Sizes.{most_subscribers, most_open}
use Rattle.hub_core.specs.Machine.{Core, HasPlace, HasNoPlace, is_open}

-- where there isn't no place there is one
pub has_place : {S : Type 0} (s : Core S) → ¬ HasNoPlace s → HasPlace s
has_place s none = record {
  added = ⊎_elim (λ l. l) (λ h. absurd (none (inl h))) (cases_lt (length s.subscribers) (most_subscribers s.size));
  at_once = ⊎_elim (λ l. l) (λ h. absurd (none (inr h))) (cases_lt (count_by is_open s.subscribers) (most_open s.size));
}

-- where fewer were added than may be, it is by those that are open
pub full_by_open : {S : Type 0} (o s : Core S) (count most : ℕ) → s ≡ o → length s.subscribers < most_subscribers s.size → count ≡ count_by is_open s.subscribers → most ≡ most_open s.size
    → IsTrue (leb most count) ↔ HasNoPlace o
full_by_open o s count most same fewer counted limit =
    subst (λ y. IsTrue (leb most count) ↔ HasNoPlace y) same (
      λ full. inr (omega (arith, leb-true most count full, counted, limit)),
      λ none. le-leb most count (⊎_elim (λ (h : most_subscribers s.size ≤ length s.subscribers). absurd (omega (arith, h, fewer)))
          (λ (h : most_open s.size ≤ count_by is_open s.subscribers). omega (arith, h, counted, limit)) none),
    )
