-- The texts of changes, one behind the other.
use Rattle.std.proofs.Common.{◌≡◌, ℕ, List, length, map, ap, ◌∙◌}
use Rattle.std.specs.List.{flat_map}
use Rattle.std.proofs.lemmas.List.{length-map}
use Rattle.std.proofs.lemmas.List.Folds.{flat_map-map}
use Rattle.change_ops.specs.Changes.{Change}
use Rattle.change_ops.specs.Spelling.{change_text}

pub listed : (texts : List (List ℕ)) (changes : List Change) → texts ≡ map change_text changes → flat_map (λ (text : List ℕ). text) texts ≡ flat_map change_text changes
listed texts changes spelled = ap (flat_map (λ (text : List ℕ). text)) spelled ∙ flat_map-map (λ (text : List ℕ). text) change_text changes

pub as_many : (texts : List (List ℕ)) (changes : List Change) → texts ≡ map change_text changes → length texts ≡ length changes
as_many texts changes spelled = ap length spelled ∙ length-map changes change_text
