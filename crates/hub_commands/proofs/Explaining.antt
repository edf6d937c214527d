-- The text of an explanation, by its parts.
use Rattle.std.proofs.Common.{◌≡◌, ℕ, List, [], ◌∷◌, ◌++◌, codes, append_assoc, refl}
use Rattle.hub_commands.specs.Answers.{line}

regrouped : (front slots end steps most lines more : List ℕ) → ((front ++ (slots ++ ((end ++ steps) ++ (most ++ end)))) ++ lines) ++ more ≡ ((front ++ slots) ++ end) ++ ((((steps ++ most) ++ end) ++ lines) ++ more)
regrouped front slots end steps most lines more = simp append_assoc refl

pub joined : (slots most lines more : List ℕ) → ((codes "accepted " ++ (slots ++ (codes "\nsteps <= " ++ (most ++ codes "\n")))) ++ lines) ++ more ≡ line (codes "accepted " ++ slots) ++ ((line (codes "steps <= " ++ most) ++ lines) ++ more)
joined slots most lines more = regrouped (codes "accepted ") slots (10 ∷ []) (codes "steps <= ") most lines more

pub told_behind : (old listing slot trail : List ℕ) → ((old ++ listing) ++ slot) ++ trail ≡ old ++ (listing ++ (slot ++ trail))
told_behind old listing slot trail = simp append_assoc refl
