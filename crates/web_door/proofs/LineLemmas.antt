-- What is given of a line, and what is left of it.
use Rattle.std.proofs.Common.{◌≡◌, ℕ, ◌+◌, List, ◌++◌, length, take, drop, ◌∙◌, ap, sym, subst}
use Rattle.std.proofs.lemmas.List.{append_assoc, take-append-drop}
use Rattle.std.proofs.Math.Seq.{take-append_seam, drop-drop}

-- the front of what is left of a text is given, and the rest is still left, before the same end
pub front_given : (text : List ℕ) (start : ℕ) (given after ending : List ℕ) → given ≡ take (length given) (drop start text)
    → drop start text ++ ending ≡ take (length given) (given ++ after) ++ (drop (start + length given) text ++ ending)
front_given text start given after ending front =
    rw (
      take-append_seam given after,
      sym (drop-drop (length given) start text),
      sym (append_assoc given (drop (length given) (drop start text)) ending),
    )
    (ap (λ bytes. bytes ++ ending)
    (sym (take-append-drop (length given) (drop start text)) ∙ ap (λ bytes. bytes ++ drop (length given) (drop start text)) (sym front)))

pub front_given_of : (text : List ℕ) (start count : ℕ) (given after ending : List ℕ) → length given ≡ count
    → given ≡ take count (drop start text)
    → drop start text ++ ending ≡ take count (given ++ after) ++ (drop (start + count) text ++ ending)
front_given_of text start count given after ending is front =
    subst (λ n. drop start text ++ ending ≡ take n (given ++ after) ++ (drop (start + n) text ++ ending)) is
    (front_given text start given after ending (subst (λ n. given ≡ take n (drop start text)) (sym is) front))
