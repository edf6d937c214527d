use Rattle.std.proofs.Common.{◌≡◌, refl, sym, ap, true≢false}
use Rattle.std.specs.Bool.{Decides}
use Rattle.std.specs.Cmp.{unsigned_Decides}
use Rattle.change_ops.specs.contracts.value.ValuePartialEq.TheImpl.{ghosts}
use Rattle.change_ops.specs.declared.value.Value.{Value}
use Rattle.change_ops.specs.declared.value.Value.TheVariants.{Nothing, Link, Color, LineKind}
use Rattle.mark_anchors.proofs.Formats.{lists_Decides}

-- values of two types differ
same : (x y : Value) → Decides (ghosts.eq x y) (x ≡ y)
same Nothing Nothing = (λ e. refl, λ e. refl)
same Nothing (Link t) = (λ e. absurd (true≢false (sym e)), λ e. cc)
same Nothing (Color n) = (λ e. absurd (true≢false (sym e)), λ e. cc)
same Nothing (LineKind n) = (λ e. absurd (true≢false (sym e)), λ e. cc)
same (Link s) Nothing = (λ e. absurd (true≢false (sym e)), λ e. cc)
same (Link s) (Link t) = (λ e. ap Link ((lists_Decides s t).0 e), λ e. let one : s ≡ t = cc in (lists_Decides s t).1 one)
same (Link s) (Color n) = (λ e. absurd (true≢false (sym e)), λ e. cc)
same (Link s) (LineKind n) = (λ e. absurd (true≢false (sym e)), λ e. cc)
same (Color m) Nothing = (λ e. absurd (true≢false (sym e)), λ e. cc)
same (Color m) (Link t) = (λ e. absurd (true≢false (sym e)), λ e. cc)
same (Color m) (Color n) = (λ e. ap Color ((unsigned_Decides m n).0 e), λ e. let one : m ≡ n = cc in (unsigned_Decides m n).1 one)
same (Color m) (LineKind n) = (λ e. absurd (true≢false (sym e)), λ e. cc)
same (LineKind m) Nothing = (λ e. absurd (true≢false (sym e)), λ e. cc)
same (LineKind m) (Link t) = (λ e. absurd (true≢false (sym e)), λ e. cc)
same (LineKind m) (Color n) = (λ e. absurd (true≢false (sym e)), λ e. cc)
same (LineKind m) (LineKind n) = (λ e. ap LineKind ((unsigned_Decides m n).0 e), λ e. let one : m ≡ n = cc in (unsigned_Decides m n).1 one)
