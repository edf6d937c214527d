-- Two places that have one format, told by what was decided at each.
use Rattle.std.proofs.Common.{◌≡◌, ◌∙◌, ◌↔◌, ℕ, ◌<◌, Bool, List, length, sym, subst, Result, Ok, Err, IfOk}
use Rattle.std.specs.Bool.{IsTrue}
use Rattle.change_ops.specs.declared.operation.Op.{Op}
use Rattle.char_sequence.specs.declared.sequence.Element.{Element}
use Rattle.char_sequence.specs.Order.{Shows}
use Rattle.mark_anchors.specs.Formatting.{Format}
use Rattle.mark_anchors.specs.Marks.{AreMarks}
use Rattle.mark_anchors.specs.Ranges.{IsFormatAt}
use Rattle.mark_anchors.proofs.FormatLaws.{one_format}
use Rattle.mark_anchors.proofs.Lists.{item_at}

-- a character has one format
pub one_format_at : (es : List Element) (marks ops : List Op) → Shows es ops → AreMarks ops marks → (place : ℕ) → place < length es → (f g : Format) → IsFormatAt es marks place f → IsFormatAt es marks place g → f ≡ g
one_format_at es marks ops shows are place within f g is also =
    let e = item_at es place within in
    one_format ops e.0.id f g (is ops e.0 shows are e.1) (also ops e.0 shows are e.1)

pub alike_told : (es : List Element) (marks : List Op) → (ops : List Op) × Shows es ops × AreMarks ops marks → (first second : ℕ) → first < length es → second < length es → (one other : Format) → IsFormatAt es marks first one → IsFormatAt es marks second other → (told : Bool) → IsTrue told ↔ (one ≡ other) → (f : Format) → IsFormatAt es marks first f → IsTrue told ↔ IsFormatAt es marks second f
alike_told es marks text first second there within one other is also told tells f at =
    let here : f ≡ one = one_format_at es marks text.0 text.1 text.2 first there f one at is in (
      λ yes. subst (IsFormatAt es marks second) (sym (here ∙ tells.0 yes)) also,
      λ alike. tells.1 (sym here ∙ one_format_at es marks text.0 text.1 text.2 second within f other alike also),
    )

pub ok_more : {X E : Type 0} (P Q : X → Type 0) (r : Result X E) → ((x : X) → P x → Q x) → IfOk r P → IfOk r Q
ok_more P Q (Ok x) more is = more x is
ok_more P Q (Err e) more is = is
