-- The visible characters by the elements.
use Rattle.std.proofs.Common.{◌≡◌, List, [], ◌∷◌, ◌++◌, length, map, get_or, refl, sym, ap, ◌∙◌, All}
use Rattle.std.specs.List.{filter, Contains, count_by}
use Rattle.std.proofs.lemmas.Option.{slice_get-get_or}
use Rattle.std.proofs.lemmas.List.{map-append, length-map}
use Rattle.std.proofs.lemmas.List.Elements.{filter-append}
use Rattle.std.proofs.lemmas.List.Sums.{length-filter}
use Rattle.change_ops.specs.declared.operation.Op.{Op}
use Rattle.char_sequence.specs.declared.sequence.Element.{Element}
use Rattle.char_sequence.specs.Order.{Shows}
use Rattle.mark_anchors.specs.Format.{IsFormat}
use Rattle.span_flatten.specs.Spans.{Shown, AreVisible}
use Rattle.span_flatten.specs.Taken.{AreDrawn, element_of, is_visible}
use Rattle.span_flatten.proofs.Showing.{contains_at, shown_visible}

map_parted : {X Y : Type 0} (f : X → Y) (xs : List X) (ys zs : List Y) → map f xs ≡ ys ++ zs → (a : List X) × ((b : List X) × (xs ≡ a ++ b) × (map f a ≡ ys) × (map f b ≡ zs))
map_parted f xs [] zs e = ([], (xs, refl, refl, e))
map_parted f [] (y ∷ ys) zs e = absurd cc
map_parted f (x ∷ xs) (y ∷ ys) zs e =
    let tails : map f xs ≡ ys ++ zs = cc in
    let heads : f x ≡ y = cc in
    let r = map_parted f xs ys zs tails in
    let whole : x ∷ xs ≡ x ∷ (r.0 ++ r.1.0) = ap (λ l. x ∷ l) r.1.1 in
    let first : map f r.0 ≡ ys = r.1.2 in
    (x ∷ r.0, (r.1.0, whole, cc, r.1.3))

-- The shown characters of a text in two parts are those of the first part and those of the second.
pub drawn_parted : (first second : List Element) (shown : List Shown) → AreDrawn (first ++ second) shown → (front : List Shown) × ((back : List Shown) × (shown ≡ front ++ back) × AreDrawn first front × AreDrawn second back)
drawn_parted first second shown drawn = map_parted element_of shown (filter is_visible first) (filter is_visible second) (drawn ∙ filter-append is_visible first second)

pub drawn_append : (first second : List Element) (front back : List Shown) → AreDrawn first front → AreDrawn second back → AreDrawn (first ++ second) (front ++ back)
drawn_append first second front back one two =
    map-append element_of front back ∙ ap (λ l. l ++ map element_of back) one ∙ ap (λ l. filter is_visible first ++ l) two ∙ sym (filter-append is_visible first second)

-- as many are shown as are visible
pub drawn_count : (es : List Element) (shown : List Shown) → AreDrawn es shown → length shown ≡ count_by is_visible es
drawn_count es shown drawn = sym (length-map shown element_of) ∙ ap length drawn ∙ length-filter is_visible es

pub all_from_contains : {X : Type 0} (P : X → Type 0) (xs : List X) → ((x : X) → Contains xs x → P x) → All P xs
all_from_contains P xs each k d h = each (get_or xs k d) (contains_at xs k (get_or xs k d) (slice_get-get_or xs k d h))

-- What is drawn of the elements, each with its format, is what is visible.
pub drawn_visible : (ops : List Op) (es : List Element) (shown : List Shown) → Shows es ops → AreDrawn es shown → ((s : Shown) → Contains shown s → IsFormat ops s.id s.format) → AreVisible ops shown
drawn_visible ops es shown shows drawn formats = shown_visible ops es shown shows.text drawn (all_from_contains (λ s. IsFormat ops s.id s.format) shown formats)
