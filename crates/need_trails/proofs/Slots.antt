-- The slots from which ways lead, from one of them on.
use Rattle.std.proofs.Common.{◌≡◌, ℕ, ◌+◌, ◌<◌, ◌≤◌, Bool, true, false, List, [], ◌∷◌, ◌++◌, length, drop, get_or, refl, ap, sym, ◌∙◌, if◌then◌else◌, append_assoc}
use Rattle.std.proofs.lemmas.List.{append-nil}
use Rattle.std.specs.Fmt.{decimal}
use Rattle.abstract_state.specs.Situation.{situation_of}
use Rattle.refusal_needs.specs.declared.wanted.Wanted.{Wanted}
use Rattle.refusal_needs.specs.Wanted.{is_known}
use Rattle.known_ways.specs.declared.way.KnownWay.{KnownWay}
use Rattle.known_ways.specs.Ways.{Way}
use Rattle.known_ways.specs.Told.{ways_seen, way_seen}
use Rattle.need_trails.specs.Trail.{agrees, between, slots_text}
use Rattle.need_trails.proofs.Along.{left_from, none_left}

one_more : (wanted : Wanted) (known some : Bool) (way : Way) (ways : List Way) → agrees known (is_known way.known wanted) ≡ true → slots_text wanted known some (way ∷ ways) ≡ between some ++ decimal way.from ++ slots_text wanted known true ways
unfolding slots_text
one_more wanted known some way ways is =
    ap (λ (b : Bool). if b then between some ++ decimal way.from ++ slots_text wanted known true ways else slots_text wanted known some ways) is

none_more : (wanted : Wanted) (known some : Bool) (way : Way) (ways : List Way) → agrees known (is_known way.known wanted) ≡ false → slots_text wanted known some (way ∷ ways) ≡ slots_text wanted known some ways
unfolding slots_text
none_more wanted known some way ways is =
    ap (λ (b : Bool). if b then between some ++ decimal way.from ++ slots_text wanted known true ways else slots_text wanted known some ways) is

no_text : (wanted : Wanted) (known some : Bool) → slots_text wanted known some [] ≡ []
unfolding slots_text
no_text wanted known some = refl

pub slots_more : (before : List ℕ) (wanted : Wanted) (known some : Bool) (ways : List KnownWay) (way : KnownWay) (i : ℕ) (b : Bool) → i < length ways → way ≡ get_or ways i way → b ≡ agrees known (is_known (situation_of way.known) wanted) → b ≡ true
    → (before ++ (between some ++ decimal way.from)) ++ slots_text wanted known true (ways_seen (drop (i + 1) ways)) ≡ before ++ slots_text wanted known some (ways_seen (drop i ways))
slots_more before wanted known some ways way i b lt is test here =
    append_assoc before (between some ++ decimal way.from) (slots_text wanted known true (ways_seen (drop (i + 1) ways)))
    ∙ ap (λ (text : List ℕ). before ++ text)
    (sym (ap (slots_text wanted known some) (left_from ways way i lt is)
    ∙ one_more wanted known some (way_seen way) (ways_seen (drop (i + 1) ways)) (sym test ∙ here)))

pub slots_none : (wanted : Wanted) (known some : Bool) (ways : List KnownWay) (way : KnownWay) (i : ℕ) (b : Bool) → i < length ways → way ≡ get_or ways i way → b ≡ agrees known (is_known (situation_of way.known) wanted) → b ≡ false
    → slots_text wanted known some (ways_seen (drop (i + 1) ways)) ≡ slots_text wanted known some (ways_seen (drop i ways))
slots_none wanted known some ways way i b lt is test here =
    sym (ap (slots_text wanted known some) (left_from ways way i lt is)
    ∙ none_more wanted known some (way_seen way) (ways_seen (drop (i + 1) ways)) (sym test ∙ here))

pub slots_all : (text : List ℕ) (wanted : Wanted) (known some : Bool) (ways : List KnownWay) (i : ℕ) (all : List ℕ) → length ways ≤ i → text ++ slots_text wanted known some (ways_seen (drop i ways)) ≡ all → text ≡ all
slots_all text wanted known some ways i all le so_far =
    sym (append-nil text)
    ∙ ap (λ (t : List ℕ). text ++ t) (sym (ap (slots_text wanted known some) (none_left ways i le) ∙ no_text wanted known some))
    ∙ so_far
