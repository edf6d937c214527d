-- Ways, as the code keeps them and as the rules take them.
use Rattle.std.proofs.Common.{◌≡◌, ℕ, zero, suc, ◌+◌, ◌-◌, ◌<◌, ◌≤◌, Bool, true, false, not, ◌||◌, if◌then◌else◌, List, [], ◌∷◌, ◌++◌, length, drop, get_or, Option, Some, None, option_map, refl, ap, sym, ◌∙◌, add-one, arith}
use Rattle.std.specs.Prelude.{slice_get, nat_eq}
use Rattle.std.proofs.Math.Seq.{drop-cons}
use Rattle.std.proofs.Math.ListN.{drop_of_length-le}
use Rattle.span_context.specs.declared.profile.Profile.{Profile}
use Rattle.bpf_words.specs.declared.instruction.Insn.{Insn}
use Rattle.bpf_words.specs.Flow.{jump_of, slots_of}
use Rattle.semantics.specs.Step.{Program}
use Rattle.abstract_state.specs.Situation.{Situation, situation_of}
use Rattle.tracked_state.specs.Tracked.{TrackedSituation}
use Rattle.tracked_state.specs.Rules.{TrackedWays}
use Rattle.verifier.specs.Decides.{jump_target, ways_from, known_before}
use Rattle.refusal_needs.specs.declared.wanted.Wanted.{Wanted}
use Rattle.refusal_needs.specs.Wanted.{is_known}
use Rattle.known_ways.specs.declared.way.KnownWay.{KnownWay}
use Rattle.known_ways.specs.Ways.{Way, along, known_on, ways_by, ways_at, ways_below, ways_into, only_from}
use Rattle.known_ways.specs.Told.{ways_seen, way_seen}
use Rattle.need_trails.specs.declared.back.Back.TheVariants.{Ends}
use Rattle.need_trails.specs.declared.back.End.TheVariants.{Joined}
use Rattle.need_trails.specs.Trail.{is_known_on_some, is_unknown_on_some, is_joined, back_along, back_from}

-- ---- what is left of them
pub left_from : (ways : List KnownWay) (way : KnownWay) (i : ℕ) → i < length ways → way ≡ get_or ways i way → ways_seen (drop i ways) ≡ way_seen way ∷ ways_seen (drop (i + 1) ways)
left_from ways way i lt is =
    let left : drop i ways ≡ way ∷ drop (i + 1) ways = rw (add-one, drop-cons ways i way lt, ← is) refl in
    ap ways_seen left

pub none_left : (ways : List KnownWay) (i : ℕ) → length ways ≤ i → ways_seen (drop i ways) ≡ []
none_left ways i le = ap ways_seen (drop_of_length-le ways le)

-- ---- on which of them it is known
known_of : (wanted : Wanted) (way : Way) (ways : List Way) → is_known_on_some wanted (way ∷ ways) ≡ (is_known way.known wanted || is_known_on_some wanted ways)
unfolding is_known_on_some
known_of wanted way ways = refl

unknown_of : (wanted : Wanted) (way : Way) (ways : List Way) → is_unknown_on_some wanted (way ∷ ways) ≡ (not (is_known way.known wanted) || is_unknown_on_some wanted ways)
unfolding is_unknown_on_some
unknown_of wanted way ways = refl

or_true : (a b : Bool) → a ≡ true → (a || b) ≡ true
or_true true b e = refl
or_true false b e = absurd (cc)

or_false : (a b : Bool) → a ≡ false → (a || b) ≡ b
or_false true b e = absurd (cc)
or_false false b e = refl

not_false : (a : Bool) → a ≡ false → not a ≡ true
not_false true e = absurd (cc)
not_false false e = refl

not_true : (a : Bool) → a ≡ true → not a ≡ false
not_true true e = refl
not_true false e = absurd (cc)

pub known_here : (wanted : Wanted) (ways : List KnownWay) (way : KnownWay) (i : ℕ) (b all : Bool) → i < length ways → way ≡ get_or ways i way → b ≡ is_known (situation_of way.known) wanted → b ≡ true
    → is_known_on_some wanted (ways_seen (drop i ways)) ≡ all → true ≡ all
known_here wanted ways way i b all lt is test here so_far =
    sym (ap (is_known_on_some wanted) (left_from ways way i lt is)
    ∙ known_of wanted (way_seen way) (ways_seen (drop (i + 1) ways))
    ∙ or_true (is_known (situation_of way.known) wanted) (is_known_on_some wanted (ways_seen (drop (i + 1) ways))) (sym test ∙ here))
    ∙ so_far

pub known_later : (wanted : Wanted) (ways : List KnownWay) (way : KnownWay) (i : ℕ) (b all : Bool) → i < length ways → way ≡ get_or ways i way → b ≡ is_known (situation_of way.known) wanted → b ≡ false
    → is_known_on_some wanted (ways_seen (drop i ways)) ≡ all → is_known_on_some wanted (ways_seen (drop (i + 1) ways)) ≡ all
known_later wanted ways way i b all lt is test not_here so_far =
    sym (ap (is_known_on_some wanted) (left_from ways way i lt is)
    ∙ known_of wanted (way_seen way) (ways_seen (drop (i + 1) ways))
    ∙ or_false (is_known (situation_of way.known) wanted) (is_known_on_some wanted (ways_seen (drop (i + 1) ways))) (sym test ∙ not_here))
    ∙ so_far

pub known_nowhere : (wanted : Wanted) (ways : List KnownWay) (i : ℕ) (all : Bool) → length ways ≤ i → is_known_on_some wanted (ways_seen (drop i ways)) ≡ all → false ≡ all
unfolding is_known_on_some
known_nowhere wanted ways i all le so_far = sym (ap (is_known_on_some wanted) (none_left ways i le)) ∙ so_far

pub unknown_here : (wanted : Wanted) (ways : List KnownWay) (way : KnownWay) (i : ℕ) (b all : Bool) → i < length ways → way ≡ get_or ways i way → b ≡ is_known (situation_of way.known) wanted → b ≡ false
    → is_unknown_on_some wanted (ways_seen (drop i ways)) ≡ all → true ≡ all
unknown_here wanted ways way i b all lt is test here so_far =
    sym (ap (is_unknown_on_some wanted) (left_from ways way i lt is)
    ∙ unknown_of wanted (way_seen way) (ways_seen (drop (i + 1) ways))
    ∙ or_true (not (is_known (situation_of way.known) wanted)) (is_unknown_on_some wanted (ways_seen (drop (i + 1) ways))) (not_false (is_known (situation_of way.known) wanted) (sym test ∙ here)))
    ∙ so_far

pub unknown_later : (wanted : Wanted) (ways : List KnownWay) (way : KnownWay) (i : ℕ) (b all : Bool) → i < length ways → way ≡ get_or ways i way → b ≡ is_known (situation_of way.known) wanted → b ≡ true
    → is_unknown_on_some wanted (ways_seen (drop i ways)) ≡ all → is_unknown_on_some wanted (ways_seen (drop (i + 1) ways)) ≡ all
unknown_later wanted ways way i b all lt is test not_here so_far =
    sym (ap (is_unknown_on_some wanted) (left_from ways way i lt is)
    ∙ unknown_of wanted (way_seen way) (ways_seen (drop (i + 1) ways))
    ∙ or_false (not (is_known (situation_of way.known) wanted)) (is_unknown_on_some wanted (ways_seen (drop (i + 1) ways))) (not_true (is_known (situation_of way.known) wanted) (sym test ∙ not_here)))
    ∙ so_far

pub unknown_nowhere : (wanted : Wanted) (ways : List KnownWay) (i : ℕ) (all : Bool) → length ways ≤ i → is_unknown_on_some wanted (ways_seen (drop i ways)) ≡ all → false ≡ all
unfolding is_unknown_on_some
unknown_nowhere wanted ways i all le so_far = sym (ap (is_unknown_on_some wanted) (none_left ways i le)) ∙ so_far

-- ---- the last of them
pub seen_many : (ways : List KnownWay) → length (ways_seen ways) ≡ length ways
seen_many [] = refl
seen_many (way ∷ ways) = ap suc (seen_many ways)

pub seen_at : (ways : List KnownWay) (i : ℕ) → slice_get (ways_seen ways) i ≡ option_map way_seen (slice_get ways i)
seen_at [] i = refl
seen_at (way ∷ ways) zero = refl
seen_at (way ∷ ways) (suc i) = seen_at ways i

-- ---- from where they lead
-- each from a slot below another one
abbrev pub AllFrom : ℕ → List Way → Type 0
AllFrom n ways = (i : ℕ) (way : Way) → slice_get ways i ≡ Some way → way.from < n

all_none : (n i : ℕ) (way : Way) → slice_get [] i ≡ Some way → way.from < n
all_none n i way e = absurd (cc)

all_more : (n : ℕ) (ways : List Way) → AllFrom n ways → (i : ℕ) (way : Way) → slice_get ways i ≡ Some way → way.from < suc n
all_more n ways h i way e = let less = h i way e in omega arith

all_both : (n : ℕ) (a b : List Way) → AllFrom n a → AllFrom n b → (i : ℕ) (way : Way) → slice_get (a ++ b) i ≡ Some way → way.from < n
all_both n [] b ha hb i way e = hb i way e
all_both n (x ∷ a) b ha hb zero way e = ha zero way e
all_both n (x ∷ a) b ha hb (suc i) way e = all_both n a b (λ j w g. ha (suc j) w g) hb i way e

all_along : (from : ℕ) (o : Option Situation) (i : ℕ) (way : Way) → slice_get (along from o) i ≡ Some way → way.from < suc from
all_along from None i way e = absurd (cc)
all_along from (Some s) zero way e =
    let same : from ≡ way.from = ap (λ (o : Option Way). from_in o) e in
    omega arith
  where
    from_in : Option Way → ℕ
    from_in None = from
    from_in (Some w) = w.from
all_along from (Some s) (suc i) way e = absurd (cc)

all_where : (from : ℕ) (b : Bool) (o : Option Situation) → AllFrom (suc from) (if b then along from o else [])
all_where from true o = λ i way e. all_along from o i way e
all_where from false o = λ i way e. all_none (suc from) i way e

all_by : (to from : ℕ) (insn : Insn) (w : TrackedWays) → AllFrom (suc from) (ways_by to from insn w)
all_by to from insn w =
    all_both (suc from)
    (if nat_eq to (from + slots_of insn) then along from (known_on w.untaken) else [])
    (if nat_eq to (jump_target from (jump_of insn)) then along from (known_on w.taken) else [])
    (all_where from (nat_eq to (from + slots_of insn)) (known_on w.untaken))
    (all_where from (nat_eq to (jump_target from (jump_of insn))) (known_on w.taken))

all_at : (profile : Profile) (to from : ℕ) (place : Option (Option Insn)) (known : Option TrackedSituation) → AllFrom (suc from) (ways_at profile to from place known)
all_at profile to from None known = λ i way e. all_none (suc from) i way e
all_at profile to from (Some None) known = λ i way e. all_none (suc from) i way e
all_at profile to from (Some (Some insn)) known = all_by to from insn (ways_from profile from insn known)

all_below : (profile : Profile) (program : Program) (to count : ℕ) → AllFrom count (ways_below profile program to count)
unfolding ways_below
all_below profile program to zero = λ i way e. all_none zero i way e
all_below profile program to (suc from) =
    all_both (suc from) (ways_below profile program to from)
    (ways_at profile to from (slice_get program from) (known_before profile program from))
    (all_more from (ways_below profile program to from) (all_below profile program to from))
    (all_at profile to from (slice_get program from) (known_before profile program from))

-- the last way leads from below
pub last_from : (profile : Profile) (program : Program) (at : ℕ) (ways : List KnownWay) (way : KnownWay) → ways_seen ways ≡ ways_into profile program at → slice_get ways (length ways - 1) ≡ Some way → way.from < at
last_from profile program at ways way are last =
    let seen : slice_get (ways_seen ways) (length ways - 1) ≡ Some (way_seen way) = seen_at ways (length ways - 1) ∙ ap (option_map way_seen) last in
    all_below profile program at at (length ways - 1) (way_seen way)
    (ap (λ (w : List Way). slice_get w (length ways - 1)) (sym are) ∙ seen)

only_below : (n : ℕ) (ways : List Way) (from : ℕ) → AllFrom n ways → only_from ways ≡ Some from → from < n
only_below n [] from all e = absurd (cc)
only_below n (way ∷ []) from all e =
    let less : way.from < n = all 0 way refl in
    let same : way.from ≡ from = cc in
    omega arith
only_below n (way ∷ more ∷ ways) from all e = absurd (cc)

-- the only way too
pub only_leads : (profile : Profile) (program : Program) (at from : ℕ) → Some from ≡ only_from (ways_into profile program at) → from < at
only_leads profile program at from e =
    only_below at (ways_into profile program at) from (all_below profile program at at) (sym e)

-- what the last of the ways of the code is
pub last_seen : (ways : List KnownWay) (seen : List Way) (o : Option KnownWay) → ways_seen ways ≡ seen → o ≡ slice_get ways (length ways - 1) → slice_get seen (length seen - 1) ≡ option_map way_seen o
last_seen ways seen o are is =
    let long : length seen ≡ length ways = ap length (sym are) ∙ seen_many ways in
    ap (λ (w : List Way). slice_get w (length seen - 1)) (sym are)
    ∙ ap (λ (n : ℕ). slice_get (ways_seen ways) (n - 1)) long
    ∙ seen_at ways (length ways - 1)
    ∙ ap (option_map way_seen) (sym is)

-- what is made of them
pub joined_back : (profile : Profile) (program : Program) (wanted : Wanted) (at : ℕ) (ways : List KnownWay) (b : Bool) → ways_seen ways ≡ ways_into profile program at → b ≡ is_joined wanted (ways_seen ways) → b ≡ true → Ends (Joined at) ≡ back_from profile program wanted at
unfolding back_from
joined_back profile program wanted at ways b are test joined =
    let all : List Way = ways_into profile program at in
    let is : is_joined wanted all ≡ true = ap (is_joined wanted) (sym are) ∙ sym test ∙ joined in
    sym (ap (λ (c : Bool). if c then Ends (Joined at) else back_along profile program wanted (slice_get all (length all - 1))) is)

pub last_back : (profile : Profile) (program : Program) (wanted : Wanted) (at : ℕ) (ways : List KnownWay) (b : Bool) (o : Option KnownWay) → ways_seen ways ≡ ways_into profile program at → b ≡ is_joined wanted (ways_seen ways) → b ≡ false → o ≡ slice_get ways (length ways - 1)
    → back_along profile program wanted (option_map way_seen o) ≡ back_from profile program wanted at
unfolding back_from
last_back profile program wanted at ways b o are test apart last =
    let all : List Way = ways_into profile program at in
    let is : is_joined wanted all ≡ false = ap (is_joined wanted) (sym are) ∙ sym test ∙ apart in
    sym (ap (λ (c : Bool). if c then Ends (Joined at) else back_along profile program wanted (slice_get all (length all - 1))) is
    ∙ ap (back_along profile program wanted) (last_seen ways all o are last))
