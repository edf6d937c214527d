-- What a schedule of messages leads to.
use Rattle.std.proofs.Common.{◌≡◌, List, [], ◌∷◌, ◌++◌, ⊎_elim, refl, sym, ap, ◌∙◌, subst, arith, length, Contains, append_assoc}
use Rattle.std.proofs.lemmas.List.{append-nil}
use Rattle.std.proofs.lemmas.List.Elements.{Contains-append_left, Contains-append_right, Contains-append_cases, Contains-push}
use Rattle.replica.specs.declared.replica.Delivered.{Delivered}
use Rattle.replica.specs.declared.replica.Delivered.TheVariants.{Taken, Covered}
use Rattle.replica.specs.Messages.{Message, Overlap, AreApart, SameMessages}
use Rattle.replica.specs.Replicas.{State, taken, Delivers, Hands, IsNew, WasHanded}
use Rattle.replica.proofs.Buffering.{alone}

pub same_set : (xs : List Message) → SameMessages xs xs
same_set xs = record { forth = λ m h. h; back = λ m h. h }

pub set_back : (xs ys : List Message) → SameMessages xs ys → SameMessages ys xs
set_back xs ys same = record { forth = same.back; back = same.forth }

pub set_over : (xs ys zs : List Message) → SameMessages xs ys → SameMessages ys zs → SameMessages xs zs
set_over xs ys zs first second = record { forth = λ m h. second.forth m (first.forth m h); back = λ m h. first.back m (second.back m h) }

one_more : (xs ys : List Message) (x m : Message) → ((y : Message) → Contains xs y → Contains ys y) → Contains (xs ++ x ∷ []) m → Contains (ys ++ x ∷ []) m
one_more xs ys x m sub h =
    ⊎_elim (λ (a : Contains xs m). Contains-append_left ys (x ∷ []) m (sub m a)) (λ (b : Contains (x ∷ []) m). Contains-append_right ys (x ∷ []) m b)
    (Contains-append_cases xs (x ∷ []) m h)

set_more : (xs ys : List Message) (x : Message) → SameMessages xs ys → SameMessages (xs ++ x ∷ []) (ys ++ x ∷ [])
set_more xs ys x same = record { forth = λ m h. one_more xs ys x m same.forth h; back = λ m h. one_more ys xs x m same.back h }

-- what is there is added
set_again : (xs : List Message) (x : Message) → Contains xs x → SameMessages xs (xs ++ x ∷ [])
set_again xs x has = record {
  forth = λ m h. Contains-append_left xs (x ∷ []) m h;
  back = λ m h. ⊎_elim (λ (a : Contains xs m). a) (λ (b : Contains (x ∷ []) m). subst (λ (y : Message). Contains xs y) (alone x m b) has) (Contains-append_cases xs (x ∷ []) m h);
}

covered_before : (before schedule : List Message) (m x : Message) → AreApart (before ++ m ∷ schedule) → Contains before x → Overlap x m → Contains before m
covered_before before schedule m x apart has o =
    let here : Contains (before ++ m ∷ schedule) m = Contains-append_right before (m ∷ schedule) m (Contains-append_left (m ∷ []) schedule m (Contains-push [] m)) in
    let same : x ≡ m = apart x m (Contains-append_left before (m ∷ schedule) x has) here o in
    subst (λ (y : Message). Contains before y) same has

-- ---- one delivery
delivered_set : (old new : State) (before schedule : List Message) (m : Message) (delivered : Delivered) → SameMessages (taken old) before → AreApart (before ++ m ∷ schedule) → Delivers old m new delivered → SameMessages (taken new) (before ++ m ∷ [])
delivered_set old new before schedule m Taken same apart step = set_over (taken new) (taken old ++ m ∷ []) (before ++ m ∷ []) step.taken (set_more (taken old) before m same)
delivered_set old new before schedule m Covered same apart step =
    let now = subst (λ (s : State). SameMessages (taken s) before) (sym step.0) same in
    set_over (taken new) before (before ++ m ∷ []) now (set_again before m (covered_before before schedule m step.1.0 apart (same.forth step.1.0 step.1.1) step.1.2))

-- ---- a schedule
pub hands_more : (schedule : List Message) (old mid new : State) (m : Message) (delivered : Delivered) → Hands old schedule mid → Delivers mid m new delivered → Hands old (schedule ++ m ∷ []) new
hands_more [] old mid new m delivered is step = (new, delivered, subst (λ (s : State). Delivers s m new delivered) is step, refl)
hands_more (x ∷ schedule) old mid new m delivered steps step = (steps.0, steps.1, steps.2, hands_more schedule steps.0 mid new m delivered steps.3 step)

pub nothing_left : (messages : List Message) → length messages ≡ 0 → messages ≡ []
nothing_left [] none = refl
nothing_left (m ∷ messages) none = absurd (omega arith)

handed : (schedule before : List Message) (old new : State) → SameMessages (taken old) before → AreApart (before ++ schedule) → Hands old schedule new → SameMessages (taken new) (before ++ schedule)
handed [] before old new same apart is =
    subst (λ (ms : List Message). SameMessages (taken new) ms) (sym (append-nil before)) (subst (λ (s : State). SameMessages (taken s) before) (sym is) same)
handed (m ∷ schedule) before old new same apart steps =
    let next = steps.0 in
    let together : (before ++ m ∷ []) ++ schedule ≡ before ++ m ∷ schedule = append_assoc before (m ∷ []) schedule in
    let now = delivered_set old next before schedule m steps.1 same apart steps.2 in
    subst (λ (ms : List Message). SameMessages (taken new) ms) together
    (handed schedule (before ++ m ∷ []) next new now (subst (λ (ms : List Message). AreApart ms) (sym together) apart) steps.3)

nothing_taken : (state : State) → IsNew state → SameMessages (taken state) []
nothing_taken state is =
    let accepted : taken state ≡ [] ++ state.held = ap (λ (ms : List Message). ms ++ state.held) is.accepted in
    let all : taken state ≡ [] = accepted ∙ is.held in
    subst (λ (ms : List Message). SameMessages ms []) (sym all) (same_set [])

-- what a new replica took in is the set of the messages that it was handed
pub handed_set : (schedule : List Message) (state : State) → AreApart schedule → WasHanded schedule state → SameMessages (taken state) schedule
handed_set schedule state apart was = handed schedule [] was.0 state (nothing_taken was.0 was.1) apart was.2

apart_too : (first second : List Message) → SameMessages first second → AreApart first → AreApart second
apart_too first second same apart = λ a b one two o. apart a b (same.back a one) (same.back b two) o

pub handed_alike : (first second : List Message) (a b : State) → AreApart first → SameMessages first second → WasHanded first a → WasHanded second b → SameMessages (taken a) (taken b)
handed_alike first second a b apart same one two =
    set_over (taken a) first (taken b) (handed_set first a apart one)
    (set_over first second (taken b) same (set_back (taken b) second (handed_set second b (apart_too first second same apart) two)))
