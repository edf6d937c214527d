-- The names of elements' chunks, peer by peer.
use Rattle.std.proofs.Common.{◌≡◌, ℕ, zero, suc, ◌<◌, ◌≤◌, false, cond, List, [], ◌∷◌, ◌++◌, Option, Some, None, inl, inr, ◌⊎◌, length, get_or, set, sym, ap, refl, ◌∙◌, subst, arith, ⊎_elim, length-append, IsSome}
use Rattle.std.proofs.Math.ListN.{length-set}
use Rattle.std.specs.Prelude.{nat_eq}
use Rattle.std.specs.List.{slice_get}
use Rattle.std.specs.List.Sorted.{IsBinarySearchResult}
use Rattle.std.specs.Map.{lookup}
use Rattle.std.specs.Option.{MatchOption}
use Rattle.std.specs.Ordering.{nat_cmp}
use Rattle.std.specs.Cmp.{unsigned_tied}
use Rattle.std.specs.declared.result.Result.TheVariants.{Ok, Err}
use Rattle.std.proofs.lemmas.Option.{same_Some, none-some, slice_get_within, slice_get-get_or, get_or_from_slice_get}
use Rattle.std.proofs.lemmas.Bool.{cases_eq, cases_lt, eq-eqb, ne_eqb, false≢true}
use Rattle.std.proofs.lemmas.List.Sorted.{searched}
use Rattle.change_ops.specs.declared.id.OpId.{OpId}
use Rattle.char_sequence.specs.Named.{PeerIndex, Index, same_node, name_among, name_in, name_at, name_of, IsRising, AreRising, HasPlaces}
use Rattle.char_sequence.specs.Index.{same_id}
use Rattle.char_sequence.proofs.Ids.{same_ids, id_found}
use Rattle.char_sequence.proofs.Joined.{get_left, get_right}
use Rattle.char_sequence.proofs.Lists.{slice_get_set_same, slice_get_set_other}

-- ---- rising numbers
ascends : (xs : List ℕ) → IsRising xs → (i j : ℕ) → i ≤ j → j < length xs → get_or xs i 0 ≤ get_or xs j 0
ascends xs rising i j le within =
    ⊎_elim
    (λ (less : i < j). let low : get_or xs i 0 < get_or xs j 0 = rising i j (get_or xs i 0) (get_or xs j 0) less (slice_get-get_or xs i 0 (omega arith)) (slice_get-get_or xs j 0 within) in omega arith)
    (λ (ge : j ≤ i). let same : i ≡ j = omega arith in let eq : get_or xs i 0 ≡ get_or xs j 0 = ap (λ k. get_or xs k 0) same in omega arith)
    (cases_lt i j)

pub place_found : (xs : List ℕ) (x n : ℕ) → IsBinarySearchResult (λ y. nat_cmp y x) xs (Ok n) → IsRising xs → slice_get xs n ≡ Some x
place_found xs x n is rising = let r = searched xs x (Ok n) is (ascends xs rising) in slice_get-get_or xs n 0 r.0 ∙ ap Some r.1

pub place_missed : (xs : List ℕ) (x n : ℕ) → IsBinarySearchResult (λ y. nat_cmp y x) xs (Err n) → IsRising xs → (k : ℕ) → slice_get xs k ≡ Some x → ⊥
place_missed xs x n is rising k at =
    let r = searched xs x (Err n) is (ascends xs rising) in
    let here : get_or xs k 0 ≡ x = get_or_from_slice_get xs k x 0 at in
    let inside : k < length xs = slice_get_within xs k x at in
    ⊎_elim
    (λ (less : k < n). let low : get_or xs k 0 < x = r.1 k less in absurd (omega arith))
    (λ (ge : n ≤ k). let high : x < get_or xs k 0 = r.2 k ge inside in absurd (omega arith))
    (cases_lt k n)

-- ---- the names of one peer's elements
pub name_is : (ks ns : List ℕ) (k c : ℕ) → IsRising ks → length ns ≡ length ks → slice_get ks k ≡ Some c → name_among ks ns c ≡ slice_get ns k
name_is [] ns k c rising size g = absurd (none-some c g)
name_is (x ∷ xs) [] k c rising size g = absurd (omega (arith, size))
name_is (x ∷ xs) (y ∷ ys) zero c rising size g = ap (λ b. cond b (Some y) (name_among xs ys c)) (eq-eqb x c (same_Some x c g))
name_is (x ∷ xs) (y ∷ ys) (suc k) c rising size g =
    let less : x < c = rising 0 (suc k) x c (omega arith) refl g in
    let shorter : length ys ≡ length xs = omega (arith, size) in
    ap (λ b. cond b (Some y) (name_among xs ys c)) (ne_eqb x c (λ same. omega (arith, less, same)))
    ∙ name_is xs ys k c (λ i j a b low gi gj. rising (suc i) (suc j) a b (omega arith) gi gj) shorter g

pub name_none : (ks ns : List ℕ) (c : ℕ) → ((k : ℕ) → slice_get ks k ≡ Some c → ⊥) → name_among ks ns c ≡ None
name_none [] ns c none = refl
name_none (x ∷ xs) [] c none = refl
name_none (x ∷ xs) (y ∷ ys) c none =
    ap (λ b. cond b (Some y) (name_among xs ys c)) (ne_eqb x c (λ same. none 0 (ap Some same))) ∙ name_none xs ys c (λ k g. none (suc k) g)

pub pushed_other : (ks ns : List ℕ) (c n q : ℕ) → length ns ≡ length ks → (c ≡ q → ⊥) → name_among (ks ++ c ∷ []) (ns ++ n ∷ []) q ≡ name_among ks ns q
pushed_other [] [] c n q size off = ap (λ b. cond b (Some n) None) (ne_eqb c q off)
pushed_other [] (y ∷ ys) c n q size off = absurd (omega (arith, size))
pushed_other (x ∷ xs) [] c n q size off = absurd (omega (arith, size))
pushed_other (x ∷ xs) (y ∷ ys) c n q size off =
    let shorter : length ys ≡ length xs = omega (arith, size) in
    ap (λ z. cond (nat_eq x q) (Some y) z) (pushed_other xs ys c n q shorter off)

pub pushed_here : (ks ns : List ℕ) (c n : ℕ) → length ns ≡ length ks → ((k : ℕ) → slice_get ks k ≡ Some c → ⊥) → name_among (ks ++ c ∷ []) (ns ++ n ∷ []) c ≡ Some n
pushed_here [] [] c n size none = ap (λ b. cond b (Some n) None) (eq-eqb c c refl)
pushed_here [] (y ∷ ys) c n size none = absurd (omega (arith, size))
pushed_here (x ∷ xs) [] c n size none = absurd (omega (arith, size))
pushed_here (x ∷ xs) (y ∷ ys) c n size none =
    let shorter : length ys ≡ length xs = omega (arith, size) in
    ap (λ b. cond b (Some y) (name_among (xs ++ c ∷ []) (ys ++ n ∷ []) c)) (ne_eqb x c (λ same. none 0 (ap Some same)))
    ∙ pushed_here xs ys c n shorter (λ k g. none (suc k) g)

pushed_cases : (xs : List ℕ) (y j b : ℕ) → slice_get (xs ++ y ∷ []) j ≡ Some b → (slice_get xs j ≡ Some b) ⊎ ((j ≡ length xs) × (y ≡ b))
pushed_cases [] y zero b g = inr (refl, same_Some y b g)
pushed_cases [] y (suc j) b g = absurd (none-some b g)
pushed_cases (x ∷ xs) y zero b g = inl g
pushed_cases (x ∷ xs) y (suc j) b g =
    ⊎_elim
    (λ (u : slice_get xs j ≡ Some b). inl u)
    (λ (u : (j ≡ length xs) × (y ≡ b)). inr (ap suc u.0, u.1))
    (pushed_cases xs y j b g)

-- an element that has a name of those is below
abbrev pub IsAboveNamed : List ℕ → List ℕ → ℕ → Type 0
IsAboveNamed ks ns c = (x : ℕ) → (name_among ks ns x ≡ None → ⊥) → x < c

pub above_each : (ks ns : List ℕ) (c : ℕ) → AreRising ks ns → IsAboveNamed ks ns c → (k x : ℕ) → slice_get ks k ≡ Some x → x < c
above_each ks ns c ok above k x g =
    let counted = ok.counted in
    let low = slice_get_within ks k x g in
    let there : k < length ns = omega (arith, low, counted) in
    above x (λ none. none-some (get_or ns k 0) (sym none ∙ name_is ks ns k x ok.rising ok.counted g ∙ slice_get-get_or ns k 0 there))

pub rising_pushed : (ks ns ks' ns' : List ℕ) (c n : ℕ) → AreRising ks ns → IsAboveNamed ks ns c → ks' ≡ ks ++ c ∷ [] → ns' ≡ ns ++ n ∷ [] → AreRising ks' ns'
rising_pushed ks ns ks' ns' c n ok above kis nis =
    let below = above_each ks ns c ok above in
    let counted = ok.counted in
    subst (λ (p : List ℕ × List ℕ). AreRising p.0 p.1) (λ i. (sym kis i, sym nis i))
    (record {
      counted = omega (arith, counted, length-append ks (c ∷ []), length-append ns (n ∷ []));
      rising =
          λ i j a b less gi gj.
          ⊎_elim
          (λ (u : slice_get ks i ≡ Some a).
          ⊎_elim
          (λ (v : slice_get ks j ≡ Some b). ok.rising i j a b less u v)
          (λ (v : (j ≡ length ks) × (c ≡ b)). subst (λ z. a < z) v.1 (below i a u))
          (pushed_cases ks c j b gj))
          (λ (u : (i ≡ length ks) × (c ≡ a)).
          let at = u.0 in
          ⊎_elim
          (λ (v : slice_get ks j ≡ Some b). let low = slice_get_within ks j b v in absurd (omega (arith, at, low, less)))
          (λ (v : (j ≡ length ks) × (c ≡ b)). let to = v.0 in absurd (omega (arith, at, to, less)))
          (pushed_cases ks c j b gj))
          (pushed_cases ks c i a gi);
    })

pub push_named : (ks ns ks' ns' : List ℕ) (c n : ℕ) → AreRising ks ns → IsAboveNamed ks ns c → ks' ≡ ks ++ c ∷ [] → ns' ≡ ns ++ n ∷ [] → name_among ks' ns' c ≡ Some n
push_named ks ns ks' ns' c n ok above kis nis =
    ap (λ z. name_among z ns' c) kis ∙ ap (λ z. name_among (ks ++ c ∷ []) z c) nis
    ∙ pushed_here ks ns c n ok.counted (λ k g. let less = above_each ks ns c ok above k c g in absurd (omega (arith, less)))

pub push_others : (ks ns ks' ns' : List ℕ) (c n : ℕ) → AreRising ks ns → ks' ≡ ks ++ c ∷ [] → ns' ≡ ns ++ n ∷ [] → (q : ℕ) → (c ≡ q → ⊥) → name_among ks' ns' q ≡ name_among ks ns q
push_others ks ns ks' ns' c n ok kis nis q off =
    ap (λ z. name_among z ns' q) kis ∙ ap (λ z. name_among (ks ++ c ∷ []) z q) nis ∙ pushed_other ks ns c n q ok.counted off

pub set_other : (ks ns : List ℕ) (k c n q : ℕ) → slice_get ks k ≡ Some c → (c ≡ q → ⊥) → name_among ks (set ns k n) q ≡ name_among ks ns q
set_other [] ns k c n q g off = refl
set_other (x ∷ xs) [] k c n q g off = refl
set_other (x ∷ xs) (y ∷ ys) zero c n q g off =
    let apart : nat_eq x q ≡ false = ne_eqb x q (λ same. off (sym (same_Some x c g) ∙ same)) in
    ap (λ b. cond b (Some n) (name_among xs ys q)) apart ∙ sym (ap (λ b. cond b (Some y) (name_among xs ys q)) apart)
set_other (x ∷ xs) (y ∷ ys) (suc k) c n q g off = ap (λ z. cond (nat_eq x q) (Some y) z) (set_other xs ys k c n q g off)

pub set_here : (ks ns : List ℕ) (k c n : ℕ) → AreRising ks ns → slice_get ks k ≡ Some c → name_among ks (set ns k n) c ≡ Some n
set_here ks ns k c n ok g =
    let counted = ok.counted in
    let low = slice_get_within ks k c g in
    name_is ks (set ns k n) k c ok.rising (length-set ns k n ∙ ok.counted) g ∙ slice_get_set_same ns k n (omega (arith, low, counted))

-- ---- peers and their places
node_cases : (a b : ℕ) → (a ≡ b) ⊎ (same_node a b ≡ false)
node_cases a b =
    ⊎_elim
    (λ (same : a ≡ b). inl same)
    (λ (off : a ≡ b → ⊥). inr (unsigned_tied a b ∙ ne_eqb a b off))
    (cases_eq a b)

-- another id of the same node has another counter
pub counters_apart : (a b : OpId) → same_id a b ≡ false → a.node ≡ b.node → a.counter ≡ b.counter → ⊥
counters_apart a b apart node counter =
    false≢true (sym apart ∙ ap (λ z. same_id a z) (sym (same_ids a b counter node)) ∙ id_found a)

-- one name changed in the part of an id's peer
pub named_here : (places : List (ℕ × ℕ)) (peers : List PeerIndex) (place n : ℕ) (p q : PeerIndex) (id : OpId) → lookup (same_node id.node) places ≡ Some place → slice_get peers place ≡ Some p → name_among q.counters q.names id.counter ≡ Some n → name_of (record { places = places; peers = set peers place q }) id ≡ Some n
named_here places peers place n p q id at here is =
    ap (λ l. name_at (set peers place q) l id.counter) at
    ∙ ap (λ z. name_in z id.counter) (slice_get_set_same peers place q (slice_get_within peers place p here))
    ∙ is

pub named_others : (places : List (ℕ × ℕ)) (peers : List PeerIndex) (place : ℕ) (p q : PeerIndex) (id : OpId) → HasPlaces places peers → lookup (same_node id.node) places ≡ Some place → slice_get peers place ≡ Some p → ((c : ℕ) → (id.counter ≡ c → ⊥) → name_among q.counters q.names c ≡ name_among p.counters p.names c) → (other : OpId) → same_id id other ≡ false → name_of (record { places = places; peers = set peers place q }) other ≡ name_of (record { places = places; peers = peers }) other
named_others places peers place p q id ok at here others other apart =
    elim (lookup (same_node other.node) places) as (λ l. lookup (same_node other.node) places ≡ l → name_at (set peers place q) l other.counter ≡ name_at peers l other.counter) [
      | None ↦ λ e. refl
      | Some at' ↦
          λ e.
          ⊎_elim
          (λ (one : at' ≡ place).
          let node : id.node ≡ other.node = ok.apart id.node other.node place at (e ∙ ap Some one) in
          let within : place < length peers = slice_get_within peers place p here in
          ap (λ z. name_in (slice_get (set peers place q) z) other.counter) one
          ∙ ap (λ z. name_in z other.counter) (slice_get_set_same peers place q within)
          ∙ others other.counter (counters_apart id other apart node)
          ∙ ap (λ z. name_in z other.counter) (sym here) ∙ ap (λ z. name_in (slice_get peers z) other.counter) (sym one))
          (λ (off : at' ≡ place → ⊥). ap (λ z. name_in z other.counter) (slice_get_set_other peers place at' q off))
          (cases_eq at' place)
    ] refl

-- the name of an id, by its peer's part
pub named_at : (index : Index) (id : OpId) (place : ℕ) (p : PeerIndex) → lookup (same_node id.node) index.places ≡ Some place → slice_get index.peers place ≡ Some p → name_of index id ≡ name_among p.counters p.names id.counter
named_at index id place p at here =
    ap (λ l. name_at index.peers l id.counter) at ∙ ap (λ z. name_in z id.counter) here

-- ---- a part more, of a peer that had none
pub places_more : (places more : List (ℕ × ℕ)) (peers : List PeerIndex) (node place : ℕ) (p : PeerIndex) → HasPlaces places peers → place ≡ length peers → lookup (same_node node) more ≡ Some place → ((q : ℕ) → same_node node q ≡ false → lookup (same_node q) more ≡ lookup (same_node q) places) → HasPlaces more (peers ++ p ∷ [])
places_more places more peers node place p ok is new other =
    let size = length-append peers (p ∷ []) in
    let cases : (a at : ℕ) → lookup (same_node a) more ≡ Some at → ((node ≡ a) × (at ≡ place)) ⊎ (lookup (same_node a) places ≡ Some at) =
    λ a at e.
    ⊎_elim
    (λ (same : node ≡ a). inl (same, same_Some at place (sym e ∙ ap (λ z. lookup (same_node z) more) (sym same) ∙ new)))
    (λ (off : same_node node a ≡ false). inr (sym (other a off) ∙ e))
    (node_cases node a)
    in
    record {
      within =
          λ a at e.
          ⊎_elim
          (λ (u : (node ≡ a) × (at ≡ place)). let one = u.1 in omega (arith, one, is, size))
          (λ (u : lookup (same_node a) places ≡ Some at). let low = ok.within a at u in omega (arith, low, size))
          (cases a at e);
      apart =
          λ a b at ea eb.
          ⊎_elim
          (λ (u : (node ≡ a) × (at ≡ place)).
          ⊎_elim
          (λ (v : (node ≡ b) × (at ≡ place)). sym u.0 ∙ v.0)
          (λ (v : lookup (same_node b) places ≡ Some at). let one = u.1 in let low = ok.within b at v in absurd (omega (arith, one, is, low)))
          (cases b at eb))
          (λ (u : lookup (same_node a) places ≡ Some at).
          ⊎_elim
          (λ (v : (node ≡ b) × (at ≡ place)). let one = v.1 in let low = ok.within a at u in absurd (omega (arith, one, is, low)))
          (λ (v : lookup (same_node b) places ≡ Some at). ok.apart a b at u v)
          (cases b at eb))
          (cases a at ea);
    }

pub names_more : (places more : List (ℕ × ℕ)) (peers : List PeerIndex) (node place : ℕ) (p : PeerIndex) → HasPlaces places peers → place ≡ length peers → lookup (same_node node) places ≡ None → lookup (same_node node) more ≡ Some place → ((q : ℕ) → same_node node q ≡ false → lookup (same_node q) more ≡ lookup (same_node q) places) → p.counters ≡ [] → (id : OpId) → name_of (record { places = more; peers = peers ++ p ∷ [] }) id ≡ name_of (record { places = places; peers = peers }) id
names_more places more peers node place p ok is gone new other none id =
    ⊎_elim
    (λ (same : node ≡ id.node).
    ap (λ l. name_at (peers ++ p ∷ []) l id.counter) (ap (λ z. lookup (same_node z) more) (sym same) ∙ new)
    ∙ ap (λ z. name_in z id.counter) (get_right peers (p ∷ []) 0 place (omega (arith, is)))
    ∙ ap (λ z. name_among z p.names id.counter) none
    ∙ sym (ap (λ l. name_at peers l id.counter) (ap (λ z. lookup (same_node z) places) (sym same) ∙ gone)))
    (λ (off : same_node node id.node ≡ false).
    ap (λ l. name_at (peers ++ p ∷ []) l id.counter) (other id.node off)
    ∙ elim (lookup (same_node id.node) places) as (λ l. lookup (same_node id.node) places ≡ l → name_at (peers ++ p ∷ []) l id.counter ≡ name_at peers l id.counter) [
      | None ↦ λ e. refl
      | Some at ↦ λ e. ap (λ z. name_in z id.counter) (get_left peers (p ∷ []) at (ok.within id.node at e))
    ] refl)
    (node_cases node id.node)

-- ---- a look-up of a place
pub some_place : (ds ks ns : List ℕ) (c : ℕ) (r : Option ℕ) → AreRising ks ns → ds ≡ ks → (name_among ks ns c ≡ None → ⊥) → (IsRising ds → MatchOption r ((k : ℕ) → slice_get ds k ≡ Some c → ⊥) (λ k. slice_get ds k ≡ Some c)) → IsSome r
some_place ds ks ns c None ok same some found =
    absurd (some (name_none ks ns c (subst (λ z. IsRising z → (k : ℕ) → slice_get z k ≡ Some c → ⊥) same found ok.rising)))
some_place ds ks ns c (Some k) ok same some found = refl

pub place_at : (ds ks ns : List ℕ) (c k : ℕ) (r : Option ℕ) → AreRising ks ns → ds ≡ ks → r ≡ Some k → (IsRising ds → MatchOption r ((k : ℕ) → slice_get ds k ≡ Some c → ⊥) (λ k. slice_get ds k ≡ Some c)) → slice_get ks k ≡ Some c
place_at ds ks ns c k None ok same is found = absurd (none-some k is)
place_at ds ks ns c k (Some p) ok same is found =
    ap (slice_get ks) (sym (same_Some p k is)) ∙ subst (λ z. IsRising z → slice_get z p ≡ Some c) same found ok.rising
