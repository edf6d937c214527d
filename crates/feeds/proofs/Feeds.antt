-- How far a subscriber got, and what it was sent.
use Rattle.std.proofs.Common.{◌≡◌, ℕ, zero, suc, ◌+◌, ◌-◌, ◌<◌, ◌≤◌, None, Some, List, [], ◌∷◌, ◌++◌, length, take, drop, refl, sym, ap, ◌∙◌, subst, arith, append_assoc, length-append, length-drop, length-take, take-append-drop, set, ⊎_elim}
use Rattle.std.specs.Prelude.{slice_get}
use Rattle.std.proofs.Math.Nat.{add-suc, add-zero, zero-add, add_assoc}
use Rattle.std.proofs.Math.Seq.{take-add}
use Rattle.std.proofs.lemmas.Bool.{cases_lt}
use Rattle.std.proofs.lemmas.List.{append-nil, take_more, take_all, drop-append-le}
use Rattle.std.proofs.lemmas.List.Concat.{flat_map-append}
use Rattle.std.proofs.lemmas.Option.{slice_get_within, get_or_from_slice_get, same_Some, none-some}
use Rattle.semantics.specs.Step.{Program}
use Rattle.span_flatten.specs.Version.{Version}
use Rattle.version_history.specs.Tokens.{Token}
use Rattle.feeds.specs.Batches.{Item, Job, items_of}
use Rattle.feeds.specs.Orderly.{IsOrderly, RisesFrom, items_of_all}
use Rattle.feeds.specs.Feed.{Subscriber, HeldBatches, IsHeldAt, slide, slid, items_at, IsFed, Moved}

-- the held

get_front : (xs : HeldBatches) (i : ℕ) (b : Job) → slice_get (xs ++ None ∷ []) i ≡ Some (Some b) → slice_get xs i ≡ Some (Some b)
get_front [] zero b e = absurd (none-some b (same_Some None (Some b) e))
get_front [] (suc i) b e = absurd (none-some (Some b) e)
get_front (x ∷ xs) zero b e = e
get_front (x ∷ xs) (suc i) b e = get_front xs i b e

pub slide_get : (w : HeldBatches) (i : ℕ) (b : Job) → slice_get (slide w) i ≡ Some (Some b) → slice_get w (suc i) ≡ Some (Some b)
slide_get [] zero b e = absurd (none-some b (same_Some None (Some b) e))
slide_get [] (suc i) b e = absurd (none-some (Some b) e)
slide_get (x ∷ xs) i b e = get_front xs i b e

pub slid_get : (d : ℕ) (w : HeldBatches) (i : ℕ) (b : Job) → slice_get (slid d w) i ≡ Some (Some b) → slice_get w (d + i) ≡ Some (Some b)
slid_get zero w i b e = subst (λ n. slice_get w n ≡ Some (Some b)) (sym (zero-add i)) e
slid_get (suc d) w i b e =
    let h : slice_get w (d + suc i) ≡ Some (Some b) = slid_get d w (suc i) b (slide_get (slid d w) i b e) in
    let n : d + suc i ≡ suc d + i = omega arith in
    subst (λ k. slice_get w k ≡ Some (Some b)) n h

pub slid_slid : (n m : ℕ) (w : HeldBatches) → slid n (slid m w) ≡ slid (m + n) w
slid_slid zero m w = ap (λ k. slid k w) (sym (add-zero m))
slid_slid (suc n) m w = ap slide (slid_slid n m w) ∙ ap (λ k. slid k w) (sym (add-suc m n))

-- the versions

pub items_at_get : (p : Token Program) (ts : List (Token Version)) (n : ℕ) (t : Token Version) → slice_get ts n ≡ Some t → items_at p ts n ≡ items_of p t
items_at_get p [] n t e = absurd (none-some t e)
items_at_get p (x ∷ ts) zero t e = ap (items_of p) (same_Some x t e)
items_at_get p (x ∷ ts) (suc n) t e = items_at_get p ts n t e

rises_take : (k n : ℕ) (ts : List (Token Version)) → RisesFrom n ts → RisesFrom n (take k ts)
rises_take zero n ts r = tt
rises_take (suc k) n [] r = tt
rises_take (suc k) n (t ∷ ts) r = (r.0, rises_take k (n + 1) ts r.1)

rises_drop : (k n : ℕ) (ts : List (Token Version)) → RisesFrom n ts → RisesFrom (n + k) (drop k ts)
rises_drop zero n ts r = subst (λ m. RisesFrom m ts) (sym (add-zero n)) r
rises_drop (suc k) n [] r = tt
rises_drop (suc k) n (t ∷ ts) r =
    let e : n + 1 + k ≡ n + suc k = omega arith in
    subst (λ m. RisesFrom m (drop k ts)) e (rises_drop k (n + 1) ts r.1)

-- one version more
pub stream_next : (p : Token Program) (ts : List (Token Version)) (first n : ℕ) (t : Token Version) → first ≤ n → slice_get ts n ≡ Some t
    → items_of_all p (drop first (take (n + 1) ts)) ≡ items_of_all p (drop first (take n ts)) ++ items_of p t
stream_next p ts first n t begun at =
    let within : n < length ts = slice_get_within ts n t at in
    let more : take (n + 1) ts ≡ take n ts ++ t ∷ [] = take_more ts n t within ∙ ap (λ x. take n ts ++ x ∷ []) (get_or_from_slice_get ts n t t at) in
    let long : first ≤ length (take n ts) = omega (arith, length-take n ts) in
    ap (λ l. items_of_all p (drop first l)) more ∙ ap (items_of_all p) (drop-append-le first (take n ts) (t ∷ []) long) ∙ flat_map-append (items_of p) (drop first (take n ts)) (t ∷ [])
    ∙ ap (λ l. items_of_all p (drop first (take n ts)) ++ l) (append-nil (items_of p t))

module _ {S : Type 0} (sent : S → List Item) (full : S → Type 0) where
  -- the held batch at the cursor is that of the version there
  pub owed_here : (ts : List (Token Version)) (s : Subscriber S) (b : Job) → IsFed sent full ts s → slice_get s.held 0 ≡ Some (Some b)
      → (b.program ≡ s.program) × (slice_get ts s.cursor ≡ Some b.version)
  owed_here ts s b fed at =
      let o = fed.owed 0 b at in
      (o.1, subst (λ n. slice_get ts n ≡ Some b.version) (add-zero s.cursor) o.2)

  pub items_here : (ts : List (Token Version)) (s : Subscriber S) (b : Job) → IsFed sent full ts s → slice_get s.held 0 ≡ Some (Some b)
      → items_at s.program ts s.cursor ≡ items_of b.program b.version
  items_here ts s b fed at =
      let o = owed_here ts s b fed at in
      items_at_get s.program ts s.cursor b.version o.1 ∙ ap (λ p. items_of p b.version) (sym o.0)

  -- what is there and the rest of the batch is a whole number of batches
  pub whole : (ts : List (Token Version)) (s : Subscriber S) (b : Job) → IsFed sent full ts s → slice_get s.held 0 ≡ Some (Some b)
      → sent s.sink ++ drop s.count (items_of b.program b.version) ≡ items_of_all s.program (drop s.first (take (s.cursor + 1) ts))
  whole ts s b fed at =
      let o = owed_here ts s b fed at in
      let items = items_of b.program b.version in
      let before = items_of_all s.program (drop s.first (take s.cursor ts)) in
      let is : sent s.sink ≡ before ++ take s.count items = fed.sent_is ∙ ap (λ l. before ++ take s.count l) (items_here ts s b fed at) in
      ap (λ l. l ++ drop s.count items) is ∙ append_assoc before (take s.count items) (drop s.count items) ∙ ap (λ l. before ++ l) (take-append-drop s.count items)
      ∙ ap (λ p. before ++ items_of p b.version) o.0 ∙ sym (stream_next s.program ts s.first s.cursor b.version fed.begun o.1)

  pub may_send : (ts : List (Token Version)) (s : Subscriber S) (b : Job) → RisesFrom 0 ts → IsFed sent full ts s → slice_get s.held 0 ≡ Some (Some b)
      → IsOrderly (sent s.sink ++ drop s.count (items_of b.program b.version))
  may_send ts s b rises fed at =
      record {
        program = s.program;
        start = 0 + s.first;
        versions = drop s.first (take (s.cursor + 1) ts);
        rest = [];
        rises = rises_drop s.first 0 (take (s.cursor + 1) ts) (rises_take (s.cursor + 1) 0 ts rises);
        is = append-nil (sent s.sink ++ drop s.count (items_of b.program b.version)) ∙ whole ts s b fed at;
      }

  pub count_fits : (ts : List (Token Version)) (s : Subscriber S) (b : Job) → IsFed sent full ts s → slice_get s.held 0 ≡ Some (Some b)
      → s.count ≤ length (items_of b.program b.version)
  count_fits ts s b fed at =
      let here : length (items_at s.program ts s.cursor) ≡ length (items_of b.program b.version) = ap length (items_here ts s b fed at) in
      grind (arith, fed.part)

  -- a part of the batch was sent
  pub fed_part : (ts : List (Token Version)) (s : Subscriber S) (b : Job) (reached : ℕ) (sink : S) → IsFed sent full ts s → slice_get s.held 0 ≡ Some (Some b)
      → s.count ≤ reached → reached < length (items_of b.program b.version)
      → sent sink ≡ sent s.sink ++ take (reached - s.count) (drop s.count (items_of b.program b.version))
      → IsFed sent full ts (record s { count = reached; sink = sink })
  fed_part ts s b reached sink fed at low high is =
      let items = items_of b.program b.version in
      let before = items_of_all s.program (drop s.first (take s.cursor ts)) in
      let here : items_at s.program ts s.cursor ≡ items = items_here ts s b fed at in
      let up : s.count + (reached - s.count) ≡ reached = omega arith in
      let part : take s.count items ++ take (reached - s.count) (drop s.count items) ≡ take reached items =
      sym (take-add s.count (reached - s.count) items) ∙ ap (λ n. take n items) up in
      record {
        wide = fed.wide;
        begun = fed.begun;
        behind = fed.behind;
        sent_is = is ∙ ap (λ l. l ++ take (reached - s.count) (drop s.count items)) (fed.sent_is ∙ ap (λ l. before ++ take s.count l) here)
            ∙ append_assoc before (take s.count items) (take (reached - s.count) (drop s.count items)) ∙ ap (λ l. before ++ l) part ∙ ap (λ l. before ++ take reached l) (sym here);
        part = λ _. subst (λ l. reached < length l) (sym here) high;
        part_held = λ _ _. (b, at);
        owed = fed.owed;
      }

  -- the whole batch was sent
  pub fed_whole : (ts : List (Token Version)) (s : Subscriber S) (b : Job) (sink : S) → IsFed sent full ts s → slice_get s.held 0 ≡ Some (Some b)
      → sent sink ≡ sent s.sink ++ drop s.count (items_of b.program b.version)
      → IsFed sent full ts (record s { cursor = s.cursor + 1; held = slide s.held; count = 0; sink = sink })
  fed_whole ts s b sink fed at is =
      let o = owed_here ts s b fed at in
      let within : s.cursor < length ts = slice_get_within ts s.cursor b.version o.1 in
      let begun = fed.begun in
      let long : 0 < length s.held = slice_get_within s.held 0 (Some b) at in
      record {
        wide = omega (arith, length-append (drop 1 s.held) (None ∷ []), length-drop 1 s.held, fed.wide);
        begun = omega arith;
        behind = omega arith;
        sent_is = is ∙ whole ts s b fed at ∙ sym (append-nil (items_of_all s.program (drop s.first (take (s.cursor + 1) ts))));
        part = λ none. absurd (omega arith);
        part_held = λ none _. absurd (omega arith);
        owed = λ i c e.
            let h = fed.owed (suc i) c (slide_get s.held i c e) in
            let n : s.cursor + suc i ≡ s.cursor + 1 + i = omega arith in
            (h.0 ∙ n, h.1, subst (λ k. slice_get ts k ≡ Some c.version) n h.2);
      }

  pub moved_none : (bare : S → S) (s : Subscriber S) → Moved sent full bare s 0 s
  moved_none bare s = record {
    steps = 0;
    more = [];
    same = ap (λ n. record s { cursor = n }) (sym (add-zero s.cursor));
    held = λ i none. absurd (omega arith);
    many = refl;
    sent_more = sym (append-nil (sent s.sink));
    sink_kept = refl;
  }

  pub moved_part : (bare : S → S) (s : Subscriber S) (reached m : ℕ) (sink : S) (more : List Item) → length more ≡ m → sent sink ≡ sent s.sink ++ more
      → bare sink ≡ bare s.sink → Moved sent full bare s m (record s { count = reached; sink = sink })
  moved_part bare s reached m sink more many is keeps = record {
    steps = 0;
    more = more;
    same = ap (λ n. record s { cursor = n; count = reached; sink = sink }) (sym (add-zero s.cursor));
    held = λ i none. absurd (omega arith);
    many = many;
    sent_more = is;
    sink_kept = keeps;
  }

  pub moved_whole : (bare : S → S) (s : Subscriber S) (b : Job) (m : ℕ) (sink : S) (more : List Item) → slice_get s.held 0 ≡ Some (Some b) → length more ≡ m → sent sink ≡ sent s.sink ++ more
      → bare sink ≡ bare s.sink → Moved sent full bare s m (record s { cursor = s.cursor + 1; held = slide s.held; count = 0; sink = sink })
  moved_whole bare s b m sink more at many is keeps = record {
    steps = 1;
    more = more;
    same = refl;
    held = λ i one. let e : 0 ≡ i = omega arith in (b, subst (λ k. slice_get s.held k ≡ Some (Some b)) e at);
    many = many;
    sent_more = is;
    sink_kept = keeps;
  }

  held_more : (w : HeldBatches) (m n : ℕ) → ((i : ℕ) → i < m → IsHeldAt w i) → ((i : ℕ) → i < n → IsHeldAt (slid m w) i) → (i : ℕ) → i < m + n → IsHeldAt w i
  held_more w m n first then i below =
      ⊎_elim (λ (l : i < m). first i l)
      (λ (h : m ≤ i).
      let t = then (i - m) (omega arith) in
      let e : m + (i - m) ≡ i = omega arith in
      (t.0, subst (λ k. slice_get w k ≡ Some (Some t.0)) e (slid_get m w (i - m) t.0 t.1)))
      (cases_lt i m)

  -- one move after another
  pub moved_more : (bare : S → S) (a b c : Subscriber S) (m k : ℕ) → Moved sent full bare a m b → Moved sent full bare b k c → Moved sent full bare a (m + k) c
  moved_more bare a b c m k x y =
      let mid : Subscriber S = record a { cursor = a.cursor + x.steps; held = slid x.steps a.held; count = b.count; sink = b.sink } in
      let on : c ≡ record mid { cursor = a.cursor + x.steps + y.steps; held = slid y.steps (slid x.steps a.held); count = c.count; sink = c.sink } =
      y.same ∙ ap (λ (z : Subscriber S). record z { cursor = z.cursor + y.steps; held = slid y.steps z.held; count = c.count; sink = c.sink }) x.same in
      let held : b.held ≡ slid x.steps a.held = ap (λ (z : Subscriber S). z.held) x.same in
      record {
        steps = x.steps + y.steps;
        more = x.more ++ y.more;
        same = on ∙ ap (λ (z : ℕ × HeldBatches). record a { cursor = z.0; held = z.1; count = c.count; sink = c.sink }) (λ i. (add_assoc a.cursor x.steps y.steps i, slid_slid y.steps x.steps a.held i));
        held = held_more a.held x.steps y.steps x.held (λ i l. subst (λ w. IsHeldAt w i) held (y.held i l));
        many = omega (arith, length-append x.more y.more, x.many, y.many);
        sent_more = y.sent_more ∙ ap (λ l. l ++ y.more) x.sent_more ∙ append_assoc (sent a.sink) x.more y.more;
        sink_kept = y.sink_kept ∙ x.sink_kept;
      }

  -- no more versions were passed than the held has
  pub steps_fit : (bare : S → S) (ts : List (Token Version)) (a b : Subscriber S) (m : ℕ) → IsFed sent full ts a → Moved sent full bare a m b → b.cursor ≤ a.cursor + 8
  steps_fit bare ts a b m fed x =
      let cursor : b.cursor ≡ a.cursor + x.steps = ap (λ (z : Subscriber S). z.cursor) x.same in
      ⊎_elim (λ (l : x.steps < 9). omega arith)
      (λ (h : 9 ≤ x.steps). let t = x.held 8 (omega arith) in absurd (omega (arith, slice_get_within a.held 8 (Some t.0) t.1, fed.wide)))
      (cases_lt x.steps 9)

-- the first entry is emptied, and then goes to the end
pub slide_is : (w : HeldBatches) → length w ≡ 8 → drop 1 (set w 0 None) ++ take 1 (set w 0 None) ≡ slide w
slide_is [] none = absurd (omega arith)
slide_is (x ∷ xs) wide = refl

module _ {S : Type 0} (sent : S → List Item) (full : S → Type 0) where
  sent_many : (s : Subscriber S) (items : List Item) (reached : ℕ) → (s.count ≤ reached) × (reached ≤ length items) → length (take (reached - s.count) (drop s.count items)) ≡ reached - s.count
  sent_many s items reached r = omega (arith, length-take (reached - s.count) (drop s.count items), length-drop s.count items)

  -- the code sent a part of the batch at the cursor: o is the subscriber before, seen by its fields as s
  pub sent_part : (bare : S → S) (ts : List (Token Version)) (o s : Subscriber S) (b : Job) (reached : ℕ) (sink : S) → s ≡ o → IsFed sent full ts o
      → slice_get s.held 0 ≡ Some (Some b) → (s.count ≤ reached) × (reached ≤ length (items_of b.program b.version)) → reached < length (items_of b.program b.version)
      → sent sink ≡ sent s.sink ++ take (reached - s.count) (drop s.count (items_of b.program b.version))
      → bare sink ≡ bare s.sink → IsFed sent full ts (record s { count = reached; sink = sink }) × Moved sent full bare o (reached - s.count) (record s { count = reached; sink = sink })
  sent_part bare ts o s b reached sink same fed' at r high is keeps =
      let fed = subst (IsFed sent full ts) (sym same) fed' in
      let items = items_of b.program b.version in (
        fed_part sent full ts s b reached sink fed at r.0 high is,
        subst (λ z. Moved sent full bare z (reached - s.count) (record s { count = reached; sink = sink })) same
            (moved_part sent full bare s reached (reached - s.count) sink (take (reached - s.count) (drop s.count items)) (sent_many s items reached r) is keeps),
      )

  pub sent_whole : (bare : S → S) (ts : List (Token Version)) (o s : Subscriber S) (b : Job) (reached : ℕ) (w : HeldBatches) (sink : S) → s ≡ o → IsFed sent full ts o
      → slice_get s.held 0 ≡ Some (Some b) → (s.count ≤ reached) × (reached ≤ length (items_of b.program b.version)) → length (items_of b.program b.version) ≤ reached
      → w ≡ drop 1 (set s.held 0 None) ++ take 1 (set s.held 0 None)
      → sent sink ≡ sent s.sink ++ take (reached - s.count) (drop s.count (items_of b.program b.version))
      → bare sink ≡ bare s.sink → IsFed sent full ts (record s { cursor = s.cursor + 1; held = w; count = 0; sink = sink })
      × Moved sent full bare o (reached - s.count) (record s { cursor = s.cursor + 1; held = w; count = 0; sink = sink })
  sent_whole bare ts o s b reached w sink same fed' at r high turned is keeps =
      let fed = subst (IsFed sent full ts) (sym same) fed' in
      let items = items_of b.program b.version in
      let held : slide s.held ≡ w = sym (turned ∙ slide_is s.held fed.wide) in
      let all : take (reached - s.count) (drop s.count items) ≡ drop s.count items = take_all (reached - s.count) (drop s.count items) (omega (arith, length-drop s.count items)) in
      let New : HeldBatches → Type 0 = λ v. IsFed sent full ts (record s { cursor = s.cursor + 1; held = v; count = 0; sink = sink })
      × Moved sent full bare s (reached - s.count) (record s { cursor = s.cursor + 1; held = v; count = 0; sink = sink }) in
      let new : New w = subst New held (
        fed_whole sent full ts s b sink fed at (is ∙ ap (λ l. sent s.sink ++ l) all),
        moved_whole sent full bare s b (reached - s.count) sink (take (reached - s.count) (drop s.count items)) at (sent_many s items reached r) is keeps,
      ) in
      (new.0, subst (λ z. Moved sent full bare z (reached - s.count) (record s { cursor = s.cursor + 1; held = w; count = 0; sink = sink })) same new.1)
