-- Each step keeps the rule of a subscriber's queue, whatever orderly means: only that a beginning of an orderly list is orderly.
use Rattle.std.proofs.Common.{None, Option, ◌≡◌, ◌≢◌, ℕ, ◌≤◌, zero, suc, true, false, true≢false, List, [], ◌∷◌, ◌++◌, length, set, sym, refl, ap, ◌∙◌, ◌⊎◌, subst, ⊎_elim, append_assoc, append-nil, arith, length-append}
use mathlib.Core.Option.{some, some-ne-none}
use lib.ListN.{get_elem?}
use Rattle.crossbeam_queue.specs.Fifo.{Pushes, Pops, Forks, Merges, Learns}
use Rattle.crossbeam_queue.proofs.Lists.{at_set, at_snoc}
use Rattle.feeds.specs.Batches.{Item}
use Rattle.feeds.specs.Orderly.{IsOrderly}
use Rattle.feeds.proofs.Orderly.{orderly_front}
use Rattle.feeds.specs.Promise.{Promise, IsPromised}
use Rattle.feeds.proofs.Promises.{promised_front}
use Rattle.subscriber_queues.proofs.Empty.{orderly_none, promised_none}
use Rattle.subscriber_queues.specs.Queue.{Begins, AreBeginnings}
use Rattle.subscriber_queues.specs.Rule.{Knows, knows, Facts, Fits, IsKept}

at_end : (l : List Knows) (a b : Knows) (j : ℕ) → get_elem? l j ≢ some b → get_elem? (l ++ a ∷ []) j ≡ some b → j ≡ length l
at_end [] a b zero n e = refl
at_end [] a b (suc j) n e = absurd (some-ne-none b (sym e))
at_end (x ∷ xs) a b zero n e = absurd (n e)
at_end (x ∷ xs) a b (suc j) n e = ap suc (at_end xs a b j n e)

abbrev AllEnds : (ℕ → Knows → Type 0) → List Knows → Type 0
AllEnds F views = (port : ℕ) (v : Knows) → get_elem? views port ≡ some v → F port v

all_set : (F : ℕ → Knows → Type 0) (views : List Knows) (port : ℕ) (w : Knows) → F port w → ((j : ℕ) (u : Knows) → j ≢ port → get_elem? views j ≡ some u → F j u) → AllEnds F (set views port w)
all_set F views port w mine others j u e = ⊎_elim (λ (x : (j ≡ port) × (w ≡ u)). subst (λ (y : ℕ × Knows). F y.0 y.1) (λ i. (sym x.0 i, x.1 i)) mine)
    (λ (x : (j ≢ port) × (get_elem? views j ≡ some u)). others j u x.0 x.1) (at_set views port j w u e)

all_snoc : (F : ℕ → Knows → Type 0) (views : List Knows) (r : Knows) → AllEnds F views → ((j : ℕ) → F j r) → AllEnds F (views ++ r ∷ [])
all_snoc F views r all new j u e = ⊎_elim (λ x. all j u x) (λ (is : r ≡ u). subst (F j) is (new j)) (at_snoc views r u j e)

none_shown : (ys : List Item) → Begins [] ys
none_shown ys = (ys, refl)

more_shown : (xs ys : List Item) (x : Item) → Begins xs ys → Begins xs (ys ++ x ∷ [])
more_shown xs ys x b = (b.0 ++ x ∷ [], ap (λ l. l ++ x ∷ []) b.1 ∙ append_assoc xs b.0 (x ∷ []))

all_shown : (ys zs : List Item) → ys ≡ zs → Begins ys zs
all_shown ys zs e = ([], sym e ∙ sym (append-nil ys))

idle : (f : Facts) (number : ℕ) (shown : List Item) → Begins shown f.sent → Fits f number (knows false false 0 None None [] [] shown)
idle f number shown b = record { sends = λ p. absurd (true≢false (sym p)); takes = λ p. absurd (true≢false (sym p)); shown = b }

pub begins : IsKept [] (knows true true 0 None None [] [] [] ∷ [])
begins =
    let f : Facts = record { sender = 0; taker = 0; capacity = 0; promise = None; sent = []; taken = [] } in
    let first : Knows = knows true true 0 None None [] [] [] in
    record {
      facts = f;
      in_order = refl;
      few = omega arith;
      orderly = orderly_none;
      promised = tt;
      fit = all_set (Fits f) (first ∷ []) 0 first (record { sends = λ _. (refl, refl, refl, refl); takes = λ _. (refl, refl, refl, refl); shown = none_shown [] }) (λ j u other e. absurd (other (at_end [] _ u j (λ x. some-ne-none u (sym x)) e)));
    }

pub sends : (n port : ℕ) (v : Knows) (x : Item) → v.sends ≡ true → v.capacity ≡ n → IsOrderly (v.sent ++ x ∷ []) → IsPromised v.gives (v.sent ++ x ∷ [])
    → Pushes IsKept n port v x (λ w. w ≡ knows v.sends v.takes v.capacity v.gives v.gets (v.sent ++ x ∷ []) v.taken v.shown)
sends n port v x may roomy orderly promised items views room h at =
    let w : Knows = knows v.sends v.takes v.capacity v.gives v.gets (v.sent ++ x ∷ []) v.taken v.shown in
    let mine = h.fit port v at in
    let my = mine.sends may in
    let f : Facts = record h.facts { sent = h.facts.sent ++ x ∷ [] } in (
      w,
      record {
        facts = f;
        in_order = ap (λ l. l ++ x ∷ []) h.in_order ∙ append_assoc h.facts.taken items (x ∷ []);
        few = omega (arith, length-append items (x ∷ []), my.1);
        orderly = subst IsOrderly (ap (λ l. l ++ x ∷ []) my.2) orderly;
        promised = subst (λ (z : Option Promise × List Item). IsPromised z.0 z.1) (λ i. (my.3 i, my.2 i ++ x ∷ [])) promised;
        fit = all_set (Fits f) views port w (record { sends = λ _. (my.0, my.1, ap (λ l. l ++ x ∷ []) my.2, my.3); takes = mine.takes; shown = more_shown v.shown h.facts.sent x mine.shown })
            (λ j u other e. record { sends = λ p. absurd (other (((h.fit j u e).sends p).0 ∙ sym my.0)); takes = (h.fit j u e).takes; shown = more_shown u.shown h.facts.sent x (h.fit j u e).shown });
      },
      refl,
    )

pub sent_waits : (port : ℕ) (v : Knows) → v.sends ≡ true → Learns IsKept port v (λ items. length items ≤ length v.sent)
sent_waits port v may items views h at =
    let my = (h.fit port v at).sends may in
    omega (arith, length-append h.facts.taken items, ap length h.in_order, ap length my.2)

pub takes : (port : ℕ) (v : Knows) → v.takes ≡ true
    → Pops IsKept port v (λ x w. (w ≡ knows v.sends v.takes v.capacity v.gives v.gets v.sent (v.taken ++ x ∷ []) v.shown) × IsOrderly (v.taken ++ x ∷ []) × IsPromised v.gets (v.taken ++ x ∷ []) × AreBeginnings (v.taken ++ x ∷ []) v.shown)
takes port v may x items views h at =
    let w : Knows = knows v.sends v.takes v.capacity v.gives v.gets v.sent (v.taken ++ x ∷ []) v.shown in
    let mine = h.fit port v at in
    let my = mine.takes may in
    let f : Facts = record h.facts { taken = h.facts.taken ++ x ∷ [] } in
    let all : h.facts.sent ≡ (h.facts.taken ++ x ∷ []) ++ items = h.in_order ∙ sym (append_assoc h.facts.taken (x ∷ []) items) in
    let ours : h.facts.taken ++ x ∷ [] ≡ v.taken ++ x ∷ [] = ap (λ l. l ++ x ∷ []) (sym my.2) in (
      w,
      record {
        facts = f;
        in_order = all;
        few = omega (arith, h.few);
        orderly = h.orderly;
        promised = h.promised;
        fit = all_set (Fits f) views port w (record { sends = mine.sends; takes = λ _. (my.0, my.1, ap (λ l. l ++ x ∷ []) my.2, my.3); shown = mine.shown })
            (λ j u other e. record { sends = (h.fit j u e).sends; takes = λ p. absurd (other (((h.fit j u e).takes p).0 ∙ sym my.0)); shown = (h.fit j u e).shown });
      },
      (
        refl,
        subst IsOrderly ours (orderly_front (h.facts.taken ++ x ∷ []) items (subst IsOrderly all h.orderly)),
        subst (λ (z : Option Promise × List Item). IsPromised z.0 z.1) (λ i. (sym my.3 i, ours i))
            (promised_front h.facts.promise (h.facts.taken ++ x ∷ []) items (subst (IsPromised h.facts.promise) all h.promised)),
        (h.facts.sent, (items, all ∙ ap (λ l. l ++ items) ours), mine.shown),
      ),
    )

pub taken_waits : (port : ℕ) (v : Knows) → v.takes ≡ true → Learns IsKept port v (λ items. IsOrderly (v.taken ++ items) × Begins v.shown (v.taken ++ items))
taken_waits port v may items views h at =
    let mine = h.fit port v at in
    let my = mine.takes may in
    let all : h.facts.sent ≡ v.taken ++ items = h.in_order ∙ ap (λ l. l ++ items) (sym my.2) in
    (subst IsOrderly all h.orderly, (mine.shown.0, sym all ∙ mine.shown.1))

-- the two ends part: with the promise that they had, or, where nothing was sent yet, with any
pub forks : (port : ℕ) (v : Knows) (room : ℕ) (gives gets : Option Promise) (shown : List Item) → v.sends ≡ true → v.takes ≡ true → (v.capacity ≡ 0) ⊎ (v.capacity ≡ room)
    → ((v.sent ≡ []) × (gets ≡ gives)) ⊎ ((gives ≡ v.gives) × (gets ≡ v.gets)) → (shown ≡ []) ⊎ (shown ≡ v.shown)
    → Forks IsKept port v (knows true false room gives None v.sent [] []) (knows false true room None gets [] v.taken shown)
forks port v room gives gets shown a b none promise what items views h at =
    let l : Knows = knows true false room gives None v.sent [] [] in
    let r : Knows = knows false true room None gets [] v.taken shown in
    let mine = h.fit port v at in
    let s = mine.sends a in
    let t = mine.takes b in
    let vs : List Knows = set views port l in
    let f : Facts = record { sender = h.facts.sender; taker = length vs; capacity = room; promise = gives; sent = h.facts.sent; taken = h.facts.taken } in
    let promised : IsPromised gives h.facts.sent =
    ⊎_elim (λ (z : (v.sent ≡ []) × (gets ≡ gives)). subst (IsPromised gives) (sym z.0 ∙ s.2) (promised_none gives))
    (λ (z : (gives ≡ v.gives) × (gets ≡ v.gets)). subst (λ q. IsPromised q h.facts.sent) (sym (z.0 ∙ s.3)) h.promised) promise in
    let same : gets ≡ gives = ⊎_elim (λ (z : (v.sent ≡ []) × (gets ≡ gives)). z.1) (λ (z : (gives ≡ v.gives) × (gets ≡ v.gets)). z.1 ∙ t.3 ∙ sym (z.0 ∙ s.3)) promise in
    let few : h.facts.capacity ≤ room = ⊎_elim (λ (z : v.capacity ≡ 0). omega (arith, s.1, z)) (λ (z : v.capacity ≡ room). omega (arith, s.1, z)) none in
    let Old : ℕ → Knows → Type 0 = λ j u. (u.sends ≡ true → (j ≡ f.sender) × (u.capacity ≡ f.capacity) × (u.sent ≡ f.sent) × (u.gives ≡ f.promise)) × (u.takes ≢ true) × Begins u.shown f.sent in
    let old : AllEnds Old vs = all_set Old views port l ((λ _. (s.0, refl, s.2, refl)), (λ p. true≢false (sym p)), none_shown f.sent)
    (λ j u other e. ((λ p. absurd (other (((h.fit j u e).sends p).0 ∙ sym s.0))), (λ p. other (((h.fit j u e).takes p).0 ∙ sym t.0)), (h.fit j u e).shown)) in
    record {
      facts = f;
      in_order = h.in_order;
      few = omega (arith, h.few, few);
      orderly = h.orderly;
      promised = promised;
      fit = λ j u e. ⊎_elim (λ x. record { sends = (old j u x).0; takes = λ p. absurd ((old j u x).1 p); shown = (old j u x).2 })
          (λ (is : r ≡ u). record {
            sends = λ p. absurd (true≢false (sym (ap (λ (y : Knows). y.sends) is ∙ p)));
            takes = λ p. (at_end vs r u j (λ x. (old j u x).1 p) e, sym (ap (λ (y : Knows). y.capacity) is), sym (ap (λ (y : Knows). y.taken) is) ∙ t.2, sym (ap (λ (y : Knows). y.gets) is) ∙ same);
            shown = subst (λ (y : Knows). Begins y.shown f.sent) is (⊎_elim (λ (z : shown ≡ []). subst (λ q. Begins q f.sent) (sym z) (none_shown f.sent)) (λ (z : shown ≡ v.shown). subst (λ q. Begins q f.sent) (sym z) mine.shown) what);
          }) (at_snoc vs r u j e);
    }

pub merges : (port : ℕ) (v : Knows) (other : ℕ) (u : Knows) → v.sends ≡ true → u.takes ≡ true → Merges IsKept port v other u (knows true true v.capacity v.gives u.gets v.sent u.taken u.shown) (knows false false 0 None None [] [] [])
merges port v other u a b items views h at two at' =
    let both : Knows = knows true true v.capacity v.gives u.gets v.sent u.taken u.shown in
    let mine = h.fit port v at in
    let my = mine.sends a in
    let vs : List Knows = set views port both in
    let was : get_elem? views other ≡ some u = ⊎_elim (λ x. absurd (two x.0)) (λ x. x.1) (at_set views port other both u at') in
    let theirs = (h.fit other u was).takes b in
    let f : Facts = record { sender = h.facts.sender; taker = port; capacity = h.facts.capacity; promise = h.facts.promise; sent = h.facts.sent; taken = h.facts.taken } in
    let Now : ℕ → Knows → Type 0 = λ j y. j ≢ other → Fits f j y in
    let now : AllEnds Now vs = all_set Now views port both (λ _. record { sends = λ _. my; takes = λ _. (refl, my.1, theirs.2, theirs.3); shown = (h.fit other u was).shown })
    (λ j y _ e apart. record { sends = (h.fit j y e).sends; takes = λ p. absurd (apart (((h.fit j y e).takes p).0 ∙ sym theirs.0)); shown = (h.fit j y e).shown }) in
    record {
      facts = f;
      in_order = h.in_order;
      few = h.few;
      orderly = h.orderly;
      promised = h.promised;
      fit = all_set (Fits f) vs other (knows false false 0 None None [] [] []) (idle f other [] (none_shown f.sent)) (λ j y apart e. now j y e apart);
    }

pub totals : (port : ℕ) (v : Knows) → v.sends ≡ true → v.takes ≡ true → Learns IsKept port v (λ items. (v.sent ≡ v.taken ++ items) × (length items ≤ v.capacity))
totals port v a b items views h at =
    let mine = h.fit port v at in
    let s = mine.sends a in
    ((s.2 ∙ h.in_order ∙ ap (λ l. l ++ items) (sym (mine.takes b).2)), subst (λ n. length items ≤ n) (sym s.1) h.few)

pub shows : (port : ℕ) (v : Knows) → v.sends ≡ true → Forks IsKept port v v (knows false false 0 None None [] [] v.sent)
shows port v a items views h at =
    let mine = h.fit port v at in
    let my = mine.sends a in
    record {
      facts = h.facts;
      in_order = h.in_order;
      few = h.few;
      orderly = h.orderly;
      promised = h.promised;
      fit = all_snoc (Fits h.facts) (set views port v) (knows false false 0 None None [] [] v.sent) (all_set (Fits h.facts) views port v mine (λ j u _ e. h.fit j u e))
          (λ j. idle h.facts j v.sent (all_shown v.sent h.facts.sent my.2));
    }

pub learns : (port : ℕ) (v : Knows) (other : ℕ) (u : Knows) → Merges IsKept port v other u (knows v.sends v.takes v.capacity v.gives v.gets v.sent v.taken u.shown) (knows false false 0 None None [] [] [])
learns port v other u items views h at two at' =
    let both : Knows = knows v.sends v.takes v.capacity v.gives v.gets v.sent v.taken u.shown in
    let mine = h.fit port v at in
    let vs : List Knows = set views port both in
    let was : get_elem? views other ≡ some u = ⊎_elim (λ x. absurd (two x.0)) (λ x. x.1) (at_set views port other both u at') in
    let now : AllEnds (Fits h.facts) vs = all_set (Fits h.facts) views port both (record { sends = mine.sends; takes = mine.takes; shown = (h.fit other u was).shown }) (λ j y _ e. h.fit j y e) in
    record {
      facts = h.facts;
      in_order = h.in_order;
      few = h.few;
      orderly = h.orderly;
      promised = h.promised;
      fit = all_set (Fits h.facts) vs other (knows false false 0 None None [] [] []) (idle h.facts other [] (none_shown h.facts.sent)) (λ j y _ e. now j y e);
    }
