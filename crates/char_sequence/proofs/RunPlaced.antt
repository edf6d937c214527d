-- A run that was put where its first character goes.
use Rattle.std.proofs.Common.{◌≡◌, ℕ, ◌+◌, ◌<◌, ◌≤◌, true, cond, List, [], ◌∷◌, ◌++◌, Option, Some, length, take, drop, sym, ap, refl, ◌∙◌, subst, arith, length-take, ⊎_elim, encode_utf8_all}
use Rattle.std.specs.List.{slice_get, insert}
use Rattle.std.specs.Ordering.{nat_cmp}
use Rattle.std.specs.FinMap.{FinMap}
use Rattle.std.proofs.lemmas.Bool.{cases_lt}
use Rattle.std.proofs.lemmas.List.{append-nil, take-append-drop, drop_at}
use Rattle.std.proofs.lemmas.List.Sums.{sum_by-append}
use Rattle.std.proofs.lemmas.List.Edits.{length-insert}
use Rattle.change_ops.specs.Ids.{Less}
use Rattle.change_ops.specs.Operations.{id_of}
use Rattle.change_ops.specs.Runs.{next_id, inserts_from}
use Rattle.change_ops.specs.declared.id.OpId.{OpId}
use Rattle.change_ops.specs.declared.operation.Op.{Op}
use Rattle.change_ops.specs.declared.operation.Op.TheVariants.{Insert}
use Rattle.change_ops.specs.declared.size.Size.{Size}
use Rattle.change_ops.specs.Sizes.{most_characters, most_bytes}
use Rattle.char_sequence.specs.declared.sequence.Element.{Element}
use Rattle.char_sequence.specs.Tree.{Present}
use Rattle.char_sequence.specs.Order.{IsText, Shows}
use Rattle.char_sequence.specs.Chunks.{IsFloor}
use Rattle.char_sequence.specs.Visible.{visible_text, visible_count}
use Rattle.char_sequence.specs.Held.{Sequence, Holds}
use Rattle.removal_runs.specs.Open.{Removals}
use Rattle.char_sequence.specs.Named.{IsAboveAll}
use Rattle.char_sequence.specs.Newest.{IsNewest}
use Rattle.char_sequence.specs.Places.{IsStart, IsPast, IsAfter}
use Rattle.char_sequence.specs.RunElements.{elements_from, insert_all, AcceptsRun}
use Rattle.char_sequence.proofs.Counters.{used_other}
use Rattle.char_sequence.proofs.Floors.{floor_inserted}
use Rattle.char_sequence.proofs.Holding.{present_at}
use Rattle.char_sequence.proofs.Ids.{less_irrefl, less_trans, less_by_counter, lower_floor}
use Rattle.char_sequence.proofs.RunHeld.{run_held, count_run, length-elements}
use Rattle.char_sequence.proofs.RunKept.{run_shown}
use Rattle.char_sequence.proofs.RunSteps.{insert_all_append, length_insert_all}
use Rattle.char_sequence.proofs.Steps.{begins, stands}
use Rattle.char_sequence.proofs.OneOrder.{one_text}
use Rattle.char_sequence.proofs.VisibleText.{bytes_insert_all, run_text, front_bytes}

-- ---- a chunk
pub put_length : (items new : List Element) (k : ℕ) (id : OpId) (cs : List ℕ) → k ≤ length items → new ≡ insert_all items k (elements_from id cs) → length new ≡ length items + length cs
put_length items new k id cs h is = ap length is ∙ length_insert_all (elements_from id cs) items k h ∙ ap (λ n. length items + n) (length-elements cs id)

floor_more : (cs : List ℕ) (items : List Element) (k : ℕ) (id low : OpId) → k ≤ length items → IsFloor items low → (Less id low → ⊥) → IsFloor (insert_all items k (elements_from id cs)) low
floor_more [] items k id low h above new = above
floor_more (c ∷ cs) items k id low h above new =
    let e : Element = record { id = id; character = c; visible = true } in
    let size = length-insert items k e h in
    floor_more cs (insert items k e) (k + 1) (next_id id) low (omega (arith, size)) (floor_inserted items k e low low h above (less_irrefl low) new) (λ less. new (less_trans id (next_id id) low (less_by_counter id (next_id id) (omega arith)) less))

-- the lesser of the floor and the run's first id is a floor
pub floor_run : (cs : List ℕ) (items new : List Element) (k : ℕ) (id floor low : OpId) → k ≤ length items → new ≡ insert_all items k (elements_from id cs) → IsFloor items floor → (Less floor low → ⊥) → (Less id low → ⊥) → IsFloor new low
floor_run cs items new k id floor low h is above not_low not_new =
    subst (λ z. IsFloor z low) (sym is) (floor_more cs items k id low h (λ i x g less. lower_floor x.id floor low (above i x g) not_low less) not_new)

-- elements behind all others
pub insert_all_end : (es items : List Element) → insert_all items (length items) es ≡ items ++ es
insert_all_end es items =
    ap (λ z. insert_all z (length items) es) (sym (append-nil items)) ∙ insert_all_append es items [] ∙ ap (λ z. items ++ z) (append-nil es)

pub elements_shown : (cs : List ℕ) (id : OpId) → visible_count (elements_from id cs) ≡ length cs
elements_shown [] id = refl
elements_shown (c ∷ cs) id =
    let e : Element = record { id = id; character = c; visible = true } in
    let one : visible_count (e ∷ []) ≡ 1 = refl in
    let both : visible_count (elements_from id (c ∷ cs)) ≡ visible_count (e ∷ []) + visible_count (elements_from (next_id id) cs) = sum_by-append (λ (z : Element). cond z.visible 1 0) (e ∷ []) (elements_from (next_id id) cs) in
    let rest = elements_shown cs (next_id id) in
    omega (arith, one, both, rest)

pub appended_shown : (items new : List Element) (id : OpId) (cs : List ℕ) → new ≡ items ++ elements_from id cs → visible_count new ≡ visible_count items + length cs
appended_shown items new id cs is =
    ap visible_count is ∙ sum_by-append (λ (e : Element). cond e.visible 1 0) items (elements_from id cs) ∙ ap (λ n. visible_count items + n) (elements_shown cs id)

-- the elements behind those that were there
pub appended_part : (items new part : List Element) (id : OpId) (cs : List ℕ) (start : ℕ) → start ≡ length items → new ≡ items ++ elements_from id cs → part ≡ drop start new → part ≡ elements_from id cs
appended_part items new part id cs start at is read = read ∙ ap (drop start) is ∙ drop_at items (elements_from id cs) start (sym at)

-- ---- what is accepted
take_shorter : (n : ℕ) (cs : List ℕ) → length (take n cs) ≤ length cs
take_shorter n cs = omega (arith, length-take n cs)

pub accepts_front : {size : Size} (ops : List Op) (id : OpId) (parent : Option OpId) (cs : List ℕ) (n : ℕ) → AcceptsRun size ops id parent cs → AcceptsRun size ops id parent (take n cs)
accepts_front ops id parent cs n a = record {
  fresh = a.fresh;
  above = a.above;
  known = a.known;
  room = let room = a.room in let less = take_shorter n cs in omega (arith, room, less);
  space = λ es h. let space = a.space es h in let less = front_bytes n cs in omega (arith, space, less);
}

-- what is held decides which runs are accepted, whatever the operations are
pub accepts_run_other : {size : Size} (c : Sequence) (ops others : List Op) (id : OpId) (parent : Option OpId) (cs : List ℕ) → Holds c ops → Holds c others → AcceptsRun size ops id parent cs → AcceptsRun size others id parent cs
accepts_run_other c ops others id parent cs h k a = record {
  fresh = λ u. used_other ops others c.newest id h.newest k.newest a.fresh u;
  above = a.above;
  known =
      λ x e.
      let at = stands ops c.elements h.shows.text x (a.known x e) in
      subst (λ z. Present others z) at.1.2 (present_at others c.elements k.shows.text at.0 at.1.0 at.1.1);
  room = let here = h.size in let there = k.size in let room = a.room in omega (arith, here, there, room);
  space =
      λ es shown.
      let same : es ≡ c.elements = one_text others k.shows.tree es c.elements shown.text k.shows.text in
      subst (λ l. length (visible_text l) + length (encode_utf8_all cs) ≤ most_bytes) (sym same) (a.space c.elements h.shows);
}

pub run_above : {size : Size} (ops : List Op) (es ds : List Element) (id : OpId) (parent : Option OpId) (cs : List ℕ) → ds ≡ es → IsText ops es → AcceptsRun size ops id parent cs → IsAboveAll ds id
run_above ops es ds id parent cs same text a k e g node =
    let there : slice_get es k ≡ Some e = ap (λ z. slice_get z k) (sym same) ∙ g in
    let from = text.inserted k e there in
    ⊎_elim
    (λ (less : e.id.counter < id.counter). less)
    (λ (more : id.counter ≤ e.id.counter). absurd (a.fresh (Insert e.id from.0 e.character, from.1, node, more)))
    (cases_lt e.id.counter id.counter)

pub run_room : {size : Size} (c : Sequence) (ops : List Op) (ds : List Element) (id : OpId) (parent : Option OpId) (cs : List ℕ) → ds ≡ c.elements → Holds c ops → AcceptsRun size ops id parent cs → length ds + length cs ≤ most_characters size
run_room c ops ds id parent cs same h a = let size = h.size in let room = a.room in let one = ap length same in omega (arith, size, room, one)

-- ---- where it stands
-- the elements with a run put in are those before its place, the run's, and those from there on
apart_at : (es : List Element) (k : ℕ) → k ≤ length es → (take k es ++ drop k es ≡ es) × (length (take k es) ≡ k)
apart_at es k h = (take-append-drop k es, omega (arith, length-take k es))

joined_at : (es ds es' added : List Element) (k : ℕ) → k ≤ length es → ds ≡ es → es' ≡ insert_all ds k added → es' ≡ take k es ++ (added ++ drop k es)
joined_at es ds es' added k h same new =
    let r = apart_at es k h in
    new ∙ ap (λ z. insert_all z k added) same
    ∙ ap (λ z. insert_all z k added) (sym r.0)
    ∙ ap (λ n. insert_all (take k es ++ drop k es) n added) (sym r.1)
    ∙ insert_all_append added (take k es) (drop k es)

pub run_placed : {size : Size} (es ds es' : List Element) (id : OpId) (parent : Option OpId) (cs : List ℕ) (start k : ℕ) → IsAfter es parent start → IsPast es id start k → k ≤ length es → ds ≡ es → es' ≡ insert_all ds k (elements_from id cs) → (ops : List Op) → Shows es ops → AcceptsRun size ops id parent cs → Shows es' (ops ++ inserts_from id parent cs)
run_placed es ds es' id parent cs start k after past h same new ops shown a =
    let r = apart_at es k h in
    let at : IsStart ops es parent start = begins ops es parent start shown.tree shown.text after in
    subst (λ z. Shows z (ops ++ inserts_from id parent cs)) (sym (joined_at es ds es' (elements_from id cs) k h same new))
    (run_shown cs ops (take k es) (drop k es) id parent start
    (subst (λ z. Shows z ops) (sym r.0) shown) a
    (subst (λ z. IsStart ops z parent start) (sym r.0) at)
    (subst (λ n. IsPast (take k es ++ drop k es) id start n) (sym r.1) (subst (λ z. IsPast z id start k) (sym r.0) past)))

pub run_placed_held : {size : Size} (es ds es' : List Element) (last last' : FinMap nat_cmp ℕ) (removals : Removals) (id : OpId) (parent : Option OpId) (cs : List ℕ) (start k : ℕ) → 0 < length cs → IsAfter es parent start → IsPast es id start k → k ≤ length es → ds ≡ es → es' ≡ insert_all ds k (elements_from id cs) → ((ops : List Op) (op : Op) → (id_of op).node ≡ id.node → (id_of op).counter + 1 ≡ id.counter + length cs → IsNewest ops last → IsNewest (ops ++ op ∷ []) last') → (ops : List Op) → Holds (record { elements = es; newest = last; removals = removals }) ops → AcceptsRun size ops id parent cs → Holds (record { elements = es'; newest = last'; removals = removals }) (ops ++ inserts_from id parent cs)
run_placed_held es ds es' last last' removals id parent cs start k some after past h same new noted ops held a =
    let r = apart_at es k h in
    let shown = held.shows in
    let at : IsStart ops es parent start = begins ops es parent start shown.tree shown.text after in
    subst (λ z. Holds (record { elements = z; newest = last'; removals = removals }) (ops ++ inserts_from id parent cs)) (sym (joined_at es ds es' (elements_from id cs) k h same new))
    (run_held cs ops (take k es) (drop k es) id parent start last last' removals some
    (subst (λ z. Holds (record { elements = z; newest = last; removals = removals }) ops) (sym r.0) held) a
    (subst (λ z. IsStart ops z parent start) (sym r.0) at)
    (subst (λ n. IsPast (take k es ++ drop k es) id start n) (sym r.1) (subst (λ z. IsPast z id start k) (sym r.0) past))
    (λ op node counter. noted ops op node counter held.newest))

-- there is room for its bytes
pub run_bytes : {size : Size} (ops : List Op) (es ds later : List Element) (id : OpId) (parent : Option OpId) (cs : List ℕ) (k : ℕ) → k ≤ length es → ds ≡ es → later ≡ insert_all ds k (elements_from id cs) → Shows es ops → AcceptsRun size ops id parent cs → length (visible_text later) ≤ most_bytes
run_bytes ops es ds later id parent cs k within same new h a =
    let bytes = ap (λ l. length (visible_text l)) (new ∙ ap (λ z. insert_all z k (elements_from id cs)) same) ∙ bytes_insert_all (elements_from id cs) es k within ∙ ap (λ bs. length (visible_text es) + length bs) (run_text cs id) in
    subst (λ n. n ≤ most_bytes) (sym bytes) (a.space es h)

-- there are not too many
pub run_few : {size : Size} (es : List Element) (newest : FinMap nat_cmp ℕ) (removals : Removals) (ops : List Op) (id : OpId) (parent : Option OpId) (cs : List ℕ) → Holds (record { elements = es; newest = newest; removals = removals }) (ops ++ inserts_from id parent cs) → AcceptsRun size ops id parent cs → length es ≤ most_characters size
run_few es newest removals ops id parent cs h a =
    let size = h.size in
    let count = count_run cs ops id parent in
    let room = a.room in
    omega (arith, size, count, room)
