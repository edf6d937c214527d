-- The verdict on a run by its parts.
use Rattle.std.proofs.Common.{◌≡◌, ℕ, zero, suc, ◌+◌, ◌-◌, ◌*◌, ◌^◌, ◌<◌, ◌≤◌, Bool, true, false, cond, leb, List, [], ◌∷◌, length, Option, Some, None, Result, Ok, Err, refl, sym, ap, subst, ◌∙◌, arith, ◌⊎◌, inl, inr, length-append}
use Rattle.std.specs.Prelude.{◌&&◌, not, is_some}
use Rattle.std.specs.List.{list_all}
use Rattle.std.proofs.lemmas.Bool.{cases_lt, and_parts, and_from, leb-true, le-leb}
use Rattle.change_ops.specs.Ids.{OpId, within_limits, is_character}
use Rattle.change_ops.specs.Limits.{parent_within}
use Rattle.change_ops.specs.Words.{split, number_in, saturated}
use Rattle.change_ops.specs.Runs.{Run, run_within, run_has_characters}
use Rattle.change_ops.specs.Reading.{◌>>=◌, hex_at, characters_at, run_parts, own_run, made_verdict, run_judged, run_verdict, within, within_run, limited_run, both, encoded_all, ReadsAs}
use Rattle.change_ops.specs.declared.refusal.LineFault.{LineFault}
use Rattle.change_ops.specs.declared.refusal.LineFault.TheVariants.{BadLine, Limit, CharRefused, WrongPeer, OutOfMemory}
use Rattle.change_ops.proofs.Grammar.{bind_some, split_takes}
use Rattle.change_ops.proofs.LineForms.{characters_form}

-- ---- the least length of `n` codes

some_digits : (word : List ℕ) (n : ℕ) → hex_at word ≡ Some n → 1 ≤ length word
unfolding hex_at number_in
some_digits [] n e = absurd cc
some_digits (b ∷ word) n e = omega arith

codes_long : (n : ℕ) (fields cs : List ℕ) → characters_at n fields ≡ Some cs → 2 * n ≤ length fields + 1
unfolding characters_at
codes_long zero fields cs e = omega arith
codes_long (suc zero) fields cs e =
    let a = bind_some (hex_at fields) (λ code. Some (code ∷ [])) cs e in
    let some = some_digits fields a.0 a.1 in
    omega arith
codes_long (suc (suc n)) fields cs e =
    let a = bind_some (split 32 fields) (λ first. hex_at first.0 >>= λ code. characters_at (suc n) first.1 >>= λ codes. Some (code ∷ codes)) cs e in
    let b = bind_some (hex_at a.0.0) (λ code. characters_at (suc n) a.0.1 >>= λ codes. Some (code ∷ codes)) cs a.2 in
    let d = bind_some (characters_at (suc n) a.0.1) (λ codes. Some (b.0 ∷ codes)) cs b.2 in
    let some = some_digits a.0.0 b.0 b.1 in
    let rest = codes_long (suc n) a.0.1 d.0 d.1 in
    let whole : length fields ≡ length a.0.0 + suc (length a.0.1) = ap length (split_takes 32 fields a.0.0 a.0.1 a.1).0 ∙ length-append a.0.0 (32 ∷ a.0.1) in
    omega arith

pub codes_many : (n : ℕ) (fields : List ℕ) → length fields + 1 < 2 * n → characters_at n fields ≡ None
codes_many n fields many = go (characters_at n fields) refl where
  go : (o : Option (List ℕ)) → characters_at n fields ≡ o → o ≡ None
  go None e = refl
  go (Some cs) e = absurd (let long = codes_long n fields cs e in omega arith)

pub too_many : (count : ℕ) (fields : List ℕ) → 1 ≤ count → length fields < count → false ≡ is_some (characters_at count fields)
too_many count fields some many = sym (ap is_some (codes_many count fields (omega arith)))

-- a saturated count is of as many codes as the count
pub codes_saturated : (n count : ℕ) (fields : List ℕ) → count ≡ saturated n → length fields < 2 ^ 64 → is_some (characters_at count fields) ≡ is_some (characters_at n fields)
codes_saturated n count fields e short = elim (cases_lt n (2 ^ 64)) [
  | inl lt ↦ let same : count ≡ n = omega arith in ap (λ (k : ℕ). is_some (characters_at k fields)) same
  | inr le ↦ let most : count ≡ 2 ^ 64 - 1 = omega arith in ap is_some (codes_many count fields (omega arith) ∙ sym (codes_many n fields (omega arith)))
]

-- ---- the limits

pub record Limited (count room : ℕ) (id : Option OpId) (parent : Option (Option OpId)) (x : OpId × Option OpId) : Type 0 where
  pub id_is : id ≡ Some x.0
  pub parent_is : parent ≡ Some x.1
  pub id_within : within_limits x.0 ≡ true
  pub parent_limited : parent_within x.1 ≡ true
  pub some : 2 ≤ count
  pub fits : count ≤ room
  pub last : x.0.counter + count ≤ 2 ^ 48

abbrev Named : Type 0
Named = OpId × Option OpId

abbrev paired : OpId → Option OpId → Named
paired a b = (a, b)

abbrev no_run : LineFault → Result Run LineFault
no_run fault = Err fault

within_ok : (count room : ℕ) (i : OpId) (p : Option OpId) (x : Named) (a b : Bool) → within_limits i ≡ a → parent_within p ≡ b
    → within_run count room (both (cond a (Ok i) (Err Limit)) (cond b (Ok p) (Err Limit))) ≡ Ok x → Limited count room (Some i) (Some p) x
within_ok count room i p x false false f g e = absurd cc
within_ok count room i p x false true f g e = absurd cc
within_ok count room i p x true false f g e = absurd cc
within_ok count room i p x true true f g e = go (leb 2 count && leb count room && leb (i.counter + count) (2 ^ 48)) refl e where
  go : (t : Bool) → (leb 2 count && leb count room && leb (i.counter + count) (2 ^ 48)) ≡ t → cond t (Ok (i, p)) (Err Limit) ≡ Ok x → Limited count room (Some i) (Some p) x
  go false h k = absurd cc
  go true h k =
      let read : Named = (i, p) in
      let same : read ≡ x = cc in
      let c = and_parts (leb 2 count && leb count room) (leb (i.counter + count) (2 ^ 48)) h in
      let d = and_parts (leb 2 count) (leb count room) c.0 in
      let limited : Limited count room (Some i) (Some p) read = record { id_is = refl; parent_is = refl; id_within = f; parent_limited = g; some = leb-true _ _ d.0; fits = leb-true _ _ d.1; last = leb-true _ _ c.1 } in
      subst (Limited count room (Some i) (Some p)) same limited

none_ok : (count room : ℕ) (p : Option OpId) (x : Named) (b : Bool) → within_run count room (both {A = OpId} (Err BadLine) (cond b (Ok p) (Err Limit))) ≡ Ok x → ⊥
none_ok count room p x true e = absurd cc
none_ok count room p x false e = absurd cc

none_too : (count room : ℕ) (i : OpId) (x : Named) (a : Bool) → within_run count room (both {B = Option OpId} (cond a (Ok i) (Err Limit)) (Err BadLine)) ≡ Ok x → ⊥
none_too count room i x true e = absurd cc
none_too count room i x false e = absurd cc

pub limited_ok : (count room : ℕ) (id : Option OpId) (parent : Option (Option OpId)) (x : Named) → limited_run count room id parent ≡ Ok x → Limited count room id parent x
limited_ok count room None None x e = absurd cc
limited_ok count room None (Some p) x e = absurd (none_ok count room p x (parent_within p) e)
limited_ok count room (Some i) None x e = absurd (none_too count room i x (within_limits i) e)
limited_ok count room (Some i) (Some p) x e = within_ok count room i p x (within_limits i) (parent_within p) refl refl e

-- a run within the limits
run_fine : (count room : ℕ) (id : Option OpId) (parent : Option (Option OpId)) (x : Named) (cs : List ℕ) → Limited count room id parent x → room ≤ 256 → length cs ≡ count
    → (run_within (record { id = x.0; parent = x.1; characters = cs }) && leb (length cs) room) ≡ true
run_fine count room id parent x cs l few long =
    let some = l.some in
    let fits = l.fits in
    let last = l.last in
    let a : 2 ≤ length cs = omega arith in
    let b : length cs ≤ 256 = omega arith in
    let c : x.0.counter + length cs ≤ 2 ^ 48 = omega arith in
    let d : length cs ≤ room = omega arith in
    rw (l.id_within, l.parent_limited, le-leb 2 (length cs) a, le-leb (length cs) 256 b, le-leb (x.0.counter + length cs) (2 ^ 48) c, le-leb (length cs) room d) refl

abbrev view_of : Named → List ℕ → Run
view_of x cs = record { id = x.0; parent = x.1; characters = cs }

parts_are : (count room : ℕ) (id : Option OpId) (parent : Option (Option OpId)) (x : Named) (o : Option (List ℕ)) → Limited count room id parent x → run_parts id parent o ≡ (o >>= λ cs. Some (view_of x cs))
parts_are count room id parent x o l = rw (l.id_is, l.parent_is) refl

-- what was read as characters
record Typed (n : ℕ) (codes cs : List ℕ) : Type 0 where
  read : characters_at n codes ≡ Some cs
  all : list_all is_character cs ≡ true
  long : length cs ≡ n

typed : (n : ℕ) (codes cs : List ℕ) → encoded_all (characters_at n codes) ≡ Ok cs → Typed n codes cs
typed n codes cs e = go (characters_at n codes) refl e where
  inner : (ds : List ℕ) (b : Bool) → list_all is_character ds ≡ b → cond b (Ok ds) (Err CharRefused) ≡ Ok cs → (list_all is_character ds ≡ true) × (ds ≡ cs)
  inner ds true f g = (f, cc)
  inner ds false f g = absurd cc

  go : (o : Option (List ℕ)) → characters_at n codes ≡ o → encoded_all o ≡ Ok cs → Typed n codes cs
  go None f g = absurd cc
  go (Some ds) f g =
      let i = inner ds (list_all is_character ds) refl g in
      let found : Typed n codes ds = record { read = f; all = i.0; long = (characters_form n codes ds f).counted } in
      subst (Typed n codes) i.1 found

-- the count is the number, where it is small
pub small_count : (n count room : ℕ) → count ≡ saturated n → count ≤ room → room ≤ 256 → n ≡ count
small_count n count room e fits few = omega arith

pub made_invariant : (id : OpId) (parent : Option OpId) (count : ℕ) (codes cs : List ℕ) → (within_limits id && parent_within parent) ≡ true → 2 ≤ count → count ≤ 256 → id.counter + count ≤ 2 ^ 48 → encoded_all (characters_at count codes) ≡ Ok cs
    → (run_within (record { id = id; parent = parent; characters = cs }) && run_has_characters (record { id = id; parent = parent; characters = cs })) ≡ true
made_invariant id parent count codes cs named some few last e =
    let t = typed count codes cs e in
    let long = t.long in
    let a : 2 ≤ length cs = omega arith in
    let b : length cs ≤ 256 = omega arith in
    let c : id.counter + length cs ≤ 2 ^ 48 = omega arith in
    let within : run_within (record { id = id; parent = parent; characters = cs }) ≡ true = rw (named, le-leb 2 (length cs) a, le-leb (length cs) 256 b, le-leb (id.counter + length cs) (2 ^ 48) c) refl in
    and_from (run_within (record { id = id; parent = parent; characters = cs })) (run_has_characters (record { id = id; parent = parent; characters = cs })) within t.all

-- the run of an id and a parent within the limits
pub typed_right : (peer count room n : ℕ) (id : Option OpId) (parent : Option (Option OpId)) (x : Named) (codes : List ℕ) → Limited count room id parent x → room ≤ 256 → count ≡ saturated n
    → run_verdict peer room (run_parts id parent (characters_at n codes)) ≡ made_verdict peer x.0 x.1 (encoded_all (characters_at count codes))
typed_right peer count room n id parent x codes l few e =
    let same : n ≡ count = small_count n count room e l.fits few in
    ap (run_verdict peer room) (parts_are count room id parent x (characters_at n codes) l ∙ ap (λ (k : ℕ). characters_at k codes >>= λ ds. Some (view_of x ds)) same) ∙ go (characters_at count codes) refl where
      inner : (cs : List ℕ) → length cs ≡ count → (b : Bool) → list_all is_character cs ≡ b → run_verdict peer room (Some (view_of x cs)) ≡ made_verdict peer x.0 x.1 (cond b (Ok cs) (Err CharRefused))
      inner cs long true f = rw (run_fine count room id parent x cs l few long, f) refl
      inner cs long false f = rw (run_fine count room id parent x cs l few long, f) refl

      go : (o : Option (List ℕ)) → characters_at count codes ≡ o → run_verdict peer room (o >>= λ ds. Some (view_of x ds)) ≡ made_verdict peer x.0 x.1 (encoded_all o)
      go None f = refl
      go (Some cs) f = inner cs (characters_form count codes cs f).counted (list_all is_character cs) refl

-- what a reader of codes answered
pub reads_err : (A : Type 0) (view : A → List ℕ) (fault : LineFault) (read : Result (List ℕ) LineFault) → ReadsAs view (Err fault) read → (fault ≡ OutOfMemory) ⊎ (read ≡ Err fault)
reads_err A view BadLine read h = inr h
reads_err A view Limit read h = inr h
reads_err A view CharRefused read h = inr h
reads_err A view WrongPeer read h = inr h
reads_err A view OutOfMemory read h = inl refl

-- ---- past the limits, where the form is right
limit_of : (peer room : ℕ) (run : Run) → (run_within run && leb (length run.characters) room) ≡ false → run_judged peer room run ≡ Err Limit
limit_of peer room run h = rw h refl

and_false : (a b : Bool) → (a ≡ true → b ≡ true → ⊥) → (a && b) ≡ false
and_false true true h = absurd (h refl refl)
and_false true false h = refl
and_false false b h = refl

pub refused : (peer count room n : ℕ) (id : Option OpId) (parent : Option (Option OpId)) (codes : List ℕ) (fault : LineFault) → count ≡ saturated n → room ≤ 256 → limited_run count room id parent ≡ Err fault → (cs : List ℕ) → length cs ≡ n
    → run_verdict peer room (run_parts id parent (Some cs)) ≡ Err fault
refused peer count room n None None codes fault e few h cs long = cc
refused peer count room n None (Some p) codes fault e few h cs long = go (parent_within p) h where
  go : (b : Bool) → within_run count room (both {A = OpId} (Err BadLine) (cond b (Ok p) (Err Limit))) ≡ Err fault → no_run BadLine ≡ Err fault
  go true g = let same : BadLine ≡ fault = cc in ap Err same
  go false g = let same : BadLine ≡ fault = cc in ap Err same
refused peer count room n (Some i) None codes fault e few h cs long = go (within_limits i) h where
  go : (a : Bool) → within_run count room (both {B = Option OpId} (cond a (Ok i) (Err Limit)) (Err BadLine)) ≡ Err fault → no_run BadLine ≡ Err fault
  go true g = let same : BadLine ≡ fault = cc in ap Err same
  go false g = let same : BadLine ≡ fault = cc in ap Err same
refused peer count room n (Some i) (Some p) codes fault e few h cs long = go (within_limits i) (parent_within p) refl refl h where
  run : Run
  run = record { id = i; parent = p; characters = cs }

  told : Limit ≡ fault → (run_within run && leb (length cs) room) ≡ false → run_judged peer room run ≡ Err fault
  told same f = limit_of peer room run f ∙ ap Err same

  outside : (leb 2 count && leb count room && leb (i.counter + count) (2 ^ 48)) ≡ false → (run_within run && leb (length cs) room) ≡ true → ⊥
  outside f g =
      let a = and_parts (run_within run) (leb (length cs) room) g in
      let b = and_parts (within_limits i && parent_within p) (leb 2 (length cs) && leb (length cs) 256 && leb (i.counter + length cs) (2 ^ 48)) a.0 in
      let c = and_parts (leb 2 (length cs) && leb (length cs) 256) (leb (i.counter + length cs) (2 ^ 48)) b.1 in
      let d = and_parts (leb 2 (length cs)) (leb (length cs) 256) c.0 in
      let some : 2 ≤ length cs = leb-true _ _ d.0 in
      let high : length cs ≤ 256 = leb-true _ _ d.1 in
      let fits : length cs ≤ room = leb-true _ _ a.1 in
      let last : i.counter + length cs ≤ 2 ^ 48 = leb-true _ _ c.1 in
      let same : count ≡ length cs = omega arith in
      let all : (leb 2 count && leb count room && leb (i.counter + count) (2 ^ 48)) ≡ true = rw (same, le-leb 2 (length cs) some, le-leb (length cs) room fits, le-leb (i.counter + length cs) (2 ^ 48) last) refl in
      absurd cc

  go : (a b : Bool) → within_limits i ≡ a → parent_within p ≡ b → within_run count room (both (cond a (Ok i) (Err Limit)) (cond b (Ok p) (Err Limit))) ≡ Err fault → run_judged peer room run ≡ Err fault
  go false false f g k = let same : Limit ≡ fault = cc in told same (rw f refl)
  go false true f g k = let same : Limit ≡ fault = cc in told same (rw f refl)
  go true false f g k = let same : Limit ≡ fault = cc in told same (rw (f, g) refl)
  go true true f g k = inner (leb 2 count && leb count room && leb (i.counter + count) (2 ^ 48)) refl k where
    inner : (t : Bool) → (leb 2 count && leb count room && leb (i.counter + count) (2 ^ 48)) ≡ t → cond t (Ok (paired i p)) (Err Limit) ≡ Err fault → run_judged peer room run ≡ Err fault
    inner true m k = absurd cc
    inner false m k = let same : Limit ≡ fault = cc in told same (and_false (run_within run) (leb (length cs) room) (λ x y. outside m (and_from (run_within run) (leb (length cs) room) x y)))

-- of the same codes, of whatever form
pub refused_right : (peer count room n : ℕ) (id : Option OpId) (parent : Option (Option OpId)) (codes : List ℕ) (fault : LineFault) → count ≡ saturated n → room ≤ 256 → length codes < 2 ^ 64 → limited_run count room id parent ≡ Err fault → true ≡ is_some (characters_at count codes)
    → run_verdict peer room (run_parts id parent (characters_at n codes)) ≡ Err fault
refused_right peer count room n id parent codes fault e few short h some = go (characters_at n codes) refl (some ∙ codes_saturated n count codes e short) where
  go : (o : Option (List ℕ)) → characters_at n codes ≡ o → true ≡ is_some o → run_verdict peer room (run_parts id parent o) ≡ Err fault
  go None f g = absurd cc
  go (Some cs) f g = refused peer count room n id parent codes fault e few h cs (characters_form n codes cs f).counted

no_parts : (peer room : ℕ) (id : Option OpId) (parent : Option (Option OpId)) → run_verdict peer room (run_parts id parent None) ≡ Err BadLine
no_parts peer room None parent = refl
no_parts peer room (Some i) None = refl
no_parts peer room (Some i) (Some p) = refl

pub refused_wrong : (peer count room n : ℕ) (id : Option OpId) (parent : Option (Option OpId)) (codes : List ℕ) → count ≡ saturated n → length codes < 2 ^ 64 → false ≡ is_some (characters_at count codes) → run_verdict peer room (run_parts id parent (characters_at n codes)) ≡ Err BadLine
refused_wrong peer count room n id parent codes e short none = go (characters_at n codes) (none ∙ codes_saturated n count codes e short) where
  go : (o : Option (List ℕ)) → false ≡ is_some o → run_verdict peer room (run_parts id parent o) ≡ Err BadLine
  go None g = no_parts peer room id parent
  go (Some cs) g = absurd cc

-- a run of no character
pub none_refused : (peer room : ℕ) (id : Option OpId) (parent : Option (Option OpId)) (fault : LineFault) → both (within within_limits id) (within parent_within parent) ≡ Err fault → run_verdict peer room (run_parts id parent (Some [])) ≡ Err fault
none_refused peer room None None fault h = let same : BadLine ≡ fault = cc in ap Err same
none_refused peer room None (Some p) fault h = go (parent_within p) h where
  go : (b : Bool) → both {A = OpId} (Err BadLine) (cond b (Ok p) (Err Limit)) ≡ Err fault → no_run BadLine ≡ Err fault
  go true g = let same : BadLine ≡ fault = cc in ap Err same
  go false g = let same : BadLine ≡ fault = cc in ap Err same
none_refused peer room (Some i) None fault h = go (within_limits i) h where
  go : (a : Bool) → both {B = Option OpId} (cond a (Ok i) (Err Limit)) (Err BadLine) ≡ Err fault → no_run BadLine ≡ Err fault
  go true g = let same : BadLine ≡ fault = cc in ap Err same
  go false g = let same : BadLine ≡ fault = cc in ap Err same
none_refused peer room (Some i) (Some p) fault h = go (within_limits i) (parent_within p) refl refl h where
  go : (a b : Bool) → within_limits i ≡ a → parent_within p ≡ b → both (cond a (Ok i) (Err Limit)) (cond b (Ok p) (Err Limit)) ≡ Err fault → run_judged peer room (record { id = i; parent = p; characters = [] }) ≡ Err fault
  go false false f g k = let same : Limit ≡ fault = cc in rw f (ap Err same)
  go false true f g k = let same : Limit ≡ fault = cc in rw f (ap Err same)
  go true false f g k = let same : Limit ≡ fault = cc in rw (f, g) (ap Err same)
  go true true f g k = absurd cc

pub none_limit : (peer room : ℕ) (id : Option OpId) (parent : Option (Option OpId)) (x : Named) → both (within within_limits id) (within parent_within parent) ≡ Ok x → run_verdict peer room (run_parts id parent (Some [])) ≡ Err Limit
none_limit peer room None None x h = absurd cc
none_limit peer room None (Some p) x h = absurd (go (parent_within p) h) where
  go : (b : Bool) → both {A = OpId} (Err BadLine) (cond b (Ok p) (Err Limit)) ≡ Ok x → ⊥
  go true g = absurd cc
  go false g = absurd cc
none_limit peer room (Some i) None x h = absurd (go (within_limits i) h) where
  go : (a : Bool) → both {B = Option OpId} (cond a (Ok i) (Err Limit)) (Err BadLine) ≡ Ok x → ⊥
  go true g = absurd cc
  go false g = absurd cc
none_limit peer room (Some i) (Some p) x h = go (within_limits i) (parent_within p) where
  go : (a b : Bool) → cond (not ((a && b) && false && leb 0 room)) (no_run Limit) (own_run peer (record { id = i; parent = p; characters = [] })) ≡ Err Limit
  go false b = refl
  go true false = refl
  go true true = refl

pub err_told : (A : Type 0) (view : A → List ℕ) (fault : LineFault) (read : Result (List ℕ) LineFault) → read ≡ Err fault → ReadsAs view (Err fault) read
err_told A view BadLine read h = h
err_told A view Limit read h = h
err_told A view CharRefused read h = h
err_told A view WrongPeer read h = h
err_told A view OutOfMemory read h = tt
