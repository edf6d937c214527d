-- A run's line is read as what it spells, and spells what it is read as.
use Rattle.std.proofs.Common.{◌≡◌, ℕ, zero, suc, ◌+◌, ◌^◌, ◌≤◌, Bool, true, false, cond, leb, List, [], ◌∷◌, ◌++◌, length, Option, Some, None, refl, sym, ap, subst, ◌∙◌, arith, lit≤}
use Rattle.std.specs.Prelude.{◌&&◌, codes}
use Rattle.std.specs.Str.{bytes_eq}
use Rattle.std.specs.Fmt.{decimal}
use Rattle.std.specs.List.{list_all}
use Rattle.std.proofs.lemmas.Bool.{and_parts, leb-true}
use Rattle.std.proofs.lemmas.List.{append-nil}
use Rattle.change_ops.specs.Ids.{OpId, within_limits, is_character}
use Rattle.change_ops.specs.Limits.{parent_within}
use Rattle.change_ops.specs.Words.{split, number_in}
use Rattle.change_ops.specs.Runs.{Run, run_within, run_has_characters}
use Rattle.change_ops.specs.Reading.{◌>>=◌, id_at, hex_at, parent_at, characters_at, counted_at, run_parts, run_at}
use Rattle.change_ops.specs.Spelling.{◌␣◌, hexadecimal, id_text, parent_text, codes_text, run_text}
use Rattle.change_ops.proofs.Grammar.{Lacks, bind_some, split_again, split_takes}
use Rattle.change_ops.proofs.Phrases.{lacks_nil, lacks_cons, lacks_joined, decimal_again, decimal_takes, decimal_lacks, hex_again, hex_takes, hex_lacks, id_again, id_takes, id_lacks, parent_again, parent_takes, parent_lacks, same_bytes}

-- codes

abbrev AreCharacters : List ℕ → Type 0
AreCharacters characters = list_all is_character characters ≡ true

one_and_others : (c : ℕ) (cs : List ℕ) → AreCharacters (c ∷ cs) → (is_character c ≡ true) × AreCharacters cs
one_and_others c cs h = and_parts (is_character c) (list_all is_character cs) h

pub characters_again : (c : ℕ) (cs : List ℕ) → AreCharacters (c ∷ cs) → characters_at (suc (length cs)) (hexadecimal c ++ codes_text cs) ≡ Some (c ∷ cs)
unfolding characters_at codes_text
characters_again c [] h =
    let a = one_and_others c [] h in
    rw (append-nil (hexadecimal c), hex_again c a.0) refl
characters_again c (d ∷ ds) h =
    let a = one_and_others c (d ∷ ds) h in
    let parts = split_again 32 (hexadecimal c) (hexadecimal d ++ codes_text ds) (hex_lacks 32 c (lit≤ tt) a.0) in
    rw (parts, hex_again c a.0, characters_again d ds a.1) refl

-- what was read as `n` characters: behind a space it is their text
pub record CodesTaken (n : ℕ) (fields characters : List ℕ) : Type 0 where
  pub text : 32 ∷ fields ≡ codes_text characters
  pub counted : length characters ≡ n

pub characters_takes : (n : ℕ) (fields cs : List ℕ) → AreCharacters cs → characters_at n fields ≡ Some cs → CodesTaken n fields cs
unfolding characters_at codes_text
characters_takes zero fields cs h e = absurd cc
characters_takes (suc zero) fields cs h e =
    let a = bind_some (hex_at fields) (λ code. Some (code ∷ [])) cs e in
    let same : a.0 ∷ [] ≡ cs = cc (a.2) in
    let is = one_and_others a.0 [] (rw (← same) at h) in
    let word : fields ≡ hexadecimal a.0 ++ [] = hex_takes a.0 fields is.0 a.1 ∙ sym (append-nil (hexadecimal a.0)) in
    let taken : CodesTaken 1 fields (a.0 ∷ []) = record { text = ap (λ (x : List ℕ). 32 ∷ x) word; counted = refl } in
    subst (CodesTaken 1 fields) same taken
characters_takes (suc (suc n)) fields cs h e =
    let a = bind_some (split 32 fields) (λ first. hex_at first.0 >>= λ code. characters_at (suc n) first.1 >>= λ codes. Some (code ∷ codes)) cs e in
    let b = bind_some (hex_at a.0.0) (λ code. characters_at (suc n) a.0.1 >>= λ codes. Some (code ∷ codes)) cs a.2 in
    let d = bind_some (characters_at (suc n) a.0.1) (λ codes. Some (b.0 ∷ codes)) cs b.2 in
    let same : b.0 ∷ d.0 ≡ cs = cc (d.2) in
    let is = one_and_others b.0 d.0 (rw (← same) at h) in
    let rest = characters_takes (suc n) a.0.1 d.0 is.1 d.1 in
    let word : a.0.0 ≡ hexadecimal b.0 = hex_takes b.0 a.0.0 is.0 b.1 in
    let joined : a.0.0 ++ 32 ∷ a.0.1 ≡ hexadecimal b.0 ++ codes_text d.0 = (λ i. word i ++ rest.text i) in
    let whole : fields ≡ hexadecimal b.0 ++ codes_text d.0 = (split_takes 32 fields a.0.0 a.0.1 a.1).0 ∙ joined in
    let taken : CodesTaken (suc (suc n)) fields (b.0 ∷ d.0) = record { text = ap (λ (x : List ℕ). 32 ∷ x) whole; counted = ap suc rest.counted } in
    subst (CodesTaken (suc (suc n)) fields) same taken

pub codes_lack : (cs : List ℕ) → AreCharacters cs → Lacks 10 (codes_text cs)
unfolding codes_text
codes_lack [] h = lacks_nil 10
codes_lack (c ∷ cs) h = let a = one_and_others c cs h in lacks_cons 10 32 (hexadecimal c ++ codes_text cs) refl (lacks_both (hexadecimal c) (codes_text cs) (hex_lacks 10 c (lit≤ tt) a.0) (codes_lack cs a.1)) where
  lacks_both : (a b : List ℕ) → Lacks 10 a → Lacks 10 b → Lacks 10 (a ++ b)
  lacks_both [] b h k = k
  lacks_both (x ∷ a) b h k = lacks_cons 10 x (a ++ b) (h zero (omega arith)) (lacks_both a b (λ j lt. h (suc j) (omega arith)) k)

-- the count and the codes

no_space : split 32 (codes "0") ≡ None
unfolding split
no_space = refl

pub not_none : (fields : List ℕ) (parts : List ℕ × List ℕ) → split 32 fields ≡ Some parts → bytes_eq fields (codes "0") ≡ false
not_none fields parts e = go (bytes_eq fields (codes "0")) refl where
  go : (b : Bool) → bytes_eq fields (codes "0") ≡ b → b ≡ false
  go true f = let same : fields ≡ codes "0" = same_bytes fields (codes "0") f in absurd (let g : split 32 (codes "0") ≡ Some parts = ap (split 32) (sym same) ∙ e in let n = no_space in cc)
  go false f = refl

pub counted_again : (cs : List ℕ) → 2 ≤ length cs → length cs ≤ 256 → AreCharacters cs → counted_at (decimal (length cs) ++ codes_text cs) ≡ Some cs
unfolding counted_at codes_text
counted_again [] some few h = absurd (omega arith)
counted_again (c ∷ cs) some few h =
    let n = suc (length cs) in
    let parts = split_again 32 (decimal n) (hexadecimal c ++ codes_text cs) (decimal_lacks 32 n (lit≤ tt) (omega arith) (omega arith)) in
    let other = not_none (decimal n ++ 32 ∷ (hexadecimal c ++ codes_text cs)) (decimal n, hexadecimal c ++ codes_text cs) parts in
    rw (other, parts, decimal_again n (omega arith) (omega arith), characters_again c cs h) refl

pub counted_takes : (fields cs : List ℕ) → 2 ≤ length cs → length cs ≤ 256 → AreCharacters cs → counted_at fields ≡ Some cs → fields ≡ decimal (length cs) ++ codes_text cs
unfolding counted_at
counted_takes fields cs some few h e = go (bytes_eq fields (codes "0")) e where
  go : (b : Bool) → cond b (Some []) (split 32 fields >>= λ first. number_in 10 first.0 >>= λ count. characters_at count first.1) ≡ Some cs → fields ≡ decimal (length cs) ++ codes_text cs
  go true f = let none : [] ≡ cs = cc in absurd (let z : length cs ≡ 0 = ap length (sym none) in omega arith)
  go false f =
      let a = bind_some (split 32 fields) (λ first. number_in 10 first.0 >>= λ count. characters_at count first.1) cs f in
      let b = bind_some (number_in 10 a.0.0) (λ count. characters_at count a.0.1) cs a.2 in
      let t = characters_takes b.0 a.0.1 cs h b.2 in
      let count : number_in 10 a.0.0 ≡ Some (length cs) = b.1 ∙ ap (λ (k : ℕ). Some k) (sym t.counted) in
      let word : a.0.0 ≡ decimal (length cs) = decimal_takes (length cs) a.0.0 (omega arith) (omega arith) count in
      let joined : a.0.0 ++ 32 ∷ a.0.1 ≡ decimal (length cs) ++ codes_text cs = (λ i. word i ++ t.text i) in
      (split_takes 32 fields a.0.0 a.0.1 a.1).0 ∙ joined

-- what the limits of a run say
pub record RunLimits (run : Run) : Type 0 where
  pub id : within_limits run.id ≡ true
  pub parent : parent_within run.parent ≡ true
  pub some : 2 ≤ length run.characters
  pub few : length run.characters ≤ 256
  pub last : run.id.counter + length run.characters ≤ 2 ^ 48

pub run_limits : (run : Run) → run_within run ≡ true → RunLimits run
run_limits run h =
    let n = length run.characters in
    let a = and_parts (within_limits run.id && parent_within run.parent) (leb 2 n && leb n 256 && leb (run.id.counter + n) (2 ^ 48)) h in
    let b = and_parts (within_limits run.id) (parent_within run.parent) a.0 in
    let c = and_parts (leb 2 n && leb n 256) (leb (run.id.counter + n) (2 ^ 48)) a.1 in
    let d = and_parts (leb 2 n) (leb n 256) c.0 in
    record { id = b.0; parent = b.1; some = leb-true _ _ d.0; few = leb-true _ _ d.1; last = leb-true _ _ c.1 }

pub run_again : (run : Run) → run_within run ≡ true → run_has_characters run ≡ true
    → run_at (id_text run.id ␣ parent_text run.parent ␣ decimal (length run.characters) ++ codes_text run.characters) ≡ Some run
unfolding run_at
run_again run h c =
    let l = run_limits run h in
    let counted = decimal (length run.characters) ++ codes_text run.characters in
    let one = split_again 32 (id_text run.id) (parent_text run.parent ␣ counted) (id_lacks 32 run.id (lit≤ tt) refl l.id) in
    let two = split_again 32 (parent_text run.parent) counted (parent_lacks 32 run.parent (lit≤ tt) refl refl l.parent) in
    rw (one, two, id_again run.id l.id, parent_again run.parent l.parent, counted_again run.characters l.some l.few c) refl

pub run_takes : (fields : List ℕ) (run : Run) → run_at fields ≡ Some run → run_within run ≡ true → run_has_characters run ≡ true → codes "r" ␣ fields ≡ run_text run
unfolding run_at
run_takes fields run e h c =
    let a = bind_some (split 32 fields) (λ first. split 32 first.1 >>= λ second. run_parts (id_at first.0) (parent_at second.0) (counted_at second.1)) run e in
    let b = bind_some (split 32 a.0.1) (λ second. run_parts (id_at a.0.0) (parent_at second.0) (counted_at second.1)) run a.2 in
    let d = bind_some (id_at a.0.0) (λ id. parent_at b.0.0 >>= λ parent. counted_at b.0.1 >>= λ characters. made id parent characters) run b.2 in
    let f = bind_some (parent_at b.0.0) (λ parent. counted_at b.0.1 >>= λ characters. made d.0 parent characters) run d.2 in
    let g = bind_some (counted_at b.0.1) (λ characters. made d.0 f.0 characters) run f.2 in
    let read : Run = record { id = d.0; parent = f.0; characters = g.0 } in
    let same : read ≡ run = some_run read run g.2 in
    let l = run_limits read (rw (← same) at h) in
    let characters = counted_takes b.0.1 g.0 l.some l.few (rw (← same) at c) g.1 in
    let one = (split_takes 32 fields a.0.0 a.0.1 a.1).0 in
    let two = (split_takes 32 a.0.1 b.0.0 b.0.1 b.1).0 in
    ap (λ (x : List ℕ). codes "r" ␣ x) (one ∙ both (id_takes a.0.0 d.0 l.id d.1) (two ∙ both (parent_takes b.0.0 f.0 l.parent f.1) characters)) ∙ ap run_text same
  where
    made : OpId → Option OpId → List ℕ → Option Run
    made id parent characters = Some (record { id = id; parent = parent; characters = characters })

    some_run : (x y : Run) → Some x ≡ Some y → x ≡ y
    some_run x y e = cc

    both : {a x b y : List ℕ} → a ≡ x → b ≡ y → a ␣ b ≡ x ␣ y
    both e f = (λ i. e i ␣ f i)

pub run_lacks : (run : Run) → run_within run ≡ true → run_has_characters run ≡ true → Lacks 10 (run_text run)
run_lacks run h c =
    let l = run_limits run h in
    let counted : Lacks 10 (decimal (length run.characters) ++ codes_text run.characters) = lacks_both (decimal (length run.characters)) (codes_text run.characters) (decimal_lacks 10 (length run.characters) (lit≤ tt) (let s = l.some in omega arith) (let f = l.few in omega arith)) (codes_lack run.characters c) in
    behind (codes "r") _ (lacks_cons 10 114 [] refl (lacks_nil 10)) (behind (id_text run.id) _ (id_lacks 10 run.id (lit≤ tt) refl l.id) (behind (parent_text run.parent) _ (parent_lacks 10 run.parent (lit≤ tt) refl refl l.parent) counted))
  where
    behind : (word rest : List ℕ) → Lacks 10 word → Lacks 10 rest → Lacks 10 (word ␣ rest)
    behind word rest a b = lacks_joined 10 word rest 32 a refl b

    lacks_both : (a b : List ℕ) → Lacks 10 a → Lacks 10 b → Lacks 10 (a ++ b)
    lacks_both [] b h k = k
    lacks_both (x ∷ a) b h k = lacks_cons 10 x (a ++ b) (h zero (omega arith)) (lacks_both a b (λ j lt. h (suc j) (omega arith)) k)
