-- The line of a run of removals or of revivals is read as what it spells, and spells what it is read as.
use Rattle.std.proofs.Common.{◌≡◌, ℕ, ◌+◌, ◌^◌, ◌≤◌, true, false, leb, eqb, List, [], ◌∷◌, Option, Some, None, refl, ap, subst, ◌∙◌, arith, lit≤}
use Rattle.std.specs.Prelude.{◌&&◌}
use Rattle.std.specs.Fmt.{decimal}
use Rattle.std.proofs.lemmas.Bool.{and_parts, leb-true}
use Rattle.change_ops.specs.Ids.{OpId, within_limits}
use Rattle.change_ops.specs.Words.{split, number_in}
use Rattle.change_ops.specs.IdRuns.{IdRun, id_run_within}
use Rattle.change_ops.specs.Reading.{◌>>=◌, id_at, remove_at, revive_at, is_counted, id_run_at}
use Rattle.change_ops.specs.Spelling.{◌␣◌, id_text, id_run_text}
use Rattle.change_ops.specs.declared.operation.Op.{Op}
use Rattle.change_ops.specs.declared.operation.Op.TheVariants.{Remove, Revive}
use Rattle.change_ops.proofs.Grammar.{Lacks, bind_some, split_again, split_takes}
use Rattle.change_ops.proofs.Splitting.{split_none}
use Rattle.change_ops.proofs.Phrases.{lacks_nil, lacks_cons, lacks_joined, decimal_again, decimal_takes, decimal_lacks, id_again, id_takes, id_lacks}
use Rattle.change_ops.proofs.FormLaws.{id_form}
use Rattle.change_ops.proofs.FormLaws as forms

-- what the limits of such a run say
pub record IdRunLimits (run : IdRun) : Type 0 where
  pub id : within_limits run.id ≡ true
  pub first : within_limits run.first ≡ true
  pub some : 2 ≤ run.count
  pub few : run.count ≤ 65535
  pub last : run.id.counter + run.count ≤ 2 ^ 48
  pub last_named : run.first.counter + run.count ≤ 2 ^ 48

pub id_run_limits : (run : IdRun) → id_run_within run ≡ true → IdRunLimits run
id_run_limits run h =
    let n = run.count in
    let own = leb (run.id.counter + n) (2 ^ 48) in
    let named = leb (run.first.counter + n) (2 ^ 48) in
    let a = and_parts (within_limits run.id && within_limits run.first) (leb 2 n && leb n 65535 && own && named) h in
    let b = and_parts (within_limits run.id) (within_limits run.first) a.0 in
    let c = and_parts (leb 2 n && leb n 65535 && own) named a.1 in
    let d = and_parts (leb 2 n && leb n 65535) own c.0 in
    let e = and_parts (leb 2 n) (leb n 65535) d.0 in
    record { id = b.0; first = b.1; some = leb-true _ _ e.0; few = leb-true _ _ e.1; last = leb-true _ _ d.1; last_named = leb-true _ _ c.1 }

-- two ids alone have no third word
one_word : (word : List ℕ) (id : OpId) → id_at word ≡ Some id → split 32 word ≡ None
one_word word id e = split_none 32 word (forms.id_lacks 32 id word (omega arith) (id_form word id e))

two_words : (fields word rest : List ℕ) (id : OpId) → split 32 fields ≡ Some (word, rest) → id_at rest ≡ Some id → is_counted fields ≡ false
unfolding is_counted
two_words fields word rest id e f = rw (e, one_word rest id f) refl

pub removal_alone : (fields : List ℕ) (op : Op) → remove_at fields ≡ Some op → is_counted fields ≡ false
unfolding remove_at
removal_alone fields op e =
    let a = bind_some (split 32 fields) (λ first. id_at first.0 >>= λ id. id_at first.1 >>= λ target. Some (Remove id target)) op e in
    let b = bind_some (id_at a.0.0) (λ id. id_at a.0.1 >>= λ target. Some (Remove id target)) op a.2 in
    let c = bind_some (id_at a.0.1) (λ target. Some (Remove b.0 target)) op b.2 in
    two_words fields a.0.0 a.0.1 c.0 a.1 c.1

pub revival_alone : (fields : List ℕ) (op : Op) → revive_at fields ≡ Some op → is_counted fields ≡ false
unfolding revive_at
revival_alone fields op e =
    let a = bind_some (split 32 fields) (λ first. id_at first.0 >>= λ id. id_at first.1 >>= λ removal. Some (Revive id removal)) op e in
    let b = bind_some (id_at a.0.0) (λ id. id_at a.0.1 >>= λ removal. Some (Revive id removal)) op a.2 in
    let c = bind_some (id_at a.0.1) (λ removal. Some (Revive b.0 removal)) op b.2 in
    two_words fields a.0.0 a.0.1 c.0 a.1 c.1

-- what a run's fields were read as
pub record IdRunRead (fields : List ℕ) (run : IdRun) : Type 0 where
  pub own : List ℕ
  pub named : List ℕ
  pub number : List ℕ
  pub others : List ℕ
  pub parts : split 32 fields ≡ Some (own, others)
  pub behind : split 32 others ≡ Some (named, number)
  pub id : id_at own ≡ Some run.id
  pub first : id_at named ≡ Some run.first
  pub count : number_in 10 number ≡ Some run.count

pub id_run_read : (fields : List ℕ) (run : IdRun) → id_run_at fields ≡ Some run → IdRunRead fields run
unfolding id_run_at
id_run_read fields run e =
    let a = bind_some (split 32 fields) (λ words. split 32 words.1 >>= λ others. id_at words.0 >>= λ id. id_at others.0 >>= λ first. number_in 10 others.1 >>= λ count. made id first count) run e in
    let b = bind_some (split 32 a.0.1) (λ others. id_at a.0.0 >>= λ id. id_at others.0 >>= λ first. number_in 10 others.1 >>= λ count. made id first count) run a.2 in
    let c = bind_some (id_at a.0.0) (λ id. id_at b.0.0 >>= λ first. number_in 10 b.0.1 >>= λ count. made id first count) run b.2 in
    let d = bind_some (id_at b.0.0) (λ first. number_in 10 b.0.1 >>= λ count. made c.0 first count) run c.2 in
    let f = bind_some (number_in 10 b.0.1) (λ count. made c.0 d.0 count) run d.2 in
    let read : IdRun = record { id = c.0; first = d.0; count = f.0 } in
    let same : read ≡ run = some_run read run f.2 in
    let found : IdRunRead fields read = record { own = a.0.0; named = b.0.0; number = b.0.1; others = a.0.1; parts = a.1; behind = b.1; id = c.1; first = d.1; count = f.1 } in
    subst (IdRunRead fields) same found
  where
    made : OpId → OpId → ℕ → Option IdRun
    made id first count = Some (record { id = id; first = first; count = count })

    some_run : (x y : IdRun) → Some x ≡ Some y → x ≡ y
    some_run x y e = cc

pub id_run_counted : (fields : List ℕ) (run : IdRun) → id_run_at fields ≡ Some run → is_counted fields ≡ true
unfolding is_counted
id_run_counted fields run e = let r = id_run_read fields run e in rw (r.parts, r.behind) refl

pub id_run_again : (run : IdRun) → id_run_within run ≡ true → id_run_at (id_text run.id ␣ id_text run.first ␣ decimal run.count) ≡ Some run
unfolding id_run_at
id_run_again run h =
    let l = id_run_limits run h in
    let some = l.some in
    let few = l.few in
    let number = decimal run.count in
    let one = split_again 32 (id_text run.id) (id_text run.first ␣ number) (id_lacks 32 run.id (lit≤ tt) refl l.id) in
    let two = split_again 32 (id_text run.first) number (id_lacks 32 run.first (lit≤ tt) refl l.first) in
    rw (one, two, id_again run.id l.id, id_again run.first l.first, decimal_again run.count (omega arith) (omega arith)) refl

pub id_run_takes : (letter fields : List ℕ) (run : IdRun) → id_run_at fields ≡ Some run → id_run_within run ≡ true → letter ␣ fields ≡ id_run_text letter run
id_run_takes letter fields run e h =
    let l = id_run_limits run h in
    let some = l.some in
    let few = l.few in
    let r = id_run_read fields run e in
    let own = id_takes r.own run.id l.id r.id in
    let named = id_takes r.named run.first l.first r.first in
    let number = decimal_takes run.count r.number (omega arith) (omega arith) r.count in
    let one = (split_takes 32 fields r.own r.others r.parts).0 in
    let two = (split_takes 32 r.others r.named r.number r.behind).0 in
    ap (λ (x : List ℕ). letter ␣ x) (one ∙ both own (two ∙ both named number))
  where
    both : {a x b y : List ℕ} → a ≡ x → b ≡ y → a ␣ b ≡ x ␣ y
    both e f = (λ i. e i ␣ f i)

pub id_run_lacks : (letter : ℕ) (run : IdRun) → eqb letter 10 ≡ false → id_run_within run ≡ true → Lacks 10 (id_run_text (letter ∷ []) run)
id_run_lacks letter run other h =
    let l = id_run_limits run h in
    let some = l.some in
    let few = l.few in
    behind (letter ∷ []) _ (lacks_cons 10 letter [] other (lacks_nil 10)) (behind (id_text run.id) _ (id_lacks 10 run.id (lit≤ tt) refl l.id) (behind (id_text run.first) _ (id_lacks 10 run.first (lit≤ tt) refl l.first) (decimal_lacks 10 run.count (lit≤ tt) (omega arith) (omega arith))))
  where
    behind : (word rest : List ℕ) → Lacks 10 word → Lacks 10 rest → Lacks 10 (word ␣ rest)
    behind word rest a b = lacks_joined 10 word rest 32 a refl b
