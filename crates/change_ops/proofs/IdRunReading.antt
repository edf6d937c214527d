-- The verdict on a run of removals or of revivals by its parts.
use Rattle.std.proofs.Common.{◌≡◌, ℕ, ◌^◌, ◌<◌, Bool, true, false, cond, leb, List, Option, Some, None, Ok, Err, refl, sym, ap, ◌∙◌, arith, inl, inr}
use Rattle.std.specs.Prelude.{◌&&◌}
use Rattle.std.specs.Option.{option_map}
use Rattle.std.proofs.lemmas.Bool.{cases_lt, lt-leb}
use Rattle.change_ops.specs.Ids.{OpId, within_limits, checked}
use Rattle.change_ops.specs.IdRuns.{IdRun, id_run_within}
use Rattle.change_ops.specs.Words.{split, number_in, saturated}
use Rattle.change_ops.specs.Reading.{◌>>=◌, id_at, id_run_at, id_run_judged, id_run_limited, id_run_made, id_run_verdict, within, both, formed}
use Rattle.change_ops.specs.declared.room.Room.{Room}
use Rattle.change_ops.specs.declared.refusal.LineFault.TheVariants.{BadLine, Limit}
use Rattle.change_ops.proofs.Limits.{same_small}

abbrev run_of : OpId → OpId → ℕ → IdRun
run_of id first count = record { id = id; first = first; count = count }

and_false : (a b : Bool) → b ≡ false → (a && b) ≡ false
and_false true b e = e
and_false false b e = refl

false_and : (a b c d : Bool) → b ≡ false → (a && b && c && d) ≡ false
false_and true b c d e = rw e refl
false_and false b c d e = refl

-- a number past the limits has no run
none_within : (id first : OpId) (count : ℕ) → 65535 < count → id_run_within (run_of id first count) ≡ false
none_within id first count many =
    and_false (within_limits id && within_limits first) _ (false_and (leb 2 count) (leb count 65535) _ _ (lt-leb count 65535 many))

limited : (peer : ℕ) (room : Room) (run : IdRun) → id_run_limited peer room (checked id_run_within run) ≡ id_run_judged peer room run
limited peer room run = go (id_run_within run) refl where
  go : (b : Bool) → id_run_within run ≡ b → id_run_limited peer room (cond b (Some run) None) ≡ id_run_judged peer room run
  go true e = refl
  go false e = rw e refl

saturated_limited : (peer : ℕ) (room : Room) (id first : OpId) (count : ℕ) → id_run_limited peer room (checked id_run_within (run_of id first (saturated count))) ≡ id_run_judged peer room (run_of id first count)
saturated_limited peer room id first count = elim (cases_lt count (2 ^ 32)) [
  | inl lt ↦
      let same = same_small count (omega arith) in
      ap (λ (k : ℕ). id_run_limited peer room (checked id_run_within (run_of id first k))) same ∙ limited peer room (run_of id first count)
  | inr le ↦
      let many : 65535 < saturated count = omega arith in
      limited peer room (run_of id first (saturated count)) ∙ rw (none_within id first (saturated count) many, none_within id first count (omega arith)) refl
]

abbrev made : OpId → OpId → ℕ → Option IdRun
made id first count = Some (record { id = id; first = first; count = count })

parts_judged : (peer : ℕ) (room : Room) (id first : Option OpId) (count : Option ℕ)
    → id_run_verdict peer room (id >>= λ i. first >>= λ f. count >>= λ n. made i f n) ≡ id_run_made peer room (formed (option_map saturated count)) (both (within within_limits id) (within within_limits first))
parts_judged peer room None None None = refl
parts_judged peer room None None (Some n) = refl
parts_judged peer room None (Some f) None = refl
parts_judged peer room None (Some f) (Some n) = go (within_limits f) where
  go : (b : Bool) → Err BadLine ≡ id_run_made peer room (Ok (saturated n)) (both {A = OpId} {B = OpId} (Err BadLine) (cond b (Ok f) (Err Limit)))
  go true = refl
  go false = refl
parts_judged peer room (Some i) None None = refl
parts_judged peer room (Some i) None (Some n) = go (within_limits i) where
  go : (a : Bool) → Err BadLine ≡ id_run_made peer room (Ok (saturated n)) (both {A = OpId} {B = OpId} (cond a (Ok i) (Err Limit)) (Err BadLine))
  go true = refl
  go false = refl
parts_judged peer room (Some i) (Some f) None = refl
parts_judged peer room (Some i) (Some f) (Some n) = go (within_limits i) (within_limits f) refl refl where
  go : (a b : Bool) → within_limits i ≡ a → within_limits f ≡ b → id_run_judged peer room (run_of i f n) ≡ id_run_made peer room (Ok (saturated n)) (both (cond a (Ok i) (Err Limit)) (cond b (Ok f) (Err Limit)))
  go true true d e = sym (saturated_limited peer room i f n)
  go true false d e = rw (d, e) refl
  go false true d e = rw d refl
  go false false d e = rw d refl

pub id_run_line : (peer : ℕ) (room : Room) (fields own others named number : List ℕ) → split 32 fields ≡ Some (own, others) → split 32 others ≡ Some (named, number)
    → id_run_verdict peer room (id_run_at fields) ≡ id_run_made peer room (formed (option_map saturated (number_in 10 number))) (both (within within_limits (id_at own)) (within within_limits (id_at named)))
unfolding id_run_at
id_run_line peer room fields own others named number e f = rw (e, f) (parts_judged peer room (id_at own) (id_at named) (number_in 10 number))
