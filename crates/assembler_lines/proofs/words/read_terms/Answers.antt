use Rattle.std.proofs.Common.{◌≡◌, ◌<◌, length, arith}
use Rattle.std.proofs.lemmas.Grind.{common_steps}
use Rattle.assembler_lines.proofs.Listing.{all_found, none_found, one_more, one_over}
use Rattle.assembler_lines.proofs.words.read_terms.Goals as goal

pub returns-in-End : goal.returns-in-End
returns-in-End c = all_found c.loop-token.found.items c.loop-token.rest.now _ c.loop-token.invariant.fits c.in-End.ensures.steps c.loop-token.invariant.same

pub returns-in_default : goal.returns-in_default
returns-in_default c =
    none_found c.loop-token.found.items c.in-Found.token c.loop-token.rest.now c.in-Found.after.now _ c.in-Found.ensures.steps
    (rw c.in_default.is at c.term_of.ensures) c.loop-token.invariant.same

pub loop-token-preserved-then-not-is_full : goal.loop-token-preserved-then-not-is_full
loop-token-preserved-then-not-is_full c =
    let room : length c.loop-token.found.items < 10 = grind (arith, common_steps) in
    record {
      fits = omega (arith, c.push.ensures.len);
      same = rw c.push.ensures.items (one_more c.loop-token.found.items c.in-Found.token c.in-Some.term c.loop-token.rest.now c.in-Found.after.now _ c.in-Found.ensures.steps
          (rw c.in-Some.is at c.term_of.ensures) c.loop-token.invariant.same);
    }

pub loop-token-preserved : goal.loop-token-preserved
loop-token-preserved c =
    let full : length c.loop-token.found.items ≡ 10 = grind (arith, common_steps) in
    record {
      fits = c.loop-token.invariant.fits;
      same = one_over c.loop-token.found.items c.in-Found.token c.in-Some.term c.loop-token.rest.now c.in-Found.after.now _ full c.in-Found.ensures.steps
          (rw c.in-Some.is at c.term_of.ensures) c.loop-token.invariant.same;
    }
