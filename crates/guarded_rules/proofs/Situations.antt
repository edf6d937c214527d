-- Joins of situations by a profile, and no facts past the machine's registers and stack.
use Rattle.std.proofs.Common.{if◌then◌else◌, Bool, true, false}
use Rattle.span_context.specs.declared.profile.Profile.{Profile}
use Rattle.span_context.specs.Profile.{has_more_rules}
use Rattle.abstract_state.specs.Situation.{Situation, bounded_all, either_situation, joined}
use Rattle.guarded_rules.specs.Facts.{Fact}
use Rattle.guarded_rules.specs.Says.{Entails}
use Rattle.guarded_rules.proofs.Joins.{bounded_entails, situation_joins}

either_by : (f : Fact) (b : Bool) (x y : Situation) → Entails x f → Entails y f → Entails (if b then x else y) f
either_by f true x y h j = h
either_by f false x y h j = j

pub joined_entails : (profile : Profile) (f : Fact) (a b : Situation) → Entails a f → Entails b f → Entails (joined profile a b) f
unfolding joined
joined_entails profile f a b h j =
    either_by f (has_more_rules profile) (either_situation (bounded_all a) (bounded_all b)) (either_situation a b)
    (situation_joins f (bounded_all a) (bounded_all b) (bounded_entails f a h) (bounded_entails f b j))
    (situation_joins f a b h j)
