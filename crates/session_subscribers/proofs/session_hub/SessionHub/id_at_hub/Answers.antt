use Rattle.std.proofs.Common.{inr}
use Rattle.hub_core.specs.declared.error.SubscribeError.TheVariants as subscribe
use Rattle.session_subscribers.proofs.Refusals.{refused_as, refused_version}
use Rattle.session_subscribers.proofs.session_hub.SessionHub.id_at_hub.Goals as goal

pub returns-in-Err-SubscribersFull-clause-err : goal.returns-in-Err-SubscribersFull-clause-err
returns-in-Err-SubscribersFull-clause-err g c = λ v rule_set capacity bytes named from none safe same.
    (safe, inr (refused_as g.N.Naming.size v _ _ bytes named c.args.first c.args.program c.args.sink _ subscribe.SubscribersFull c.in-Err-SubscribersFull.field-0-is c.requires.none from none same c.in-Err-SubscribersFull.ensures))

pub returns-in-Err-NoVersion-clause-err : goal.returns-in-Err-NoVersion-clause-err
returns-in-Err-NoVersion-clause-err g c = λ v rule_set capacity bytes named from none safe same.
    refused_version g.N.Naming.size v _ _ rule_set capacity bytes named c.args.first c.args.program c.args.sink _ c.in-Err-NoVersion.field-0-is c.requires.none from none safe same c.in-Err-NoVersion.ensures

pub returns-in-Err-OutOfMemory-clause-err : goal.returns-in-Err-OutOfMemory-clause-err
returns-in-Err-OutOfMemory-clause-err g c = λ v rule_set capacity bytes named from none safe same.
    (safe, inr (refused_as g.N.Naming.size v _ _ bytes named c.args.first c.args.program c.args.sink _ subscribe.OutOfMemory c.in-Err-OutOfMemory.field-0-is c.requires.none from none same c.in-Err-OutOfMemory.ensures))
