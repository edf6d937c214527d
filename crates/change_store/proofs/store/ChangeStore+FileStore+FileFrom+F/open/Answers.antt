use Rattle.change_store.proofs.store.ChangeStore+FileStore+FileFrom+F.open.Goals as goal

pub returns : goal.returns
returns g c = c.in_ok-count.ensures.found c.in_ok-file.ensures.same
