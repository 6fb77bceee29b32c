use Rattle.demo_store.proofs.faults.lie_of.Goals as goal

pub returns-in-StaleRead-clause-exact : goal.returns-in-StaleRead-clause-exact
returns-in-StaleRead-clause-exact c = rw c.in-StaleRead.is c.stale_read.ensures

pub returns-in-LostUpdate-clause-exact : goal.returns-in-LostUpdate-clause-exact
returns-in-LostUpdate-clause-exact c = rw c.in-LostUpdate.is c.lost_update.ensures

pub returns-in-SplitRead-clause-exact : goal.returns-in-SplitRead-clause-exact
returns-in-SplitRead-clause-exact c = rw c.in-SplitRead.is c.split_read.ensures

pub returns-in-SessionBack-clause-exact : goal.returns-in-SessionBack-clause-exact
returns-in-SessionBack-clause-exact c = rw c.in-SessionBack.is c.session_back.ensures
