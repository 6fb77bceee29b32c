use Rattle.report_checking.proofs.open_scripts.OpenScript.owed.Goals as goal

pub returns-in-Ordered-clause-owed : goal.returns-in-Ordered-clause-owed
returns-in-Ordered-clause-owed c = rw c.in-Ordered.is c.owed_beside.ensures.owed

pub returns-in-Ordered-clause-right : goal.returns-in-Ordered-clause-right
returns-in-Ordered-clause-right c = rw c.in-Ordered.is c.owed_beside.ensures.right

pub returns-in-Ordered-clause-alone : goal.returns-in-Ordered-clause-alone
returns-in-Ordered-clause-alone c = rw c.in-Ordered.is c.owed_beside.ensures.alone

pub returns-in-Isolated-clause-owed : goal.returns-in-Isolated-clause-owed
returns-in-Isolated-clause-owed c = rw c.in-Isolated.is c.owed_isolated.ensures.owed

pub returns-in-Isolated-clause-right : goal.returns-in-Isolated-clause-right
returns-in-Isolated-clause-right c = rw c.in-Isolated.is c.owed_isolated.ensures.right

pub returns-in-Isolated-clause-alone : goal.returns-in-Isolated-clause-alone
returns-in-Isolated-clause-alone c = rw c.in-Isolated.is c.owed_isolated.ensures.alone

pub returns-in-Ordered-clause-unshown : goal.returns-in-Ordered-clause-unshown
returns-in-Ordered-clause-unshown c = rw c.in-Ordered.is c.owed_beside.ensures.unshown

pub returns-in-Isolated-clause-unshown : goal.returns-in-Isolated-clause-unshown
returns-in-Isolated-clause-unshown c = rw c.in-Isolated.is c.owed_isolated.ensures.unshown
