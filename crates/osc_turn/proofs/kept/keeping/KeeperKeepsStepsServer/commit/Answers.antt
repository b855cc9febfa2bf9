-- What is written are the resources of the nodes.
use Rattle.osc_turn.proofs.kept.keeping.KeeperKeepsStepsServer.commit.Goals as goal

pub returns-clause-kept : goal.returns-clause-kept
returns-clause-kept g c first last writes = c.commit_changes.ensures.kept first.tree last.tree writes

pub returns-clause-crash : goal.returns-clause-crash
returns-clause-crash g c first last writes = c.commit_changes.ensures.crash first.tree last.tree writes

pub returns-clause-cause : goal.returns-clause-cause
returns-clause-cause g c first last writes trusts = c.commit_changes.ensures.cause first.tree last.tree writes trusts
