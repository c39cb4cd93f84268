use Rattle.core_machine.proofs.asking.change.Goals as goal

pub raise-requires : goal.raise-requires
raise-requires c = rw c.in-Raise.is at c.requires.asks

pub returns-in-Raise : goal.returns-in-Raise
returns-in-Raise c = rw c.in-Raise.is c.raise.ensures

pub open_session-requires : goal.open_session-requires
open_session-requires c = rw c.in-OpenSession.is at c.requires.asks

pub returns-in-OpenSession : goal.returns-in-OpenSession
returns-in-OpenSession c = rw c.in-OpenSession.is c.open_session.ensures

pub close_session-requires : goal.close_session-requires
close_session-requires c = rw c.in-CloseSession.is at c.requires.asks

pub returns-in-CloseSession : goal.returns-in-CloseSession
returns-in-CloseSession c = rw c.in-CloseSession.is c.close_session.ensures

pub activate-requires : goal.activate-requires
activate-requires c = rw c.in-Activate.is at c.requires.asks

pub returns-in-Activate : goal.returns-in-Activate
returns-in-Activate c = rw c.in-Activate.is c.activate.ensures

pub deactivate-requires : goal.deactivate-requires
deactivate-requires c = rw c.in-Deactivate.is at c.requires.asks

pub returns-in-Deactivate : goal.returns-in-Deactivate
returns-in-Deactivate c = rw c.in-Deactivate.is c.deactivate.ensures
