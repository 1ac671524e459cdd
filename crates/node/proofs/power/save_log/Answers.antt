use Rattle.node.proofs.power.save_log.Goals as goal

pub returns-in-Ok-clause-done : goal.returns-in-Ok-clause-done
returns-in-Ok-clause-done g c = c.in-Ok.ensures.saves.done

pub returns-in-Ok-clause-part : goal.returns-in-Ok-clause-part
returns-in-Ok-clause-part g c = c.save.ensures.saves.part

pub returns-in-Err-StoreFailed-clause-part : goal.returns-in-Err-StoreFailed-clause-part
returns-in-Err-StoreFailed-clause-part g c = c.save.ensures.saves.part

pub returns-in-Err-NoMemory-clause-part : goal.returns-in-Err-NoMemory-clause-part
returns-in-Err-NoMemory-clause-part g c = c.save.ensures.saves.part
