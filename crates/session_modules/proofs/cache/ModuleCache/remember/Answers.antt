use Rattle.session_modules.proofs.cache.ModuleCache.remember.Goals as goal

pub returns-in_default : goal.returns-in_default
returns-in_default c ps old now kept = let k = c.note_change.ensures ps old now kept in
    record { belong = k.belong; current = k.current }

pub returns : goal.returns
returns c ps old now kept = let k = c.note_change.ensures ps old now kept in
    record { belong = k.belong; current = k.current }
