use Rattle.cluster_rows.proofs.tests.machines.asked.Goals as goal

pub returns-in-Ok-clause-machine : goal.returns-in-Ok-clause-machine
returns-in-Ok-clause-machine g c =
    let m = c.requires.machine in
    let s = c.in-Ok.ensures.steps m.0 m.1 in
    (_, s.1)
