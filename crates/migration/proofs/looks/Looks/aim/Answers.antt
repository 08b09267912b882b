use Rattle.std.proofs.Common.{Err, Ok, rules}
use Rattle.migration.specs.Looks.{IsAim}
use Rattle.migration.proofs.Among.{aim_among_clusters}
use Rattle.migration.proofs.looks.Looks.aim.Goals as goal

pub returns-in-Some-missing-clause-among : goal.returns-in-Some-missing-clause-among
returns-in-Some-missing-clause-among c = λ setup is edges lt.
    let all : IsAim setup c.args.self.now c.args.t.now (Err (record { cluster = c.in-Some-missing.cluster })) = search rules in
    aim_among_clusters setup c.args.self.now c.args.t.now _ lt all

pub returns-in-None-clause-among : goal.returns-in-None-clause-among
returns-in-None-clause-among c = λ setup is edges lt.
    let all : IsAim setup c.args.self.now c.args.t.now (Ok c.aim_from.result) = search rules in
    aim_among_clusters setup c.args.self.now c.args.t.now _ lt all
