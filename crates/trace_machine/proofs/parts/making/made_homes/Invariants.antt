use Rattle.std.proofs.Common.{vec_capacity, vec_len, ◌≡◌, ◌≤◌}
use Rattle.flat_policy.specs.Policy.Setup.{actor_count}
use Rattle.trace_machine.specs.Making.{AreFirstHomes}
use Rattle.trace_machine.proofs.parts.making.made_homes.Given as goal

abbrev pub invariant-loop-actor : goal.invariant-loop-actor
invariant-loop-actor l = record {
  bound : l.actor-end ≡ actor_count l.setup;
  room : l.actor-end ≤ vec_capacity l.homes;
  count : vec_len l.homes ≡ l.actor;
  homes : AreFirstHomes l.setup l.actor l.homes.items;
}
