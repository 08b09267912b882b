use Rattle.std.proofs.Common.{map, replicate, vec_capacity, vec_len, ◌≡◌, ◌≤◌}
use Rattle.flat_policy.specs.Policy.Machine.{empty_hand}
use Rattle.flat_policy.specs.Policy.Setup.{actor_count}
use Rattle.trace_machine.specs.Parts.{hand_in}
use Rattle.trace_machine.proofs.parts.making.made_hands.Given as goal

abbrev pub invariant-loop : goal.invariant-loop
invariant-loop l = record {
  bound : l.end ≡ actor_count l.setup;
  room : l.end ≤ vec_capacity l.hands;
  count : vec_len l.hands ≡ l.counter;
  empty : map (hand_in l.setup) l.hands.items ≡ replicate l.counter (empty_hand l.setup 0);
}
