use Rattle.std.proofs.Common.{refl}
use Rattle.cluster_queue.proofs.Reserved.{flat_reserved, nested_reserved, slots_reserved}
use Rattle.cluster_queue.proofs.queue.Queue.reserve.Goals as goal

pub returns : goal.returns
returns c =
    let q = c.args.self.now in
    let arena = c.reserve.new.self in
    let same = c.in_ok-reserve.ensures.map in
    let laws = c.arena_laws.ensures in
    record {
      flat = flat_reserved q arena c.requires same;
      slots = slots_reserved q arena c.requires same;
      spare = refl;
      nested = nested_reserved q arena c.requires same laws.reserved laws.foreign_reserved laws.stay c.in_ok-reserve.ensures.spare c.if-self.false;
      setting = record { groups = refl; times = refl };
      err = tt;
    }
