-- In one unit the entries of a queue stand in a strict order.
use Rattle.std.proofs.Common.{◌≡◌, true, false, Contains, List, int_lt}
use Rattle.flat_policy.specs.Laws.Choice.{OrdersMembers}
use Rattle.flat_policy.specs.Policy.Precedence.{precedes}
use Rattle.flat_policy.specs.Policy.Queue.{Queued}
use Rattle.flat_policy.specs.Policy.WellFormed.{ArrivalsRise, EachQueued, HasOrderNumber}
use Rattle.flat_policy.proofs.Entries.{arrival_from_order, each_member, same_from_arrival}
use Rattle.flat_policy.proofs.Lexical.{by_number_irreflexive, falls_total, falls_transitive, int_irreflexive, int_total, int_transitive}

pub precedes_irreflexive : (x : Queued) → precedes x x ≡ false
precedes_irreflexive x = by_number_irreflexive x.pri (int_lt x.order x.order) (int_irreflexive x.order)

pub precedes_transitive : (x y z : Queued) → precedes x y ≡ true → precedes y z ≡ true → precedes x z ≡ true
precedes_transitive x y z h k =
    falls_transitive x.pri y.pri z.pri (int_lt x.order y.order) (int_lt y.order z.order) (int_lt x.order z.order)
    (λ e f. int_transitive x.order y.order z.order) h k

pub precedes_total : (es : List Queued) → ArrivalsRise es → EachQueued HasOrderNumber es → (x y : Queued) → Contains es x → Contains es y → precedes x y ≡ false → precedes y x ≡ false → x ≡ y
precedes_total es rise orders x y c d h k =
    let t = falls_total x.pri y.pri (int_lt x.order y.order) (int_lt y.order x.order) h k in
    same_from_arrival es rise x y c d
    (arrival_from_order x y (each_member HasOrderNumber es orders x c) (each_member HasOrderNumber es orders y d)
    (int_total x.order y.order t.1 t.2))

pub precedes_orders : (es : List Queued) → ArrivalsRise es → EachQueued HasOrderNumber es → OrdersMembers precedes es
precedes_orders es rise orders = record {
  irreflexive = λ x c. precedes_irreflexive x;
  transitive = λ x y z c d e. precedes_transitive x y z;
  total = precedes_total es rise orders;
}
