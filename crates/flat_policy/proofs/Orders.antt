-- The strict orders of lanes and of targets.
use Rattle.std.proofs.Common.{◌≡◌, ℕ, ◌+◌, ◌*◌, nat_lt, Bool, true, false, not, ◌&&◌, cond, Contains, List, [], ◌∷◌, map, refl, sym, ap, ◌∙◌, subst, arith, le-ltb}
use Rattle.std.proofs.lemmas.Bool.{false≢true}
use Rattle.sched_base.specs.Bucket.{index}
use Rattle.bucket_tables.specs.declared.Lane.{Lane}
use Rattle.flat_policy.specs.Policy.Aim.{Target, lighter}
use Rattle.flat_policy.specs.Laws.Choice.{OrdersMembers}
use Rattle.flat_policy.specs.Laws.Orders.{LanesInOrder}
use Rattle.flat_policy.specs.Policy.Queue.{Flat, LaneState, timeshare_lanes}
use Rattle.flat_policy.specs.Policy.Windows.{stands_higher}
use Rattle.flat_policy.proofs.Ascending.{Ascends, numbers_ascend, same_from_number}
use Rattle.flat_policy.proofs.Chosen.{due_strict, higher_irreflexive, higher_transitive}
use Rattle.flat_policy.proofs.KeptLanes.{lane_names}
use Rattle.flat_policy.proofs.Lexical.{by_number_irreflexive, less_transitive, neither_less, rises_total, rises_transitive}

-- the number of a lane from the highest down
abbrev lane_number : Lane → ℕ
lane_number l = index l.bucket * 2 + cond l.bound 0 1

map_map_numbers : (ls : List LaneState) → map (λ (l : LaneState). lane_number l.lane) ls ≡ map lane_number (lane_names ls)
map_map_numbers [] = refl
map_map_numbers (l ∷ ls) = ap (λ ns. lane_number l.lane ∷ ns) (map_map_numbers ls)

same_window : (ls : List LaneState) → lane_names ls ≡ timeshare_lanes → (x y : LaneState) → Contains ls x → Contains ls y → lane_number x.lane ≡ lane_number y.lane → x ≡ y
same_window ls ten x y c d same =
    same_from_number (λ (l : LaneState). lane_number l.lane) ls
    (subst Ascends (sym (map_map_numbers ls ∙ ap (λ names. map lane_number names) ten)) (numbers_ascend 2 10))
    x y c d same

bound_total : (a b : Bool) → (a && not b) ≡ false → (b && not a) ≡ false → a ≡ b
bound_total true true h k = refl
bound_total true false h k = absurd (false≢true (sym h))
bound_total false true h k = absurd (false≢true (sym k))
bound_total false false h k = refl

-- of two lanes neither of which stands higher, the numbers are the same
neither_higher : (x y : Lane) → stands_higher x y ≡ false → stands_higher y x ≡ false → lane_number x ≡ lane_number y
neither_higher x y h k =
    let t = rises_total (index x.bucket) (index y.bucket) (x.bound && not y.bound) (y.bound && not x.bound) h k in
    let b = bound_total x.bound y.bound t.1 t.2 in
    omega (arith, t.0, ap {B = ℕ} (λ c. cond c 0 1) b)

pub lanes_in_order : (s : Flat) → lane_names s.lanes ≡ timeshare_lanes → LanesInOrder s
lanes_in_order s ten = record {
  due = record {
    irreflexive = (due_strict s.lanes).irreflexive;
    transitive = (due_strict s.lanes).transitive;
    total = λ x y c d h k.
        let t = rises_total x.deadline y.deadline (stands_higher x.lane y.lane) (stands_higher y.lane x.lane) h k in
        same_window s.lanes ten x y c d (neither_higher x.lane y.lane t.1 t.2);
  };
  higher = record {
    irreflexive = λ x c. higher_irreflexive x.lane;
    transitive = λ x y z c d e. higher_transitive x.lane y.lane z.lane;
    total = λ x y c d h k. same_window s.lanes ten x y c d (neither_higher x.lane y.lane h k);
  };
}

target_is : (a b c d : ℕ) → a ≡ b → c ≡ d → ◌≡◌ {A = Target} (record { cluster = a; weighed = c }) (record { cluster = b; weighed = d })
target_is a b c d e f = cc

pub targets_in_order : (xs : List Target) → OrdersMembers lighter xs
targets_in_order xs = record {
  irreflexive = λ x c. by_number_irreflexive x.weighed (nat_lt x.cluster x.cluster) (le-ltb x.cluster x.cluster (omega arith));
  transitive = λ x y z c d e h k.
      rises_transitive x.weighed y.weighed z.weighed (nat_lt x.cluster y.cluster) (nat_lt y.cluster z.cluster) (nat_lt x.cluster z.cluster)
      (λ p q. less_transitive x.cluster y.cluster z.cluster) h k;
  total = λ x y c d h k.
      let t = rises_total x.weighed y.weighed (nat_lt x.cluster y.cluster) (nat_lt y.cluster x.cluster) h k in
      target_is x.cluster y.cluster x.weighed y.weighed (neither_less x.cluster y.cluster t.1 t.2) t.0;
}
