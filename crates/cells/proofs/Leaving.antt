-- A thread that leaves a held cluster: the queue and the view after it, and what holds of it.
use Rattle.std.proofs.Common.{◌≡◌, ◌==◌, not, true, List, Option, Some, None, refl}
use Rattle.std.specs.Prelude.{IfSome, is_none}
use Rattle.sched_base.specs.declared.Facts.{Facts}
use Rattle.flat_policy.specs.Policy.Clusters.{ClusterView, without_some}
use Rattle.flat_policy.specs.Policy.ClusterSteps.{facts_of, got}
use Rattle.flat_policy.specs.Policy.Queue.{Flat, Queued}
use Rattle.flat_policy.specs.Policy.WellFormed.{EachQueued}
use Rattle.flat_policy.proofs.After as after
use Rattle.flat_policy.proofs.Parts.{each_filter}
use Rattle.cells.specs.Held.{answer_told, gives_none}

-- the queue after an entry left is the one given, and setup and number stay
pub without_some_flat : (o : Option Queued) (s : Flat) (v : ClusterView) → (without_some o s v).flat ≡ s
without_some_flat None s v = refl
without_some_flat (Some e) s v = refl

pub without_some_place : (o : Option Queued) (s : Flat) (v : ClusterView) → ((without_some o s v).setup ≡ v.setup) × ((without_some o s v).number ≡ v.number)
without_some_place None s v = (refl, refl)
without_some_place (Some e) s v = (refl, refl)

-- the answer by the facts of an entry that left
pub got_is : (o : Option Queued) → answer_told true (facts_of o) ≡ got o
got_is None = refl
got_is (Some e) = refl

-- and whether there was none
pub got_none : (o : Option Queued) → is_none (facts_of o) ≡ gives_none (got o)
got_none None = refl
got_none (Some e) = refl

-- what holds of each entry holds of those that remain
pub left_each : (P : Queued → Type 0) (o : Option Queued) (es : List Queued) → EachQueued P es → EachQueued P (after.without_some o es)
left_each P None es each = each
left_each P (Some e) es each = each_filter P (λ (q : Queued). not (q.arrival == e.arrival)) es each

-- what holds of an entry's facts, if there is one, holds of the thread that left
pub of_facts : (P : Facts → Type 0) (o : Option Queued) → ((e : Queued) → o ≡ Some e → P e.facts) → IfSome (facts_of o) P
of_facts P None h = tt
of_facts P (Some e) h = h e refl

-- what holds of a thread, if there is one, holds weaker
pub some_weaker : (P Q : Facts → Type 0) (o : Option Facts) → ((t : Facts) → P t → Q t) → IfSome o P → IfSome o Q
some_weaker P Q None h p = tt
some_weaker P Q (Some t) h p = h t p
