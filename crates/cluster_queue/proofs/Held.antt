-- The entry of the item in a slot that was found.
use Rattle.std.proofs.Common.{◌≡◌, ℕ, true, false, Option, Some, None, is_some, refl, sym, ap}
use Rattle.std.specs.Prelude.{IfNone, IsNone, option_map}
use Rattle.std.proofs.lemmas.Bool.{false≢true}
use Rattle.sched_base.specs.declared.Bucket.{Bucket}
use Rattle.sched_base.specs.declared.Bucket.TheVariants.{Bg, Df, Fg, Ini, Ui, Ut}
use Rattle.flat_policy.specs.Policy.Queue.{Queued}
use Rattle.link_arena.specs.Arena.{Arena, IsLive, value_at}
use Rattle.thread_queue.specs.Item.{entry_of}
use Rattle.thread_queue.specs.declared.item.Item.{Item}
use Rattle.cluster_queue.specs.Moves.{entry_in}
use Rattle.cluster_queue.specs.Queues.{HoldsEntry}
use Rattle.cluster_queue.specs.declared.queue.Queue.{Queue}

pub some_from : {X : Type 0} (o : Option X) → is_some o ≡ true → (x : X) × (o ≡ Some x)
some_from None h = absurd (false≢true h)
some_from (Some x) h = (x, refl)

-- there is a slot where there is its entry
pub slot_there : (arena : Arena Item) (o : Option ℕ) → is_some (entry_in arena o) ≡ true → is_some o ≡ true
slot_there arena None h = absurd (false≢true h)
slot_there arena (Some slot) h = refl

mapped : {X Y : Type 0} (f : X → Y) (o : Option X) (y : Y) → option_map f o ≡ Some y → (x : X) × (o ≡ Some x) × (f x ≡ y)
mapped f None y h = absurd (false≢true (ap is_some h))
mapped f (Some x) y h = (x, refl, cc)

-- the slot holds that entry
pub holds : (q : Queue) (slot : ℕ) (e : Queued) → entry_in q.arena (Some slot) ≡ Some e → HoldsEntry q slot e
holds q slot e h =
    let m = mapped entry_of (value_at q.arena slot) e h in
    record { item = m.0; stored = m.1; entry = m.2 }

-- a live slot holds one
pub held_in : (q : Queue) (slot : ℕ) → IsLive q.arena slot → (e : Queued) × (entry_in q.arena (Some slot) ≡ Some e)
held_in q slot live =
    let s = some_from (value_at q.arena slot) live in
    (entry_of s.0, ap (option_map entry_of) s.1)

-- what holds where there is no slot
pub if_none : {X : Type 0} (P : Type 0) (o : Option X) → (IsNone o → P) → IfNone o P
if_none P None f = f refl
if_none P (Some x) f = tt

pub none_too : {X : Type 0} (P Q : Type 0) (o : Option X) → (P → Q) → IfNone o P → IfNone o Q
none_too P Q None f p = f p
none_too P Q (Some x) f p = tt

pub from_none : {X : Type 0} (P : Type 0) (o : Option X) → is_some o ≡ false → IfNone o P → P
from_none P None none p = p
from_none P (Some x) none p = absurd (false≢true (sym none))

-- what holds of the six buckets holds of each
pub each_bucket : (P : Bucket → Type 0) → P Ui → P Fg → P Ini → P Df → P Ut → P Bg → (b : Bucket) → P b
each_bucket P ui fg ini df ut bg Ui = ui
each_bucket P ui fg ini df ut bg Fg = fg
each_bucket P ui fg ini df ut bg Ini = ini
each_bucket P ui fg ini df ut bg Df = df
each_bucket P ui fg ini df ut bg Ut = ut
each_bucket P ui fg ini df ut bg Bg = bg
